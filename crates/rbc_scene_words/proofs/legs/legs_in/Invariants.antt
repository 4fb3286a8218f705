use Rattle.std.proofs.Common.{◌+◌, ◌≤◌, length}
use Rattle.rbc_model.specs.Rows.{each_word}
use Rattle.rbc_model.specs.SceneLines.{track_leg_at}
use Rattle.rbc_model.specs.Words.{words_of}
use Rattle.rbc_scene_words.proofs.LegLemmas.{IsSoFar}
use Rattle.rbc_scene_words.proofs.legs.legs_in.Given as goal

abbrev pub invariant-loop-word : goal.invariant-loop-word
invariant-loop-word l =
    IsSoFar (each_word (track_leg_at l.track) l.first (words_of l.words)) (each_word (track_leg_at l.track) l.index (words_of l.rest)) l.refused l.legs.items
    × (l.index + length l.rest ≤ l.first + length l.words)

abbrev pub decreases-loop-word : goal.decreases-loop-word
decreases-loop-word l = length l.rest
