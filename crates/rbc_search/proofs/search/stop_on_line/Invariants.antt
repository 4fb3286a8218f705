use Rattle.std.proofs.Common.{◌≡◌, ℕ, ◌+◌, drop, None}
use Rattle.rbc_model.specs.declared.refusals.Obstacle.{Obstacle}
use Rattle.rbc_model.specs.Lines.{line_length}
use Rattle.rbc_reach_laws.specs.Nearest.{walk_then}
use Rattle.rbc_search.specs.Reaches.{scene_of}
use Rattle.rbc_search.proofs.search.stop_on_line.Given as goal

abbrev pub invariant-loop-leg : goal.invariant-loop-leg
invariant-loop-leg l = record {
  metres : l.begin + line_length l.train.track (drop l.leg-index l.legs) ≡ line_length l.train.track l.legs;
  walked : (finish : ℕ → ℕ × Obstacle)
      → walk_then finish l.train.track (scene_of l.locks l.book.trains) l.train.train l.before l.begin (drop l.leg-index l.legs)
      ≡ walk_then finish l.train.track (scene_of l.locks l.book.trains) l.train.train None 0 l.legs;
}
