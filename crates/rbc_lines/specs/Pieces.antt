-- The lines of a train's legs behind the first one.
use Rattle.std.specs.Prelude.{List, [], ◌∷◌, map, codes}
use Rattle.rbc_model.specs.declared.limits.TheConstants.{LEGS_A_LINE}
use Rattle.rbc_model.specs.Tracks.{Track}
use Rattle.rbc_model.specs.Lines.{Line}
use Rattle.rbc_model.specs.Trains.{Train}
use Rattle.rbc_model.specs.SessionReply.{leg_word}
use Rattle.rbc_model.specs.Rows.{Row}
use Rattle.rbc_model.specs.SceneLines.{pieces_of, train_line}

-- the pieces behind the first one, of the legs that are left
abbrev pub later_pieces : Line → List Line
later_pieces [] = []
later_pieces (leg ∷ legs) = pieces_of LEGS_A_LINE (leg ∷ legs)

-- their lines
abbrev pub later_lines : Track → Train → Line → List Row
later_lines track train legs = map (λ piece. train_line (codes "along") train (map (leg_word track) piece)) (later_pieces legs)
