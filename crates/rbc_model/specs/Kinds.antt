-- The two kinds of level in a line of text: the command that asks for a profile of them, how their values are written, and the packet that
-- holds the profile.
use Rattle.std.specs.Prelude.{ℕ, Bool, List, Option, ℤ, codes, decimal}
use Rattle.std.specs.Fmt.{signed_decimal}
use Rattle.rbc_model.specs.declared.messages.FieldName.{FieldName}
use Rattle.rbc_model.specs.Levels.{Levels, speed_levels, grade_levels}
use Rattle.rbc_model.specs.Messages.{packet_21, packet_27}
use Rattle.rbc_model.specs.Words.{number_in, integer_in}

-- A kind of level: its command, how a word is read as a value and a value printed as a word, and its packet, by direction, end and steps.
pub record Kind (V : Type 0) : Type 0 where
  pub levels : Levels V
  pub command : List ℕ
  pub read : List ℕ → Option V
  pub print : V → List ℕ
  pub packet : Bool → ℕ → List (ℕ × V) → List (FieldName × ℕ)

-- speeds in km/h, and packet 27
abbrev pub speed_kind : Kind ℕ
speed_kind = record { levels = speed_levels; command = codes "speed"; read = number_in; print = decimal; packet = packet_27 }

-- gradients in per mille, downhill with a `-`, and packet 21
abbrev pub grade_kind : Kind ℤ
grade_kind = record { levels = grade_levels; command = codes "grade"; read = integer_in; print = signed_decimal; packet = packet_21 }
