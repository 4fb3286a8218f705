-- What is read of a line of a text with certificates, as the grammar has it.
use Rattle.std.specs.Prelude.{◌≡◌, ℕ, Bool, true, false, List, map, Some, Result, Ok, Err}
use Rattle.std.specs.List.{list_all}
use Rattle.rbc_model.specs.Words.{is_text}
use Rattle.std.specs.Prelude.{ℤ}
use Rattle.std.specs.Global.{Vec}
use Rattle.rbc_model.specs.declared.prices.Part.{Part}
use Rattle.rbc_model.specs.CheckText.{CheckLine, SpeedHead, GradeHead, ProfileLine, PriceLine, Bad, Other, head_line, profile_line, profile_in, price_line, numbers_in, part_of}
use Rattle.rbc_model.specs.declared.places.Format.TheVariants.{Far}
use Rattle.rbc_model.specs.Kinds.{speed_kind, grade_kind}
use Rattle.rbc_model.specs.StepsText.{request_in}
use Rattle.rbc_words.specs.StepsLines.{request_view}
use Rattle.rbc_checks.specs.declared.lines.Command.{Command}
use Rattle.rbc_checks.specs.declared.lines.Command.TheVariants.{Speed, Grade, Steps, Prices}
use Rattle.rbc_checks.specs.declared.lines.CheckLine.{CheckLine as ReadLine}
use Rattle.rbc_checks.specs.declared.lines.CheckLine.TheVariants.{SpeedHead as ReadSpeedHead, GradeHead as ReadGradeHead, Profile as ReadProfile, Row as ReadRow, Bad as ReadBad, Other as ReadOther}
use Rattle.rbc_checks.specs.declared.lines.ToldProfile.{ToldProfile}

-- steps, with the loss told
abbrev pub profile_view : ToldProfile → List (ℕ × ℤ) × ℕ
profile_view profile = (profile.steps.items, profile.loss)

-- numbers that are held
abbrev pub numbers_view : Vec ℕ → List ℕ
numbers_view numbers = numbers.items

-- a line as the grammar has it
abbrev pub line_view : ReadLine → CheckLine
line_view (ReadSpeedHead request) = SpeedHead (request_view request)
line_view (ReadGradeHead request) = GradeHead (request_view request)
line_view (ReadProfile profile) = ProfileLine profile.steps.items profile.loss
line_view (ReadRow row) = PriceLine row.number row.prices.items
line_view (ReadBad part) = Bad part
line_view ReadOther = Other

-- lines that were read
abbrev pub lines_view : List ReadLine → List CheckLine
lines_view lines = map line_view lines

-- what the words behind a command say
abbrev pub command_said : Command → List (List ℕ) → CheckLine
command_said Speed words = head_line SpeedHead (request_in speed_kind Far words)
command_said Grade words = head_line GradeHead (request_in grade_kind Far words)
command_said Steps words = profile_line (profile_in words)
command_said Prices words = price_line (numbers_in words)

-- each of the words is text
abbrev pub are_text : List (List ℕ) → Bool
are_text words = list_all is_text words

-- the line is a part of a certificate, and in form
abbrev pub is_in_form : CheckLine → Bool
is_in_form (Bad part) = false
is_in_form Other = false
is_in_form line = true

-- What was read is what the line says; or memory was refused for what it says, which is this part of a block.
abbrev pub IsSaid : Result ReadLine Part → CheckLine → Type 0
IsSaid (Ok line) said = said ≡ line_view line
IsSaid (Err part) said = part_of said ≡ Some part
