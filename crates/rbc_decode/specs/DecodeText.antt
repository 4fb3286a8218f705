-- The program `rbc decode`: what a line has, and the replies to the lines of an input.
use Rattle.std.specs.Prelude.{◌≡◌, ℕ, ◌+◌, ◌-◌, ◌^◌, ◌/◌, min, ◌||◌, ◌&&◌, ◌++◌, Bool, true, false, not, List, [], ◌∷◌, length, map, count_by, Option, Some, None, is_some, Result, Ok, Err, nat_le, nat_lt, ◌==◌, if◌then◌else◌, codes, bytes_eq}
use Rattle.std.specs.Char.{is_ascii_digit, is_ascii_hexdigit, to_ascii_lowercase}
use Rattle.std.specs.List.{list_all, list_any}
use Rattle.rbc_model.specs.declared.limits.TheConstants.{LONGEST_CHECK_LINE}
use Rattle.rbc_model.specs.Sessions.{lines_of}
use Rattle.rbc_model.specs.Words.{without_return, words_of}
use Rattle.rbc_decode.specs.Spelling.{is_hex, has_prefix, spelled}
use Rattle.rbc_decode.specs.Readings.{Reading, reading_of, message_reading, packet_reading}
use Rattle.rbc_decode.specs.Walks.{at_row, first_row}
use Rattle.rbc_decode.specs.declared.walk.FieldWalk.{FieldWalk}
use Rattle.rbc_decode.specs.declared.row.Row.TheVariants.{Header}
use Rattle.rbc_decode.specs.Texts.{told_text, wrong_text}
use Rattle.rbc_decode.specs.GrantedLines.{granted_in}
use Rattle.rbc_decode.specs.JsonText.{json_text, wrong_json}
use Rattle.rbc_decode.specs.declared.granted.GrantedLine.{GrantedLine}
use Rattle.rbc_decode.specs.declared.spelling.Wrong.{Wrong}
use Rattle.rbc_decode.specs.declared.spelling.Wrong.TheVariants.{Overlong}
use Rattle.rbc_decode.specs.declared.decoding.Progress.{Progress}
use Rattle.rbc_decode.specs.declared.line.Meant.{Meant}
use Rattle.rbc_decode.specs.declared.line.Meant.TheVariants.{Message as MeantMessage, Packet as MeantPacket, None as MeantNothing}

-- ---- what a line has

-- the words with the digits of a message, or of a packet alone, or neither
pub data LineMeaning : Type 0 where
  Message : List (List ℕ) → LineMeaning
  Packet : List (List ℕ) → LineMeaning
  Nothing : LineMeaning

-- the word is this name, in letters of either case
abbrev pub is_called : List ℕ → List ℕ → Bool
is_called name word = bytes_eq (map to_ascii_lowercase word) name

-- neither a digit of base 16 nor a space (32)
abbrev pub is_other : ℕ → Bool
is_other byte = not (is_ascii_hexdigit byte) && not (byte == 32)

-- eight digits of base 16 or more, and at most one other byte for eight of them
abbrev pub is_mostly_hex : List ℕ → Bool
is_mostly_hex text = nat_le 8 (count_by is_ascii_hexdigit text) && nat_le (count_by is_other text) (count_by is_ascii_hexdigit text / 8)

abbrev pub are_none : List (List ℕ) → Bool
are_none [] = true
are_none words = false

-- A text that begins with this word, and with no name, is meant as a message: the word is all of it, in pairs of digits; it begins with `0x`; or it has a
-- digit of base 10, so that it is no word of a language, and the text has mostly digits of base 16.
abbrev pub is_meant : List ℕ → List ℕ → List (List ℕ) → Bool
is_meant text word words = (are_none words && is_hex word) || (has_prefix word || (list_any is_ascii_digit word && is_mostly_hex text))

-- a message stands alone, or behind the word `message`; a packet behind the word `packet`
abbrev pub told_by : List ℕ → List (List ℕ) → LineMeaning
told_by text [] = Nothing
told_by text (word ∷ words) =
    if is_called (codes "message") word then Message words
    else if is_called (codes "packet") word then Packet words
    else if is_meant text word words then Message (word ∷ words)
    else Nothing

abbrev pub told_in : List ℕ → LineMeaning
told_in line = told_by (without_return line) (words_of (without_return line))

-- ---- the reply

-- What is printed of a packet alone or of a message, and of digits with which something is wrong, in the line of this number. What the line before tells is
-- known, if it is a line `granted`.
pub record Printing : Type 0 where
  pub told : ℕ → Option GrantedLine → Bool → Reading → List ℕ
  pub wrong : ℕ → Wrong → List ℕ

-- lines of fields and words
abbrev pub plain : Printing
plain = record { told = λ number granted packet reading. told_text number reading; wrong = wrong_text }

-- a line of JSON
abbrev pub json : Printing
json = record { told = json_text; wrong = wrong_json }

abbrev pub reading_kind : Bool → List ℕ → Reading
reading_kind packet bytes = if packet then packet_reading bytes else message_reading bytes

abbrev pub are_refused : Bool → Result (List ℕ) Wrong → Bool
are_refused packet (Ok bytes) = is_some (reading_kind packet bytes).found
are_refused packet (Err wrong) = true

abbrev pub is_told_refused : LineMeaning → Bool
is_told_refused (Message words) = are_refused false (spelled 0 words)
is_told_refused (Packet words) = are_refused true (spelled 0 words)
is_told_refused Nothing = false

-- whether what a line has is refused
abbrev pub is_refused : List ℕ → Bool
is_refused line = nat_lt LONGEST_CHECK_LINE (length line) || is_told_refused (told_in line)

abbrev pub is_all_read : List ℕ → Bool
is_all_read input = list_all (λ line. not (is_refused line)) (lines_of input)

-- the number of the next line: it counts no further than this
abbrev pub next_number : ℕ → ℕ
next_number number = min (number + 1) (2 ^ 32 - 1)

-- before the first line
abbrev pub opening : Progress
opening = record { line = 1; refused = false; granted = None }

-- the end of a session, without what it told
abbrev pub outcome_of : {A E : Type 0} → Result A E → Result (Unit {0}) E
outcome_of (Ok told) = Ok tt
outcome_of (Err fault) = Err fault

module _ (printing : Printing) where
  -- what is told of the bytes that are spelled, or of what is wrong
  abbrev pub spelled_reply : ℕ → Option GrantedLine → Bool → Result (List ℕ) Wrong → List ℕ
  spelled_reply number granted packet (Ok bytes) = printing.told number granted packet (reading_kind packet bytes)
  spelled_reply number granted packet (Err wrong) = printing.wrong number wrong

  -- A line `granted` tells of the message behind it alone, and of no packet.
  abbrev pub told_reply : ℕ → Option GrantedLine → LineMeaning → List ℕ
  told_reply number granted (Message words) = spelled_reply number granted false (spelled 0 words)
  told_reply number granted (Packet words) = spelled_reply number None true (spelled 0 words)
  told_reply number granted Nothing = []

  -- the reply to the line of this number, behind a line that tells this
  abbrev pub decode_reply : ℕ → Option GrantedLine → List ℕ → List ℕ
  decode_reply number granted line =
      if nat_lt LONGEST_CHECK_LINE (length line) then printing.wrong number Overlong else told_reply number granted (told_in line)

  -- A line is answered by its reply; it is counted, and it is kept whether one was refused so far, and what a line `granted` tells, up to the next line.
  abbrev pub AnswersDecode : Progress → List ℕ → List ℕ → Progress → Type 0
  AnswersDecode before line reply after =
      (reply ≡ decode_reply before.line before.granted line)
      × (after.line ≡ next_number before.line)
      × (after.refused ≡ (before.refused || is_refused line))
      × (after.granted ≡ granted_in line)

  -- ---- a whole input

  -- the replies to lines from the one of this number on, behind a line that tells this
  abbrev pub replies_from : ℕ → Option GrantedLine → List (List ℕ) → List ℕ
  replies_from number granted [] = []
  replies_from number granted (line ∷ lines) = decode_reply number granted line ++ replies_from (next_number number) (granted_in line) lines

  abbrev pub decode_text : List ℕ → List ℕ
  decode_text input = replies_from 1 None (lines_of input)

  -- Where what was left to read and what was written are known: just the replies to the lines of what was read were written, and it is told whether none of
  -- them was refused.
  abbrev pub DecodesAll : Bool → Option (List ℕ) → Option (List ℕ) → Option (List ℕ) → Type 0
  DecodesAll all left old new =
      (input held text : List ℕ) → left ≡ Some input → old ≡ Some held → new ≡ Some (held ++ text) → (text ≡ decode_text input) × (all ≡ is_all_read input)

-- ---- in the code

-- at the first field of a packet alone, or of a message
abbrev pub start_of : Bool → List ℕ → FieldWalk
start_of packet bytes = if packet then at_row (first_row bytes) true (length bytes) else at_row Header false (length bytes)

abbrev pub reading_at : Bool → List ℕ → Reading
reading_at packet bytes = reading_of (start_of packet bytes) bytes

abbrev pub told_view : Meant → LineMeaning
told_view (MeantMessage text) = Message (words_of text.now)
told_view (MeantPacket text) = Packet (words_of text.now)
told_view MeantNothing = Nothing
