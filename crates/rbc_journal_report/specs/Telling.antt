-- What `rbc journal` tells of a file: one function of its bytes.
use Rattle.std.specs.Prelude.{◌≡◌, ℕ, ◌-◌, Bool, true, false, List, [], ◌∷◌, ◌++◌, length, take, filter, replicate, codes, decimal, Option, Some, None, Result, Ok, Err, bytes_eq, if◌then◌else◌, ◌==◌}
use Rattle.std.specs.List.{flat_map}
use Rattle.std.specs.Option.{unwrap_or}
use Rattle.rbc_model.specs.Words.{line_of}
use Rattle.rbc_journal.specs.Gates.{counted, text}
use Rattle.rbc_journal.specs.Headers.{track_mark, behind_mark, sized}
use Rattle.rbc_journal.specs.Beginnings.{beginning_of}
use Rattle.rbc_journal.specs.Journal.{told_of}
use Rattle.rbc_journal.specs.Reading.{Parts, reading}
use Rattle.rbc_journal.specs.declared.reading.ReadFault.{ReadFault}
use Rattle.rbc_journal.specs.declared.reading.ReadFault.TheVariants.{Damaged}
use Rattle.rbc_journal_report.specs.declared.telling.FileState.{FileState}
use Rattle.rbc_journal_report.specs.declared.telling.FileState.TheVariants.{Whole, Cut, Damaged as DamagedAt}

-- ---- what a file is

-- the digest of a track that the second of a file's lines names
abbrev pub named_in : List (List ℕ) → Option (List ℕ)
named_in [] = None
named_in (first ∷ []) = None
named_in (first ∷ second ∷ lines) = sized 64 (behind_mark track_mark second)

-- in place of a digest, where none is named
abbrev pub no_digest : List ℕ
no_digest = replicate 64 45

-- the digest that a file names itself
abbrev pub own_digest : List ℕ → List ℕ
own_digest file = unwrap_or (named_in (counted file)) no_digest

-- how a file is read, without what is read
abbrev pub checked : Result Parts ReadFault → Result (Unit {0}) ReadFault
checked (Ok parts) = Ok tt
checked (Err fault) = Err fault

-- The lines of a file that stand, comments and seals among them, and how it ends.
pub record Telling : Type 0 where
  pub lines : List (List ℕ)
  pub state : FileState

-- whole, or cut by so many bytes
abbrev pub state_of : ℕ → FileState
state_of dropped = if dropped == 0 then Whole else Cut dropped

-- the line at which a file is damaged
abbrev pub damage_of : ReadFault → Option ℕ
damage_of (Damaged line) = Some line
damage_of _ = None

-- of a damaged file the lines before its damage stand
abbrev pub telling_by : List (List ℕ) → Result Parts ReadFault → Result Telling ReadFault
telling_by lines (Ok parts) = Ok (record { lines = lines; state = state_of (length parts.dropped) })
telling_by lines (Err (Damaged line)) = Ok (record { lines = take (line - 1) lines; state = DamagedAt line })
telling_by lines (Err fault) = Err fault

-- what is told of a file, read beside the digest of a track that is given, or else that it names itself
abbrev pub telling_beside : Option (List ℕ) → List ℕ → Result Telling ReadFault
telling_beside given file = telling_by (counted file) (reading file (unwrap_or given (own_digest file)))

-- what is told of a file, where no digest is given; an error where it is no journal of format 2
abbrev pub telling : List ℕ → Result Telling ReadFault
telling file = telling_by (counted file) (reading file (own_digest file))

-- these bytes are lines, each behind an open gate and with its line feed
abbrev pub IsText : List ℕ → Type 0
IsText bytes = bytes ≡ text (counted bytes)

-- ---- its lines

-- whether a word ends in front of these bytes
abbrev pub ends_word : Option (List ℕ) → Bool
ends_word None = false
ends_word (Some []) = true
ends_word (Some (byte ∷ bytes)) = byte == 32

-- whether this is a line's first word
abbrev pub is_kind : List ℕ → List ℕ → Bool
is_kind kind line = ends_word (behind_mark kind line)

-- how many lines have this first word
abbrev pub count_of : List ℕ → List (List ℕ) → ℕ
count_of kind lines = length (filter (is_kind kind) lines)

-- each with a line feed
abbrev pub text_of : List (List ℕ) → List ℕ
text_of lines = flat_map (λ line. line ++ 10 ∷ []) lines

-- the lines that a file tells
abbrev pub told_lines : Result Telling ReadFault → List (List ℕ)
told_lines (Ok told) = told_of told.lines
told_lines (Err fault) = []

-- the digest that its header names
abbrev pub told_digest : Result Telling ReadFault → Option (List ℕ)
told_digest (Ok told) = named_in told.lines
told_digest (Err fault) = None

-- what it begins with
abbrev pub told_beginning : Result Telling ReadFault → List (List ℕ)
told_beginning (Ok told) = beginning_of told.lines
told_beginning (Err fault) = []

-- ---- its report

-- a kind, and how many lines are of it
abbrev pub kind_text : List (List ℕ) → List ℕ → List ℕ
kind_text lines kind = line_of (kind ∷ decimal (count_of kind lines) ∷ [])

-- a digest, or a `-` (45)
abbrev pub digest_word : Option (List ℕ) → List ℕ
digest_word None = 45 ∷ []
digest_word (Some digest) = digest

-- whether the track that is given, if one is, is that of the file, if it names one
abbrev pub given_text : Option (List ℕ) → Option (List ℕ) → List ℕ
given_text None own = []
given_text (Some given) None = []
given_text (Some given) (Some own) = if bytes_eq given own then codes "same track\n" else codes "other track\n"

abbrev pub state_text : FileState → List ℕ
state_text Whole = line_of (codes "whole" ∷ [])
state_text (Cut bytes) = line_of (codes "cut" ∷ decimal bytes ∷ [])
state_text (DamagedAt line) = line_of (codes "damaged" ∷ decimal line ∷ [])

-- the format, and the track
abbrev pub head_text : Option (List ℕ) → Option (List ℕ) → List ℕ
head_text given own = codes "format 2\n" ++ (line_of (codes "track" ∷ digest_word own ∷ []) ++ given_text given own)

abbrev pub first_of : List (List ℕ) → Option (List ℕ)
first_of [] = None
first_of (line ∷ lines) = Some line

-- the first line of what lines begin with, if they begin with anything
abbrev pub first_begun : List (List ℕ) → Option (List ℕ)
first_begun lines = first_of (beginning_of lines)

-- that line
abbrev pub begins_text : Option (List ℕ) → List ℕ
begins_text None = []
begins_text (Some line) = line_of (codes "begins" ∷ line ∷ [])

-- how many lines are told
abbrev pub total_text : List (List ℕ) → List ℕ
total_text lines = line_of (codes "lines" ∷ decimal (length lines) ∷ [])

-- that, and how many of each kind
abbrev pub counts_text : List (List ℕ) → List ℕ
counts_text lines =
    total_text lines ++ (kind_text lines (codes "report") ++ (kind_text lines (codes "lock") ++ (kind_text lines (codes "free")
    ++ (kind_text lines (codes "leave") ++ (kind_text lines (codes "yield") ++ kind_text lines (codes "ask"))))))

abbrev pub told_text : Option (List ℕ) → Telling → List ℕ
told_text given told =
    head_text given (named_in told.lines)
    ++ (begins_text (first_begun told.lines) ++ (counts_text (told_of told.lines) ++ (state_text told.state ++ codes "done\n")))

-- what is written of a file, beside the digest of a track that is given: nothing, where it is no journal of format 2
abbrev pub report_text : Option (List ℕ) → Result Telling ReadFault → List ℕ
report_text given (Ok told) = told_text given told
report_text given (Err fault) = []
