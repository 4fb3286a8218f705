-- What a journal notes of grants, each behind the line for which it was granted, and when its notes are true.
use Rattle.std.specs.Prelude.{◌≡◌, ℕ, ◌-◌, Bool, true, false, List, [], ◌∷◌, ◌++◌, length, take, slice_get, codes, decimal, Option, Some, None, option_and_then, bytes_eq}
use Rattle.rbc_journal.specs.Journal.{told_of}
use Rattle.rbc_model.specs.Histories.{Beginning, Entry, Heard, Granted}
use Rattle.rbc_journaled.specs.Adds.{Adds, Gains}
use Rattle.rbc_journaled.specs.Tells.{Tells}
use Rattle.rbc_sessions.specs.Records.{HistoryOnTrack}

-- ---- what is noted

-- with this a note begins
abbrev pub note_mark : List ℕ
note_mark = codes "# granted "

-- whether a line is a note
abbrev pub is_note : List ℕ → Bool
is_note line = bytes_eq (take (length note_mark) line) note_mark

-- the note of a grant to this train, with which a history has so many entries, up to this end, in metres from the train's group
abbrev pub grant_note : ℕ → ℕ → ℕ → List ℕ
grant_note train version end = note_mark ++ (decimal train ++ 32 ∷ (decimal version ++ 32 ∷ decimal end))

-- what is noted of an entry, with which a history has so many
abbrev pub note_of : ℕ → Entry → Option (List ℕ)
note_of version (Heard told) = None
note_of version (Granted grant) = Some (grant_note grant.train version grant.authority.end)

-- what is noted of the last of some entries
abbrev pub note_behind : List Entry → Option (List ℕ)
note_behind entries = option_and_then (λ entry. note_of (length entries) entry) (slice_get entries (length entries - 1))

-- ---- when notes are true

-- Each note among these lines tells the grant of the line that is told last before it.
abbrev pub AreTrue : List (List ℕ) → List Entry → Type 0
AreTrue lines entries =
    (at : ℕ) (line : List ℕ) → slice_get lines at ≡ Some line → is_note line ≡ true → note_behind (take (length (told_of (take at lines))) entries) ≡ Some line

-- One of these lines is a note that is not true. The notes before it are, and the lines before it tell these entries, by so many lines.
pub record DiffersFirst (begin : Beginning) (lines : List (List ℕ)) (count : ℕ) (entries : List Entry) : Type 0 where
  pub front : List (List ℕ)
  pub note : List ℕ
  pub back : List (List ℕ)
  pub split : lines ≡ front ++ note ∷ back
  pub told : Tells (Adds begin) [] (told_of front) entries
  pub many : count ≡ length (told_of front)
  pub are_true : AreTrue front entries
  pub one : is_note note ≡ true
  pub differs : note_behind entries ≡ Some note → ⊥

-- a line of a journal, a comment or not, has led from the one history to the other
abbrev pub Enters : Bool → HistoryOnTrack → List ℕ → HistoryOnTrack → Type 0
Enters true before line after = (after ≡ before) × (is_note line ≡ true → note_behind before.entries ≡ Some line)
Enters false before line after = Gains before line after
