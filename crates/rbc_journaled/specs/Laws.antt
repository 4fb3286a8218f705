-- What journals tell, and what a crash leaves of a history.
use Rattle.std.specs.Prelude.{◌≡◌, ◌<◌, ℕ, List, [], ◌++◌, length, take, All}
use Rattle.rbc_journal.specs.Gates.{at_rest, IsLine}
use Rattle.rbc_journal.specs.Journal.{recovered, told_of}
use Rattle.rbc_model.specs.declared.limits.TheConstants.{LONGEST_LINE}
use Rattle.rbc_model.specs.Histories.{Beginning, Entry}
use Rattle.rbc_session_laws.specs.Answers.{entries_after}
use Rattle.rbc_session_laws.specs.Retelling.{IsRetold}
use Rattle.rbc_journaled.specs.Adds.{Adds}
use Rattle.rbc_journaled.specs.Journaled.{StandsFor}
use Rattle.rbc_journaled.specs.Tells.{Tells}

-- what lines tell is one history
abbrev pub TellOne : {Entry : Type 0} → (List Entry → List ℕ → Entry → Type 0) → Type 0
TellOne {Entry} adds = (file : List ℕ) (some other : List Entry) → StandsFor adds file some → StandsFor adds file other → some ≡ other

-- A file that stands for the lines of an older one, or for these with some of the lines that follow it, stands for a beginning of what was told
-- since: none of its entries is skipped, and none is there in part.
abbrev pub BeginningsStand : {Entry : Type 0} → (List Entry → List ℕ → Entry → Type 0) → Type 0
BeginningsStand {Entry} adds =
    (file later : List ℕ) (rest : List (List ℕ)) (entries : List Entry)
    → StandsFor adds later entries → recovered later ≡ recovered file ++ rest → StandsFor adds file (take (length (recovered file)) entries)

-- what a file stands for is a history that its own lines lead to
abbrev pub AreRetold : Type 0
AreRetold = (begin : Beginning) (file : List ℕ) (entries : List Entry) → StandsFor (Adds begin) file entries → IsRetold begin entries

-- the session over the bytes of a file at rest leads to what its lines tell beside its comments, if each line is short enough with its gate
abbrev pub JournalsAreSessions : Type 0
JournalsAreSessions = (begin : Beginning) (lines : List (List ℕ)) (entries : List Entry) → All IsLine lines → All (λ line. length line < LONGEST_LINE) lines
    → Tells (Adds begin) [] (told_of lines) entries → entries_after begin [] (at_rest lines) ≡ entries
