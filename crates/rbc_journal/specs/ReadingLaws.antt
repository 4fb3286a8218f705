-- What holds of each journal file at rest, whatever program wrote it.
use Rattle.std.specs.Prelude.{◌≡◌, ◌≢◌, ◌⊎◌, ℕ, ◌<◌, true, List, [], ◌∷◌, ◌++◌, length, take, drop, All, Some, Ok, Err}
use Rattle.rbc_journal.specs.Device.{Torn}
use Rattle.rbc_journal.specs.Gates.{IsLine, text, counted, at_rest, behind}
use Rattle.rbc_journal.specs.Seals.{AreSealed, seal_line, seal_of}
use Rattle.rbc_journal.specs.Headers.{format_in, digest_in}
use Rattle.rbc_journal.specs.Marks.{begins_marked}
use Rattle.rbc_journal.specs.Puts.{ArePut, with_its_seal}
use Rattle.rbc_journal.specs.Reading.{first_put, reading}
use Rattle.rbc_journal.specs.declared.reading.ReadFault.TheVariants.{NotAJournal, Damaged}

-- lines of a journal of format 2 of this track, each vouched for, and the last seal
pub record AreJournal (track : List ℕ) (lines : List (List ℕ)) (seal : List ℕ) : Type 0 where
  pub one_each : All IsLine lines
  pub sealed : AreSealed lines seal
  pub format : format_in lines ≡ Some 2
  pub of_track : digest_in lines ≡ Some track

-- a file is read as these lines; these bytes are dropped
abbrev pub IsReadAs : List ℕ → List ℕ → List (List ℕ) → List ℕ → List ℕ → Type 0
IsReadAs track file lines seal dropped = reading file track ≡ Ok (record { text = text lines; seal = seal; dropped = dropped })

-- ---- a crash is never damage

-- What a crash may leave while a put is written behind a journal's closed gate: torn bytes behind that gate, or the put behind it, and that gate torn.
abbrev pub MayLeave : List (List ℕ) → List (List ℕ) → List ℕ → Type 0
MayLeave lines put file =
    Torn (length (at_rest lines)) (length (behind put)) (at_rest lines) file ⊎ Torn (length (text lines)) 1 (text lines ++ 35 ∷ behind put) file

-- Torn bytes behind the closed gate that happen to begin with lines and the right seal of them, though these are other lines than the put's: shorter ones,
-- or ones that begin with a marked line, as no put behind a beginning does.
pub record IsForged (lines : List (List ℕ)) (seal : List ℕ) (put : List (List ℕ)) (file : List ℕ) : Type 0 where
  pub others : List (List ℕ)
  pub sealed : first_put seal [] (counted (32 ∷ drop (length (at_rest lines)) file)) ≡ Some others
  pub differ : (length (text others) < length (text put)) ⊎ (begins_marked others ≡ true)

-- A file that a crash leaves is read as the lines from before, with all of the new put or none of it.
abbrev pub CrashIsRead : Type 0
CrashIsRead =
    (track : List ℕ) (lines : List (List ℕ)) (seal : List ℕ) (put : List (List ℕ)) (file : List ℕ) → AreJournal track lines seal → ArePut put → MayLeave lines (with_its_seal seal put) file
    → ((dropped : List ℕ) × IsReadAs track file lines seal dropped) ⊎ IsReadAs track file (lines ++ with_its_seal seal put) (seal_of seal put) [] ⊎ IsForged lines seal (with_its_seal seal put) file

-- ---- a cut is told

-- a file is refused: it is damaged, or no journal
abbrev pub IsRefused : List ℕ → List ℕ → Type 0
IsRefused track file = (reading file track ≡ Err NotAJournal) ⊎ (line : ℕ) × (reading file track ≡ Err (Damaged line))

-- A journal of which only a front is there is refused.
abbrev pub CutIsTold : Type 0
CutIsTold = (track : List ℕ) (lines : List (List ℕ)) (seal : List ℕ) (n : ℕ) → AreJournal track lines seal → n < length (at_rest lines) → IsRefused track (take n (at_rest lines))

-- ---- one list of lines

-- What a journal at rest tells is one list of lines.
abbrev pub LinesAreOne : Type 0
LinesAreOne = (lines others : List (List ℕ)) → All IsLine lines → All IsLine others → at_rest lines ≡ at_rest others → lines ≡ others

-- ---- a change is told

-- among these lines is a put with this seal, which was made of these bytes: the seal before the put, and the put's text
pub record IsSealedBy (lines : List (List ℕ)) (made_of seal : List ℕ) : Type 0 where
  pub front : List (List ℕ)
  pub before : List ℕ
  pub put : List (List ℕ)
  pub back : List (List ℕ)
  pub split : lines ≡ front ++ (put ++ seal_line seal ∷ back)
  pub is_made_of : made_of ≡ before ++ text put
  pub right : seal ≡ seal_of before put

-- a put among the first lines and one among the others have one seal, made of different bytes
pub record HaveCollision (lines others : List (List ℕ)) : Type 0 where
  pub one : List ℕ
  pub other : List ℕ
  pub seal : List ℕ
  pub in_lines : IsSealedBy lines one seal
  pub in_others : IsSealedBy others other seal
  pub differ : one ≢ other

-- The last seal vouches for all lines: two lists of lines with the same last seal are the same, but for a collision.
abbrev pub LastSealVouches : Type 0
LastSealVouches =
    (lines others : List (List ℕ)) (seal : List ℕ) → All IsLine lines → All IsLine others → AreSealed lines seal → AreSealed others seal
    → (lines ≡ others) ⊎ HaveCollision lines others

-- two files differ in one byte at most
pub record DifferInOne (file other : List ℕ) : Type 0 where
  pub front : List ℕ
  pub byte : ℕ
  pub another : ℕ
  pub back : List ℕ
  pub was : file ≡ front ++ byte ∷ back
  pub is : other ≡ front ++ another ∷ back

-- A journal at rest in which one byte was changed is not read as a whole file of other lines, but for a collision.
abbrev pub ChangeIsTold : Type 0
ChangeIsTold =
    (track : List ℕ) (lines : List (List ℕ)) (seal file : List ℕ) (others : List (List ℕ)) (last : List ℕ) → AreJournal track lines seal → DifferInOne (at_rest lines) file
    → All IsLine others → IsReadAs track file others last [] → (lines ≡ others) ⊎ HaveCollision lines others
