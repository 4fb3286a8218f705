-- Puts: their lines, as they are written, and whole ones at the front of some bytes, as they are read one by one.
use Rattle.std.specs.Prelude.{◌≡◌, ℕ, true, false, List, [], ◌∷◌, ◌++◌, length, fold, All}
use Rattle.rbc_journal.specs.Gates.{IsLine, text}
use Rattle.rbc_journal.specs.Seals.{Chain, with_line, has_seal_form, seal_line, seal_of}
use Rattle.rbc_journal.specs.Headers.{header}
use Rattle.rbc_journal.specs.Marks.{marked_front}

-- ---- as they are written

-- lines of a put behind a beginning: none has the form of a seal, and they do not begin with a marked one
pub record ArePut (put : List (List ℕ)) : Type 0 where
  pub one_each : All IsLine put
  pub no_seals : All (λ line. has_seal_form line ≡ false) put
  pub unmarked : marked_front put ≡ []

-- such lines with their seal, behind a put with this one
abbrev pub with_its_seal : List ℕ → List (List ℕ) → List (List ℕ)
with_its_seal seal put = put ++ seal_line (seal_of seal put) ∷ []

-- ---- as they are read

-- bytes begin with these lines and the right seal behind them, the first one, and go on with the rest
pub record IsPut (before bytes : List ℕ) (put : List (List ℕ)) (seal rest : List ℕ) : Type 0 where
  pub split : bytes ≡ text (put ++ seal_line seal ∷ []) ++ rest
  pub lines : All IsLine (put ++ seal_line seal ∷ [])
  pub inner : All (λ line. has_seal_form line ≡ false) put
  pub form : has_seal_form (seal_line seal) ≡ true
  pub right : seal ≡ seal_of before put

-- whole puts have been read, and behind them nothing
abbrev pub at_put : List (List ℕ) → List ℕ → Chain
at_put whole seal = record { whole = whole; seal = seal; put = []; is_right = true }

-- bytes begin with these lines, whole puts of which the last has this seal, and go on with the rest
pub record ArePuts (before bytes : List ℕ) (puts : List (List ℕ)) (seal rest : List ℕ) : Type 0 where
  pub split : bytes ≡ text puts ++ rest
  pub lines : All IsLine puts
  pub chain : (whole : List (List ℕ)) → fold with_line (at_put whole before) puts ≡ at_put (whole ++ puts) seal

-- bytes begin with a header that names this digest, and go on with the rest
pub record BeginsWithHeader (bytes digest rest : List ℕ) : Type 0 where
  pub split : bytes ≡ text (header digest) ++ rest
  pub lines : All IsLine (header digest)
  pub size : length digest ≡ 64
