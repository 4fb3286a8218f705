-- What a session that read its whole input wrote in answer to it, where memory was never refused.
use Rattle.std.specs.Prelude.{◌≡◌, ℕ, ◌++◌, List, Option, Some}
use Rattle.rbc_session_laws.specs.Laws.{SaysNoMemory}

-- Where what was left to read and what was written are known, and no line that was written says that memory was refused: this holds of all that was left,
-- and of the text that was written behind the old one.
abbrev pub OfAllRead : (List ℕ → List ℕ → Type 0) → Option (List ℕ) → Option (List ℕ) → Option (List ℕ) → Type 0
OfAllRead Holds left old new =
    (input held text : List ℕ) → left ≡ Some input → old ≡ Some held → new ≡ Some (held ++ text) → SaysNoMemory text → Holds input text
