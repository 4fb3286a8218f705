-- The program `rbc show --page`: the viewer, with what `rbc show` writes inside.
use Rattle.std.specs.Prelude.{◌≡◌, ℕ, List, [], Option, Some}
use Rattle.std.specs.Io.KnownBytes.{Appends}
use Rattle.rbc_session_laws.specs.Laws.{SaysNoMemory}
use Rattle.rbc_viewer.specs.Pages.{page_text}

-- Where what was left to read is known, the page of this text of it was written, with no verdicts, and nothing else.
abbrev pub ShowsPage : (List ℕ → List ℕ) → Option (List ℕ) → Option (List ℕ) → Option (List ℕ) → Type 0
ShowsPage text_of left old new = (input : List ℕ) → left ≡ Some input → Appends old new (page_text (text_of input) [])

-- The page of some text was written, and that text is this one unless a line of it says that memory was refused.
abbrev pub ShowsEachPage : (List ℕ → List ℕ) → Option (List ℕ) → Option (List ℕ) → Option (List ℕ) → Type 0
ShowsEachPage text_of left old new =
    (input : List ℕ) → left ≡ Some input → (text : List ℕ) × Appends old new (page_text text []) × (SaysNoMemory text → text ≡ text_of input)
