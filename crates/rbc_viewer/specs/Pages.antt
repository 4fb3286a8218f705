-- The page that the program writes: the viewer, with texts in it.
use Rattle.std.specs.Prelude.{◌≡◌, ℕ, Bool, List, ◌++◌, Option, Some}
use Rattle.std.specs.Io.KnownBytes.{Appends}
use Rattle.rbc_model.specs.declared.places.Format.TheVariants.{Far}
use Rattle.rbc_checks.specs.CheckAnswers.{check_answers_of, are_all_certified}
use Rattle.rbc_viewer.specs.declared.viewer.TheConstants.{BEFORE_TEXT, BEFORE_VERDICTS, BEHIND}
use Rattle.rbc_viewer.specs.Escapes.{escaped}

-- what stands behind the text: the verdicts, and the rest of the page
abbrev pub rest_of_page : List ℕ → List ℕ
rest_of_page verdicts = BEFORE_VERDICTS.now ++ (escaped verdicts ++ BEHIND.now)

-- The viewer with this text in it, and with these verdicts.
abbrev pub page_text : List ℕ → List ℕ → List ℕ
page_text text verdicts = BEFORE_TEXT.now ++ (escaped text ++ rest_of_page verdicts)

-- Where what was left to read is known: its page was written, with what `rbc check` answers to it, and nothing else; and it is told whether each block is
-- certified.
abbrev pub DrawsAll : Bool → Option (List ℕ) → Option (List ℕ) → Option (List ℕ) → Type 0
DrawsAll all left old new =
    (input : List ℕ) → left ≡ Some input → Appends old new (page_text input (check_answers_of Far input)) × (all ≡ are_all_certified Far input)
