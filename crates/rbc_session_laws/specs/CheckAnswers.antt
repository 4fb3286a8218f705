-- What `rbc check` answers, as a function of what was read, where memory is never refused.
use Rattle.std.specs.Prelude.{◌≡◌, ℕ, Bool, true, ◌&&◌, List, [], ◌∷◌, ◌++◌, Some, Ok}
use Rattle.rbc_model.specs.declared.places.Format.{Format}
use Rattle.rbc_model.specs.Sessions.{lines_of}
use Rattle.rbc_model.specs.CheckText.{CheckLine, check_line, opened, ended, is_certified, check_text, IsChecked}
use Rattle.rbc_session_laws.specs.Laws.{SaysNoMemory}

-- what is written in answer to an input: what is said of its blocks, in order
abbrev pub check_answers_of : Format → List ℕ → List ℕ
check_answers_of format input = check_text format [] (lines_of input)

-- whether there is no block, or one that is certified
abbrev pub is_not_refused : List CheckLine → Bool
is_not_refused [] = true
is_not_refused (line ∷ lines) = is_certified (line ∷ lines)

-- whether each block that lines end is certified, and the one that is open at their end
abbrev pub are_certified : Format → List CheckLine → List (List ℕ) → Bool
are_certified format block [] = is_not_refused block
are_certified format block (line ∷ lines) =
    is_not_refused (ended block (check_line format line)) && are_certified format (opened block (check_line format line)) lines

-- whether each block of an input is certified
abbrev pub are_all_certified : Format → List ℕ → Bool
are_all_certified format input = are_certified format [] (lines_of input)

-- ---- laws

-- A check up to the end of its input that wrote no line `refused Memory` wrote just what the function answers to the input, and told whether each block is
-- certified.
abbrev pub ChecksAreAnswered : Type 0
ChecksAreAnswered = (format : Format) (input old text : List ℕ) (all : Bool)
    → IsChecked format input (Some old) (Some (old ++ text)) (Ok all) → SaysNoMemory text
    → (text ≡ check_answers_of format input) × (all ≡ are_all_certified format input)
