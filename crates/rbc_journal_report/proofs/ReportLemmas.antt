-- Reports as texts.
use Rattle.std.proofs.Common.{◌≡◌, ℕ, List, ◌++◌, Option, sym, ap}
use Rattle.std.specs.Prelude.{codes}
use Rattle.rbc_journal.specs.Journal.{told_of}
use Rattle.rbc_journal_report.specs.Telling.{named_in, head_text, first_begun, begins_text, counts_text, state_text, told_text}
use Rattle.rbc_journal_report.specs.declared.telling.FileState.{FileState}

-- a report in its parts
pub told_text-is : (given own : Option (List ℕ)) (lines : List (List ℕ)) (state : FileState) → own ≡ named_in lines
    → told_text given (record { lines = lines; state = state }) ≡ head_text given own ++ (begins_text (first_begun lines) ++ (counts_text (told_of lines) ++ (state_text state ++ codes "done\n")))
told_text-is given own lines state is =
    ap (λ (o : Option (List ℕ)). head_text given o ++ (begins_text (first_begun lines) ++ (counts_text (told_of lines) ++ (state_text state ++ codes "done\n"))))
    (sym is)
