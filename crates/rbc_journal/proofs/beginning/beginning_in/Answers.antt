use Rattle.std.proofs.Common.{ℕ, List, ◌++◌, drop, sym, ◌∙◌, ap}
use Rattle.std.proofs.lemmas.List.{append-nil}
use Rattle.rbc_journal.specs.Gates.{counted}
use Rattle.rbc_journal.specs.Sessions.{lines_of}
use Rattle.rbc_journal.specs.Marks.{marked_front}
use Rattle.rbc_journal.specs.Beginnings.{beginning_of, joined}
use Rattle.rbc_journal.proofs.BeginningLemmas.{joined_lines, beginning_are, drop_three}
use Rattle.rbc_journal.proofs.beginning.beginning_in.Goals as goal

pub loop-line-init : goal.loop-line-init
loop-line-init c =
    let rest = c.behind_line-rest.result.now in
    ap (λ (l : List ℕ). l ++ joined (marked_front (counted rest))) c.new-found.ensures.items
    ∙ ap (λ (ls : List (List ℕ)). joined (marked_front ls))
    (c.behind_line-rest.ensures
    ∙ ap (λ (ls : List (List ℕ)). drop 1 ls) (c.behind_line-2.ensures ∙ ap (λ (ls : List (List ℕ)). drop 1 ls) c.behind_line.ensures)
    ∙ drop_three (counted c.args.text.now))

pub returns-clause-bytes : goal.returns-clause-bytes
returns-clause-bytes c =
    let found = c.loop-line.found.items in
    sym (append-nil found) ∙ sym (ap (λ (ls : List (List ℕ)). found ++ joined ls) c.in_default.ensures.lines) ∙ c.loop-line.invariant

pub returns-clause-lines : goal.returns-clause-lines
returns-clause-lines c = ap lines_of (returns-clause-bytes c) ∙ joined_lines (beginning_of (counted c.args.text.now)) (beginning_are c.args.text.now)
