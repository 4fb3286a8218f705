use Rattle.std.proofs.Common.{ℕ, ◌+◌, ◌<◌, List, ◌∷◌, length, take, sym, ◌∙◌, ap, arith}
use Rattle.std.proofs.lemmas.List.{drop_all}
use Rattle.rbc_journal.specs.Sessions.{lines_of}
use Rattle.rbc_journal.proofs.BeginningLemmas.{split_line, whole_line, all_behind}
use Rattle.rbc_journal.proofs.beginning.first_line.Goals as goal

pub returns-in-Some-clause-lines : goal.returns-in-Some-clause-lines
returns-in-Some-clause-lines c =
    let bytes = c.args.bytes.now in
    let at = c.in-Some.at in
    let e = c.in-Some.ensures in
    split_line bytes at e.within e.line e.feed ∙ ap (λ (l : List ℕ). take at bytes ∷ lines_of l) (sym (all_behind bytes (at + 1)))

pub returns-in-None-clause-lines : goal.returns-in-None-clause-lines
returns-in-None-clause-lines c =
    let bytes = c.args.bytes.now in
    let some : 0 < length c.args.bytes.now = let e = c.is_empty.ensures in let f = c.if-is_empty.false in grind (arith, e, f) in
    whole_line bytes some c.in-None.ensures.form
    ∙ ap (λ (l : List ℕ). bytes ∷ lines_of l) (sym (all_behind bytes (length bytes) ∙ drop_all (length bytes) bytes (omega arith)))
