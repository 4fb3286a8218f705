use Rattle.std.proofs.Common.{◌≡◌, ◌++◌, ◌∙◌, ap, sym, nat_eq}
use Rattle.indexmap.specs.IndexMap.{insert_entry}
use Rattle.rbc_book.proofs.CopyLemmas.{copied_more}
use Rattle.rbc_book.proofs.book.copy_of.Goals as goal
use Rattle.rbc_book.proofs.book.copy_of.Goals.{In_ok-insert}

-- the entries that are copied, with the one that comes next, and the rest
more : (c : In_ok-insert) → c.insert.new.self.entries ++ c.next.new.self ≡ c.args.trains.now.entries
more c =
    let done = c.loop-number.copy.entries in
    let number = c.in-Some.number.now in
    let train = c.in-Some.train.now in
    ap (λ l. l ++ c.next.new.self) (c.in_ok-insert.ensures.entries ∙ ap (insert_entry nat_eq done number) c.in_ok-copy.ensures)
    ∙ copied_more done c.next.new.self c.args.trains.now.entries number train c.iter-number-items.ensures.unique
    (sym c.loop-number.invariant ∙ ap (λ l. done ++ l) c.in-Some.ensures.steps)

pub loop-number-preserved-in_ok-insert : goal.loop-number-preserved-in_ok-insert
loop-number-preserved-in_ok-insert c = more (goal.at.loop-number-preserved-in_ok-insert c).In_ok-insert

pub loop-number-preserved : goal.loop-number-preserved
loop-number-preserved c = more (goal.at.loop-number-preserved c).In_ok-insert
