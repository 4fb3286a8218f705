use Rattle.std.proofs.Common.{[], subst}
use Rattle.rbc_desk.specs.Closing.{FindsAll}
use Rattle.rbc_desk.proofs.ClosingLemmas.{misplaced_before, finds_behind}
use Rattle.rbc_desk.proofs.closing.find_more.Goals as goal

pub returns-in-Some-clause-finds : goal.returns-in-Some-clause-finds
returns-in-Some-clause-finds c =
    let entries = c.args.log.now.entries in
    λ earlier found.
    misplaced_before entries c.args.start [] earlier c.args.receipts.items c.in-Some.found
    (subst (λ o. FindsAll entries c.args.start [] earlier c.args.marks.now.items o) c.in-Some.is found)

pub returns-in-None-clause-finds : goal.returns-in-None-clause-finds
returns-in-None-clause-finds c =
    let entries = c.args.log.now.entries in
    λ earlier found.
    let before = subst (λ o. FindsAll entries c.args.start [] earlier c.args.marks.now.items o) c.in-None.is found in
    finds_behind entries c.args.start earlier c.args.receipts.items c.find_all.new.marks.items c.find_all.result before.0 (c.find_all.ensures.finds earlier before.1)
