use Rattle.std.proofs.Common.{inl, subst}
use Rattle.rbc_group_commit.specs.Waiting.{Lacks}
use Rattle.rbc_group_commit.proofs.waiting_lines.WaitingLines.hand_over.Goals as goal

pub returns-in_default-pick : goal.returns-in_default-pick
returns-in_default-pick g c = λ _.
    let none = c.in_default-pick.ensures.none in
    inl (subst (Lacks c.pick.new.slots.items) c.in-Some.ensures.next (c.pick.ensures.lacks c.in-Some.place none))
