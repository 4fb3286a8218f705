use Rattle.std.proofs.Common.{ap, subst, arith, List}
use mathlib.Core.List.{IsPrefix}
use Rattle.rbc_group_commit.specs.declared.stamp.Stamp.{Stamp}
use Rattle.rbc_logbook_laws.proofs.BeginningLemmas.{prefix_shorter}
use Rattle.rbc_group_commit.proofs.marks.Marks.has.Goals as goal

pub returns-then-mark-self : goal.returns-then-mark-self
returns-then-mark-self g c =
    let mine = c.self.inside.seen.log in
    let theirs = c.mark.inside.seen.log in
    let both = c.learn.new.self.log in
    let this : IsPrefix mine both = subst (λ (l : List Stamp). IsPrefix l both) (ap (λ s. s.log) c.again-both.ensures) c.learn.ensures.2 in
    let few = c.if-mark-self.true in
    let first : IsPrefix theirs mine = prefix_shorter theirs mine both c.learn.ensures.3 this (omega (arith, few, c.mark.invariant.0, c.self.invariant.1)) in
    subst (λ (l : List Stamp). IsPrefix l c.args.self.now) c.mark.view_is (subst (λ (l : List Stamp). IsPrefix theirs l) c.self.view_is first)
