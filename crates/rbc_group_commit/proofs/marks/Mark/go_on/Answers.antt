use Rattle.std.proofs.Common.{ap, subst, arith, List}
use mathlib.Core.List.{IsPrefix}
use Rattle.rbc_group_commit.specs.declared.stamp.Stamp.{Stamp}
use Rattle.rbc_logbook_laws.proofs.BeginningLemmas.{prefix_shorter}
use Rattle.rbc_group_commit.proofs.marks.Mark.go_on.Goals as goal

pub returns-then-self-other-clause-stays : goal.returns-then-self-other-clause-stays
returns-then-self-other-clause-stays g c =
    let mine = c.self.inside.seen.log in
    let theirs = c.other.inside.seen.log in
    let both = c.learn.new.self.log in
    let this : IsPrefix mine both = subst (λ (l : List Stamp). IsPrefix l both) (ap (λ s. s.log) c.again-both.ensures) c.learn.ensures.2 in
    let few = c.if-self-other.true in
    let first = prefix_shorter mine theirs both this c.learn.ensures.3 (omega (arith, few, c.other.invariant.0, c.self.invariant.0)) in
    subst (λ (l : List Stamp). IsPrefix l theirs) c.self.view_is first

pub returns-else-self-other-clause-heard : goal.returns-else-self-other-clause-heard
returns-else-self-other-clause-heard g c =
    let mine = c.self.inside.seen.log in
    let theirs = c.other.inside.seen.log in
    let both = c.learn.new.self.log in
    let this : IsPrefix mine both = subst (λ (l : List Stamp). IsPrefix l both) (ap (λ s. s.log) c.again-both.ensures) c.learn.ensures.2 in
    let more = c.if-self-other.false in
    let first = prefix_shorter theirs mine both c.learn.ensures.3 this (omega (arith, more, c.other.invariant.0, c.self.invariant.0)) in
    subst (λ (l : List Stamp). IsPrefix l c.args.self.now) c.other.view_is (subst (λ (l : List Stamp). IsPrefix theirs l) c.self.view_is first)
