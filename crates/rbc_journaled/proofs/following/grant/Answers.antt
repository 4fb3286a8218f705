use Rattle.std.proofs.Common.{ap, arith}
use Rattle.rbc_model.specs.Views.{View}
use Rattle.rbc_journaled.proofs.FollowingLemmas.{is_granted, not_granted, is_full_up}
use Rattle.rbc_journaled.proofs.following.grant.Goals as goal

pub returns-then-version-before-clause-followed : goal.returns-then-version-before-clause-followed
returns-then-version-before-clause-followed g c =
    is_granted c.args.history.now c.commit-reply.new.history _ c.args.shown.train _ c.version-before.result c.version.result (ap (λ (v : View). v.train) c.in-Ok.ensures.view)
    c.version-before.ensures.count c.version.ensures.count c.commit-reply.ensures.comes c.known.ensures.form (omega (arith, c.if-version-before.true))

pub returns-then-before-most-clause-followed : goal.returns-then-before-most-clause-followed
returns-then-before-most-clause-followed g c =
    is_full_up c.args.history.now c.commit-reply.new.history _ c.args.shown.train _ c.version-before.result c.version.result (ap (λ (v : View). v.train) c.in-Ok.ensures.view)
    c.version-before.ensures.count c.version.ensures.count c.commit-reply.ensures.comes c.args.shown c.requires (omega (arith, c.if-version-before.false)) (omega (arith, c.if-before-most.true, c.entries-most.ensures.value, c.most.ensures))

pub returns-clause-refused : goal.returns-clause-refused
returns-clause-refused g c =
    not_granted c.args.history.now c.commit-reply.new.history _ c.args.shown.train _ c.version-before.result c.version.result (ap (λ (v : View). v.train) c.in-Ok.ensures.view)
    c.version-before.ensures.count c.version.ensures.count c.commit-reply.ensures.comes (omega (arith, c.if-version-before.false))
