use Rattle.std.proofs.Common.{All, List, subst, arith}
use Rattle.std.proofs.lemmas.List.{take_all}
use Rattle.std.proofs.lemmas.List.Elements.{All-more}
use Rattle.rbc_group_commit.specs.declared.stamp.Stamp.{Stamp}
use Rattle.rbc_journaled.specs.Lasting.{EachLeavesFirst}
use Rattle.rbc_journaled.proofs.closing.vouch_each.Goals as goal

pub loop-committer-preserved : goal.loop-committer-preserved
loop-committer-preserved g c =
    let leaves : List Stamp → Type 0 = EachLeavesFirst g.D.Device.moment g.D.Device.left_since c.args.last.now c.args.page.now.device in
    All-more leaves c.args.committers.now c.loop-committer.committer-index c.committer-item.result (omega arith) c.loop-committer.invariant (subst leaves c.committer-item.is c.vouch.ensures)

pub returns : goal.returns
returns g c =
    let leaves : List Stamp → Type 0 = EachLeavesFirst g.D.Device.moment g.D.Device.left_since c.args.last.now c.args.page.now.device in
    subst (All leaves) (take_all c.loop-committer.committer-index c.args.committers.now (omega (arith, c.loop-committer-test.false))) c.loop-committer.invariant
