use Rattle.std.proofs.Common.{List, ap, subst}
use Rattle.rbc_group_commit.specs.Stamps.{EachLasts}
use Rattle.rbc_group_commit.specs.declared.stamp.Stamp.{Stamp}
use Rattle.rbc_group_commit.proofs.PageLemmas.{given_last}
use Rattle.rbc_group_commit.proofs.page.Page.vouch.Goals as goal

pub returns : goal.returns
returns g c =
    let d = g.D.Device in
    let tells = g.T.ToldHistory.tells in
    let old = c.self.inside in
    let given = given_last d.moment d.left_since (tells old.told) old.journal.device old.lines c.committer.inside.mark old.marks c.has.ensures c.self.invariant.1 in
    subst (λ t. EachLasts d.moment d.left_since (tells t) c.args.self.now.device c.args.committer.now) (ap (λ p. p.told) c.self.view_is)
    (subst (λ f. EachLasts d.moment d.left_since (tells old.told) f c.args.committer.now) (ap (λ p. p.device) c.self.view_is)
    (subst (λ (l : List Stamp). EachLasts d.moment d.left_since (tells old.told) old.journal.device l) c.committer.view_is given))
