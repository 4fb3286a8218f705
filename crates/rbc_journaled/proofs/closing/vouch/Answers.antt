use Rattle.rbc_journaled.proofs.LastingLemmas.{leaves_first}
use Rattle.rbc_journaled.proofs.closing.vouch.Goals as goal

pub returns : goal.returns
returns g c =
    let page = c.args.page.now in
    leaves_first g.D.Device.moment g.D.Device.left_since page.told c.args.last.now page.device c.args.committer.now c.requires c.vouch.ensures
