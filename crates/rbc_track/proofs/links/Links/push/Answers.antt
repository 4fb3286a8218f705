use Rattle.rbc_track.proofs.LinkKeyLemmas.{one_more}
use Rattle.rbc_track.proofs.links.Links.push.Goals as goal

pub invariant_of-self-in-Ok : goal.invariant_of-self-in-Ok
invariant_of-self-in-Ok c =
    rw c.in_ok-push.ensures.items
    (one_more c.self.inside.keys.keys c.insert.new.self.keys c.self.inside.links.items c.args.link c.self.invariant (rw c.link_key-key.ensures at c.in-Ok.ensures.updates).0)
