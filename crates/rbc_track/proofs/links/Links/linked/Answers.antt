use Rattle.rbc_track.proofs.LinkKeyLemmas.{found_there, found_back}
use Rattle.rbc_track.proofs.links.Links.linked.Goals as goal

pub returns-then-contains : goal.returns-then-contains
returns-then-contains c =
    rw (← c.self.view_is)
    (found_there c.self.inside.keys.keys c.self.inside.links.items c.args.from c.args.to c.self.invariant c.link_key-key.result c.back_key-back.result c.link_key-key.ensures c.contains.result c.contains.ensures c.if-contains.true)

pub returns-else-contains : goal.returns-else-contains
returns-else-contains c =
    rw (← c.self.view_is)
    (found_back c.self.inside.keys.keys c.self.inside.links.items c.args.from c.args.to c.self.invariant c.link_key-key.result c.back_key-back.result c.link_key-key.ensures c.back_key-back.ensures
    c.contains.result c.contains-else-contains.result c.contains.ensures c.if-contains.false c.contains-else-contains.ensures)
