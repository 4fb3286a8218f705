use Rattle.std.proofs.Common.{◌≡◌, ◌+◌, ◌∷◌, arith, ap, ◌∙◌}
use Rattle.std.specs.Arc.{arc_value}
use Rattle.rbc_model.specs.Tracks.{Track, metres_of}
use Rattle.rbc_line.proofs.ChangeLemmas.{extended_front, length_at_most, before_of_track}
use Rattle.rbc_line.proofs.line.Line.extend_front.Goals as goal

pub metres_of-metres-requires : goal.metres_of-metres-requires
metres_of-metres-requires c =
    rw c.deref.ensures (before_of_track (arc_value c.self.inside.track) c.self.inside.legs.items c.args.leg c.self.inside.length c.self.invariant (rw (← c.self.view_is) at c.requires.linked))

pub overflow_add-self : goal.overflow_add-self
overflow_add-self c =
    let track = arc_value c.self.inside.track in
    let metres : c.metres_of-metres.result ≡ metres_of track c.args.leg.section = c.metres_of-metres.ensures ∙ ap (λ (t : Track). metres_of t c.args.leg.section) c.deref.ensures in
    let longer = extended_front track c.self.inside.legs.items c.args.leg c.self.inside.length c.metres_of-metres.result c.self.invariant (rw (← c.self.view_is) at c.requires.linked) (rw (← c.self.view_is) at c.requires.absent) metres in
    omega (arith, length_at_most track (c.args.leg ∷ c.self.inside.legs.items) (c.self.inside.length + c.metres_of-metres.result) longer)

pub invariant_of-self-2 : goal.invariant_of-self-2
invariant_of-self-2 c =
    let track = arc_value c.self.inside.track in
    let metres : c.metres_of-metres.result ≡ metres_of track c.args.leg.section = c.metres_of-metres.ensures ∙ ap (λ (t : Track). metres_of t c.args.leg.section) c.deref.ensures in
    rw c.in_ok-insert.ensures.items (extended_front track c.self.inside.legs.items c.args.leg c.self.inside.length c.metres_of-metres.result c.self.invariant (rw (← c.self.view_is) at c.requires.linked) (rw (← c.self.view_is) at c.requires.absent) metres)
