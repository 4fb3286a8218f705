use Rattle.std.proofs.Common.{◌<◌, sym, subst, length}
use Rattle.std.specs.Arc.{arc_value}
use Rattle.rbc_model.specs.declared.places.Leg.{Leg}
use Rattle.rbc_extent.proofs.GroupLemmas.{leg_told-below}
use Rattle.rbc_extent.proofs.placing.find_from.Goals as goal

pub located-requires : goal.located-requires
located-requires c =
    subst (λ (leg : Leg). leg.section < length (arc_value c.args.situation.now.track.now).sections) (sym c.leg_told.ensures)
    (leg_told-below (arc_value c.args.situation.now.track.now) c.args.group.now c.args.report.now c.requires)
