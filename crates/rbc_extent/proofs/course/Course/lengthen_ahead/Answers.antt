use Rattle.std.proofs.Common.{arith, sym, subst}
use Rattle.rbc_line.specs.OnTracks.{LineOnTrack}
use Rattle.rbc_scene_laws.specs.Good.{IsGoodLocks}
use Rattle.rbc_extent.proofs.CourseLemmas.{next-below, next-linked}
use Rattle.rbc_extent.proofs.course.Course.lengthen_ahead.Goals as goal

pub extend-requires-clause-linked : goal.extend-requires-clause-linked
extend-requires-clause-linked c =
    let good : IsGoodLocks c.self.inside.line.track c.args.locks.now = subst (λ (l : LineOnTrack). IsGoodLocks l.track c.args.locks.now) (sym c.self.view_is) c.requires in
    next-linked c.self.inside.line.track c.args.locks.now good c.self.inside.line.legs c.last.result c.in-Some.leg c.last.ensures.leg (sym c.in-Some.ensures)

pub insert-requires : goal.insert-requires
insert-requires c =
    let good : IsGoodLocks c.self.inside.line.track c.args.locks.now = subst (λ (l : LineOnTrack). IsGoodLocks l.track c.args.locks.now) (sym c.self.view_is) c.requires in
    let low = next-below c.self.inside.line.track c.args.locks.now good c.last.result c.in-Some.leg c.self.invariant.sound (sym c.in-Some.ensures) in
    let size = c.self.invariant.size in
    omega arith
