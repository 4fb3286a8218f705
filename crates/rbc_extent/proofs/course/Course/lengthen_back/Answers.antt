use Rattle.std.proofs.Common.{arith, sym, subst}
use Rattle.rbc_line.specs.OnTracks.{LineOnTrack}
use Rattle.rbc_scene_laws.specs.Good.{IsGoodLocks}
use Rattle.rbc_extent.proofs.CourseLemmas.{prev-below}
use Rattle.rbc_extent.proofs.course.Course.lengthen_back.Goals as goal

pub has-requires : goal.has-requires
has-requires c =
    let good : IsGoodLocks c.self.inside.line.track c.args.locks.now = subst (λ (l : LineOnTrack). IsGoodLocks l.track c.args.locks.now) (sym c.self.view_is) c.requires in
    let low = prev-below c.self.inside.line.track c.args.locks.now good c.first.result c.in-Some.leg c.self.invariant.sound (sym c.in-Some.ensures) in
    let size = c.self.invariant.size in
    omega arith

pub insert-requires : goal.insert-requires
insert-requires c =
    let good : IsGoodLocks c.self.inside.line.track c.args.locks.now = subst (λ (l : LineOnTrack). IsGoodLocks l.track c.args.locks.now) (sym c.self.view_is) c.requires in
    let low = prev-below c.self.inside.line.track c.args.locks.now good c.first.result c.in-Some.leg c.self.invariant.sound (sym c.in-Some.ensures) in
    let size = c.self.invariant.size in
    omega arith
