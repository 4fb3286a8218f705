use Rattle.std.proofs.Common.{ap, sym, subst, ◌∙◌, arith}
use Rattle.rbc_server.specs.Later.{IsLater}
use Rattle.rbc_server.specs.Seats.{Seated}
use Rattle.rbc_server.specs.Sights.{SeenOf}
use Rattle.rbc_duty.proofs.staying.last_sight.Goals as goal
use Rattle.rbc_duty.proofs.staying.last_sight.Goals.{then-is_behind, else-is_behind}

pub loop-seat-preserved : goal.loop-seat-preserved
loop-seat-preserved g c =
    let inv = c.loop-seat.invariant in
    elim c.if-is_behind.branch [
      | then-is_behind w ↦ (
        ap (λ (s : SeenOf). s.book) (w.last-is ∙ c.sight-sight.ensures),
        (λ log all.
            subst (λ (s : SeenOf). IsLater s.history log) (sym (w.last-is ∙ c.sight-sight.ensures))
            (subst (λ (s : Seated). IsLater s.told log) (sym c.seat-item.is) (all c.loop-seat.seat-index c.seat-item.result (omega (arith, c.loop-seat-test.true))))),
      )
      | else-is_behind w ↦ (
        ap (λ (s : SeenOf). s.book) w.last-is ∙ inv.0,
        (λ log all. subst (λ (s : SeenOf). IsLater s.history log) (sym w.last-is) (inv.1 log all)),
      )
    ]
