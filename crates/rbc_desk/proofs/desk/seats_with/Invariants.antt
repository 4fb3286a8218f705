use Rattle.std.proofs.Common.{◌≡◌, [], All, length, map}
use Rattle.std.specs.Vec.Iter.{into_iter_items}
use Rattle.rbc_snap.specs.Later.{IsLater}
use Rattle.rbc_desk.specs.Seats.{seated}
use Rattle.rbc_desk.proofs.desk.seats_with.Given as goal

abbrev pub invariant-loop-eye : goal.invariant-loop-eye
invariant-loop-eye g l =
    (l.all.parts ≡ length (into_iter_items l.eye-iterator)) × (l.all.amount ≡ 0) × (l.seats.items ≡ map (λ eye. seated [] eye.told) l.yielded)
    × All (λ eye. IsLater g.L.DeskName.opened eye.told) (into_iter_items l.eye-iterator)
