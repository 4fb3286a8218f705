use Rattle.std.proofs.Common.{◌≡◌, All}
use Rattle.rbc_server.specs.Later.{IsLater}
use Rattle.rbc_server.specs.Records.{HistoryOnTrack}
use Rattle.rbc_server.specs.Seats.{Seated}
use Rattle.rbc_duty.proofs.staying.last_sight.Given as goal

-- What was found last is of the desk's history, and any that goes on from what each seat was told goes on from it.
abbrev pub invariant-loop-seat : goal.invariant-loop-seat
invariant-loop-seat g l =
    (l.last.book ≡ g.L.HistoryName.book)
    × ((log : HistoryOnTrack) → All (λ (seat : Seated). IsLater seat.told log) l.seats → IsLater l.last.history log)
