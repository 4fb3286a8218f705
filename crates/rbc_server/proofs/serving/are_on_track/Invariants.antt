use Rattle.std.proofs.Common.{◌≡◌, All, take}
use Rattle.rbc_sessions.specs.Seats.{Seated}
use Rattle.rbc_server.proofs.serving.are_on_track.Given as goal

abbrev pub invariant-loop-seat : goal.invariant-loop-seat
invariant-loop-seat g l = All (λ (seat : Seated). seat.told.track ≡ g.L.DeskName.opened.track) (take l.seat-index l.seats)
