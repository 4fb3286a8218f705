use Rattle.std.proofs.Common.{◌≡◌, ℕ, ◌<◌, ◌≤◌, get_or}
use Rattle.rbc_sessions.specs.Seats.{Seated}
use Rattle.rbc_server.specs.Serving.{IsBrought}
use Rattle.rbc_server.proofs.bringing.bring_each.Given as goal

-- those so far were told, and those that are left are as they were
abbrev pub invariant-loop-seat : goal.invariant-loop-seat
invariant-loop-seat g l = record {
  done : (i : ℕ) (d : Seated) → i < l.seat-index → IsBrought l.others (get_or l.initial.seats i d) (get_or l.seats i d);
  left : (i : ℕ) (d : Seated) → l.seat-index ≤ i → get_or l.seats i d ≡ get_or l.initial.seats i d;
}
