-- Seats on duty: each serves clients one after the other, until it is relieved.
use Rattle.std.specs.Prelude.{◌≡◌, ◌++◌, ℕ, List, map, All, Bool, true, Option}
use Rattle.rbc_port.specs.Clients.{Came, Coming, NoneComes}
use Rattle.rbc_server.specs.Connections.{Connection}
use Rattle.rbc_server.specs.Sittings.{StaysKept}
use Rattle.rbc_server.specs.Sitting.{Sitting}
use Rattle.rbc_duty.specs.Visits.{AreInTurn, gained_in_turn}

-- what is known of the clients that come to a seat, the seat with its committer before its duty and after it, and whether no client could be accepted any more
pub record Duty (L P : Type 0) : Type 0 where
  pub coming : Option (List Coming)
  pub before : Sitting L P
  pub after : Sitting L P
  pub lost : Bool

-- The clients that came to the seat, in order, were served from it one after the other, each from what the one before left.
pub record IsDuty {L P : Type 0} (kept : P → ℕ → Type 0) (duty : Duty L P) : Type 0 where
  pub visits : List (Connection L P)
  pub in_turn : AreInTurn kept duty.before visits duty.after
  -- Where it is known who comes, these came first, in this order: none that was accepted is left out, and none is served twice. Where no client could be accepted any
  -- more, no further one comes.
  pub still_to_come : Option (List Coming)
  pub clients : Came duty.coming still_to_come (map (λ (v : Connection L P). v.came) visits)
  pub over : duty.lost ≡ true → NoneComes still_to_come
  -- The seat has its old receipts, and behind them the receipts of all visits, in order. What was kept before still is.
  pub receipts : duty.after.seat.receipts ≡ duty.before.seat.receipts ++ gained_in_turn kept duty.before visits duty.after in_turn
  pub stays : StaysKept kept duty.before.committer duty.after.committer

-- Each of these seats, at which these clients came, was on duty, and was so after it; by these ports no client could be accepted any more.
pub record AreOnDuty {L P : Type 0} (kept : P → ℕ → Type 0) (comings : List (Option (List Coming))) (before after : List (Sitting L P)) (lost : List Bool) : Type 0 where
  pub duties : List (Duty L P)
  pub each : All (IsDuty kept) duties
  pub comings_are : map (λ (d : Duty L P). d.coming) duties ≡ comings
  pub before_is : map (λ (d : Duty L P). d.before) duties ≡ before
  pub after_is : map (λ (d : Duty L P). d.after) duties ≡ after
  pub lost_are : map (λ (d : Duty L P). d.lost) duties ≡ lost
