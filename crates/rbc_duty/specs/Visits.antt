-- Clients that are served from a seat, one after the other.
use Rattle.std.specs.Prelude.{◌≡◌, ◌++◌, ℕ, List, [], ◌∷◌, false}
use Rattle.rbc_model.specs.Histories.{Receipt}
use Rattle.rbc_server.specs.Connections.{Connection, IsConnection}
use Rattle.rbc_server.specs.SeatSessions.{receipts_gained}
use Rattle.rbc_server.specs.Sitting.{Sitting}

-- The visits were made in this order: each client was served from the seat as the one before left it, in which no request had failed to be kept.
abbrev pub AreInTurn : {L P : Type 0} → (P → ℕ → Type 0) → Sitting L P → List (Connection L P) → Sitting L P → Type 0
AreInTurn kept before [] after = after ≡ before
AreInTurn kept before (v ∷ vs) after = (v.before ≡ before) × (before.has_failed ≡ false) × IsConnection kept v × AreInTurn kept v.after vs after

-- the receipts that the seat gained in these visits, in order
abbrev pub gained_in_turn : {L P : Type 0} → (kept : P → ℕ → Type 0) → (before : Sitting L P) → (vs : List (Connection L P)) → (after : Sitting L P) → AreInTurn kept before vs after → List Receipt
gained_in_turn kept before [] after turns = []
gained_in_turn kept before (v ∷ vs) after turns = receipts_gained turns.2.session.turns ++ gained_in_turn kept v.after vs after turns.3
