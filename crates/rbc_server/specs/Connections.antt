-- Connections: each client that comes is served from a seat of its own.
use Rattle.std.specs.Prelude.{◌≡◌, ◌↔◌, ◌||◌, ◌+◌, ◌<◌, ◌≤◌, ℕ, List, [], Bool, true, false, length, map, take, All, IsTrue, OnOk, Option, Some, None, Err}
use Rattle.std.specs.List.{Contains}
use Rattle.std.specs.Io.KnownBytes.{Consumes, IsAtEnd}
use Rattle.rbc_model.specs.declared.sessions.SessionFault.TheVariants.{Read, Write, Memory}
use Rattle.rbc_port.specs.Clients.{Came, Coming, NoneComes, Parting}
use Rattle.rbc_sessions.specs.Seats.{Seated}
use Rattle.rbc_sessions.specs.SeatAnswers.{AreLineAnswers}
use Rattle.rbc_sessions.specs.SeatSessions.{IsSeatSession}
use Rattle.rbc_sessions.specs.Sittings.{AreToldKept, StaysKept}
use Rattle.rbc_sessions.specs.declared.sitting.Sitting.{Sitting}
use Rattle.rbc_server.specs.declared.connections.ConnectFault.{ConnectFault}
use Rattle.rbc_server.specs.declared.connections.ConnectFault.TheVariants.{Port as NoConnection, Memory as NoThread, Journal as NotKeptInSession}

-- a client that came, the seat that it was served from with its committer, before that and after it, and how the client went
pub record Connection (L P : Type 0) : Type 0 where
  pub came : Coming
  pub before : Sitting L P
  pub after : Sitting L P
  pub went : Parting

-- the seat with its committer, where keeping has not failed yet
abbrev pub afresh : {L P : Type 0} → Sitting L P → Sitting L P
afresh sitting = record { seat = sitting.seat; committer = sitting.committer; has_failed = false }

-- The client was served from the seat. By what a committer knows, what led to an entry is kept.
pub record IsConnection {L P : Type 0} (kept : P → ℕ → Type 0) (c : Connection L P) : Type 0 where
  -- What was read of this client is the input of a session from the seat, line by line. What this client was told are the replies. So it ended.
  pub input : List ℕ
  pub read : Consumes c.came.says c.went.unread input
  pub session : IsSeatSession c.before.seat c.after.seat input c.came.told c.went.told c.went.ended
  pub answers : AreLineAnswers c.before.seat.told session.turns
  -- What it was told are the replies to the first lines, and what these led to is kept: so it is with all lines, unless keeping failed.
  pub is_kept : AreToldKept (kept c.after.committer) c.after.has_failed session.turns c.came.told c.went.told
  pub stays : StaysKept kept c.before.committer c.after.committer
  -- It ended well only at the end of what this client says, which the last read found, and with a read or write fault exactly where a read or a write failed, or
  -- keeping.
  pub end : OnOk c.went.ended (IsAtEnd c.went.unread)
  pub found_end : OnOk c.went.ended (c.went.found_end ≡ true)
  pub read_fault : (c.went.ended ≡ Err Read) ↔ IsTrue c.went.read_failed
  pub write_fault : c.went.ended ≡ Err Write → IsTrue (c.after.has_failed || c.went.write_failed)
  pub write_failed : IsTrue c.went.write_failed → c.went.ended ≡ Err Write
  -- Without memory it did not begin.
  pub memory : c.went.ended ≡ Err Memory → (c.went.unread ≡ c.came.says) × (c.went.told ≡ c.came.told) × (c.after ≡ afresh c.before)
  -- All that this client was told was handed on to it, unless a write failed, or keeping.
  pub handed_on : (c.after.has_failed || c.went.write_failed) ≡ false → c.went.held_back ≡ []

-- where keeping has failed, the committer knows so
abbrev pub TellsFailure : {L P : Type 0} → (P → Type 0) → Sitting L P → Type 0
TellsFailure failed sitting = sitting.has_failed ≡ true → failed sitting.committer

-- one of these committers knows that keeping has failed
abbrev pub OneKnows : {P : Type 0} → (P → Type 0) → List P → Type 0
OneKnows {P} failed committers = (committer : P) × Contains committers committer × failed committer

-- Of the clients that come, where it is known who comes, the first came, in order: one for each of these seats, also in order, which then were so. So
-- the clients went.
pub record AreConnections {L P : Type 0} (kept : P → ℕ → Type 0) (coming : Option (List Coming)) (sittings served : List (Sitting L P)) (partings : List Parting) : Type 0 where
  pub connections : List (Connection L P)
  pub each : All (IsConnection kept) connections
  pub still_to_come : Option (List Coming)
  pub clients : Came coming still_to_come (map (λ (c : Connection L P). c.came) connections)
  pub before : map (λ (c : Connection L P). c.before) connections ≡ sittings
  pub after : map (λ (c : Connection L P). c.after) connections ≡ served
  pub went : map (λ (c : Connection L P). c.went) connections ≡ partings

-- Of the clients that come, where it is known who comes, the first came, in order: one for each of these seats, also in order. Keeping failed in none of their
-- sessions, and they went so. The seats and the committers came back, in order.
pub record AreParted {L P : Type 0} (kept : P → ℕ → Type 0) (coming : Option (List Coming)) (sittings : List (Sitting L P)) (seats : List Seated) (committers : List P) (partings : List Parting) : Type 0 where
  pub served : List (Sitting L P)
  pub connections : AreConnections kept coming sittings served partings
  pub whole : All (λ (s : Sitting L P). s.has_failed ≡ false) served
  pub seats_are : seats ≡ map (λ (s : Sitting L P). s.seat) served
  pub committers_are : committers ≡ map (λ (s : Sitting L P). s.committer) served

-- ---- where not all sittings may have served

-- all sittings served, and no client came for another
abbrev pub AllServed : {L P : Type 0} → (P → ℕ → Type 0) → Option (List Coming) → Option (List Coming) → List (Sitting L P) → List (Sitting L P) → List Parting → Type 0
AllServed kept coming to_come sittings served partings =
    (c : AreConnections kept coming sittings served partings) × Came c.still_to_come to_come []

-- fewer clients come than there are sittings, where it is known who comes, and all that come were served: each from one of the first sittings
abbrev pub AllWhoComeServed : {L P : Type 0} → (P → ℕ → Type 0) → Option (List Coming) → List (Sitting L P) → List (Sitting L P) → List Parting → Type 0
AllWhoComeServed kept coming sittings served partings =
    (c : AreConnections kept coming (take (length partings) sittings) served partings) × NoneComes c.still_to_come × (length partings < length sittings)

-- All clients that came were served, each from one of the first sittings, but maybe the last that came. The others were still to come when no more were accepted.
pub record AllButOneServed {L P : Type 0} (kept : P → ℕ → Type 0) (coming to_come : Option (List Coming)) (sittings served : List (Sitting L P)) (partings : List Parting) : Type 0 where
  pub connections : AreConnections kept coming (take (length partings) sittings) served partings
  pub unserved : List Coming
  pub others : Came connections.still_to_come to_come unserved
  pub one : length unserved ≤ 1
  pub fits : length partings + length unserved ≤ length sittings

-- who was served, by what stood in the way of more
abbrev pub AreServed : {L P : Type 0} → (P → ℕ → Type 0) → Option (List Coming) → Option (List Coming) → List (Sitting L P) → List (Sitting L P) → List Parting → Option ConnectFault → Type 0
AreServed kept coming to_come sittings served partings None = AllServed kept coming to_come sittings served partings
AreServed kept coming to_come sittings served partings (Some NoConnection) = AllWhoComeServed kept coming sittings served partings
AreServed kept coming to_come sittings served partings (Some NoThread) = AllButOneServed kept coming to_come sittings served partings
AreServed kept coming to_come sittings served partings (Some NotKeptInSession) = AllServed kept coming to_come sittings served partings

-- who was served, by what stood in the way of more, and the committers that they left
abbrev pub StandsConnected : {L P : Type 0} → (P → ℕ → Type 0) → Option (List Coming) → Option (List Coming) → List (Sitting L P) → List P → List Parting → Option ConnectFault → Type 0
StandsConnected {L} {P} kept coming to_come sittings committers partings fault =
    (served : List (Sitting L P)) × AreServed kept coming to_come sittings served partings fault × (committers ≡ map (λ (s : Sitting L P). s.committer) served)

-- what stood in the way, or that a request could not be kept in a session
abbrev pub fault_of : Option ConnectFault → Bool → Option ConnectFault
fault_of None true = Some NotKeptInSession
fault_of None false = None
fault_of (Some fault) any_failed = Some fault
