-- What the treatment of a line makes of a seat and its committer, and what of a session is kept.
use Rattle.std.specs.Prelude.{◌≡◌, ◌<◌, ◌≤◌, ℕ, Bool, true, false, List, [], ◌++◌, length, Option, Some, None, Result, All, slice_index_or}
use Rattle.std.specs.List.{Contains}
use Rattle.rbc_model.specs.Histories.{Receipt}
use Rattle.rbc_model.specs.SessionReply.{SessionRefusal}
use Rattle.rbc_model.specs.Sessions.{WritesPart}
use Rattle.rbc_sweep.specs.Outcomes.{receipts_of}
use Rattle.rbc_sweep.specs.declared.outcome.Outcome.{Outcome}
use Rattle.rbc_session_laws.specs.declared.command.Command.{Command}
use Rattle.rbc_sessions.specs.SeatChanges.{SeatHears}
use Rattle.rbc_sessions.specs.SeatSessions.{SeatTurn, replies_at_seat}
use Rattle.rbc_sessions.specs.declared.batch.TheConstants.{MOST_RESTING}
use Rattle.rbc_sessions.specs.declared.grants.Rank.{Rank}
use Rattle.rbc_sessions.specs.declared.sitting.Sitting.{Sitting}

-- what led to the entry of the receipt, if there is one, is kept
abbrev pub IsKept : (ℕ → Type 0) → Option Receipt → Type 0
IsKept kept None = Unit {0}
IsKept kept (Some receipt) = kept receipt.place

-- what was kept by the one committer is kept by the other
abbrev pub StaysKept : {P : Type 0} → (P → ℕ → Type 0) → P → P → Type 0
StaysKept kept before after = (place : ℕ) → kept before place → kept after place

-- What is asked for, one after the other, leads from the one seat to the other. The replies are written once what led to all entries is kept; where that failed
-- nothing is written.
pub record Enters {L P : Type 0} (kept : P → ℕ → Type 0) (before : Sitting L P) (commands : List (Result Command SessionRefusal)) (text : List ℕ) (after : Sitting L P) : Type 0 where
  pub whole : before.has_failed ≡ false
  pub replies : List ℕ
  pub hears : SeatHears before.seat commands replies after.seat
  pub gained : List Receipt
  pub receipts : after.seat.receipts ≡ before.seat.receipts ++ gained
  pub stays : StaysKept kept before.committer after.committer
  pub said : after.has_failed ≡ false → (text ≡ replies) × All (λ (receipt : Receipt). kept after.committer receipt.place) gained
  pub unsaid : after.has_failed ≡ true → text ≡ []

-- What was written by a session of these turns is made of the replies to the first of them, in order, and what led to the entries of all these is kept.
-- These are all turns, unless keeping has failed: then all but the last ones, which are no more than may rest.
pub record AreToldKept (kept : ℕ → Type 0) (has_failed : Bool) (turns : List SeatTurn) (old new : Option (List ℕ)) : Type 0 where
  pub told : List SeatTurn
  pub untold : List SeatTurn
  pub all : turns ≡ told ++ untold
  pub none_untold : has_failed ≡ false → untold ≡ []
  pub few_untold : length untold ≤ MOST_RESTING
  pub written : WritesPart old new (replies_at_seat told)
  pub each : All (λ (turn : SeatTurn). IsKept kept turn.receipt) told

-- ---- what a sweep granted

-- what led to the entry that an outcome tells of, if it does, is kept
abbrev pub AreKeptOf : (ℕ → Type 0) → Outcome → Type 0
AreKeptOf kept outcome = All (λ (receipt : Receipt). kept receipt.place) (receipts_of outcome.answer)

-- what led to the entry that the outcome with this number in a list tells of, if there is such an outcome and it tells of one, is kept
abbrev pub IsKeptAt : (ℕ → Type 0) → List Outcome → ℕ → Type 0
IsKeptAt kept outcomes number = (d : Outcome) → number < length outcomes → AreKeptOf kept (slice_index_or outcomes number d)

-- the place by which an outcome is ranked
abbrev pub rank_place : Rank → ℕ
rank_place rank = rank.place

-- one of these ranks is that of the outcome with this number
abbrev pub HasRank : List Rank → ℕ → Type 0
HasRank ranks number = (rank : Rank) × Contains ranks rank × (rank.number ≡ number)
