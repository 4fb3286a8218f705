-- What the trains of a sweep are answered, and what the seats gain by it.
use Rattle.std.specs.Prelude.{◌≡◌, ℕ, List, [], ◌∷◌, length, map, take, flat_map, slice_get, Some, Result, Ok, Err}
use Rattle.rbc_model.specs.declared.memory.OrMemory.{OrMemory}
use Rattle.rbc_model.specs.declared.memory.OrMemory.TheVariants.{Refused, Memory as NoMemory}
use Rattle.rbc_model.specs.Histories.{Receipt}
use Rattle.rbc_desk.specs.Records.{HistoryOnTrack}
use Rattle.rbc_desk.specs.declared.faults.AskFault.{AskFault}
use Rattle.rbc_desk.specs.declared.faults.AskFault.TheVariants.{UnknownTrain, Blocked as BlockedAt, Full as FullRecord}
use Rattle.rbc_desk.specs.declared.granted.Granted.{Granted as Grant}
use Rattle.rbc_desk.specs.Later.{IsLater}
use Rattle.rbc_desk.specs.Seats.{Seated}
use Rattle.rbc_desk.specs.Asking.{IsAnswered, after_answer}
use Rattle.rbc_desk.specs.Trains.{numbers_of}
use Rattle.rbc_sweep.specs.declared.outcome.Answer.{Answer}
use Rattle.rbc_sweep.specs.declared.outcome.Answer.TheVariants.{Granted, Blocked, Gone, Full, Memory}
use Rattle.rbc_sweep.specs.declared.outcome.Outcome.{Outcome}

-- the answer, as the desk gives it to a train that asks
abbrev pub asked : Answer → Result Grant (OrMemory AskFault)
asked (Granted grant) = Ok grant
asked (Blocked obstacle at version) = Err (Refused (BlockedAt obstacle at version))
asked Gone = Err (Refused UnknownTrain)
asked Full = Err (Refused FullRecord)
asked Memory = Err NoMemory

-- the train of an outcome
abbrev pub train_of : Outcome → ℕ
train_of outcome = outcome.train

-- the receipt for what the train was granted
abbrev pub receipts_of : Answer → List Receipt
receipts_of (Granted grant) = grant.receipt ∷ []
receipts_of (Blocked obstacle at version) = []
receipts_of Gone = []
receipts_of Full = []
receipts_of Memory = []

-- the receipts for all that was granted, in the order of the outcomes
abbrev pub granted : List Outcome → List Receipt
granted outcomes = flat_map (λ outcome. receipts_of outcome.answer) outcomes

-- the history goes on from all that was told: it is on the same track, begins with the same scene, may have as many entries, and its first entries are those
pub record Begins (told history : HistoryOnTrack) : Type 0 where
  pub track : history.track ≡ told.track
  pub begin : history.begin ≡ told.begin
  pub most : history.most ≡ told.most
  pub opening : take (length told.entries) history.entries ≡ told.entries

-- the receipts that a seat had are the first of those that it has, and so is what it was told
pub record AreFirst (had has : Seated) : Type 0 where
  pub receipts : take (length had.receipts) has.receipts ≡ had.receipts
  pub told : Begins had.told has.told

-- the receipts of each seat
abbrev pub receipts_each : List Seated → List (List Receipt)
receipts_each seats = map (λ (seat : Seated). seat.receipts) seats

-- These are all trains, in order of arrival, of a legal history that goes on from what the seat had been told. The seat is told it from then on.
pub record AreTrainsTold (had has : Seated) (trains : List ℕ) : Type 0 where
  pub history : HistoryOnTrack
  pub later : IsLater had.told history
  pub told : Begins history has.told
  pub all : trains ≡ numbers_of history

-- this is so of the first of the seats
abbrev pub AreTrainsOfFirst : List Seated → List Seated → List ℕ → Type 0
AreTrainsOfFirst [] has trains = ⊥
AreTrainsOfFirst (one ∷ had) [] trains = ⊥
AreTrainsOfFirst (one ∷ had) (other ∷ has) trains = AreTrainsTold one other trains

-- The outcome is what its train is answered after a legal history that goes on from what the seat had been told. The seat is told it from then on, with
-- what was granted.
pub record IsTold (had has : Seated) (outcome : Outcome) : Type 0 where
  pub history : HistoryOnTrack
  pub later : IsLater had.told history
  pub told : Begins (after_answer history (asked outcome.answer)) has.told
  pub answered : IsAnswered history outcome.train (asked outcome.answer)

-- this is so of one of the seats
pub record IsToldToOne (had has : List Seated) (outcome : Outcome) : Type 0 where
  pub place : ℕ
  pub before : Seated
  pub after : Seated
  pub had_it : slice_get had place ≡ Some before
  pub has_it : slice_get has place ≡ Some after
  pub told : IsTold before after outcome
