-- What a train that asks at the desk is answered.
use Rattle.std.specs.Prelude.{◌≡◌, ℕ, true, false, [], ◌∷◌, ◌++◌, length, slice_get, Option, Some, None, Result, Ok, Err, IfErr, IfNone, IfOk, IfSome, OnErr}
use Rattle.std.specs.Result.{result_map_both}
use Rattle.rbc_model.specs.declared.memory.OrMemory.{OrMemory}
use Rattle.rbc_model.specs.declared.memory.OrMemory.TheVariants.{Refused, Memory}
use Rattle.rbc_model.specs.declared.refusals.ViewFault.{ViewFault}
use Rattle.rbc_model.specs.declared.refusals.ViewFault.TheVariants.{UnknownTrain as NoSuchTrain, Blocked as BlockedAt}
use Rattle.rbc_model.specs.Views.{View, view}
use Rattle.rbc_model.specs.Histories.{Granted, Receipt}
use Rattle.rbc_grant_laws.specs.Candidates.{IsCandidateOf}
use Rattle.rbc_snap.specs.Candidates.{Candidate, HasChosenProfiles}
use Rattle.rbc_snap.specs.CommitFault.{CommitFault}
use Rattle.rbc_snap.specs.CommitFault.TheVariants.{Full as FullToGrants, Stale}
use Rattle.rbc_snap.specs.Present.{has_train}
use Rattle.rbc_snap.specs.Records.{HistoryOnTrack, scene_now, is_full, with_entry}
use Rattle.rbc_desk.specs.declared.faults.AskFault.{AskFault}
use Rattle.rbc_desk.specs.declared.faults.AskFault.TheVariants.{UnknownTrain, Blocked, Full}
use Rattle.rbc_desk.specs.declared.granted.Granted.{Granted as GrantedAtDesk}
use Rattle.rbc_desk.specs.Seats.{Seated}
use Rattle.rbc_snap.specs.Later.{IsLater}
use Rattle.rbc_snap.specs.declared.faults.EyeFault.{EyeFault}
use Rattle.rbc_snap.specs.declared.faults.EyeFault.TheVariants.{Behind, Unshown}

-- why the train is shown no end, told with the version of the history
abbrev pub fault_at : ℕ → ViewFault → AskFault
fault_at version NoSuchTrain = UnknownTrain
fault_at version (BlockedAt obstacle at) = Blocked obstacle at version

-- what the train is shown in the scene that the history leads to, or why it is shown no end
abbrev pub shown : HistoryOnTrack → ℕ → Result View AskFault
shown history train =
    result_map_both (λ seen. seen) (fault_at (length history.entries)) (view history.track (scene_now history) train)

-- this is the view that the history shows the train, and its version
abbrev pub IsViewIn : HistoryOnTrack → ℕ → View × ℕ → Type 0
IsViewIn history train seen = (view history.track (scene_now history) train ≡ Ok seen.0) × (seen.1 ≡ length history.entries)

-- a candidate for what the history shows its train
abbrev pub IsMadeIn : HistoryOnTrack → Candidate → Type 0
IsMadeIn history candidate = IsViewIn history candidate.view.train (candidate.view, candidate.version)

-- Nothing is granted: the history shows the train no end; or it shows it one and is full; or it has the train, and memory was refused.
abbrev pub IsRefused : HistoryOnTrack → ℕ → OrMemory AskFault → Type 0
IsRefused history train (Refused Full) = (is_full history ≡ true) × ((seen : View) × (shown history train ≡ Ok seen))
IsRefused history train (Refused UnknownTrain) = shown history train ≡ Err UnknownTrain
IsRefused history train (Refused (Blocked obstacle at version)) = shown history train ≡ Err (Blocked obstacle at version)
IsRefused history train Memory = has_train history train ≡ true

-- What a train that asks after this history is answered: it is granted what is best for what it is shown, with the profiles that the rules
-- choose, as the next entry; or nothing.
abbrev pub IsAnswered : HistoryOnTrack → ℕ → Result GrantedAtDesk (OrMemory AskFault) → Type 0
IsAnswered history train (Ok granted) =
    (is_full history ≡ false) × (shown history train ≡ Ok granted.candidate.view)
    × (granted.receipt.place ≡ length history.entries) × (granted.receipt.entry ≡ Granted granted.candidate.grant)
    × IsCandidateOf granted.candidate.view granted.candidate.grant × HasChosenProfiles granted.candidate.view granted.candidate.grant
IsAnswered history train (Err fault) = IsRefused history train fault

-- what there is once it is answered: the history, with the entry that was granted
abbrev pub after_answer : HistoryOnTrack → Result GrantedAtDesk (OrMemory AskFault) → HistoryOnTrack
after_answer history (Ok granted) = with_entry history granted.receipt.entry
after_answer history (Err fault) = history

-- It is answered after some legal history that goes on from all that had been told. What is told then is that history, with what was granted.
pub record IsAnsweredThen (begun after : HistoryOnTrack) (train : ℕ) (answer : Result GrantedAtDesk (OrMemory AskFault)) : Type 0 where
  pub before : HistoryOnTrack
  pub later : IsLater begun before
  pub answered : IsAnswered before train answer
  pub told : after ≡ after_answer before answer

-- What is granted to a train that asked means what it says, where this is told: its receipt is that of the grant, which is entered at its place; the
-- train is the one that asked; and the grant is the best for what it is shown, with the profiles that the rules choose.
pub record Means (told : HistoryOnTrack) (asker : ℕ) (granted : GrantedAtDesk) : Type 0 where
  pub entry : granted.receipt.entry ≡ Granted granted.candidate.grant
  pub place : slice_get told.entries granted.receipt.place ≡ Some granted.receipt.entry
  pub train : granted.candidate.view.train ≡ asker
  pub best : IsCandidateOf granted.candidate.view granted.candidate.grant
  pub chosen : HasChosenProfiles granted.candidate.view granted.candidate.grant

-- What a train that asks from a seat is answered. The seat gains the receipt of what is granted, and nothing else.
pub record IsAnsweredAt (had has : Seated) (train : ℕ) (answer : Result GrantedAtDesk (OrMemory AskFault)) : Type 0 where
  pub since : IsAnsweredThen had.told has.told train answer
  pub later : IsLater had.told has.told
  pub receipt : IfOk answer (λ granted. has.receipts ≡ had.receipts ++ granted.receipt ∷ [])
  pub means : IfOk answer (Means has.told train)
  pub refused : OnErr answer (has.receipts ≡ had.receipts)

-- What a try from a seat comes to: an answer, or nothing. Then the seat has the receipts that it had.
pub record IsTriedAt (had has : Seated) (train : ℕ) (tried : Result (Option GrantedAtDesk) (OrMemory AskFault)) : Type 0 where
  pub later : IsLater had.told has.told
  pub answered : IfOk tried (λ answer. IfSome answer (λ granted. IsAnsweredAt had has train (Ok granted)))
  pub stale : IfOk tried (λ answer. IfNone answer (has.receipts ≡ had.receipts))
  pub denied : IfErr tried (λ fault. IsAnsweredAt had has train (Err fault))

-- what an eye shows, as a try; nothing where it is behind
abbrev pub seen_by : Result (View × ℕ) (OrMemory EyeFault) → Result (Option (View × ℕ)) (OrMemory AskFault)
seen_by (Ok seen) = Ok (Some seen)
seen_by (Err (Refused (Behind version))) = Ok None
seen_by (Err (Refused (Unshown fault version))) = Err (Refused (fault_at version fault))
seen_by (Err Memory) = Err Memory

-- what a try is answered: a receipt, or nothing where the history shows the train another view
abbrev pub tried : Result Receipt (OrMemory CommitFault) → Result (Option Receipt) (OrMemory AskFault)
tried (Ok receipt) = Ok (Some receipt)
tried (Err (Refused FullToGrants)) = Err (Refused Full)
tried (Err (Refused (Stale version))) = Ok None
tried (Err Memory) = Err Memory

-- The try entered what the candidate would grant; or it entered nothing, since its train is shown another view; or it was refused.
abbrev pub Tries : Result (Option Receipt) (OrMemory AskFault) → HistoryOnTrack → HistoryOnTrack → Candidate → Type 0
Tries (Ok (Some receipt)) old new candidate =
    (receipt.entry ≡ Granted candidate.grant) × (receipt.place ≡ length old.entries) × (new ≡ with_entry old (Granted candidate.grant))
    × (shown old candidate.view.train ≡ Ok candidate.view) × (is_full old ≡ false)
Tries (Ok None) old new candidate = (shown old candidate.view.train ≡ Ok candidate.view → ⊥) × (new ≡ old)
Tries (Err fault) old new candidate = IsRefused old candidate.view.train fault × (new ≡ old)
