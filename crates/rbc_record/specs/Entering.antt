-- What may be entered in a history, and what a call that enters it answers and leaves.
use Rattle.std.specs.Prelude.{◌≡◌, Bool, false, if◌then◌else◌, length, Option, Some, option_map, Result, Ok, Err}
use Rattle.std.specs.Result.{result_map_both}
use Rattle.rbc_model.specs.declared.memory.OrMemory.{OrMemory}
use Rattle.rbc_model.specs.declared.memory.OrMemory.TheVariants.{Refused, Memory}
use Rattle.rbc_model.specs.declared.refusals.Refusal.{Refusal}
use Rattle.rbc_model.specs.declared.refusals.ViewFault.{ViewFault}
use Rattle.rbc_model.specs.declared.reports.Told.{Told}
use Rattle.rbc_model.specs.declared.reports.Event.TheVariants.{Tell}
use Rattle.rbc_model.specs.Answers.{RefusesOrMemory}
use Rattle.rbc_model.specs.Events.{step}
use Rattle.rbc_model.specs.Histories.{Entry, Heard, Granted, Receipt}
use Rattle.rbc_model.specs.Views.{View, view}
use Rattle.rbc_grant.specs.SameViews.{is_same_view}
use Rattle.rbc_grant.specs.Candidates.{Candidate}
use Rattle.rbc_grant.specs.Steps.{told_at_once}
use Rattle.rbc_record.specs.declared.faults.ApplyFault.{ApplyFault}
use Rattle.rbc_record.specs.declared.faults.ApplyFault.TheVariants.{Full as FullToTold, Refused as RefusedByScene}
use Rattle.rbc_record.specs.declared.faults.CommitFault.{CommitFault}
use Rattle.rbc_record.specs.declared.faults.CommitFault.TheVariants.{Full as FullToGrants, Stale}
use Rattle.rbc_record.specs.Records.{HistoryOnTrack, scene_now, is_full, with_entry}

-- what is told is entered, unless the history is full or its scene refuses it
abbrev pub entry_told : HistoryOnTrack → Told → Result Entry ApplyFault
entry_told history told =
    if is_full history
    then Err FullToTold
    else result_map_both (λ after. Heard told) (λ refusal. RefusedByScene refusal) (step history.track (scene_now history) (Tell told))

-- why what is told is not entered, where nothing has to grow to see it: the history is full, or its scene refuses it at once
abbrev pub refused_at_once : HistoryOnTrack → Told → Option ApplyFault
refused_at_once history told =
    if is_full history
    then Some FullToTold
    else option_map (λ refusal. RefusedByScene refusal) (told_at_once history.track (scene_now history) told)

-- a refusal of the scene is one of the record
abbrev pub as_apply_fault : OrMemory Refusal → OrMemory ApplyFault
as_apply_fault (Refused refusal) = Refused (RefusedByScene refusal)
as_apply_fault Memory = Memory

-- whether what a train is shown is just this view
abbrev pub is_just : View → Result View ViewFault → Bool
is_just wanted (Ok shown) = is_same_view wanted shown
is_just wanted (Err fault) = false

-- whether the train of the view is shown just this view
abbrev pub is_shown : HistoryOnTrack → View → Bool
is_shown history wanted = is_just wanted (view history.track (scene_now history) wanted.train)

-- what a candidate would grant is entered, unless the history is full or shows the train another view
abbrev pub entry_granted : HistoryOnTrack → Candidate → Result Entry CommitFault
entry_granted history candidate =
    if is_full history
    then Err FullToGrants
    else (if is_shown history candidate.view then Ok (Granted candidate.grant) else Err (Stale (length history.entries)))

-- The call entered what the definition says behind the entries that there were, and gave a receipt for it; or it was refused as the definition
-- says, or memory was, and nothing is changed.
abbrev pub EntersOrMemory : {E : Type 0} → Result Receipt (OrMemory E) → HistoryOnTrack → HistoryOnTrack → Result Entry E → Type 0
EntersOrMemory (Ok receipt) old new answer = (answer ≡ Ok receipt.entry) × (receipt.place ≡ length old.entries) × (new ≡ with_entry old receipt.entry)
EntersOrMemory (Err fault) old new answer = RefusesOrMemory fault answer × (new ≡ old)
