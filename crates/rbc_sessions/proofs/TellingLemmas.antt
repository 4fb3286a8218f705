-- What is told: the record's answer as the reply to its line.
use Rattle.std.proofs.Common.{◌≡◌, ℕ, ◌+◌, Bool, true, false, cond, List, length, Option, Some, None, Result, Ok, Err, refl, sym, ap, ◌∙◌, subst, append-nil, inl, inr, ◌⊎◌}
use Rattle.std.specs.Prelude.{MatchBool, MatchResult, IfSome, is_none, option_map, ◌||◌}
use Rattle.std.specs.Result.{is_err, result_err, result_map_both}
use Rattle.rbc_model.specs.declared.memory.OrMemory.{OrMemory}
use Rattle.rbc_model.specs.declared.memory.OrMemory.TheVariants.{Refused, Memory as NoMemory}
use Rattle.rbc_model.specs.declared.refusals.Refusal.{Refusal}
use Rattle.rbc_model.specs.declared.refusals.Refusal.TheVariants.{Crowded, UnknownGroup}
use Rattle.rbc_model.specs.declared.reports.Told.{Told}
use Rattle.rbc_model.specs.declared.reports.Told.TheVariants.{Report as ToldReport, Lock as ToldLock, Free as ToldFree, Leave as ToldLeave, GiveBack as ToldGiveBack}
use Rattle.rbc_model.specs.declared.reports.Event.TheVariants.{Tell}
use Rattle.rbc_model.specs.Answers.{RefusesOrMemory}
use Rattle.rbc_model.specs.SoundTracks.{IsSound}
use Rattle.rbc_model.specs.Scenes.{Scene}
use Rattle.rbc_model.specs.Tracks.{Track, group_named}
use Rattle.rbc_model.specs.Events.{after_free, after_give_back, after_leave, after_lock, step}
use Rattle.rbc_model.specs.Histories.{Entry, Heard, Receipt}
use Rattle.rbc_model.specs.SessionReply.{Full, BadEvent, accepted_reply, refused_reply}
use Rattle.rbc_sweep.specs.ApplyFault.{ApplyFault}
use Rattle.rbc_sweep.specs.ApplyFault.TheVariants.{Full as FullToTold, Refused as RefusedByScene}
use Rattle.rbc_sweep.specs.Entering.{EntersOrMemory, entry_told, refused_at_once}
use Rattle.rbc_sweep.specs.Records.{history_on, begin_of, HistoryOnTrack, scene_now, is_full}
use Rattle.rbc_sweep.specs.Steps.{is_crowded, told_at_once}
use Rattle.rbc_replies.specs.declared.replies.SessionRefusal.{SessionRefusal}
use Rattle.rbc_replies.specs.Replies.{refusal_view, RefusalIsOfTrack, EventIsOfTrack}
use Rattle.rbc_model.specs.HistoryText.{IsToldOfTrack}
use Rattle.rbc_session_laws.specs.Turns.{AnswersEvent, IsRefused, IsToldInVain, IsAccepted, is_refused_at_once}
use Rattle.rbc_sessions.specs.Changes.{Comes, with_added}
use Rattle.rbc_sessions.specs.Shown.{told_refusal}
use Rattle.rbc_sessions.proofs.NamingLemmas.{RefusalIsNamed, named_told}

-- nothing is added
pub nothing_added : (history : HistoryOnTrack) → history ≡ with_added history None
nothing_added history = ap (history_on (begin_of history)) (sym (append-nil history.entries))

-- ---- what is not refused at once

-- the history is not full, and its scene refuses nothing at once
none_refused : (full : Bool) (refusal : Option Refusal) → cond full (Some FullToTold) (option_map (λ r. RefusedByScene r) refusal) ≡ None → (full ≡ false) × (refusal ≡ None)
none_refused true refusal none = absurd (let c : ⊥ = cc in c)
none_refused false None none = (refl, refl)
none_refused false (Some r) none = absurd (let c : ⊥ = cc in c)

err_none : (answer : Result Scene Refusal) → result_err answer ≡ None → is_err answer ≡ false
err_none (Ok after) none = refl
err_none (Err refusal) none = cc

report_in_vain : (crowded : Bool) (unknown : Bool) → (let r : Option Refusal = cond crowded (Some Crowded) (cond unknown (Some UnknownGroup) None) in r) ≡ None → (crowded || unknown) ≡ false
report_in_vain true unknown none = cc
report_in_vain false true none = cc
report_in_vain false false none = refl

-- what the scene does not refuse at once, the session does not either
told_in_vain : (track : Track) (scene : Scene) (told : Told) → told_at_once track scene told ≡ None → is_refused_at_once track scene told ≡ false
told_in_vain track scene (ToldReport report) none = report_in_vain (is_crowded scene report) (is_none (group_named track report.group)) none
told_in_vain track scene (ToldLock route) none = err_none (after_lock track scene route) none
told_in_vain track scene (ToldFree section) none = err_none (after_free track scene section) none
told_in_vain track scene (ToldLeave train) none = err_none (after_leave scene train) none
told_in_vain track scene (ToldGiveBack train distance) none = err_none (after_give_back track scene train distance) none

-- memory is no refusal that is told at once
pub memory_needed : (refusal : Option ApplyFault) (result : Result Receipt (OrMemory ApplyFault)) (fault : OrMemory ApplyFault) → IfSome refusal (λ r. result ≡ Err (Refused r)) → result ≡ Err fault
    → fault ≡ NoMemory → refusal ≡ None
memory_needed None result fault h is e = refl
memory_needed (Some r) result fault h is e = absurd (let c : ⊥ = cc in c)

-- ---- what is told

module _ (history : HistoryOnTrack) (told : Told) where
  -- the record's answer, where it is full or not and its scene answers so
  abbrev entering : Bool → Result Scene Refusal → Result Entry ApplyFault
  entering full stepped = cond full (Err FullToTold) (result_map_both (λ after. Heard told) (λ refusal. RefusedByScene refusal) stepped)

  -- the reply to it
  abbrev Said : Bool → Result Scene Refusal → List ℕ → Option Entry → Type 0
  Said full stepped reply added =
      MatchBool full
      (IsRefused (begin_of history) history.entries reply added Full)
      (MatchResult stepped (λ after. IsAccepted (begin_of history) history.entries reply added told) (λ refusal. IsRefused (begin_of history) history.entries reply added (BadEvent refusal))
      ⊎ IsToldInVain (begin_of history) history.entries reply added told)

  accepted : (full : Bool) (stepped : Result Scene Refusal) (entry : Entry) → entering full stepped ≡ Ok entry
      → (Heard told ≡ entry) × Said full stepped (accepted_reply (length history.entries + 1)) (Some (Heard told))
  accepted true stepped entry e = absurd (let c : ⊥ = cc in c)
  accepted false (Ok after) entry e = (let same : Heard told ≡ entry = cc in same, inl (refl, refl))
  accepted false (Err refusal) entry e = absurd (let c : ⊥ = cc in c)

  free_for : (full : Bool) (stepped : Result Scene Refusal) (entry : Entry) → entering full stepped ≡ Ok entry → full ≡ false
  free_for true stepped entry e = absurd (let c : ⊥ = cc in c)
  free_for false stepped entry e = refl

  pub entered_free : (entry : Entry) → entry_told history told ≡ Ok entry → is_full history ≡ false
  entered_free entry e = free_for (is_full history) (step history.track (scene_now history) (Tell told)) entry e

  -- what is told is accepted, and the receipt is for it
  pub told_answers : (receipt : Receipt) (place : ℕ) → entry_told history told ≡ Ok receipt.entry → receipt.place ≡ length history.entries → place ≡ receipt.place
      → AnswersEvent (begin_of history) history.entries (accepted_reply (place + 1)) (Some receipt.entry) told
  told_answers receipt place entered next at =
      let is = accepted (is_full history) (step history.track (scene_now history) (Tell told)) receipt.entry entered in
      subst (λ entry. AnswersEvent (begin_of history) history.entries (accepted_reply (place + 1)) (Some entry) told) is.0
      (subst (λ n. AnswersEvent (begin_of history) history.entries (accepted_reply (n + 1)) (Some (Heard told)) told) (sym (at ∙ next)) is.1)

  pub told_comes : (receipt : Receipt) (after : HistoryOnTrack) (place : ℕ) → EntersOrMemory {E = ApplyFault} (Ok receipt) history after (entry_told history told) → place ≡ receipt.place
      → Comes (λ begin entries reply added. AnswersEvent begin entries reply added told) history (accepted_reply (place + 1)) after
  told_comes receipt after place entered at = (Some receipt.entry, told_answers receipt place entered.0 entered.1 at, entered.2)

  abbrev not_told : OrMemory ApplyFault → List ℕ
  not_told fault = refused_reply history.track (refusal_view (told_refusal fault))

  refused_so : (full : Bool) (stepped : Result Scene Refusal) (fault : ApplyFault) → entering full stepped ≡ Err fault → Said full stepped (not_told (Refused fault)) None
  refused_so true stepped fault e = (ap (λ f. not_told (Refused f)) (let same : fault ≡ FullToTold = cc in same), refl)
  refused_so false (Ok after) fault e = absurd (let c : ⊥ = cc in c)
  refused_so false (Err refusal) fault e = inl (ap (λ f. not_told (Refused f)) (let same : fault ≡ RefusedByScene refusal = cc in same), refl)

  given_up : (full : Bool) (stepped : Result Scene Refusal) → full ≡ false → is_refused_at_once history.track (scene_now history) told ≡ false → Said full stepped (not_told NoMemory) None
  given_up true stepped e needed = absurd (let c : ⊥ = cc in c)
  given_up false stepped e needed = inr ((refl, refl), needed)

  -- the definition's refusal, or memory, which is refused only where nothing refuses at once what is told
  pub not_told_answers : (fault : OrMemory ApplyFault) → RefusesOrMemory fault (entry_told history told) → (fault ≡ NoMemory → refused_at_once history told ≡ None)
      → AnswersEvent (begin_of history) history.entries (not_told fault) None told
  not_told_answers (Refused fault) answered free = refused_so (is_full history) (step history.track (scene_now history) (Tell told)) fault answered
  not_told_answers NoMemory answered free =
      let none = none_refused (is_full history) (told_at_once history.track (scene_now history) told) (free refl) in
      given_up (is_full history) (step history.track (scene_now history) (Tell told)) none.0 (told_in_vain history.track (scene_now history) told none.1)

  pub not_told_comes : (fault : OrMemory ApplyFault) (said : SessionRefusal) (after : HistoryOnTrack) → RefusesOrMemory fault (entry_told history told) → (fault ≡ NoMemory → refused_at_once history told ≡ None)
      → said ≡ told_refusal fault → after ≡ history → Comes (λ begin entries reply added. AnswersEvent begin entries reply added told) history (refused_reply history.track (refusal_view said)) after
  not_told_comes fault said after answered free is same = (
    None,
    subst (λ refusal. AnswersEvent (begin_of history) history.entries (refused_reply history.track (refusal_view refusal)) None told) (sym is) (not_told_answers fault answered free),
    same ∙ nothing_added history,
  )

  refusal_named : (full : Bool) (stepped : Result Scene Refusal) (refusal : Refusal) → RefusalIsNamed history.track stepped → entering full stepped ≡ Err (RefusedByScene refusal) → EventIsOfTrack history.track refusal
  refusal_named true stepped refusal named e = absurd (let c : ⊥ = cc in c)
  refusal_named false (Ok after) refusal named e = absurd (let c : ⊥ = cc in c)
  refusal_named false (Err x) refusal named e = subst (EventIsOfTrack history.track) (let same : x ≡ refusal = cc in same) named

  pub not_told_named : (fault : OrMemory ApplyFault) → IsSound history.track → IsToldOfTrack history.track told → RefusesOrMemory fault (entry_told history told) → RefusalIsOfTrack history.track (told_refusal fault)
  not_told_named (Refused FullToTold) sound of_track e = tt
  not_told_named (Refused (RefusedByScene refusal)) sound of_track e =
      refusal_named (is_full history) (step history.track (scene_now history) (Tell told)) refusal (named_told history.track (scene_now history) told sound of_track) e
  not_told_named NoMemory sound of_track e = tt
