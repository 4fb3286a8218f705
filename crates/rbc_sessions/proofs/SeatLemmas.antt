-- What is told and asked at a desk: the desk's answer as the reply to its line.
use Rattle.std.proofs.Common.{◌≡◌, ℕ, ◌+◌, ◌<◌, ◌≤◌, false, List, length, Option, Some, None, Result, Ok, Err, sym, ap, ◌∙◌, subst, ℤ, arith}
use Rattle.std.proofs.lemmas.Bool.{leb-false}
use Rattle.std.specs.Prelude.{nat_le, IfOk}
use Rattle.std.specs.Result.{result_map_both}
use Rattle.rbc_model.specs.Scenes.{Scene}
use Rattle.rbc_model.specs.declared.memory.OrMemory.{OrMemory}
use Rattle.rbc_model.specs.declared.memory.OrMemory.TheVariants.{Refused}
use Rattle.rbc_model.specs.declared.refusals.Obstacle.{Obstacle}
use Rattle.rbc_model.specs.declared.refusals.ViewFault.{ViewFault}
use Rattle.rbc_model.specs.declared.refusals.ViewFault.TheVariants.{UnknownTrain as NoTrainShown, Blocked as BlockedAt}
use Rattle.rbc_model.specs.declared.reports.Told.{Told}
use Rattle.rbc_model.specs.Answers.{RefusesOrMemory}
use Rattle.rbc_model.specs.SoundTracks.{IsInForm, IsSound}
use Rattle.rbc_model.specs.Tracks.{Track}
use Rattle.rbc_model.specs.Views.{View, view}
use Rattle.rbc_model.specs.Histories.{Beginning, Entry, Receipt, replay}
use Rattle.rbc_model.specs.SessionReply.{accepted_reply, refused_reply}
use Rattle.rbc_grant_laws.specs.Candidates.{IsCandidateOf}
use Rattle.rbc_grant_laws.proofs.CandidateLemmas.{view-train}
use Rattle.rbc_sweep.specs.Candidates.{HasChosenProfiles}
use Rattle.rbc_sweep.specs.ApplyFault.{ApplyFault}
use Rattle.rbc_model.specs.declared.limits.TheConstants.{MOST_ENTRIES}
use Rattle.rbc_sweep.specs.Entering.{entry_told}
use Rattle.rbc_sweep.specs.Records.{IsRight, begin_on, begin_of, HistoryOnTrack, history_on}
use Rattle.rbc_sweep.specs.AskFault.{AskFault}
use Rattle.rbc_sweep.specs.AskFault.TheVariants.{Blocked}
use Rattle.rbc_sweep.specs.Granted.{Granted as GrantedAtDesk}
use Rattle.rbc_sweep.specs.Asking.{fault_at, IsAnswered, IsAnsweredThen}
use Rattle.rbc_sweep.specs.Seats.{Seated}
use Rattle.rbc_sweep.specs.Telling.{IsToldThen}
use Rattle.rbc_sweep.proofs.AskingLemmas.{viewed}
use Rattle.rbc_replies.specs.Replies.{refusal_view, ObstacleIsOfTrack, RefusalIsOfTrack, ReplyIsWhole, grant_text}
use Rattle.rbc_replies.specs.declared.replies.ToldGrant.{ToldGrant}
use Rattle.rbc_replies.specs.declared.replies.SessionReply.{SessionReply}
use Rattle.rbc_model.specs.HistoryText.{IsToldOfTrack}
use Rattle.rbc_sessions.specs.SeatTurns.{IsAnsweredSince}
use Rattle.rbc_session_laws.specs.Turns.{AnswersAuthority, AnswersEvent}
use Rattle.rbc_sessions.specs.Shown.{told_refusal, entry_granted_in, IsToldOf}
use Rattle.rbc_sessions.proofs.AskingLemmas.{blocked_named, shown_named, granted_answers, told_whole}
use Rattle.rbc_sessions.proofs.TellingLemmas.{nothing_added, told_answers, not_told_answers, not_told_named}

pub below_most : (most n : ℕ) → most ≤ MOST_ENTRIES → nat_le most n ≡ false → n < MOST_ENTRIES
below_most most n bounded e = let few = leb-false most n e in omega (arith, bounded, few)

-- ---- what is told

-- the history that was answered after is on the track of what had been told
told_on : (begun after : HistoryOnTrack) (told : Told) (answer : Result Receipt (OrMemory ApplyFault)) (track : Track) → begun.track ≡ track → (since : IsToldThen begun after told answer)
    → since.before.track ≡ track
told_on begun after told answer track on since = let later = since.later in later.track ∙ on

pub told_at_desk : (told : Told) (receipt : Receipt) (place : ℕ) (old new : Seated) → IsToldThen old.told new.told told (Ok receipt) → place ≡ receipt.place
    → IsAnsweredSince (λ begin entries added. AnswersEvent begin entries (accepted_reply (place + 1)) added told) old.told new.told (Some receipt)
told_at_desk told receipt place old new since at =
    let entered = since.entered in record {
      before = since.before;
      later = since.later;
      answered = told_answers since.before told receipt place entered.0 entered.1 at;
      next = entered.1;
      told = entered.2;
    }

pub not_told_at_desk : (told : Told) (fault : OrMemory ApplyFault) (track : Track) (old new : Seated) → old.told.track ≡ track → IsToldThen old.told new.told told (Err fault)
    → IsAnsweredSince (λ t entries added. AnswersEvent t entries (refused_reply track (refusal_view (told_refusal fault))) added told) old.told new.told None
not_told_at_desk told fault track old new on since =
    let entered = since.entered in
    let before = since.before in record {
      before = before;
      later = since.later;
      answered = subst (λ t. AnswersEvent (begin_of before) before.entries (refused_reply t (refusal_view (told_refusal fault))) None told) (told_on old.told new.told told (Err fault) track on since)
          (not_told_answers before told fault entered.0 (λ e. since.needed (ap Err e)));
      next = tt;
      told = entered.1 ∙ nothing_added before;
    }

pub not_told_named_at_desk : (told : Told) (fault : OrMemory ApplyFault) (track : Track) (begun after : HistoryOnTrack) → IsSound track → IsToldOfTrack track told → begun.track ≡ track
    → IsToldThen begun after told (Err fault) → RefusalIsOfTrack track (told_refusal fault)
not_told_named_at_desk told fault track begun after sound of_track on since =
    let is = told_on begun after told (Err fault) track on since in
    let entered = since.entered in
    let before = since.before in
    not_told_named (history_on (begin_on track before.begin before.most) before.entries) told fault sound of_track
    (subst (λ t. RefusesOrMemory fault (entry_told (history_on (begin_on t before.begin before.most) before.entries) told)) is entered.0)

-- ---- what is asked

stopped_at : (r : Result View ViewFault) (version : ℕ) (obstacle : Obstacle) (at : ℤ) (seen_at : ℕ) → result_map_both (λ s. s) (fault_at version) r ≡ Err (Blocked obstacle at seen_at)
    → (r ≡ Err (BlockedAt obstacle at)) × (seen_at ≡ version)
stopped_at (Ok s) version obstacle at seen_at e = absurd (let c : ⊥ = cc in c)
stopped_at (Err NoTrainShown) version obstacle at seen_at e = absurd (let c : ⊥ = cc in c)
stopped_at (Err (BlockedAt other place)) version obstacle at seen_at e =
    let same : other ≡ obstacle = cc in let placed : place ≡ at = cc in let version_told : seen_at ≡ version = cc in
    (ap (λ o. Err (BlockedAt o place)) same ∙ ap (λ p. Err (BlockedAt obstacle p)) placed, version_told)

module _ (begin : Beginning) (entries : List Entry) (train : ℕ) where
  abbrev there : HistoryOnTrack
  there = history_on begin entries

  abbrev shown_there : Result View ViewFault
  shown_there = view begin.track (replay begin entries) train

  pub asked_blocked_named : (obstacle : Obstacle) (at : ℤ) (version : ℕ) → IsRight there → IsSound begin.track → IsAnswered there train (Err (Refused (Blocked obstacle at version))) → ObstacleIsOfTrack begin.track obstacle
  asked_blocked_named obstacle at version right sound is = let stop = stopped_at shown_there (length entries) obstacle at version is in blocked_named there train obstacle at right sound stop.0

  module _ (granted : GrantedAtDesk) (is : IsAnswered there train (Ok granted)) where
    shown_to : shown_there ≡ Ok granted.candidate.view
    shown_to = viewed shown_there (length entries) granted.candidate.view is.1

    its_train : granted.candidate.view.train ≡ train
    its_train = view-train begin.track (replay begin entries) train granted.candidate.view shown_to

    module _ (place : ℕ) (told : ToldGrant) (of_candidate : IsToldOf granted.candidate (place + 1) told)
        (best : IsCandidateOf granted.candidate.view granted.candidate.grant) (chosen : HasChosenProfiles granted.candidate.view granted.candidate.grant) where
      pub asked_granted : place ≡ granted.receipt.place → IsInForm begin.track → AnswersAuthority begin entries (grant_text begin.track told) (Some granted.receipt.entry) train
      asked_granted at form =
          subst (λ n. AnswersAuthority begin entries (grant_text begin.track told) (Some granted.receipt.entry) n) its_train
          (subst (λ entry. AnswersAuthority begin entries (grant_text begin.track told) (Some entry) granted.candidate.view.train) (sym is.3)
          (granted_answers there granted.candidate place told is.0 (at ∙ is.2) of_candidate best chosen form
          (subst (λ n. view begin.track (replay begin entries) n ≡ Ok granted.candidate.view) (sym its_train) shown_to)))

      pub asked_granted_whole : IsRight there → IsSound begin.track → ObstacleIsOfTrack begin.track told.obstacle
      asked_granted_whole right sound = told_whole begin.track granted.candidate (place + 1) told of_candidate best chosen (shown_named there train granted.candidate.view right sound shown_to)

-- the history that was answered after is on the track of what had been told
asked_on : (begun after : HistoryOnTrack) (train : ℕ) (answer : Result GrantedAtDesk (OrMemory AskFault)) (track : Track) → begun.track ≡ track → (since : IsAnsweredThen begun after train answer)
    → IsAnswered (history_on (begin_on track since.before.begin since.before.most) since.before.entries) train answer
asked_on begun after train answer track on since =
    let before = since.before in
    let later = since.later in
    subst (λ t. IsAnswered (history_on (begin_on t before.begin before.most) before.entries) train answer) (later.track ∙ on) since.answered

-- the receipt for what a train is granted, if it is
abbrev pub receipt_in : Result GrantedAtDesk (OrMemory AskFault) → Option Receipt
receipt_in (Ok granted) = Some granted.receipt
receipt_in (Err fault) = None

-- the answer after a history that goes on from what the seat had been told, as a reply to a train that asks
pub asked_at_desk : (train : ℕ) (track : Track) (reply : List ℕ) (answer : Result GrantedAtDesk (OrMemory AskFault)) (old new : Seated) → old.told.track ≡ track
    → IsAnsweredThen old.told new.told train answer
    → ((scene : Scene) (most : ℕ) (entries : List Entry) → IsAnswered (history_on (begin_on track scene most) entries) train answer → AnswersAuthority (begin_on track scene most) entries reply (entry_granted_in answer) train)
    → IsAnsweredSince (λ t entries added. AnswersAuthority t entries reply added train) old.told new.told (receipt_in answer)
asked_at_desk train track reply (Ok granted) old new on since says =
    let before = since.before in
    let later = since.later in
    let answered = since.answered in record {
      before = before;
      later = later;
      answered = subst (λ t. AnswersAuthority (begin_on t before.begin before.most) before.entries reply (Some granted.receipt.entry) train) (sym (later.track ∙ on))
          (says before.begin before.most before.entries (asked_on old.told new.told train (Ok granted) track on since));
      next = answered.2;
      told = since.told;
    }
asked_at_desk train track reply (Err fault) old new on since says =
    let before = since.before in
    let later = since.later in record {
      before = before;
      later = later;
      answered = subst (λ t. AnswersAuthority (begin_on t before.begin before.most) before.entries reply None train) (sym (later.track ∙ on))
          (says before.begin before.most before.entries (asked_on old.told new.told train (Err fault) track on since));
      next = tt;
      told = since.told ∙ nothing_added before;
    }

pub asked_below : (begun after : HistoryOnTrack) (train : ℕ) (answer : Result GrantedAtDesk (OrMemory AskFault)) → IsAnsweredThen begun after train answer → IfOk answer (λ granted. granted.receipt.place < MOST_ENTRIES)
asked_below begun after train (Ok granted) since =
    let answered = since.answered in
    let later = since.later in
    let below = below_most since.before.most (length since.before.entries) later.right.bounded answered.0 in
    let at = answered.2 in omega arith
asked_below begun after train (Err fault) since = tt

pub asked_whole : (train : ℕ) (track : Track) (answer : Result GrantedAtDesk (OrMemory AskFault)) (reply : SessionReply) (begun after : HistoryOnTrack) → begun.track ≡ track
    → IsAnsweredThen begun after train answer → ((scene : Scene) (most : ℕ) (entries : List Entry) → IsRight (history_on (begin_on track scene most) entries) → IsAnswered (history_on (begin_on track scene most) entries) train answer → ReplyIsWhole track reply)
    → ReplyIsWhole track reply
asked_whole train track answer reply begun after on since whole =
    let before = since.before in
    let later = since.later in
    whole before.begin before.most before.entries
    (subst (λ t. IsRight (history_on (begin_on t before.begin before.most) before.entries)) (later.track ∙ on) later.right)
    (asked_on begun after train answer track on since)
