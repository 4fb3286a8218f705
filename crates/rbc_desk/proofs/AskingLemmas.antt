-- Lemmas on tries to grant.
use Rattle.std.proofs.Common.{◌≡◌, ℕ, zero, suc, map, replicate, Bool, true, false, length, List, [], ◌∷◌, ◌++◌, Option, Some, None, is_some, Result, Ok, Err, refl, ap, sym, subst, take, ◌∙◌, arith}
use Rattle.std.proofs.lemmas.Bool.{both_ways}
use Rattle.std.proofs.lemmas.List.{take_all}
use Rattle.std.specs.Prelude.{IfErr, IfOk, IfSome, OnErr, slice_get, if◌then◌else◌}
use Rattle.std.specs.Option.{option_map_or}
use Rattle.std.specs.Result.{result_map_both}
use Rattle.rbc_model.specs.declared.memory.OrMemory.{OrMemory}
use Rattle.rbc_model.specs.declared.memory.OrMemory.TheVariants.{Refused, Memory}
use Rattle.rbc_model.specs.declared.refusals.Refusal.{Refusal}
use Rattle.rbc_model.specs.declared.refusals.ViewFault.{ViewFault}
use Rattle.rbc_model.specs.declared.refusals.ViewFault.TheVariants.{UnknownTrain, Blocked as BlockedAt}
use Rattle.rbc_model.specs.declared.reports.Told.{Told}
use Rattle.rbc_model.specs.declared.reports.Event.TheVariants.{Tell}
use Rattle.rbc_model.specs.Events.{step}
use Rattle.rbc_model.specs.Histories.{Entry, Heard, Granted, Receipt}
use Rattle.rbc_model.specs.Scenes.{Scene, train_numbered}
use Rattle.rbc_model.specs.Views.{View, view, view_of}
use Rattle.rbc_snap.specs.SameViews.{is_same_view-decides}
use Rattle.rbc_grant_laws.specs.Candidates.{IsCandidateOf}
use Rattle.rbc_snap.specs.Candidates.{Candidate, HasChosenProfiles}
use Rattle.rbc_snap.specs.CommitFault.{CommitFault}
use Rattle.rbc_snap.specs.CommitFault.TheVariants.{Full as FullToGrants, Stale}
use Rattle.rbc_snap.specs.Present.{has_train}
use Rattle.rbc_snap.specs.Records.{HistoryOnTrack, scene_now, is_full, with_entry}
use Rattle.rbc_snap.specs.Entering.{EntersOrMemory, entry_granted, is_just, is_shown}
use Rattle.rbc_grant_laws.proofs.CandidateLemmas.{view-train}
use Rattle.rbc_snap.specs.ApplyFault.{ApplyFault}
use Rattle.rbc_snap.specs.ApplyFault.TheVariants.{Full as FullToTold, Refused as RefusedByScene}
use Rattle.rbc_snap.specs.Later.{IsLater}
use Rattle.rbc_snap.specs.Looks.{IsSeenIn}
use Rattle.rbc_snap.specs.declared.faults.EyeFault.{EyeFault}
use Rattle.rbc_snap.specs.declared.faults.EyeFault.TheVariants.{Behind, Unshown}
use Rattle.rbc_snap.proofs.LaterLemmas.{later_still}
use Rattle.rbc_desk.specs.declared.faults.AskFault.{AskFault}
use Rattle.rbc_desk.specs.declared.faults.AskFault.TheVariants.{UnknownTrain as UnknownToAsker, Blocked}
use Rattle.rbc_desk.specs.declared.granted.Granted.{Granted as GrantedAtDesk}
use Rattle.rbc_desk.specs.Asking.{fault_at, seen_by, shown, tried, IsAnsweredAt, IsAnsweredThen, IsMadeIn, IsRefused, IsViewIn, Means, Tries}
use Rattle.rbc_desk.specs.Seats.{Seated}
use Rattle.rbc_desk.specs.Telling.{IsToldAt, IsToldThen}

-- what is entered, by what is asked in turn: whether the history is full, whether the candidate's view is shown
abbrev entry_by : Bool → Bool → ℕ → Entry → Result Entry CommitFault
entry_by full just version entry = if full then Err FullToGrants else (if just then Ok entry else Err (Stale version))

only_grant : (full just : Bool) (version : ℕ) (grant entry : Entry) → entry_by full just version grant ≡ Ok entry → (entry ≡ grant) × (full ≡ false) × (just ≡ true)
only_grant true just version grant entry e = cc
only_grant false true version grant entry e = (cc, refl, refl)
only_grant false false version grant entry e = cc

only_full : (full just : Bool) (version : ℕ) (grant : Entry) → entry_by full just version grant ≡ Err FullToGrants → full ≡ true
only_full true just version grant e = refl
only_full false true version grant e = cc
only_full false false version grant e = cc

only_stale : (full just : Bool) (version at : ℕ) (grant : Entry) → entry_by full just version grant ≡ Err (Stale at) → just ≡ false
only_stale true just version at grant e = cc
only_stale false true version at grant e = cc
only_stale false false version at grant e = refl

shown_just : (r : Result View ViewFault) (version : ℕ) (v : View) → is_just v r ≡ true → result_map_both (λ seen. seen) (fault_at version) r ≡ Ok v
shown_just (Ok s) version v e = ap Ok (sym ((is_same_view-decides v s).0 e))
shown_just (Err fault) version v e = cc

the_view : (s v : View) → ◌≡◌ {A = Result View AskFault} (Ok s) (Ok v) → v ≡ s
the_view s v e = cc

pub viewed : (r : Result View ViewFault) (version : ℕ) (v : View) → result_map_both (λ seen. seen) (fault_at version) r ≡ Ok v → r ≡ Ok v
viewed (Ok s) version v e = ap Ok (sym (the_view s v e))
viewed (Err fault) version v e = cc

just_shown : (r : Result View ViewFault) (version : ℕ) (v : View) → result_map_both (λ seen. seen) (fault_at version) r ≡ Ok v → is_just v r ≡ true
just_shown (Ok s) version v e = (is_same_view-decides v s).1 (the_view s v e)
just_shown (Err fault) version v e = cc

-- what a call that enters a candidate's grant answers, as a try
pub tries : (answer : Result Receipt (OrMemory CommitFault)) (old new : HistoryOnTrack) (candidate : Candidate) → has_train old candidate.view.train ≡ true → is_full old ≡ false
    → EntersOrMemory answer old new (entry_granted old candidate) → Tries (tried answer) old new candidate
tries (Ok receipt) old new candidate known room e =
    let grant = only_grant (is_full old) (is_shown old candidate.view) (length old.entries) (Granted candidate.grant) receipt.entry e.0 in (
      grant.0,
      e.1,
      e.2 ∙ ap (λ entry. with_entry old entry) grant.0,
      shown_just (view old.track (scene_now old) candidate.view.train) (length old.entries) candidate.view grant.2,
      grant.1,
    )
tries (Err (Refused FullToGrants)) old new candidate known room e =
    absurd (both_ways (is_full old) room (only_full (is_full old) (is_shown old candidate.view) (length old.entries) (Granted candidate.grant) e.0))
tries (Err (Refused (Stale at))) old new candidate known room e =
    let other = only_stale (is_full old) (is_shown old candidate.view) (length old.entries) at (Granted candidate.grant) e.0 in
    ((λ current. both_ways (is_shown old candidate.view) other (just_shown (view old.track (scene_now old) candidate.view.train) (length old.entries) candidate.view current)), e.1)
tries (Err Memory) old new candidate known room e = (known, e.1)

-- ---- trains that are there

viewed_there : {A E V : Type 0} (see : A → Result V E) (refusal : E) (v : V) (o : Option A) → option_map_or see o (Err refusal) ≡ Ok v → is_some o ≡ true
viewed_there see refusal v None e = cc
viewed_there see refusal v (Some a) e = refl

unseen : {A E V : Type 0} (see : A → Result V E) (refusal : E) (o : Option A) → is_some o ≡ false → option_map_or see o (Err refusal) ≡ Err refusal
unseen see refusal None e = refl
unseen see refusal (Some a) e = cc

-- a train that is not there is told to be missing
pub missing_shown : (history : HistoryOnTrack) (train : ℕ) → has_train history train ≡ false → shown history train ≡ Err UnknownToAsker
missing_shown history train e =
    ap (result_map_both (λ seen. seen) (fault_at (length history.entries))) (unseen (view_of history.track (scene_now history)) UnknownTrain (train_numbered (scene_now history) train) e)

-- a train that is shown a view is there
pub known_shown : (history : HistoryOnTrack) (train : ℕ) (v : View) → view history.track (scene_now history) train ≡ Ok v → has_train history train ≡ true
known_shown history train v e = viewed_there (view_of history.track (scene_now history)) UnknownTrain v (train_numbered (scene_now history) train) e

-- ---- what a history shows that has grown, or has not

-- a history that has as many entries as one that it goes on from is that one
the_same : (told history : HistoryOnTrack) → IsLater told history → length told.entries ≡ length history.entries → told ≡ history
the_same told history later as_many =
    let all : take (length told.entries) history.entries ≡ history.entries = take_all (length told.entries) history.entries (omega (arith, as_many)) in
    λ i. record { track = sym later.track i; begin = sym later.begin i; most = sym later.most i; entries = (sym later.opening ∙ all) i }

-- a candidate for what its seat was told is one for a history that goes on from that, if no more was entered
pub made_still : (told history : HistoryOnTrack) (candidate : Candidate) → IsLater told history → IsMadeIn told candidate → candidate.version ≡ length history.entries → IsMadeIn history candidate
made_still told history candidate later made same = subst (λ (h : HistoryOnTrack). IsMadeIn h candidate) (the_same told history later (sym made.1 ∙ same)) made

-- a candidate of the view that a train is shown, at its version
pub made_of : (history : HistoryOnTrack) (train : ℕ) (seen : View × ℕ) (candidate : Candidate) → IsViewIn history train seen → candidate.view ≡ seen.0 → candidate.version ≡ seen.1 → IsMadeIn history candidate
made_of history train seen candidate shows view_is version_is =
    let same : candidate.view.train ≡ train = ap (λ (v : View). v.train) view_is ∙ view-train history.track (scene_now history) train seen.0 shows.0 in
    (subst (λ n. view history.track (scene_now history) n ≡ Ok candidate.view) (sym same) (shows.0 ∙ ap Ok (sym view_is)), version_is ∙ shows.1)

-- so it is shown its view
pub shown_made : (history : HistoryOnTrack) (candidate : Candidate) → IsMadeIn history candidate → shown history candidate.view.train ≡ Ok candidate.view
shown_made history candidate made = ap (result_map_both (λ seen. seen) (fault_at (length history.entries))) made.0

-- the train of a view is the one that asked
pub train_of : (history : HistoryOnTrack) (train : ℕ) (seen : View × ℕ) → IsViewIn history train seen → seen.0.train ≡ train
train_of history train seen shows = view-train history.track (scene_now history) train seen.0 shows.0

-- ---- what an eye shows

seen_view : (old new : HistoryOnTrack) (train : ℕ) (answer : Result (View × ℕ) (OrMemory EyeFault)) → IsSeenIn old new train answer → IfOk (seen_by answer) (λ seen. IfSome seen (IsViewIn new train))
seen_view old new train (Ok seen) h = h
seen_view old new train (Err (Refused (Behind version))) h = tt
seen_view old new train (Err (Refused (Unshown fault version))) h = tt
seen_view old new train (Err Memory) h = tt

unshown : (new : HistoryOnTrack) (train version : ℕ) (fault : ViewFault) → view new.track (scene_now new) train ≡ Err fault → version ≡ length new.entries → IsRefused new train (Refused (fault_at version fault))
unshown new train version UnknownTrain e is = ap (result_map_both (λ seen. seen) (fault_at (length new.entries))) e
unshown new train version (BlockedAt obstacle at) e is =
    ap (result_map_both (λ seen. seen) (fault_at (length new.entries))) e ∙ ap (λ n. Err (Blocked obstacle at n)) (sym is)

seen_denied : (old new : HistoryOnTrack) (train : ℕ) (answer : Result (View × ℕ) (OrMemory EyeFault)) → IsLater old new → IsSeenIn old new train answer
    → IfErr (seen_by answer) (λ fault. IsAnsweredThen old new train (Err fault))
seen_denied old new train (Ok seen) later h = tt
seen_denied old new train (Err (Refused (Behind version))) later h = tt
seen_denied old new train (Err (Refused (Unshown fault version))) later h =
    record { before = new; later = later; answered = unshown new train version fault h.0 h.1; told = refl }
seen_denied old new train (Err Memory) later h = record { before = new; later = later; answered = h; told = refl }

-- an answer that is known to be what an eye shows: its view is one in what was told, and its fault is one that is answered
pub look_view : (old new : HistoryOnTrack) (train : ℕ) (seen : Result (View × ℕ) (OrMemory EyeFault)) (answer : Result (Option (View × ℕ)) (OrMemory AskFault)) → answer ≡ seen_by seen → IsSeenIn old new train seen
    → IfOk answer (λ seen. IfSome seen (IsViewIn new train))
look_view old new train seen answer e h = subst (λ a. IfOk a (λ seen. IfSome seen (IsViewIn new train))) (sym e) (seen_view old new train seen h)

pub look_denied : (old new : HistoryOnTrack) (train : ℕ) (seen : Result (View × ℕ) (OrMemory EyeFault)) (answer : Result (Option (View × ℕ)) (OrMemory AskFault)) → answer ≡ seen_by seen → IsLater old new → IsSeenIn old new train seen
    → IfErr answer (λ fault. IsAnsweredThen old new train (Err fault))
look_denied old new train seen answer e later h = subst (λ a. IfErr a (λ fault. IsAnsweredThen old new train (Err fault))) (sym e) (seen_denied old new train seen later h)

-- ---- what there is after an answer

-- what goes on from a history goes on from what that goes on from
pub since_before : (first begun new : HistoryOnTrack) (train : ℕ) (answer : Result GrantedAtDesk (OrMemory AskFault)) → IsLater first begun → IsAnsweredThen begun new train answer → IsAnsweredThen first new train answer
since_before first begun new train answer later since = record {
  before = since.before;
  later = later_still first begun since.before later since.later;
  answered = since.answered;
  told = since.told;
}

-- what goes on from a history goes on from what that goes on from, for the train that asked
pub since_asked : (first begun new : HistoryOnTrack) (train asked : ℕ) (answer : Result GrantedAtDesk (OrMemory AskFault)) → IsLater first begun → train ≡ asked → IsAnsweredThen begun new train answer → IsAnsweredThen first new asked answer
since_asked first begun new train asked answer later same since =
    subst (λ n. IsAnsweredThen first new n answer) same (since_before first begun new train answer later since)

got_last : {X : Type 0} (xs : List X) (x : X) → slice_get (xs ++ x ∷ []) (length xs) ≡ Some x
got_last [] x = refl
got_last (y ∷ xs) x = got_last xs x

entered_place : (before after : HistoryOnTrack) (place : ℕ) (entry : Entry) → place ≡ length before.entries → after ≡ with_entry before entry → slice_get after.entries place ≡ Some entry
entered_place before after place entry at is =
    (λ i. slice_get ((is i).entries) (at i)) ∙ got_last before.entries entry

-- what a train that asks is granted
module _ (begun new : HistoryOnTrack) (train : ℕ) where
  pub since_means : (answer : Result GrantedAtDesk (OrMemory AskFault)) → IsAnsweredThen begun new train answer → IfOk answer (Means new train)
  since_means (Ok granted) since =
      let a = since.answered in
      let h = since.before in record {
        entry = a.3;
        place = entered_place h new granted.receipt.place granted.receipt.entry a.2 since.told;
        train = view-train h.track (scene_now h) train granted.candidate.view (viewed (view h.track (scene_now h) train) (length h.entries) granted.candidate.view a.1);
        best = a.4;
        chosen = a.5;
      }
  since_means (Err fault) since = tt

-- ---- what a seat has after an answer

module _ (had has : Seated) (train : ℕ) where
  pub granted_at : (granted : GrantedAtDesk) → IsAnsweredThen had.told has.told train (Ok granted) → IsLater had.told has.told → has.receipts ≡ had.receipts ++ granted.receipt ∷ []
      → IsAnsweredAt had has train (Ok granted)
  granted_at granted since later receipt = record { since = since; later = later; receipt = receipt; means = since_means had.told has.told train (Ok granted) since; refused = tt }

  pub refused_at : (fault : OrMemory AskFault) → IsAnsweredThen had.told has.told train (Err fault) → IsLater had.told has.told → has.receipts ≡ had.receipts
      → IsAnsweredAt had has train (Err fault)
  refused_at fault since later none = record { since = since; later = later; receipt = tt; means = tt; refused = none }

-- of a seat that was told what there was, and then what there is once a candidate was tried
module _ (had has : Seated) (old new : HistoryOnTrack) (candidate : Candidate) (before : IsLater had.told old) (told : has.told ≡ new) (later : IsLater had.told has.told) where
  pub tried_granted : (receipt : Receipt) → Tries (Ok (Some receipt)) old new candidate → IsCandidateOf candidate.view candidate.grant → HasChosenProfiles candidate.view candidate.grant
      → has.receipts ≡ had.receipts ++ receipt ∷ [] → IsAnsweredAt had has candidate.view.train (Ok (record { receipt = receipt; candidate = candidate }))
  tried_granted receipt t best chosen gains =
      granted_at had has candidate.view.train (record { receipt = receipt; candidate = candidate })
      (record { before = old; later = before; answered = (t.4, t.3, t.1, t.0, best, chosen); told = told ∙ t.2 ∙ ap (λ entry. with_entry old entry) (sym t.0) }) later gains

  pub tried_refused : (fault : OrMemory AskFault) → Tries (Err fault) old new candidate → has.receipts ≡ had.receipts → IsAnsweredAt had has candidate.view.train (Err fault)
  tried_refused fault t none = refused_at had has candidate.view.train fault (record { before = old; later = before; answered = t.0; told = told ∙ t.1 }) later none

-- of a seat that was told more meanwhile, and gained nothing
module _ (first had has : Seated) (later : IsLater first.told had.told) (none : had.receipts ≡ first.receipts) where
  pub answered_since : (train asked : ℕ) (answer : Result GrantedAtDesk (OrMemory AskFault)) → train ≡ asked → IsAnsweredAt had has train answer → IsAnsweredAt first has asked answer
  answered_since train asked (Ok granted) same h =
      granted_at first has asked granted (since_asked first.told had.told has.told train asked (Ok granted) later same h.since) (later_still first.told had.told has.told later h.later)
      (h.receipt ∙ ap (λ receipts. receipts ++ granted.receipt ∷ []) none)
  answered_since train asked (Err fault) same h =
      refused_at first has asked fault (since_asked first.told had.told has.told train asked (Err fault) later same h.since) (later_still first.told had.told has.told later h.later) (h.refused ∙ none)

-- ---- what is told

told_place : (begun after : HistoryOnTrack) (told : Told) (receipt : Receipt) → IsToldThen begun after told (Ok receipt) → slice_get after.entries receipt.place ≡ Some receipt.entry
told_place begun after told receipt since = let e = since.entered in entered_place since.before after receipt.place receipt.entry e.1 e.2

only_told : (full : Bool) (told : Told) (stepped : Result Scene Refusal) (entry : Entry)
    → (if full then Err FullToTold else result_map_both (λ after. Heard told) (λ refusal. RefusedByScene refusal) stepped) ≡ Ok entry → entry ≡ Heard told
only_told true told stepped entry e = cc
only_told false told (Ok after) entry e = cc
only_told false told (Err refusal) entry e = cc

-- what the seat has then
pub told_at : (had has : Seated) (told : Told) (answer : Result Receipt (OrMemory ApplyFault)) → IsToldThen had.told has.told told answer → IsLater had.told has.told
    → IfOk answer (λ receipt. has.receipts ≡ had.receipts ++ receipt ∷ []) → OnErr answer (has.receipts ≡ had.receipts) → IsToldAt had has told answer
told_at had has told (Ok receipt) since later gains none =
    let before = since.before in
    let entered = since.entered in
    record {
      since = since;
      later = later;
      receipt = gains;
      entry = only_told (is_full before) told (step before.track (scene_now before) (Tell told)) receipt.entry entered.0;
      place = told_place had.told has.told told receipt since;
      refused = tt;
    }
told_at had has told (Err fault) since later gains none = record { since = since; later = later; receipt = tt; entry = tt; place = tt; refused = none }

-- ---- what a seat is told in a hold

-- brought to what there was, and then to what there is
pub later_twice : (a b c d e : HistoryOnTrack) → IsLater a b → c ≡ b → IsLater c d → e ≡ d → IsLater a e
later_twice a b c d e ab cb cd ed = subst (IsLater a) (sym ed) (later_still a c d (subst (IsLater a) (sym cb) ab) cd)

-- ---- the seats of a new desk

pub map_replicate : {X Y : Type 0} (f : X → Y) (n : ℕ) (x : X) → map f (replicate n x) ≡ replicate n (f x)
map_replicate f zero x = refl
map_replicate f (suc n) x = ap (λ ys. f x ∷ ys) (map_replicate f n x)
