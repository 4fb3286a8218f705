-- A record keeps what it keeps, when an entry is added that may follow.
use Rattle.std.proofs.Common.{◌≡◌, ℕ, ◌<◌, ◌≤◌, Bool, cond, List, [], ◌∷◌, ◌++◌, true, false, Option, Some, None, length, map, Result, Ok, Err, refl, sym, ap, ◌∙◌, subst, arith, length-append}
use Rattle.std.specs.Prelude.{IsTrue, is_ok, IfOk, option_map}
use Rattle.std.proofs.lemmas.Bool.{leb-false}
use Rattle.std.proofs.lemmas.List.{map-append}
use Rattle.std.specs.Result.{result_unwrap_or}
use Rattle.std.proofs.lemmas.List.Sums.{fold_push}
use Rattle.rbc_model.specs.declared.reports.Told.{Told}
use Rattle.rbc_model.specs.Lines.{Line}
use Rattle.rbc_model.specs.Tracks.{Track}
use Rattle.rbc_model.specs.SoundTracks.{IsInForm, IsSound}
use Rattle.rbc_model.specs.Scenes.{Scene}
use Rattle.rbc_model.specs.Views.{View, view}
use Rattle.rbc_model.specs.declared.memory.OrMemory.{OrMemory}
use Rattle.rbc_model.specs.declared.refusals.ViewFault.{ViewFault}
use Rattle.rbc_model.specs.Answers.{AnswersOrMemory}
use Rattle.rbc_model.specs.Events.{after_grant, after_told, step}
use Rattle.rbc_model.specs.Histories.{Beginning, Entry, Heard, Granted, Grants, MayFollow, IsBestHistory, event_of, scene_after, replay}
use Rattle.rbc_model.proofs.LegalLemmas.{IsLegal-empty, IsLegal-append}
use Rattle.rbc_grant_laws.specs.Candidates.{IsCandidateOf}
use Rattle.rbc_grant_laws.proofs.CandidateLemmas.{MayFollow-candidate, is_ok-candidate, view-train}
use Rattle.rbc_grant.specs.ScenesOnTracks.{SceneOnTrack}
use Rattle.rbc_grant.specs.SameViews.{is_same_view-decides}
use Rattle.rbc_grant.specs.Steps.{LeadTo, told_at_once}
use Rattle.rbc_model.specs.declared.limits.TheConstants.{MOST_ENTRIES}
use Rattle.rbc_scene_laws.specs.Good.{IsGoodScene}
use Rattle.rbc_scene_laws.proofs.KeptLemmas.{IsBestHistory-of_legal}
use Rattle.rbc_record.specs.declared.entry.Entry.{Entry as EntryHeld}
use Rattle.rbc_record.specs.declared.entry.Entry.TheVariants.{Heard as HeardHeld, Granted as GrantedHeld}
use Rattle.rbc_record.specs.Entries.{entry_of}
use Rattle.rbc_record.specs.declared.faults.ApplyFault.{ApplyFault}
use Rattle.rbc_record.specs.declared.faults.ApplyFault.TheVariants.{Full as FullToTold, Refused as RefusedByScene}
use Rattle.rbc_record.specs.Entering.{is_just, is_shown, refused_at_once}
use Rattle.rbc_record.specs.Records.{HistoryOnTrack, IsKept, IsRight, begin_of, begin_on, history_on, is_full, scene_now}
use Rattle.rbc_record.proofs.LeadingLemmas.{leads}

-- ---- the empty history

pub kept_empty : (begin : SceneOnTrack) (most : ℕ) → IsInForm begin.track → IsSound begin.track → IsGoodScene begin.track begin.scene → most ≤ MOST_ENTRIES
    → IsKept begin begin.scene most []
kept_empty begin most form sound good bounded = record {
  form = form;
  sound = sound;
  right = record { good = good; bounded = bounded; legal = IsLegal-empty (begin_on begin.track begin.scene most) };
  replayed = refl;
  few = omega arith;
}

-- ---- views

shown_just : (wanted : View) (answer : Result View ViewFault) → is_just wanted answer ≡ true → answer ≡ Ok wanted
shown_just wanted (Ok shown) h = ap Ok (sym ((is_same_view-decides wanted shown).0 h))
shown_just wanted (Err fault) h = cc

-- the train of the view is shown it
pub view_shown : (now : HistoryOnTrack) (v : View) → is_shown now v ≡ true → view now.track (scene_now now) v.train ≡ Ok v
view_shown now v h = shown_just v (view now.track (scene_now now) v.train) h

pub shown_is : (now : HistoryOnTrack) (v : View) → view now.track (scene_now now) v.train ≡ Ok v → is_shown now v ≡ true
shown_is now v e = ap (is_just v) e ∙ (is_same_view-decides v v).1 refl

shown_before : (scene : SceneOnTrack) (begin : Scene) (most : ℕ) (entries : List Entry) (now : HistoryOnTrack) → history_on (begin_on scene.track begin most) entries ≡ now → IsKept scene begin most entries → (v : View) → is_shown now v ≡ true
    → view scene.track scene.scene v.train ≡ Ok v
shown_before scene begin most entries now is kept v h =
    let k = kept in
    subst (λ s. view scene.track s v.train ≡ Ok v) (sym k.replayed)
    (subst (λ (history : HistoryOnTrack). view history.track (scene_now history) v.train ≡ Ok v) (sym is) (view_shown now v h))

pub train_shown : (track : Track) (scene : Scene) (number : ℕ) (result : Result View (OrMemory ViewFault)) → AnswersOrMemory result (view track scene number) → IfOk result (λ v. v.train ≡ number)
train_shown track scene number (Ok v) h = view-train track scene number v h
train_shown track scene number (Err fault) h = tt

-- ---- room

not_full_by : (full : Bool) (fault : Option ApplyFault) → cond full (Some FullToTold) fault ≡ None → full ≡ false
not_full_by true fault none = cc
not_full_by false fault none = refl

-- what is not refused at once has room
pub not_full : (history : HistoryOnTrack) (told : Told) → refused_at_once history told ≡ None → is_full history ≡ false
not_full history told none =
    not_full_by (is_full history) (option_map (λ refusal. RefusedByScene refusal) (told_at_once history.track (scene_now history) told)) none

-- ---- one entry more

-- the scene after an entry whose event is accepted
replay_push : (begin : Beginning) (entries : List Entry) (entry : Entry) (scene after : Scene) → scene ≡ replay begin entries → step begin.track scene (event_of entry) ≡ Ok after
    → after ≡ replay begin (entries ++ entry ∷ [])
replay_push begin entries entry scene after is steps =
    sym
    (fold_push (scene_after begin.track) begin.scene entries entry
    ∙ ap (λ s. scene_after begin.track s entry) (sym is)
    ∙ ap (λ r. result_unwrap_or r scene) steps)

-- something told may follow where its event is accepted
told_may_follow : (begin : Beginning) (entries : List Entry) (told : Told) (scene after : Scene) → scene ≡ replay begin entries → step begin.track scene (event_of (Heard told)) ≡ Ok after
    → MayFollow begin entries (Heard told)
told_may_follow begin entries told scene after is steps = record {
  accepted = subst (λ s. IsTrue (is_ok (step begin.track s (event_of (Heard told))))) is (subst (λ r. IsTrue (is_ok r)) (sym steps) refl);
  best = λ grant same. no_grant grant same;
}
  where
    no_grant : {P : Type 0} (grant : Grants) → Heard told ≡ Granted grant → P
    no_grant grant same = cc

module _ (before after : SceneOnTrack) (begin : Scene) (most : ℕ) (entries : List Entry) (kept : IsKept before begin most entries) (room : length entries < most) (same : after.track ≡ before.track) where
  kept_with : (entry : Entry) → step before.track before.scene (event_of entry) ≡ Ok after.scene → MayFollow (begin_on before.track begin most) entries entry → IsKept after begin most (entries ++ entry ∷ [])
  kept_with entry steps may =
      let k = kept in
      subst (λ t. IsKept (record { track = t; scene = after.scene }) begin most (entries ++ entry ∷ [])) (sym same)
      (record {
        form = k.form;
        sound = k.sound;
        right = record {
          good = k.right.good;
          bounded = k.right.bounded;
          legal = IsLegal-append (begin_on before.track begin most) entries entry k.right.legal may;
        };
        replayed = replay_push (begin_on before.track begin most) entries entry before.scene after.scene k.replayed steps;
        few = let few = room in omega (arith, length-append entries (entry ∷ []));
      })

  pub kept_told : (told : Told) → step before.track before.scene (event_of (Heard told)) ≡ Ok after.scene → IsKept after begin most (entries ++ Heard told ∷ [])
  kept_told told steps =
      let k = kept in
      kept_with (Heard told) steps (told_may_follow (begin_on before.track begin most) entries told before.scene after.scene k.replayed steps)

  pub kept_granted : (number : ℕ) (v : View) (grant : Grants) → view before.track before.scene number ≡ Ok v → IsCandidateOf v grant
      → step before.track before.scene (event_of (Granted grant)) ≡ Ok after.scene → IsKept after begin most (entries ++ Granted grant ∷ [])
  kept_granted number v grant shown candidate steps =
      let k = kept in
      kept_with (Granted grant) steps (MayFollow-candidate (begin_on before.track begin most) entries before.scene number v grant k.form (sym k.replayed) shown candidate)

-- ---- one entry more in the program

module _ (before after : SceneOnTrack) (begin : Scene) (most : ℕ) (items more : List EntryHeld) (now : HistoryOnTrack) (is : history_on (begin_on before.track begin most) (map entry_of items) ≡ now) (kept : IsKept before begin most (map entry_of items)) (full : is_full now ≡ false) (same : after.track ≡ before.track) where
  room : length (map entry_of items) < most
  room = leb-false most (length (map entry_of items)) (ap (λ h. is_full h) is ∙ full)

  grown : (held : EntryHeld) → more ≡ items ++ held ∷ [] → map entry_of items ++ entry_of held ∷ [] ≡ map entry_of more
  grown held e = sym (ap (map entry_of) e ∙ map-append entry_of items (held ∷ []))

  pub kept_after_told : (told : Told) → more ≡ items ++ HeardHeld told ∷ [] → after_told before.track before.scene told ≡ Ok after.scene → IsKept after begin most (map entry_of more)
  kept_after_told told e steps =
      subst (λ entries. IsKept after begin most entries) (grown (HeardHeld told) e) (kept_told before after begin most (map entry_of items) kept room same told steps)

  module _ (v : View) (grant : Grants) (candidate : IsCandidateOf v grant) (shown : is_shown now v ≡ true) (train end : ℕ) (its_train : train ≡ grant.train) (its_end : end ≡ grant.authority.end) where
    pub kept_after_granted : more ≡ items ++ GrantedHeld grant ∷ [] → after_grant before.track before.scene train end ≡ Ok after.scene → IsKept after begin most (map entry_of more)
    kept_after_granted e steps =
        subst (λ entries. IsKept after begin most entries) (grown (GrantedHeld grant) e)
        (kept_granted before after begin most (map entry_of items) kept room same v.train v grant (shown_before before begin most (map entry_of items) now is kept v shown) candidate
        (sym (λ i. after_grant before.track before.scene (its_train i) (its_end i)) ∙ steps))

-- the scene accepts what a candidate would grant, where its view is shown, and the view's legs lead to its end
module _ (before : SceneOnTrack) (begin : Scene) (most : ℕ) (entries : List Entry) (now : HistoryOnTrack) (is : history_on (begin_on before.track begin most) entries ≡ now) (kept : IsKept before begin most entries)
    (v : View) (grant : Grants) (candidate : IsCandidateOf v grant) (shown : is_shown now v ≡ true) (train end : ℕ) (its_train : train ≡ grant.train) (its_end : end ≡ grant.authority.end) where
  pub accepted : is_ok (after_grant before.track before.scene train end) ≡ true
  accepted =
      let k = kept in
      ap (λ answer. is_ok answer) (λ i. after_grant before.track before.scene (its_train i) (its_end i))
      ∙ is_ok-candidate before.track before.scene v.train v grant k.form (shown_before before begin most entries now is kept v shown) candidate

  pub leading : (legs : Line) → legs ≡ v.line → LeadTo before.track before.scene train end legs
  leading legs its_legs =
      subst (λ (l : Line). LeadTo before.track before.scene train end l) (sym its_legs)
      (subst (λ n. LeadTo before.track before.scene train n v.line) (sym its_end)
      (subst (λ n. LeadTo before.track before.scene n grant.authority.end v.line) (sym (its_train ∙ candidate.train))
      (leads before.track before.scene v.train v grant candidate (shown_before before begin most entries now is kept v shown))))

-- ---- what each record shows

module _ (scene : SceneOnTrack) (begin : Scene) (most : ℕ) (entries : List Entry) (now : HistoryOnTrack) (is : history_on (begin_on scene.track begin most) entries ≡ now) (kept : IsKept scene begin most entries) where
  pub right_now : IsRight now
  right_now = let k = kept in subst (λ (h : HistoryOnTrack). IsRight h) is k.right

  pub best_now : IsBestHistory (begin_of now) now.entries
  best_now =
      let k = kept in
      subst (λ (h : HistoryOnTrack). IsBestHistory (begin_of h) h.entries) is (IsBestHistory-of_legal (begin_on scene.track begin most) entries k.sound k.right.good k.right.legal)
