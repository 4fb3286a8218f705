-- A train that asks: what it is shown, and what the record answers, as the reply to its line.
use Rattle.std.proofs.Common.{◌≡◌, ℕ, ◌+◌, Bool, true, false, cond, List, ◌∷◌, [], ◌++◌, length, Option, Some, None, Result, Ok, Err, refl, sym, ap, ◌∙◌, subst, inl, ℤ, arith}
use Rattle.std.specs.Prelude.{MatchBool, codes, decimal}
use Rattle.std.specs.Fmt.{signed_decimal}
use Rattle.rbc_model.specs.declared.refusals.Obstacle.{Obstacle}
use Rattle.rbc_model.specs.declared.refusals.ViewFault.{ViewFault}
use Rattle.rbc_model.specs.declared.refusals.ViewFault.TheVariants.{Blocked}
use Rattle.rbc_model.specs.Levels.{Levels, speed_levels, grade_levels}
use Rattle.rbc_model.specs.Profiles.{StepFunction, value_at, loss}
use Rattle.rbc_model.specs.Messages.{Authority, message_bytes}
use Rattle.rbc_model.specs.SoundTracks.{IsInForm, IsSound}
use Rattle.rbc_model.specs.Tracks.{Track}
use Rattle.rbc_model.specs.Scenes.{Scene}
use Rattle.rbc_model.specs.Views.{View, view}
use Rattle.rbc_model.specs.Histories.{Entry, Granted, Receipt}
use Rattle.rbc_model.specs.SessionReply.{Full, obstacle_words, refused_reply, grant_reply}
use Rattle.rbc_model.specs.StepsReply.{certificate}
use Rattle.rbc_model.specs.Kinds.{speed_kind, grade_kind}
use Rattle.rbc_model.specs.Words.{line_of, hex_of}
use Rattle.rbc_scene_laws.proofs.KeptLemmas.{good_replay}
use Rattle.rbc_grant_laws.specs.Candidates.{IsCandidateOf}
use Rattle.rbc_grant_laws.proofs.CandidateLemmas.{IsBest-candidate}
use Rattle.rbc_sweep.specs.Forms.{metres_shown}
use Rattle.rbc_sweep.specs.SameViews.{is_same_view, same_views}
use Rattle.rbc_sweep.specs.Candidates.{Candidate, HasChosenProfiles}
use Rattle.rbc_sweep.specs.CommitFault.{CommitFault}
use Rattle.rbc_sweep.specs.CommitFault.TheVariants.{Full as FullToGrants, Stale}
use Rattle.rbc_sweep.specs.Entering.{EntersOrMemory, entry_granted, is_shown}
use Rattle.rbc_sweep.specs.Records.{IsRight, begin_of, HistoryOnTrack, scene_now, is_full, with_entry}
use Rattle.rbc_replies.specs.Certificates.{IsLossOn, speeds_of, grades_of}
use Rattle.rbc_replies.specs.PriceText.{prices_of}
use Rattle.rbc_replies.specs.Replies.{ObstacleIsOfTrack, grant_text}
use Rattle.rbc_replies.specs.declared.replies.ToldGrant.{ToldGrant}
use Rattle.rbc_session_laws.specs.Turns.{AnswersAuthority, AnswersAsker, IsGrantFor, IsGranted, IsRefused}
use Rattle.rbc_sessions.specs.Changes.{Comes}
use Rattle.rbc_sessions.specs.Shown.{IsToldOf}
use Rattle.rbc_sessions.proofs.NamingLemmas.{IsNamedIn, named_view}
use Rattle.rbc_sessions.proofs.TellingLemmas.{nothing_added}

-- ---- what stands in the way

module _ (history : HistoryOnTrack) (number : ℕ) where
  abbrev Asked : List ℕ → Option Entry → Result View ViewFault → Type 0
  Asked reply added answer = AnswersAsker (begin_of history) history.entries reply added number answer

  -- what a train that asks is answered, by what it is shown
  pub asked_answers : (reply : List ℕ) (added : Option Entry) (answer : Result View ViewFault) → view history.track (scene_now history) number ≡ answer
      → Asked reply added answer → AnswersAuthority (begin_of history) history.entries reply added number
  asked_answers reply added answer e said = subst (Asked reply added) (sym e) said

  pub blocked_named : (obstacle : Obstacle) (at : ℤ) → IsRight history → IsSound history.track → view history.track (scene_now history) number ≡ Err (Blocked obstacle at) → ObstacleIsOfTrack history.track obstacle
  blocked_named obstacle at right sound e =
      let r = right in
      subst (IsNamedIn history.track) e (named_view history.track (scene_now history) number (good_replay (begin_of history) history.entries sound r.good))

  pub shown_named : (shown : View) → IsRight history → IsSound history.track → view history.track (scene_now history) number ≡ Ok shown → ObstacleIsOfTrack history.track shown.obstacle
  shown_named shown right sound e =
      let r = right in
      subst (IsNamedIn history.track) e (named_view history.track (scene_now history) number (good_replay (begin_of history) history.entries sound r.good))

  -- ---- a train that is shown an end

  module _ (shown : View) (e : view history.track (scene_now history) number ≡ Ok shown) where
    pub full_said : (full : Bool) → full ≡ true
        → MatchBool full (IsRefused (begin_of history) history.entries (refused_reply history.track Full) None Full) (IsGranted (begin_of history) history.entries (refused_reply history.track Full) None number shown)
    full_said true h = (refl, refl)
    full_said false h = absurd (let c : ⊥ = cc in c)

    pub shown_full : (after : HistoryOnTrack) → after ≡ history → is_full history ≡ true → Comes (λ begin entries said more. AnswersAuthority begin entries said more number) history (refused_reply history.track Full) after
    shown_full after same full =
        (None, asked_answers (refused_reply history.track Full) None (Ok shown) e (inl (full_said (is_full history) full)), same ∙ nothing_added history)

    granted_said : (full : Bool) (reply : List ℕ) (added : Option Entry) → full ≡ false → IsGranted (begin_of history) history.entries reply added number shown
        → MatchBool full (IsRefused (begin_of history) history.entries reply added Full) (IsGranted (begin_of history) history.entries reply added number shown)
    granted_said true reply added h said = absurd (let c : ⊥ = cc in c)
    granted_said false reply added h said = said

    pub shown_granted : (reply : List ℕ) (added : Option Entry) → is_full history ≡ false → IsGranted (begin_of history) history.entries reply added number shown
        → AnswersAuthority (begin_of history) history.entries reply added number
    shown_granted reply added free said = asked_answers reply added (Ok shown) e (inl (granted_said (is_full history) reply added free said))

-- ---- what the record answers to a candidate of a view that it shows

module _ (history : HistoryOnTrack) (candidate : Candidate) where
  abbrev entering : Bool → Bool → Result Entry CommitFault
  entering full shown = cond full (Err FullToGrants) (cond shown (Ok (Granted candidate.grant)) (Err (Stale (length history.entries))))

  entered : (full shown : Bool) (entry : Entry) → entering full shown ≡ Ok entry → (full ≡ false) × (Granted candidate.grant ≡ entry)
  entered true shown entry e = absurd (let c : ⊥ = cc in c)
  entered false false entry e = absurd (let c : ⊥ = cc in c)
  entered false true entry e = (refl, let same : Granted candidate.grant ≡ entry = cc in same)

  pub grant_entered : (entry : Entry) → entry_granted history candidate ≡ Ok entry → (is_full history ≡ false) × (Granted candidate.grant ≡ entry)
  grant_entered entry e = entered (is_full history) (is_shown history candidate.view) entry e

  full_for : (full shown : Bool) → entering full shown ≡ Err FullToGrants → full ≡ true
  full_for true shown e = refl
  full_for false false e = absurd (let c : ⊥ = cc in c)
  full_for false true e = absurd (let c : ⊥ = cc in c)

  pub full_to_grants : entry_granted history candidate ≡ Err FullToGrants → is_full history ≡ true
  full_to_grants e = full_for (is_full history) (is_shown history candidate.view) e

  stale_for : (full shown : Bool) (version : ℕ) → shown ≡ true → entering full shown ≡ Err (Stale version) → ⊥
  stale_for true shown version h e = cc
  stale_for false false version h e = cc
  stale_for false true version h e = cc

  abbrev is_wanted : Result View ViewFault → Bool
  is_wanted (Ok shown) = is_same_view candidate.view shown
  is_wanted (Err fault) = false

  pub never_stale : (version : ℕ) → view history.track (scene_now history) candidate.view.train ≡ Ok candidate.view → entry_granted history candidate ≡ Err (Stale version) → ⊥
  never_stale version e answer =
      stale_for (is_full history) (is_shown history candidate.view) version (subst (λ r. is_wanted r ≡ true) (sym e) (same_views.refl candidate.view)) answer

-- ---- what is told of a grant

loss_is : {V : Type 0} (levels : Levels V) (n m lost : ℕ) (runs steps : List (ℕ × V)) (track : StepFunction V)
    → lost ≡ loss levels n (value_at runs) steps → track ≡ record { steps = runs; end = m } → m ≡ n → IsLossOn levels (record { steps = steps; end = n }) track lost
loss_is levels n m lost runs steps track loses is ends =
    subst (λ (t : StepFunction _). IsLossOn levels (record { steps = steps; end = n }) t lost) (sym is) (record { ends = ends; loss = loses })

-- the profiles of what is granted lose what the candidate says, against what the train was shown
module _ (candidate : Candidate) (authority : Authority) (best : IsCandidateOf candidate.view candidate.grant) (same : authority ≡ candidate.grant.authority) where
  ends : metres_shown candidate.view ≡ candidate.grant.authority.end
  ends = let whole = best.end in omega arith

  pub speeds_lose : (lost : ℕ) (track : StepFunction ℕ)
      → lost ≡ loss speed_levels candidate.grant.authority.end (value_at candidate.view.speeds) candidate.grant.authority.speeds
      → track ≡ record { steps = candidate.view.speeds; end = metres_shown candidate.view } → IsLossOn speed_levels (speeds_of authority) track lost
  speeds_lose lost track loses is =
      subst (λ (a : Authority). IsLossOn speed_levels (speeds_of a) track lost) (sym same)
      (loss_is speed_levels candidate.grant.authority.end (metres_shown candidate.view) lost candidate.view.speeds candidate.grant.authority.speeds track loses is ends)

  pub grades_lose : (lost : ℕ) (track : StepFunction ℤ)
      → lost ≡ loss grade_levels candidate.grant.authority.end (value_at candidate.view.grades) candidate.grant.authority.grades
      → track ≡ record { steps = candidate.view.grades; end = metres_shown candidate.view } → IsLossOn grade_levels (grades_of authority) track lost
  grades_lose lost track loses is =
      subst (λ (a : Authority). IsLossOn grade_levels (grades_of a) track lost) (sym same)
      (loss_is grade_levels candidate.grant.authority.end (metres_shown candidate.view) lost candidate.view.grades candidate.grant.authority.grades track loses is ends)

nine : {A B C D E F G H I : Type 0} {X : Type 0} (f : A → B → C → D → E → F → G → H → I → X) (a a' : A) (b b' : B) (c c' : C) (d d' : D) (e e' : E) (f1 f2 : F) (g g' : G) (h h' : H) (i i' : I)
    → a ≡ a' → b ≡ b' → c ≡ c' → d ≡ d' → e ≡ e' → f1 ≡ f2 → g ≡ g' → h ≡ h' → i ≡ i' → f a b c d e f1 g h i ≡ f a' b' c' d' e' f2 g' h' i'
nine f a a' b b' c c' d d' e e' f1 f2 g g' h h' i i' p q r s t u v w x = rw (p, q, r, s, t, u, v, w, x) refl

module _ (track : Track) (candidate : Candidate) (count : ℕ) (granted : ToldGrant) (is : IsToldOf candidate count granted) where
  abbrev shown_text : ℕ → ℕ → ℤ → Obstacle → Authority → ℕ → StepFunction ℕ → ℕ → StepFunction ℤ → List ℕ
  shown_text train version from obstacle authority speed_steps speeds grade_steps grades =
      line_of (codes "granted" ∷ decimal train ∷ decimal version ∷ signed_decimal from ∷ decimal authority.end ∷ obstacle_words track obstacle)
      ++ line_of (codes "message" ∷ hex_of (message_bytes authority) ∷ [])
      ++ certificate speed_kind (record { limit = speed_steps; runs = speeds.steps; end = authority.end }) authority.speeds (prices_of granted.speeds.prices.now)
      ++ certificate grade_kind (record { limit = grade_steps; runs = grades.steps; end = authority.end }) authority.grades (prices_of granted.grades.prices.now)
      ++ line_of (codes "done" ∷ [])

  pub told_text : grant_text track granted ≡ grant_reply track count candidate.view candidate.grant (prices_of granted.speeds.prices.now) (prices_of granted.grades.prices.now)
  told_text =
      nine shown_text granted.train candidate.grant.train granted.version count granted.from candidate.grant.from granted.obstacle candidate.grant.obstacle granted.authority.now candidate.grant.authority
      granted.speeds.limit candidate.view.speed_steps granted.speeds.track.now (record { steps = candidate.view.speeds; end = metres_shown candidate.view })
      granted.grades.limit candidate.view.grade_steps granted.grades.track.now (record { steps = candidate.view.grades; end = metres_shown candidate.view })
      is.train is.version is.from is.obstacle is.authority is.speed_steps is.speeds is.grade_steps is.grades

  module _ (best : IsCandidateOf candidate.view candidate.grant) (chosen : HasChosenProfiles candidate.view candidate.grant) where
    pub told_whole : ObstacleIsOfTrack track candidate.view.obstacle → ObstacleIsOfTrack track granted.obstacle
    told_whole named = subst (ObstacleIsOfTrack track) (sym (is.obstacle ∙ best.obstacle)) named

    pub told_grant : (scene : Scene) → IsInForm track → view track scene candidate.view.train ≡ Ok candidate.view
        → IsGrantFor track scene candidate.view.train candidate.view candidate.grant (prices_of granted.speeds.prices.now) (prices_of granted.grades.prices.now)
    told_grant scene form e =
        record {
          train = best.train;
          best = IsBest-candidate track scene candidate.view.train candidate.view candidate.grant form e best;
          speeds = chosen.speeds;
          grades = chosen.grades;
          speed_prices = is.speed_prices;
          grade_prices = is.grade_prices;
          writable = is.writable;
        }

-- the train is granted what the candidate is, and the reply tells it
pub granted_answers : (history : HistoryOnTrack) (candidate : Candidate) (place : ℕ) (granted : ToldGrant)
    → is_full history ≡ false → place ≡ length history.entries → IsToldOf candidate (place + 1) granted
    → IsCandidateOf candidate.view candidate.grant → HasChosenProfiles candidate.view candidate.grant → IsInForm history.track
    → view history.track (scene_now history) candidate.view.train ≡ Ok candidate.view
    → AnswersAuthority (begin_of history) history.entries (grant_text history.track granted) (Some (Granted candidate.grant)) candidate.view.train
granted_answers history candidate place granted free at is best chosen form e =
    shown_granted history candidate.view.train candidate.view e (grant_text history.track granted) (Some (Granted candidate.grant)) free (
      candidate.grant,
      prices_of granted.speeds.prices.now,
      prices_of granted.grades.prices.now,
      told_grant history.track candidate (place + 1) granted is best chosen (scene_now history) form e,
      told_text history.track candidate (place + 1) granted is
          ∙ ap (λ n. grant_reply history.track (n + 1) candidate.view candidate.grant (prices_of granted.speeds.prices.now) (prices_of granted.grades.prices.now)) at,
      refl,
    )

pub granted_comes : (history after : HistoryOnTrack) (candidate : Candidate) (receipt : Receipt) (place : ℕ) (granted : ToldGrant)
    → EntersOrMemory {E = CommitFault} (Ok receipt) history after (entry_granted history candidate) → place ≡ receipt.place → IsToldOf candidate (place + 1) granted
    → IsCandidateOf candidate.view candidate.grant → HasChosenProfiles candidate.view candidate.grant → IsInForm history.track
    → view history.track (scene_now history) candidate.view.train ≡ Ok candidate.view
    → Comes (λ begin entries said more. AnswersAuthority begin entries said more candidate.view.train) history (grant_text history.track granted) after
granted_comes history after candidate receipt place granted enters at is best chosen form e =
    let entry = grant_entered history candidate receipt.entry enters.0 in (
      Some (Granted candidate.grant),
      granted_answers history candidate place granted entry.0 (at ∙ enters.1) is best chosen form e,
      enters.2 ∙ ap (with_entry history) (sym entry.1),
    )
