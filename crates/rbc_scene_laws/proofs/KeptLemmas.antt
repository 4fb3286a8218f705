-- Each scene of a history is good, so at no moment does a metre stand in two authorities, and each metre of an authority is locked.
use Rattle.std.proofs.Common.{◌≡◌, ◌↔◌, ℕ, zero, suc, ◌+◌, ◌<◌, IsTrue, is_ok, List, [], ◌∷◌, ◌++◌, length, map, take, Option, Some, None, Result, Ok, Err, refl, ap, sym, subst, ◌∙◌, arith, ◌⊎◌, inl, inr}
use Rattle.std.specs.Prelude.{fold, slice_get}
use Rattle.std.specs.Option.{option_flatten}
use Rattle.std.specs.Result.{result_unwrap_or}
use Rattle.std.proofs.lemmas.List.{length-map, take-append-le}
use Rattle.rbc_model.specs.declared.reports.Told.{Told}
use Rattle.rbc_model.specs.declared.reports.Told.TheVariants.{Report as ToldReport, Lock as ToldLock, Free as ToldFree, Leave as ToldLeave, GiveBack as ToldGiveBack}
use Rattle.rbc_model.specs.declared.reports.Event.{Event}
use Rattle.rbc_model.specs.declared.reports.Event.TheVariants.{Tell, Grant}
use Rattle.rbc_model.specs.declared.refusals.Refusal.{Refusal}
use Rattle.rbc_model.specs.declared.tracks.Lock.{Lock}
use Rattle.rbc_model.specs.Tracks.{Track, Section}
use Rattle.rbc_model.specs.SoundTracks.{IsSound}
use Rattle.rbc_model.specs.Locks.{no_locks}
use Rattle.rbc_model.specs.Scenes.{Scene, empty_scene}
use Rattle.rbc_model.specs.Events.{step}
use Rattle.rbc_model.specs.Histories.{Beginning, Entry, event_of, scene_after, replay, MayFollow, IsBest, IsLegal, NoMetreIsHeldTwice, IsBestHistory}
use Rattle.rbc_model.proofs.LegalLemmas.{IsBestHistory-legal}
use Rattle.rbc_scene_laws.specs.Good.{IsGoodScene, IsGoodLocks}
use Rattle.rbc_scene_laws.proofs.LeavingLemmas.{good_after_leave}
use Rattle.rbc_scene_laws.proofs.FreeingLemmas.{good_after_free}
use Rattle.rbc_scene_laws.proofs.LockingLemmas.{good_after_lock}
use Rattle.rbc_scene_laws.proofs.GrantingLemmas.{good_after_grant}
use Rattle.rbc_scene_laws.proofs.GivingBackLemmas.{good_after_give_back}
use Rattle.rbc_scene_laws.proofs.ReportingLemmas.{good_after_report}

-- ---- the empty scene

pub no_row : (sections : List Section) (s : ℕ) (lock : Lock) → option_flatten (slice_get (map (λ (section : Section). let none : Option Lock = None in none) sections) s) ≡ Some lock → ⊥
no_row [] s lock h = cc
no_row (section ∷ sections) zero lock h = cc
no_row (section ∷ sections) (suc s) lock h = no_row sections s lock h

pub good_no_locks : (track : Track) → IsGoodLocks track (no_locks track)
good_no_locks track = record {
  as_many = length-map track.sections (λ (section : Section). let none : Option Lock = None in none);
  linked = λ section lock before there behind. absurd (no_row track.sections section lock there);
  one_behind = λ a b x y before at also behind too. absurd (no_row track.sections a x at);
}

pub good_empty_scene : (track : Track) → IsGoodScene track (empty_scene track)
good_empty_scene track = record {
  locks = good_no_locks track;
  trains = λ k d h. absurd (omega arith);
  numbers_differ = λ i j d h k. absurd (omega arith);
  apart = λ i j d h k. absurd (omega arith);
  locked = λ k d h. absurd (omega arith);
}

-- ---- each event

good_after_told : (track : Track) (scene after : Scene) (told : Told) → IsSound track → step track scene (Tell told) ≡ Ok after → IsGoodScene track scene → IsGoodScene track after
good_after_told track scene after (ToldReport report) sound h good = good_after_report track scene after report sound h good
good_after_told track scene after (ToldLock route) sound h good = good_after_lock track scene after route sound h good
good_after_told track scene after (ToldFree section) sound h good = good_after_free track scene after section h good
good_after_told track scene after (ToldLeave train) sound h good = good_after_leave track scene after train h good
good_after_told track scene after (ToldGiveBack train distance) sound h good = good_after_give_back track scene after train distance h good

pub good_after_step : (track : Track) (scene after : Scene) (event : Event) → IsSound track → step track scene event ≡ Ok after → IsGoodScene track scene → IsGoodScene track after
good_after_step track scene after (Tell told) sound h good = good_after_told track scene after told sound h good
good_after_step track scene after (Grant train distance) sound h good = good_after_grant track scene after train distance h good

-- ---- histories, refused events among them

good_after_entry : (track : Track) (scene : Scene) (entry : Entry) → IsSound track → IsGoodScene track scene → IsGoodScene track (scene_after track scene entry)
good_after_entry track scene entry sound good = by_step (step track scene (event_of entry)) refl
  where
    by_step : (r : Result Scene Refusal) → step track scene (event_of entry) ≡ r → IsGoodScene track (result_unwrap_or r scene)
    by_step (Ok after) e = good_after_step track scene after (event_of entry) sound e good
    by_step (Err refusal) e = good

good_from : (track : Track) (entries : List Entry) (scene : Scene) → IsSound track → IsGoodScene track scene → IsGoodScene track (fold (scene_after track) scene entries)
good_from track [] scene sound good = good
good_from track (entry ∷ entries) scene sound good = good_from track entries (scene_after track scene entry) sound (good_after_entry track scene entry sound good)

pub good_replay : (begin : Beginning) (entries : List Entry) → IsSound begin.track → IsGoodScene begin.track begin.scene → IsGoodScene begin.track (replay begin entries)
good_replay begin entries sound good = good_from begin.track entries begin.scene sound good

-- at no moment of any history from a good scene on does a metre stand in two authorities
pub NoMetreIsHeldTwice-any : (begin : Beginning) (entries : List Entry) → IsSound begin.track → IsGoodScene begin.track begin.scene → NoMetreIsHeldTwice begin entries
NoMetreIsHeldTwice-any begin entries sound good moment within = let there = good_replay begin (take moment entries) sound good in there.apart

-- a legal history is a best one
pub IsBestHistory-of_legal : (begin : Beginning) (entries : List Entry) → IsSound begin.track → IsGoodScene begin.track begin.scene → IsLegal begin entries → IsBestHistory begin entries
IsBestHistory-of_legal begin entries sound good legal = IsBestHistory-legal begin entries legal (NoMetreIsHeldTwice-any begin entries sound good)

-- ---- histories that go on from where others led

fold-append : (track : Track) (entries more : List Entry) (scene : Scene) → fold (scene_after track) (fold (scene_after track) scene entries) more ≡ fold (scene_after track) scene (entries ++ more)
fold-append track [] more scene = refl
fold-append track (entry ∷ entries) more scene = fold-append track entries more (scene_after track scene entry)

-- what a list with another behind it has at a place
got_from_append : {X : Type 0} (xs ys : List X) (k : ℕ) (y : X) → slice_get (xs ++ ys) k ≡ Some y
    → ((k < length xs) × (slice_get xs k ≡ Some y)) ⊎ ((j : ℕ) × (k ≡ length xs + j) × (slice_get ys j ≡ Some y))
got_from_append [] ys k y h = inr (k, omega arith, h)
got_from_append (x ∷ xs) ys zero y h = inl (omega arith, h)
got_from_append (x ∷ xs) ys (suc k) y h =
    elim (got_from_append xs ys k y h) [
      | inl e ↦ inl (let low = e.0 in omega arith, e.1)
      | inr e ↦ inr (e.0, let far = e.1 in omega (arith, far), e.2)
    ]

got_behind : {X : Type 0} (xs ys : List X) (k : ℕ) (y : X) → slice_get ys k ≡ Some y → slice_get (xs ++ ys) (length xs + k) ≡ Some y
got_behind [] ys k y h = let same : k ≡ 0 + k = omega arith in subst (λ n. slice_get ys n ≡ Some y) same h
got_behind (x ∷ xs) ys k y h =
    let same : suc (length xs + k) ≡ length (x ∷ xs) + k = omega arith in
    subst (λ n. slice_get (x ∷ xs ++ ys) n ≡ Some y) same (got_behind xs ys k y h)

taken_behind : {X : Type 0} (xs ys : List X) (j k : ℕ) → k ≡ length xs + j → take k (xs ++ ys) ≡ xs ++ take j ys
taken_behind [] ys j k e = let same : k ≡ j = omega (arith, e) in ap (λ n. take n ys) same
taken_behind (x ∷ xs) ys j k e =
    let same : k ≡ suc (length xs + j) = omega (arith, e) in
    ap (λ n. take n (x ∷ xs ++ ys)) same ∙ ap (λ rest. x ∷ rest) (taken_behind xs ys j (length xs + j) refl)

module _ (begin : Beginning) (most : ℕ) (entries : List Entry) where
  -- where the entries lead, as a beginning
  abbrev pub led : Beginning
  led = record { track = begin.track; scene = replay begin entries; most = most }

  replay-led : (more : List Entry) → replay led more ≡ replay begin (entries ++ more)
  replay-led more = fold-append begin.track entries more begin.scene

  follow_on : (before : List Entry) (entry : Entry) → MayFollow led before entry → MayFollow begin (entries ++ before) entry
  follow_on before entry may = record {
    accepted = subst (λ s. IsTrue (is_ok (step begin.track s (event_of entry)))) (replay-led before) may.accepted;
    best = λ grant e. subst (λ s. IsBest begin.track s grant) (replay-led before) (may.best grant e);
  }

  follow_back : (before : List Entry) (entry : Entry) → MayFollow begin (entries ++ before) entry → MayFollow led before entry
  follow_back before entry may = record {
    accepted = subst (λ s. IsTrue (is_ok (step begin.track s (event_of entry)))) (sym (replay-led before)) may.accepted;
    best = λ grant e. subst (λ s. IsBest begin.track s grant) (sym (replay-led before)) (may.best grant e);
  }

  legal_behind : (more : List Entry) → IsLegal begin entries → IsLegal led more → IsLegal begin (entries ++ more)
  legal_behind more legal later place entry here = elim (got_from_append entries more place entry here) [
    | inl e ↦ subst (λ before. MayFollow begin before entry) (sym (take-append-le place entries more (let low = e.0 in omega arith))) (legal place entry e.1)
    | inr e ↦ subst (λ before. MayFollow begin before entry) (sym (taken_behind entries more e.0 place e.1)) (follow_on (take e.0 more) entry (later e.0 entry e.2))
  ]

  legal_ahead : (more : List Entry) → IsLegal begin (entries ++ more) → IsLegal led more
  legal_ahead more legal place entry here =
      follow_back (take place more) entry
      (subst (λ before. MayFollow begin before entry) (taken_behind entries more place (length entries + place) refl) (legal (length entries + place) entry (got_behind entries more place entry here)))

  pub joined : (more : List Entry) → IsLegal begin entries → IsLegal led more ↔ IsLegal begin (entries ++ more)
  joined more legal = (legal_behind more legal, legal_ahead more)
