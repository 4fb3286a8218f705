-- A section that is freed: no train stands on it or holds it, so the scene stays good.
use Rattle.std.proofs.Common.{◌≡◌, ℕ, zero, suc, ◌+◌, ◌-◌, ◌<◌, ◌≤◌, Bool, true, false, cond, Option, Some, None, Ok, Err, refl, ap, sym, ◌∙◌, subst, arith, inl, inr, length-set}
use Rattle.std.specs.Prelude.{is_some, ◌==◌, slice_set, option_map, find}
use Rattle.std.specs.Result.{result_map_both}
use Rattle.std.specs.Option.{option_map_or}
use Rattle.std.specs.List.{list_any, range_with_len}
use Rattle.std.proofs.lemmas.List.Elements.{All-from_recursion, recursion_from_All}
use Rattle.rbc_model.specs.declared.places.Metre.{Metre}
use Rattle.rbc_model.specs.declared.places.Leg.{Leg}
use Rattle.rbc_model.specs.declared.tracks.Lock.{Lock}
use Rattle.rbc_model.specs.declared.refusals.Refusal.{Refusal}
use Rattle.rbc_model.specs.declared.refusals.Refusal.TheVariants.{Busy, NotLocked}
use Rattle.rbc_model.specs.Results.{unless}
use Rattle.rbc_model.specs.Tracks.{Track, metre_of_leg}
use Rattle.rbc_model.specs.Lines.{Line, places, leg_at, metre_at}
use Rattle.rbc_model.specs.Locks.{Locks, row}
use Rattle.rbc_model.specs.Trains.{Train}
use Rattle.rbc_model.specs.Scenes.{Scene}
use Rattle.rbc_model.specs.Events.{after_free, with_locks, stands_on}
use Rattle.rbc_scene_laws.specs.Good.{OneRowBehindEach, IsGoodScene, IsGoodLocks, spot}
use Rattle.rbc_scene_laws.proofs.BasicLemmas.{each_both}
use Rattle.rbc_scene_laws.proofs.SpotLemmas.{at_place-spot}
use Rattle.rbc_scene_laws.proofs.RowLemmas.{row-set_other, row-set_cases, is_locked-row}
use Rattle.rbc_scene_laws.proofs.TrainListLemmas.{find-none}
use Rattle.rbc_scene_laws.proofs.AuthorityLemmas.{IsHeldLocked}
use Rattle.std.proofs.lemmas.Bool.{or_parts, both_ways}
use Rattle.rbc_model.proofs.BasicLemmas.{same_number}
use Rattle.rbc_model.proofs.ScanLemmas.{at_or_past}

-- ---- what an accepted one tells

pub record IsFreed (track : Track) (scene : Scene) (section : ℕ) (after : Scene) : Type 0 where
  pub idle : find (stands_on track section) scene.trains ≡ None
  pub is : with_locks scene (slice_set scene.locks section None) ≡ after

freed_by : (b : Bool) (locks : Locks) (scene : Scene) (section : ℕ) (after : Scene) → result_map_both (with_locks scene) (λ (r : Refusal). r) (cond b (Ok locks) (Err (NotLocked section))) ≡ Ok after → with_locks scene locks ≡ after
freed_by true locks scene section after h = cc
freed_by false locks scene section after h = cc

free_cases : (b : Bool) (o : Option Train) (locks : Locks) (scene : Scene) (section : ℕ) (after : Scene)
    → (let free = result_map_both (with_locks scene) (λ (r : Refusal). r) (cond b (Ok locks) (Err (NotLocked section))) in cond b (unless (option_map (λ (train : Train). Busy section train.report.train) o) free) free) ≡ Ok after
    → (o ≡ None) × (with_locks scene locks ≡ after)
free_cases true None locks scene section after h = (refl, freed_by true locks scene section after h)
free_cases true (Some train) locks scene section after h = cc
free_cases false o locks scene section after h = cc

pub is_freed : (track : Track) (scene : Scene) (section : ℕ) (after : Scene) → after_free track scene section ≡ Ok after → IsFreed track scene section after
is_freed track scene section after h =
    let e = free_cases (is_some (row scene.locks section)) (find (stands_on track section) scene.trains) (slice_set scene.locks section None) scene section after h in
    record { idle = e.0; is = e.1 }

-- ---- locks with a row less

pub row-set_none : (locks : Locks) (section s : ℕ) (lock : Lock) → row (slice_set locks section None) s ≡ Some lock → row locks s ≡ Some lock
row-set_none locks section s lock h = elim (row-set_cases locks section s None lock h) [ inl e ↦ absurd (let n = e.1 in cc) | inr e ↦ e.1 ]

pub one_behind-freed : (locks : Locks) (section : ℕ) → OneRowBehindEach locks → OneRowBehindEach (slice_set locks section None)
one_behind-freed locks section one a b x y before at also behind too = one a b x y before (row-set_none locks section a x at) (row-set_none locks section b y also) behind too

pub good_locks_freed : (track : Track) (locks : Locks) (section : ℕ) → IsGoodLocks track locks → IsGoodLocks track (slice_set locks section None)
good_locks_freed track locks section good = record {
  as_many = length-set locks section None ∙ good.as_many;
  linked = λ s lock before there behind. good.linked s lock before (row-set_none locks section s lock there) behind;
  one_behind = one_behind-freed locks section good.one_behind;
}

-- ---- no train has a metre of it

none_of_range : (test : ℕ → Bool) (a n : ℕ) → list_any test (range_with_len a n) ≡ false → (i : ℕ) → a ≤ i → i < a + n → test i ≡ false
none_of_range test a zero h i low high = absurd (omega arith)
none_of_range test a (suc n) h i low high =
    elim (at_or_past a i low) [
      | inl e ↦ subst (λ k. test k ≡ false) (sym e) ((or_parts (test a) (list_any test (range_with_len (a + 1) n)) h).0)
      | inr past ↦ none_of_range test (a + 1) n ((or_parts (test a) (list_any test (range_with_len (a + 1) n)) h).1) i past (omega arith)
    ]

-- the metre where a leg stands
metre_there : (track : Track) (line : Line) (i : ℕ) (leg : Leg) → leg_at track line i ≡ Some leg → (k : ℕ) × (metre_at track line i ≡ Some (metre_of_leg track leg k))
metre_there track line i leg h = by_spot (spot track line i) (at_place-spot (λ l k. l) track line i) (at_place-spot (metre_of_leg track) track line i)
  where
    by_spot : (o : Option (Leg × ℕ)) → leg_at track line i ≡ option_map (λ (p : Leg × ℕ). p.0) o → metre_at track line i ≡ option_map (λ (p : Leg × ℕ). metre_of_leg track p.0 p.1) o
        → (k : ℕ) × (metre_at track line i ≡ Some (metre_of_leg track leg k))
    by_spot None e f = absurd (let g : None ≡ Some leg = sym e ∙ h in cc)
    by_spot (Some p) e f = (p.1, f ∙ ap (λ l. Some (metre_of_leg track l p.1)) (let g : Some p.0 ≡ Some leg = sym e ∙ h in let same : p.0 ≡ leg = cc in same))

abbrev in_section : Track → ℕ → Line → ℕ → Bool
in_section track section line i = option_map_or (λ (metre : Metre). metre.section == section) (metre_at track line i) false

no_leg_of : (track : Track) (section : ℕ) (train : Train) → stands_on track section train ≡ false → (i : ℕ) (leg : Leg) → train.from ≤ i → i < train.to → leg_at track train.line i ≡ Some leg → (section ≡ leg.section) → ⊥
no_leg_of track section train idle i leg low high there same =
    let metre = metre_there track train.line i leg there in
    let out : in_section track section train.line i ≡ false = none_of_range (in_section track section train.line) train.from (train.to - train.from) ((or_parts (list_any (in_section track section train.line) (places train.rear train.front)) (list_any (in_section track section train.line) (places train.from train.to)) idle).1) i low (omega arith) in
    let in' : in_section track section train.line i ≡ true = ap (λ o. option_map_or (λ (m : Metre). m.section == section) o false) metre.1 ∙ subst (λ s. (leg.section == s) ≡ true) (sym same) (same_number leg.section) in
    both_ways (in_section track section train.line i) out in'

held_on : (track : Track) (locks : Locks) (section : ℕ) (train : Train) → stands_on track section train ≡ false → IsHeldLocked track locks train → IsHeldLocked track (slice_set locks section None) train
held_on track locks section train idle held i leg low high there =
    is_locked-row (slice_set locks section None) locks None leg (row-set_other locks section leg.section None (no_leg_of track section train idle i leg low high there)) ∙ held i leg low high there

pub good_after_free : (track : Track) (scene after : Scene) (section : ℕ) → after_free track scene section ≡ Ok after → IsGoodScene track scene → IsGoodScene track after
good_after_free track scene after section h good =
    let f = is_freed track scene section after h in
    subst (IsGoodScene track) f.is
    (record {
      locks = good_locks_freed track scene.locks section good.locks;
      trains = good.trains;
      numbers_differ = good.numbers_differ;
      apart = good.apart;
      locked = All-from_recursion (IsHeldLocked track (slice_set scene.locks section None)) scene.trains
          (each_both (λ (train : Train). stands_on track section train ≡ false) (IsHeldLocked track scene.locks) (IsHeldLocked track (slice_set scene.locks section None)) scene.trains
          (λ train idle held. held_on track scene.locks section train idle held)
          (find-none (stands_on track section) scene.trains f.idle)
          (recursion_from_All (IsHeldLocked track scene.locks) scene.trains good.locked));
    })
