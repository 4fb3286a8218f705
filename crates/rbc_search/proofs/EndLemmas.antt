-- Ends that a train may be granted, by its reach.
use Rattle.std.proofs.Common.{◌≡◌, ℕ, ◌+◌, ◌-◌, ◌≤◌, Bool, true, false, ◌&&◌, length, Some, None, ap, sym, subst, ◌∙◌, arith, nat_lt, nat_le}
use Rattle.std.specs.Prelude.{if◌then◌else◌}
use Rattle.std.proofs.lemmas.Bool.{leb-true, ltb-true, lt-ltb, le-leb, and_from}
use Rattle.rbc_model.specs.Scales.{is_expressible}
use Rattle.rbc_model.specs.Tracks.{Track}
use Rattle.rbc_model.specs.Lines.{line_length}
use Rattle.rbc_model.specs.Trains.{Train}
use Rattle.rbc_model.specs.Scenes.{Scene}
use Rattle.rbc_model.specs.Obstacles.{is_clear}
use Rattle.rbc_model.specs.Views.{reach, greatest_end, start_of, way_end, is_safe, is_expressible_end}
use Rattle.rbc_model.proofs.EndLemmas.{IsSafe-is_safe, is_safe-IsSafe, IsSafe-up_to_reach, le_reach-IsSafe}
use Rattle.rbc_model.proofs.ScanLemmas.{first_blocked-ge_start}
use Rattle.rbc_model.proofs.StopLemmas.{IsStopped-reach}
use Rattle.rbc_scene_laws.specs.Good.{IsGoodTrain}
use Rattle.rbc_scene_laws.proofs.GrantingLemmas.{last_there}
use Rattle.rbc_scene_laws.proofs.SpotLemmas.{line_length-append}
use Rattle.rbc_reach_laws.specs.Nearest.{is_ahead, nearest_end, greatest_end_by}
use Rattle.rbc_reach_laws.proofs.GreatestEndLemmas.{greatest_end-by_reach}
use Rattle.rbc_reach_laws.proofs.BasicLemmas.{and_left, and_right}
use Rattle.rbc_reach_laws.proofs.LoopLemmas.{gained, lengthened-gained}
use Rattle.std.specs.Cmp.Derive.{one_truth}

module _ (track : Track) (scene : Scene) (train : Train) where
  greatest_is : (place end : ℕ) → place ≡ reach track scene train → end ≡ nearest_end track.format train place → (if is_ahead train end then Some end else None) ≡ greatest_end track scene train
  greatest_is place end at is =
      ap (λ (e : ℕ). if is_ahead train e then Some e else None) is
      ∙ ap (greatest_end_by track.format train) at
      ∙ sym (greatest_end-by_reach track scene train)

  pub end_is : (place end : ℕ) → place ≡ reach track scene train → end ≡ nearest_end track.format train place → is_ahead train end ≡ true → Some end ≡ greatest_end track scene train
  end_is place end at is ahead = sym (ap (λ (b : Bool). if b then Some end else None) ahead) ∙ greatest_is place end at is

  pub none_is : (place end : ℕ) → place ≡ reach track scene train → end ≡ nearest_end track.format train place → is_ahead train end ≡ false → None ≡ greatest_end track scene train
  none_is place end at is ahead = sym (ap (λ (b : Bool). if b then Some end else None) ahead) ∙ greatest_is place end at is

  begins_before : IsGoodTrain track train → start_of train ≤ way_end track scene train
  begins_before good =
      let more = gained (length track.sections) scene.locks train.line in
      let longer : way_end track scene train ≡ line_length track train.line + line_length track more =
      ap (line_length track) (lengthened-gained (length track.sections) scene.locks train.line) ∙ line_length-append track train.line more in
      let front = good.front in
      omega arith

  -- whether a message can give the end
  abbrev given : ℕ → Bool
  given end = is_expressible track.format (end - train.origin)

  pub granted_is : (place end : ℕ) → IsGoodTrain track train → place ≡ reach track scene train →
      (is_ahead train end && nat_le end place && given end) ≡ (is_safe track scene train end && is_expressible_end track train end)
  granted_is place end good at =
      let last = last_there train.line good.line.some_leg in
      let low = first_blocked-ge_start (is_clear track scene train) (start_of train) (way_end track scene train) (begins_before good) in
      one_truth (is_ahead train end && nat_le end place && given end) (is_safe track scene train end && is_expressible_end track train end)
      (λ h.
      let h2 = and_left (is_ahead train end && nat_le end place) (given end) h in
      let a = and_left (is_ahead train end) (nat_le end place) h2 in
      let p : end ≤ reach track scene train = subst (λ (z : ℕ). end ≤ z) at (leb-true end place (and_right (is_ahead train end) (nat_le end place) h2)) in
      let f = and_left (nat_lt train.front end && nat_le train.to end) (nat_lt train.origin end) a in
      and_from (is_safe track scene train end) (is_expressible_end track train end)
      (is_safe-IsSafe track scene train end (IsSafe-up_to_reach track scene train end (ltb-true train.front end (and_left (nat_lt train.front end) (nat_le train.to end) f)) (leb-true train.to end (and_right (nat_lt train.front end) (nat_le train.to end) f)) p))
      (and_from (nat_lt train.origin end) (given end) (and_right (nat_lt train.front end && nat_le train.to end) (nat_lt train.origin end) a) (and_right (is_ahead train end && nat_le end place) (given end) h)))
      (λ h.
      let s = IsSafe-is_safe track scene train end (and_left (is_safe track scene train end) (is_expressible_end track train end) h) in
      let e = and_right (is_safe track scene train end) (is_expressible_end track train end) h in
      let p = le_reach-IsSafe track scene train end low (IsStopped-reach track scene train last.0 last.1) s in
      and_from (is_ahead train end && nat_le end place) (given end)
      (and_from (is_ahead train end) (nat_le end place)
      (and_from (nat_lt train.front end && nat_le train.to end) (nat_lt train.origin end)
      (and_from (nat_lt train.front end) (nat_le train.to end) (lt-ltb train.front end s.beyond_front) (le-leb train.to end s.takes_none_back))
      (and_left (nat_lt train.origin end) (given end) e))
      (le-leb end place (subst (λ (z : ℕ). end ≤ z) (sym at) p)))
      (and_right (nat_lt train.origin end) (given end) e))
