-- The verdict on a block, step by step.
use Rattle.std.proofs.Common.{◌≡◌, ℕ, ◌≤◌, Bool, true, false, not, ◌&&◌, List, [], ◌∷◌, Option, Some, None, Result, Ok, Err, refl, sym, ap, ◌∙◌, subst, ℤ, nat_le, nat_lt, length}
use Rattle.std.specs.Prelude.{is_none, if◌then◌else◌}
use Rattle.std.specs.List.{list_all}
use Rattle.std.specs.Result.{result_map_both}
use Rattle.rbc_model.specs.declared.functions.ProfileFault.{ProfileFault}
use Rattle.rbc_model.specs.declared.functions.ProfileFault.TheVariants.{NotRising as StepsNotRising, OutOfRange as StepsOutOfRange, NotExpressible}
use Rattle.rbc_model.specs.declared.functions.RunsFault.{RunsFault}
use Rattle.rbc_model.specs.declared.functions.RunsFault.TheVariants.{NotRising as RunsNotRising, OutOfRange as RunsOutOfRange}
use Rattle.rbc_model.specs.declared.limits.TheConstants.{LONGEST_TRACK, MOST_STEPS}
use Rattle.rbc_model.specs.declared.prices.Reason.{Reason}
use Rattle.rbc_model.specs.declared.prices.Reason.TheVariants.{Shape}
use Rattle.rbc_model.specs.declared.refusals.StepsRefusal.TheVariants.{NotRising, OutOfRange}
use Rattle.rbc_model.specs.Results.{unless, demand, ◌>>=◌, ◌>>◌}
use Rattle.rbc_model.specs.Levels.{Levels}
use Rattle.rbc_model.specs.Profiles.{StepFunction, starts_of, rises_from_zero, joined_steps, runs_fault, runs_of, profile_fault, profile_of}
use Rattle.rbc_model.specs.StepsText.{StepsRequest, refusal_of, track_in}
use Rattle.rbc_model.specs.CheckText.{CheckLine, in_shape, shaped, steps_of, rows_of, verdict_of}
use Rattle.rbc_model.proofs.LineTrackLemmas.{with_track, track_in-runs_of}
use Rattle.rbc_checks.specs.Verdicts.{rows_verdict, steps_verdict}

-- ---- steps

module _ {V : Type 0} (levels : Levels V) (limit : ℕ) (track : StepFunction V) (steps : List (ℕ × V)) (told : ℕ) (found : Option (List (List ℕ))) where
  no_fault : (fault : Option ProfileFault) (profile made : StepFunction V) → unless fault (Ok made) ≡ Ok profile → (is_none fault ≡ true) × (made ≡ profile)
  no_fault None profile made e = (refl, cc)
  no_fault (Some fault) profile made e = absurd cc

  some_fault : (fault : Option ProfileFault) (told : ProfileFault) (made : StepFunction V) → unless fault (Ok made) ≡ Err told → is_none fault ≡ false
  some_fault None told made e = absurd cc
  some_fault (Some fault) told made e = refl

  pub no_profile : (fault : ProfileFault) → Err fault ≡ profile_of levels track.end steps → steps_verdict levels limit track steps told found ≡ Err Shape
  no_profile fault e =
      ap (λ fits. demand fits Shape >> rows_verdict levels limit track (record { steps = steps; end = track.end }) told found)
      (some_fault (profile_fault levels track.end steps) fault (record { steps = steps; end = track.end }) (sym e))

  pub with_profile : (profile : StepFunction V) → Ok profile ≡ profile_of levels track.end steps
      → steps_verdict levels limit track steps told found ≡ rows_verdict levels limit track profile told found
  with_profile profile e =
      let made = no_fault (profile_fault levels track.end steps) profile (record { steps = steps; end = track.end }) (sym e) in
      ap (λ fits. demand fits Shape >> rows_verdict levels limit track (record { steps = steps; end = track.end }) told found) made.0
      ∙ ap (λ p. rows_verdict levels limit track p told found) made.1

module _ {V : Type 0} (levels : Levels V) (value_of : ℤ → Option V) (told : ℕ) (lines : List CheckLine) where
  -- the verdict from the rows on
  abbrev from_rows : ℕ → StepFunction V → StepFunction V → Option (List (List ℕ)) → Result (Unit {0}) Reason
  from_rows limit track profile found = rows_verdict levels limit track profile told found

  -- the verdict from the steps on
  abbrev from_steps : ℕ → StepFunction V → Option (List (ℕ × V)) → Result (Unit {0}) Reason
  from_steps limit track found =
      in_shape found >>= λ steps. demand (is_none (profile_fault levels track.end steps)) Shape
      >> from_rows limit track (record { steps = steps; end = track.end }) (rows_of 1 lines)

  -- ---- a track that is too long makes no profile

  too_long : (near rises inside few expressible : Bool) → near ≡ false
      → is_none (if not rises then Some StepsNotRising else if not (near && inside && few) then Some StepsOutOfRange else if not expressible then Some NotExpressible else None)
      ≡ false
  too_long near false inside few expressible far = refl
  too_long near true inside few expressible far = rw far refl

  far_away : (limit : ℕ) (track : StepFunction V) (found : Option (List (ℕ × V))) → nat_le track.end LONGEST_TRACK ≡ false → from_steps limit track found ≡ Err Shape
  far_away limit track None far = refl
  far_away limit track (Some []) far = refl
  far_away limit track (Some (row ∷ rows)) far =
      let starts = starts_of (row ∷ rows) in
      ap (λ fits. demand fits Shape >> from_rows limit track (record { steps = row ∷ rows; end = track.end }) (rows_of 1 lines))
      (too_long (nat_le track.end LONGEST_TRACK) (rises_from_zero starts) (list_all (λ start. nat_lt start track.end) starts)
      (nat_le (length (row ∷ rows)) MOST_STEPS) (list_all (λ s. levels.is_expressible s.1) (row ∷ rows)) far)

  -- ---- runs

  by_tests : (rises near inside : Bool) (track : StepFunction V) (joined : StepsRequest V) (fault : RunsFault) (rest : StepsRequest V → Result (Unit {0}) Reason)
      → (near ≡ false → rest joined ≡ Err Shape)
      → unless (if not rises then Some RunsNotRising else if not (near && inside) then Some RunsOutOfRange else None) (Ok track) ≡ Err fault
      → (shaped (demand rises NotRising >> (demand inside OutOfRange >> Ok joined)) >>= rest) ≡ Err Shape
  by_tests false near inside track joined fault rest far e = refl
  by_tests true near false track joined fault rest far e = refl
  by_tests true false true track joined fault rest far e = far refl
  by_tests true true true track joined fault rest far e = absurd cc

  module _ (words : List (ℕ × ℤ)) where
    no_track_of : (limit end : ℕ) (runs : List (ℕ × V)) (fault : RunsFault) → runs_of levels end runs ≡ Err fault
        → verdict_of levels value_of (record { limit = limit; runs = runs; end = end }) words told lines ≡ Err Shape
    no_track_of limit end [] fault e = refl
    no_track_of limit end (row ∷ rows) fault e =
        let runs = joined_steps levels (row ∷ rows) in
        by_tests (rises_from_zero (starts_of (row ∷ rows))) (nat_le end LONGEST_TRACK) (list_all (λ start. nat_lt start end) (starts_of (row ∷ rows)))
        (record { steps = runs; end = end }) (record { limit = limit; runs = runs; end = end }) fault
        (λ track. from_steps track.limit (record { steps = track.runs; end = track.end }) (steps_of levels value_of words))
        (far_away limit (record { steps = runs; end = end }) (steps_of levels value_of words)) e

    module _ (request : StepsRequest V) where
      pub no_track : (fault : RunsFault) → Err fault ≡ runs_of levels request.end request.runs → verdict_of levels value_of request words told lines ≡ Err Shape
      no_track fault e = no_track_of request.limit request.end request.runs fault (sym e)

      end_of : (n : ℕ) (rows : List (ℕ × V)) (fault : Option RunsFault) (track : StepFunction V)
          → unless fault (Ok (record { steps = joined_steps levels rows; end = n })) ≡ Ok track → track.end ≡ n
      end_of n rows None track e = let same : record { steps = joined_steps levels rows; end = n } ≡ track = cc in ap (λ (t : StepFunction _). t.end) (sym same)
      end_of n rows (Some fault) track e = absurd cc

      on_track : (track : StepFunction V) → Ok track ≡ runs_of levels request.end request.runs → track.end ≤ LONGEST_TRACK
          → verdict_of levels value_of request words told lines ≡ from_steps request.limit track (steps_of levels value_of words)
      on_track track made short =
          let ends : track.end ≡ request.end = end_of request.end request.runs (runs_fault request.end request.runs) track (sym made) in
          let near : request.end ≤ LONGEST_TRACK = subst (λ n. n ≤ LONGEST_TRACK) ends short in
          let tracks : track_in levels request ≡ Ok (with_track levels request track) =
          track_in-runs_of levels request near ∙ ap (result_map_both (with_track levels request) refusal_of) (sym made) in
          ap (λ found. shaped found >>= λ track. from_steps track.limit (record { steps = track.runs; end = track.end }) (steps_of levels value_of words)) tracks
          ∙ ap (λ n. from_steps request.limit (record { steps = track.steps; end = n }) (steps_of levels value_of words)) (sym ends)

  -- ---- the parts of a block

  module _ (words : List (ℕ × ℤ)) (request : StepsRequest V) (track : StepFunction V) (made : Ok track ≡ runs_of levels request.end request.runs)
      (short : track.end ≤ LONGEST_TRACK) where
    with_steps : (found : Option (List (ℕ × V))) → found ≡ steps_of levels value_of words
        → verdict_of levels value_of request words told lines ≡ from_steps request.limit track found
    with_steps found same = on_track words request track made short ∙ ap (from_steps request.limit track) (sym same)

    pub no_steps_in : None ≡ steps_of levels value_of words → verdict_of levels value_of request words told lines ≡ Err Shape
    no_steps_in same = with_steps None same

    pub steps_in : (steps : List (ℕ × V)) → Some steps ≡ steps_of levels value_of words
        → verdict_of levels value_of request words told lines ≡ steps_verdict levels request.limit track steps told (rows_of 1 lines)
    steps_in steps same = with_steps (Some steps) same
