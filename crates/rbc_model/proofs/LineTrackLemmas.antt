-- The track of a line is the track that its runs make.
use Rattle.std.proofs.Common.{◌≡◌, ℕ, ◌≤◌, Bool, true, false, not, ◌&&◌, List, [], ◌∷◌, Ok, refl, nat_lt, nat_le, if◌then◌else◌, Some, None}
use Rattle.std.specs.Result.{result_map_both}
use Rattle.std.specs.List.{list_all}
use Rattle.std.proofs.lemmas.Bool.{le-leb}
use Rattle.rbc_model.specs.declared.functions.RunsFault.TheVariants.{NotRising as RunsNotRising, OutOfRange as RunsOutOfRange}
use Rattle.rbc_model.specs.declared.refusals.StepsRefusal.TheVariants.{NotRising, OutOfRange}
use Rattle.rbc_model.specs.Results.{unless, demand, ◌>>◌}
use Rattle.rbc_model.specs.Levels.{Levels}
use Rattle.rbc_model.specs.Profiles.{StepFunction, starts_of, rises_from_zero, joined_steps, runs_of}
use Rattle.rbc_model.specs.declared.limits.TheConstants.{LONGEST_TRACK}
use Rattle.rbc_model.specs.StepsText.{StepsRequest, refusal_of, track_in}

module _ {V : Type 0} (levels : Levels V) where
  -- a request with the runs of a track
  abbrev pub with_track : StepsRequest V → StepFunction V → StepsRequest V
  with_track request track = record request { runs = track.steps }

  by_tests : (request : StepsRequest V) (track : StepFunction V) (joined : StepsRequest V) (rises near inside : Bool) → joined ≡ with_track request track → near ≡ true
      → (demand rises NotRising >> (demand inside OutOfRange >> Ok joined))
      ≡ result_map_both (with_track request) refusal_of (unless (if not rises then Some RunsNotRising else if not (near && inside) then Some RunsOutOfRange else None) (Ok track))
  by_tests request track joined false near inside e n = refl
  by_tests request track joined true true false e n = refl
  by_tests request track joined true true true e n = cc
  by_tests request track joined true false inside e n = cc

  of_parts : (limit end : ℕ) (runs : List (ℕ × V)) → end ≤ LONGEST_TRACK
      → let request : StepsRequest V = record { limit = limit; runs = runs; end = end } in
      track_in levels request ≡ result_map_both (with_track request) refusal_of (runs_of levels end runs)
  of_parts limit end [] short = refl
  of_parts limit end (row ∷ rows) short =
      by_tests (record { limit = limit; runs = row ∷ rows; end = end }) (record { steps = joined_steps levels (row ∷ rows); end = end })
      (record { limit = limit; runs = joined_steps levels (row ∷ rows); end = end })
      (rises_from_zero (starts_of (row ∷ rows))) (nat_le end LONGEST_TRACK) (list_all (λ start. nat_lt start end) (starts_of (row ∷ rows)))
      refl (le-leb end LONGEST_TRACK short)

  pub track_in-runs_of : (request : StepsRequest V) → request.end ≤ LONGEST_TRACK
      → track_in levels request ≡ result_map_both (with_track request) refusal_of (runs_of levels request.end request.runs)
  track_in-runs_of request short = of_parts request.limit request.end request.runs short
