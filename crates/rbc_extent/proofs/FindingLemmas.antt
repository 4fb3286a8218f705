-- What was found of a report, step by step, is where it is placed by cases.
use Rattle.std.proofs.Common.{◌≡◌, ℕ, Option, Some, None, Result, Ok, Err, refl, ap, sym, ◌∙◌, subst, length, IfOk}
use Rattle.std.specs.Prelude.{option_and_then}
use Rattle.std.specs.Option.{option_map_or}
use Rattle.std.specs.Result.{result_map_both}
use Rattle.std.proofs.lemmas.Result.{IfOk-at_ok}
use Rattle.rbc_model.specs.Reports.{Report}
use Rattle.rbc_model.specs.declared.tracks.BaliseGroup.{BaliseGroup}
use Rattle.rbc_model.specs.declared.refusals.Refusal.{Refusal}
use Rattle.rbc_model.specs.declared.refusals.Refusal.TheVariants.{UnknownGroup, Offline, Unplaced}
use Rattle.rbc_model.specs.Results.{◌>>=◌}
use Rattle.rbc_model.specs.Tracks.{Track, group_named}
use Rattle.rbc_model.specs.Lines.{Line}
use Rattle.rbc_model.specs.Locks.{Locks, longer_ahead, longer_back, lengthened}
use Rattle.rbc_model.specs.Placing.{Placed, leg_told, located, without_legs_behind, covered, has_rear, has_front, placed_on, place, origin_on, old_origin}
use Rattle.rbc_extent.specs.PlacingSteps.{found_or, Finding, locating_step, rear_step, front_step, covering_step, finding, finding_from}

-- where the train is placed
abbrev pub placed_of : Result Finding Refusal → Result Placed Refusal
placed_of found = result_map_both (λ (f : Finding). f.placed) (λ (refusal : Refusal). refusal) found

-- behind, and then ahead, until the line has all metres
both_ways : (o : Option Line) (ahead : Line → Option Line) → (found_or Unplaced o >>= (λ (line : Line). found_or Unplaced (ahead line))) ≡ found_or Unplaced (option_and_then ahead o)
both_ways None ahead = refl
both_ways (Some line) ahead = refl

covering-covered : (track : Track) (locks : Locks) (group : BaliseGroup) (report : Report) (line : Line) → covering_step track locks group report line ≡ found_or Unplaced (covered track locks group report (without_legs_behind track group report line))
unfolding covering_step rear_step front_step
covering-covered track locks group report line =
    both_ways (lengthened (length track.sections) (longer_back locks) (has_rear track group report) (without_legs_behind track group report line))
    (lengthened (length track.sections) (longer_ahead locks) (has_front track group report))

module _ (track : Track) (locks : Locks) (known : Option Line) (report : Report) where
  -- the last steps
  abbrev at_line : ℕ → BaliseGroup → Line → Result Finding Refusal
  at_line old group line = placed_on track group report line >>= (λ (placed : Placed). Ok (record { old_origin = old; placed = placed }))

  abbrev at_start : BaliseGroup → Line → Result Finding Refusal
  at_start group start = covering_step track locks group report start >>= at_line (origin_on track group report start) group

  abbrev at_group : BaliseGroup → Result Finding Refusal
  at_group group = locating_step track locks (leg_told group report) known >>= at_start group

  -- the placing by cases
  abbrev from_covered : BaliseGroup → Option Line → Result Placed Refusal
  from_covered group None = Err Unplaced
  from_covered group (Some line) = placed_on track group report line

  abbrev from_located : BaliseGroup → Option Line → Result Placed Refusal
  from_located group None = Err Offline
  from_located group (Some line) = from_covered group (covered track locks group report (without_legs_behind track group report line))

  abbrev from_named : Option BaliseGroup → Result Placed Refusal
  from_named None = Err UnknownGroup
  from_named (Some group) = from_located group (located track locks (leg_told group report) known)

  by_placed : (old : ℕ) (r : Result Placed Refusal) → r ≡ placed_of (r >>= (λ (placed : Placed). Ok (record { old_origin = old; placed = placed })))
  by_placed old (Ok placed) = refl
  by_placed old (Err refusal) = refl

  by_covered : (old : ℕ) (group : BaliseGroup) (o : Option Line) → from_covered group o ≡ placed_of (found_or Unplaced o >>= at_line old group)
  by_covered old group None = refl
  by_covered old group (Some line) = by_placed old (placed_on track group report line)

  by_located : (group : BaliseGroup) (o : Option Line) → from_located group o ≡ placed_of (found_or Offline o >>= at_start group)
  by_located group None = refl
  by_located group (Some start) =
      by_covered (origin_on track group report start) group (covered track locks group report (without_legs_behind track group report start))
      ∙ ap (λ (r : Result Line Refusal). placed_of (r >>= at_line (origin_on track group report start) group)) (sym (covering-covered track locks group report start))

  by_group : (o : Option BaliseGroup) → from_named o ≡ placed_of (found_or UnknownGroup o >>= at_group)
  unfolding locating_step
  by_group None = refl
  by_group (Some group) = by_located group (located track locks (leg_told group report) known)

  pub place-finding : place track locks known report ≡ placed_of (finding track locks known report)
  unfolding finding finding_from
  place-finding = by_group (group_named track report.group)

  -- an answer, or a refusal
  pub place-found : (found : Finding) → finding track locks known report ≡ Ok found → place track locks known report ≡ Ok found.placed
  place-found found h = place-finding ∙ ap placed_of h

  pub place-refused : (refusal : Refusal) → finding track locks known report ≡ Err refusal → place track locks known report ≡ Err refusal
  place-refused refusal h = place-finding ∙ ap placed_of h

-- the old origin is the place of the report's group on the known line
module _ (track : Track) (locks : Locks) (line : Line) (report : Report) where
  abbrev HasOldOrigin : ℕ → Result Finding Refusal → Type 0
  HasOldOrigin old found = IfOk found (λ (f : Finding). f.old_origin ≡ old)

  origin_kept : (old : ℕ) (r : Result Placed Refusal) → HasOldOrigin old (r >>= (λ (placed : Placed). Ok (record { old_origin = old; placed = placed })))
  origin_kept old (Ok placed) = refl
  origin_kept old (Err refusal) = tt

  origin_covered : (old : ℕ) (group : BaliseGroup) (o : Option Line) → HasOldOrigin old (found_or Unplaced o >>= at_line track locks (Some line) report old group)
  origin_covered old group None = tt
  origin_covered old group (Some l) = origin_kept old (placed_on track group report l)

  origin_located : (group : BaliseGroup) (o : Option Line) → HasOldOrigin (option_map_or (origin_on track group report) o 0) (found_or Offline o >>= at_start track locks (Some line) report group)
  origin_located group None = tt
  origin_located group (Some start) =
      let old = origin_on track group report start in
      subst (λ (r : Result Line Refusal). HasOldOrigin old (r >>= at_line track locks (Some line) report old group)) (sym (covering-covered track locks group report start))
      (origin_covered old group (covered track locks group report (without_legs_behind track group report start)))

  origin_named : (o : Option BaliseGroup) → HasOldOrigin (option_map_or (λ (group : BaliseGroup). option_map_or (origin_on track group report) (located track locks (leg_told group report) (Some line)) 0) o 0) (found_or UnknownGroup o >>= at_group track locks (Some line) report)
  unfolding locating_step
  origin_named None = tt
  origin_named (Some group) = origin_located group (located track locks (leg_told group report) (Some line))

  pub finding-old_origin : (found : Finding) → finding track locks (Some line) report ≡ Ok found → found.old_origin ≡ old_origin track locks report line
  unfolding finding finding_from
  finding-old_origin found h = IfOk-at_ok (λ (f : Finding). f.old_origin ≡ old_origin track locks report line) h (origin_named (group_named track report.group))
