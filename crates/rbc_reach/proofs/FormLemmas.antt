-- Parts that pass the test make a view in form.
use Rattle.std.proofs.Common.{◌≡◌, ◌+◌, ◌-◌, ◌≤◌, ◌^◌, true, ◌&&◌, nat_le, arith, subst}
use Rattle.std.specs.Prelude.{◌==◌}
use Rattle.std.proofs.lemmas.Bool.{leb-true, le-leb, eqb-true, and_from, eq-eqb}
use Rattle.rbc_model.specs.declared.limits.TheConstants.{FARTHEST_END_IN_TENS, MOST_STEPS}
use Rattle.rbc_model.specs.declared.places.Format.TheVariants.{Far}
use Rattle.rbc_model.specs.Levels.{speed_levels, grade_levels}
use Rattle.rbc_model.specs.Profiles.{IsTrackFunction}
use Rattle.rbc_model.specs.Results.{is_from_to}
use Rattle.rbc_model.specs.Scales.{is_expressible}
use Rattle.rbc_model.proofs.CountingLemmas.{both_of}
use Rattle.rbc_model.proofs.ScaleLemmas.{expressible_some, expressible_near_enough}
use Rattle.rbc_reach.specs.declared.parts.ViewParts.{ViewParts}
use Rattle.rbc_reach.specs.Forms.{view_of_parts, are_in_form, IsViewInForm}
use Rattle.rbc_model.proofs.FrameLemmas.{limits_of}
use Rattle.rbc_model.proofs.SpellingLemmas.{within}

pub in_form-parts : (parts : ViewParts) → are_in_form parts ≡ true
    → IsTrackFunction speed_levels parts.speeds.end parts.speeds.steps
    → IsTrackFunction grade_levels parts.grades.end parts.grades.steps
    → IsViewInForm (view_of_parts parts) × (parts.grades.end ≡ parts.speeds.end)
in_form-parts parts h speeds grades =
    let n = parts.speeds.end in
    let ends = parts.grades.end == n in
    let expressible = is_expressible Far n in
    let room = nat_le parts.origin (2 ^ 32 - 1 - FARTHEST_END_IN_TENS) in
    let speed_limit = is_from_to 1 MOST_STEPS parts.speed_steps in
    let grade_limit = is_from_to 1 MOST_STEPS parts.grade_steps in
    let last = both_of (ends && expressible && room && speed_limit) grade_limit h in
    let fourth = both_of (ends && expressible && room) speed_limit last.0 in
    let third = both_of (ends && expressible) room fourth.0 in
    let second = both_of ends expressible third.0 in
    let same : parts.grades.end ≡ n = eqb-true parts.grades.end n second.0 in
    let here : n ≡ parts.origin + n - parts.origin = omega arith in
    let some = expressible_some Far n second.1 in
    let far = expressible_near_enough Far n second.1 in
    let near = leb-true parts.origin (2 ^ 32 - 1 - FARTHEST_END_IN_TENS) third.1 in
    let speeds_limit = limits_of 1 MOST_STEPS parts.speed_steps fourth.1 in
    let grades_limit = limits_of 1 MOST_STEPS parts.grade_steps last.1 in (
      record {
        ahead = omega arith;
        expressible = subst (λ k. is_expressible Far k ≡ true) here second.1;
        in_range = omega arith;
        speeds = subst (λ k. IsTrackFunction speed_levels k parts.speeds.steps) here speeds;
        grades = subst (λ k. IsTrackFunction grade_levels k parts.grades.steps) here (subst (λ k. IsTrackFunction grade_levels k parts.grades.steps) same grades);
        some_speed_steps = speeds_limit.0;
        few_speed_steps = speeds_limit.1;
        some_grade_steps = grades_limit.0;
        few_grade_steps = grades_limit.1;
      },
      same,
    )

-- ---- parts that the search finds pass the test

pub parts-in_form : (parts : ViewParts) → parts.grades.end ≡ parts.speeds.end → is_expressible Far parts.speeds.end ≡ true → parts.origin ≤ 2 ^ 32 - 1 - FARTHEST_END_IN_TENS
    → 1 ≤ parts.speed_steps → parts.speed_steps ≤ MOST_STEPS → 1 ≤ parts.grade_steps → parts.grade_steps ≤ MOST_STEPS → are_in_form parts ≡ true
parts-in_form parts ends end room s0 s1 g0 g1 =
    let n = parts.speeds.end in
    let end_test = parts.grades.end == n in
    let expressible = is_expressible Far n in
    let room_test = nat_le parts.origin (2 ^ 32 - 1 - FARTHEST_END_IN_TENS) in
    let speed_limit = is_from_to 1 MOST_STEPS parts.speed_steps in
    let grade_limit = is_from_to 1 MOST_STEPS parts.grade_steps in
    and_from (end_test && expressible && room_test && speed_limit) grade_limit
    (and_from (end_test && expressible && room_test) speed_limit
    (and_from (end_test && expressible) room_test
    (and_from end_test expressible (eq-eqb parts.grades.end n ends) end)
    (le-leb parts.origin (2 ^ 32 - 1 - FARTHEST_END_IN_TENS) room))
    (within 1 MOST_STEPS parts.speed_steps s0 s1))
    (within 1 MOST_STEPS parts.grade_steps g0 g1)
