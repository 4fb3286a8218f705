-- The tests of sameness are equality: of directions, legs and balise groups.
use Rattle.std.proofs.Common.{◌≡◌, true, refl, ap₂}
use Rattle.std.specs.Prelude.{◌==◌}
use Rattle.std.proofs.lemmas.Bool.{eqb-true, and_from}
use Rattle.rbc_model.specs.declared.places.Direction.{Direction}
use Rattle.rbc_model.specs.declared.places.Direction.TheVariants.{Rising, Falling}
use Rattle.rbc_model.specs.declared.places.Leg.{Leg}
use Rattle.rbc_model.specs.GroupNames.{GroupName}
use Rattle.rbc_model.specs.Tracks.{direction_eq, leg_eq, group_name_eq}
use Rattle.rbc_model.proofs.CountingLemmas.{both_of}
use Rattle.rbc_model.proofs.BasicLemmas.{same_number}

pub direction_eq-itself : (a : Direction) → direction_eq a a ≡ true
direction_eq-itself Rising = refl
direction_eq-itself Falling = refl

pub direction_eq-true : (a b : Direction) → direction_eq a b ≡ true → a ≡ b
direction_eq-true Rising Rising h = refl
direction_eq-true Falling Falling h = refl
direction_eq-true Rising Falling h = cc
direction_eq-true Falling Rising h = cc

pub leg_eq-itself : (a : Leg) → leg_eq a a ≡ true
leg_eq-itself a = and_from (a.section == a.section) (direction_eq a.direction a.direction) (same_number a.section) (direction_eq-itself a.direction)

pub leg_eq-true : (a b : Leg) → leg_eq a b ≡ true → a ≡ b
leg_eq-true a b h =
    let parts = both_of (a.section == b.section) (direction_eq a.direction b.direction) h in
    ap₂ (λ s d. let l : Leg = record { section = s; direction = d } in l) (eqb-true a.section b.section parts.0) (direction_eq-true a.direction b.direction parts.1)

pub group_name_eq-itself : (a : GroupName) → group_name_eq a a ≡ true
group_name_eq-itself a = and_from (a.country == a.country) (a.number == a.number) (same_number a.country) (same_number a.number)

pub group_name_eq-true : (a b : GroupName) → group_name_eq a b ≡ true → a ≡ b
group_name_eq-true a b h =
    let parts = both_of (a.country == b.country) (a.number == b.number) h in
    ap₂ (λ c n. let g : GroupName = record { country = c; number = n } in g) (eqb-true a.country b.country parts.0) (eqb-true a.number b.number parts.1)
