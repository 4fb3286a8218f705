-- Views compared part by part, and the law that this tells equal views.
use Rattle.std.specs.Prelude.{◌≡◌, refl, ℕ, zero, suc, Bool, ◌&&◌, ◌==◌}
use Rattle.std.specs.Bool.{Decides}
use Rattle.std.specs.Ordering.{int_eq}
use Rattle.std.specs.Cmp.{IsEquivalence, decided, unsigned_Decides, signed_Decides, booleans_Decides}
use Rattle.std.specs.Cmp.Lexicographic.{pointwise, pointwise_decides}
use Rattle.std.proofs.Common.{sym, ap, ◌∙◌}
use Rattle.std.proofs.Math.Bool.{beq}
use Rattle.std.proofs.lemmas.Bool.Decides.{Decides-and, Decides-like}
use Rattle.rbc_model.specs.declared.places.Leg.{Leg}
use Rattle.rbc_model.specs.declared.places.Direction.TheVariants.{Rising}
use Rattle.rbc_model.specs.declared.refusals.Obstacle.{Obstacle}
use Rattle.rbc_model.specs.declared.refusals.Obstacle.TheVariants.{NoLink, NotLocked, Own, Occupied, Held, Limit}
use Rattle.rbc_model.specs.GroupNames.{GroupName}
use Rattle.rbc_model.specs.Tracks.{leg_eq, group_name_eq}
use Rattle.rbc_model.specs.Views.{View}
use Rattle.rbc_model.proofs.SamenessLemmas.{leg_eq-itself, leg_eq-true, group_name_eq-itself, group_name_eq-true}

-- ---- obstacles, as a number for the kind and a leg

abbrev obstacle_key : Obstacle → ℕ × Leg
obstacle_key (NoLink leg) = (0, leg)
obstacle_key (NotLocked section) = (1, record { section = section; direction = Rising })
obstacle_key Own = (2, record { section = 0; direction = Rising })
obstacle_key (Occupied train) = (3, record { section = train; direction = Rising })
obstacle_key (Held train) = (4, record { section = train; direction = Rising })
obstacle_key Limit = (5, record { section = 0; direction = Rising })

abbrev obstacle_with : ℕ × Leg → Obstacle
obstacle_with (zero, leg) = NoLink leg
obstacle_with (suc zero, leg) = NotLocked leg.section
obstacle_with (suc (suc zero), leg) = Own
obstacle_with (suc (suc (suc zero)), leg) = Occupied leg.section
obstacle_with (suc (suc (suc (suc zero))), leg) = Held leg.section
obstacle_with (suc (suc (suc (suc (suc kind)))), leg) = Limit

obstacle_with-key : (o : Obstacle) → obstacle_with (obstacle_key o) ≡ o
obstacle_with-key (NoLink leg) = refl
obstacle_with-key (NotLocked section) = refl
obstacle_with-key Own = refl
obstacle_with-key (Occupied train) = refl
obstacle_with-key (Held train) = refl
obstacle_with-key Limit = refl

-- whether the two obstacles are the same
abbrev pub obstacle_eq : Obstacle → Obstacle → Bool
obstacle_eq a b = (obstacle_key a).0 == (obstacle_key b).0 && leg_eq (obstacle_key a).1 (obstacle_key b).1

-- ---- views

-- whether both are of one train, with the same last report
abbrev pub tell_the_same_report : View → View → Bool
tell_the_same_report a b = a.train == b.train && group_name_eq a.group b.group && beq a.nominal b.nominal && a.time == b.time

-- whether both have the same places
abbrev pub have_the_same_places : View → View → Bool
have_the_same_places a b = a.origin == b.origin && a.start == b.start && a.front == b.front && a.to == b.to && a.end == b.end && a.reach == b.reach

-- whether both have the same legs, with the same obstacle beyond
abbrev pub have_the_same_way : View → View → Bool
have_the_same_way a b = pointwise leg_eq a.line b.line && obstacle_eq a.obstacle b.obstacle

-- whether two runs start at one metre and have one value
abbrev pub is_same_run : {V : Type 0} → (V → V → Bool) → ℕ × V → ℕ × V → Bool
is_same_run same a b = a.0 == b.0 && same a.1 b.1

-- whether both have the same speeds, and as many steps for them
abbrev pub have_the_same_speeds : View → View → Bool
have_the_same_speeds a b = a.speed_steps == b.speed_steps && pointwise (is_same_run (λ v w. v == w)) a.speeds b.speeds

-- whether both have the same gradients, and as many steps for them
abbrev pub have_the_same_grades : View → View → Bool
have_the_same_grades a b = a.grade_steps == b.grade_steps && pointwise (is_same_run int_eq) a.grades b.grades

-- whether both show the same
abbrev pub is_same_view : View → View → Bool
is_same_view a b =
    tell_the_same_report a b && have_the_same_places a b && have_the_same_way a b && have_the_same_speeds a b && have_the_same_grades a b

-- ---- this tells equal views

leg_eq-decides : (a b : Leg) → Decides (leg_eq a b) (a ≡ b)
leg_eq-decides a b = (leg_eq-true a b, λ e. ap (leg_eq a) (sym e) ∙ leg_eq-itself a)

pub group_name_eq-decides : (a b : GroupName) → Decides (group_name_eq a b) (a ≡ b)
group_name_eq-decides a b = (group_name_eq-true a b, λ e. ap (group_name_eq a) (sym e) ∙ group_name_eq-itself a)

-- where two tests decide the parts, both decide the pair
pair_decides : {X Y : Type 0} (a b : X × Y) (first second : Bool) → Decides first (a.0 ≡ b.0) → Decides second (a.1 ≡ b.1) → Decides (first && second) (a ≡ b)
pair_decides a b first second f s =
    Decides-like (first && second) (λ e. λ i. (e.0 i, e.1 i)) (λ e. (ap (λ p. p.0) e, ap (λ p. p.1) e)) (Decides-and first second f s)

pub is_same_run-decides : {V : Type 0} (same : V → V → Bool) → ((v w : V) → Decides (same v w) (v ≡ w)) → (a b : ℕ × V) → Decides (is_same_run same a b) (a ≡ b)
is_same_run-decides same decides a b = pair_decides a b (a.0 == b.0) (same a.1 b.1) (unsigned_Decides a.0 b.0) (decides a.1 b.1)

pub obstacle_eq-decides : (a b : Obstacle) → Decides (obstacle_eq a b) (a ≡ b)
obstacle_eq-decides a b =
    Decides-like (obstacle_eq a b) (λ e. sym (obstacle_with-key a) ∙ ap obstacle_with e ∙ obstacle_with-key b) (λ e. ap obstacle_key e)
    (pair_decides (obstacle_key a) (obstacle_key b) ((obstacle_key a).0 == (obstacle_key b).0) (leg_eq (obstacle_key a).1 (obstacle_key b).1)
    (unsigned_Decides (obstacle_key a).0 (obstacle_key b).0) (leg_eq-decides (obstacle_key a).1 (obstacle_key b).1))

report_decides : (a b : View) → Decides (tell_the_same_report a b) ((a.train ≡ b.train) × (a.group ≡ b.group) × (a.nominal ≡ b.nominal) × (a.time ≡ b.time))
report_decides a b =
    Decides-like (tell_the_same_report a b) (λ e. (e.0.0.0, e.0.0.1, e.0.1, e.1)) (λ e. (((e.0, e.1), e.2), e.3))
    (Decides-and (a.train == b.train && group_name_eq a.group b.group && beq a.nominal b.nominal) (a.time == b.time)
    (Decides-and (a.train == b.train && group_name_eq a.group b.group) (beq a.nominal b.nominal)
    (Decides-and (a.train == b.train) (group_name_eq a.group b.group) (unsigned_Decides a.train b.train) (group_name_eq-decides a.group b.group))
    (booleans_Decides a.nominal b.nominal))
    (unsigned_Decides a.time b.time))

places_decide : (a b : View) → Decides (have_the_same_places a b) ((a.origin ≡ b.origin) × (a.start ≡ b.start) × (a.front ≡ b.front) × (a.to ≡ b.to) × (a.end ≡ b.end) × (a.reach ≡ b.reach))
places_decide a b =
    Decides-like (have_the_same_places a b) (λ e. (e.0.0.0.0.0, e.0.0.0.0.1, e.0.0.0.1, e.0.0.1, e.0.1, e.1)) (λ e. (((((e.0, e.1), e.2), e.3), e.4), e.5))
    (Decides-and (a.origin == b.origin && a.start == b.start && a.front == b.front && a.to == b.to && a.end == b.end) (a.reach == b.reach)
    (Decides-and (a.origin == b.origin && a.start == b.start && a.front == b.front && a.to == b.to) (a.end == b.end)
    (Decides-and (a.origin == b.origin && a.start == b.start && a.front == b.front) (a.to == b.to)
    (Decides-and (a.origin == b.origin && a.start == b.start) (a.front == b.front)
    (Decides-and (a.origin == b.origin) (a.start == b.start) (unsigned_Decides a.origin b.origin) (unsigned_Decides a.start b.start))
    (unsigned_Decides a.front b.front))
    (unsigned_Decides a.to b.to))
    (unsigned_Decides a.end b.end))
    (unsigned_Decides a.reach b.reach))

way_decides : (a b : View) → Decides (have_the_same_way a b) ((a.line ≡ b.line) × (a.obstacle ≡ b.obstacle))
way_decides a b =
    Decides-and (pointwise leg_eq a.line b.line) (obstacle_eq a.obstacle b.obstacle)
    (pointwise_decides leg_eq-decides a.line b.line) (obstacle_eq-decides a.obstacle b.obstacle)

speeds_decide : (a b : View) → Decides (have_the_same_speeds a b) ((a.speed_steps ≡ b.speed_steps) × (a.speeds ≡ b.speeds))
speeds_decide a b =
    Decides-and (a.speed_steps == b.speed_steps) (pointwise (is_same_run (λ v w. v == w)) a.speeds b.speeds)
    (unsigned_Decides a.speed_steps b.speed_steps) (pointwise_decides (is_same_run-decides (λ v w. v == w) unsigned_Decides) a.speeds b.speeds)

grades_decide : (a b : View) → Decides (have_the_same_grades a b) ((a.grade_steps ≡ b.grade_steps) × (a.grades ≡ b.grades))
grades_decide a b =
    Decides-and (a.grade_steps == b.grade_steps) (pointwise (is_same_run int_eq) a.grades b.grades)
    (unsigned_Decides a.grade_steps b.grade_steps) (pointwise_decides (is_same_run-decides int_eq signed_Decides) a.grades b.grades)

pub is_same_view-decides : (a b : View) → Decides (is_same_view a b) (a ≡ b)
is_same_view-decides a b =
    Decides-like (is_same_view a b)
    (λ e. λ i. record {
      train = e.0.0.0.0.0 i;
      group = e.0.0.0.0.1 i;
      nominal = e.0.0.0.0.2 i;
      time = e.0.0.0.0.3 i;
      line = e.0.0.1.0 i;
      origin = e.0.0.0.1.0 i;
      start = e.0.0.0.1.1 i;
      front = e.0.0.0.1.2 i;
      to = e.0.0.0.1.3 i;
      end = e.0.0.0.1.4 i;
      reach = e.0.0.0.1.5 i;
      obstacle = e.0.0.1.1 i;
      speed_steps = e.0.1.0 i;
      grade_steps = e.1.0 i;
      speeds = e.0.1.1 i;
      grades = e.1.1 i;
    })
    (λ e. (
      (
        (
          (
            (ap (λ v. v.train) e, ap (λ v. v.group) e, ap (λ v. v.nominal) e, ap (λ v. v.time) e),
            (ap (λ v. v.origin) e, ap (λ v. v.start) e, ap (λ v. v.front) e, ap (λ v. v.to) e, ap (λ v. v.end) e, ap (λ v. v.reach) e),
          ),
          (ap (λ v. v.line) e, ap (λ v. v.obstacle) e),
        ),
        (ap (λ v. v.speed_steps) e, ap (λ v. v.speeds) e),
      ),
      (ap (λ v. v.grade_steps) e, ap (λ v. v.grades) e),
    ))
    (Decides-and (tell_the_same_report a b && have_the_same_places a b && have_the_same_way a b && have_the_same_speeds a b) (have_the_same_grades a b)
    (Decides-and (tell_the_same_report a b && have_the_same_places a b && have_the_same_way a b) (have_the_same_speeds a b)
    (Decides-and (tell_the_same_report a b && have_the_same_places a b) (have_the_same_way a b)
    (Decides-and (tell_the_same_report a b) (have_the_same_places a b) (report_decides a b) (places_decide a b))
    (way_decides a b))
    (speeds_decide a b))
    (grades_decide a b))

-- so it is an equivalence
pub same_views : IsEquivalence is_same_view
same_views = decided is_same_view is_same_view-decides
