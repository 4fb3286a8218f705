-- The runs of a leg, met one after the other, and the levels of a line from leg to leg.
use Rattle.std.proofs.Common.{◌≡◌, ℕ, zero, suc, ◌+◌, ◌-◌, ◌<◌, ◌≤◌, ◌⊎◌, inl, inr, true, List, [], ◌∷◌, ◌++◌, length, get_or, take, drop, min, max, Option, Some, refl, sym, ap, ◌∙◌, subst, arith, nat_lt, if◌then◌else◌, ap₂, Result, Ok, Err}
use Rattle.std.specs.Prelude.{IfOk, option_map, slice_get}
use Rattle.std.specs.Option.{option_flatten, option_map_or}
use Rattle.std.proofs.lemmas.List.{drop_more, take-append-drop}
use Rattle.rbc_model.specs.declared.places.Direction.{Direction}
use Rattle.rbc_model.specs.declared.places.Direction.TheVariants.{Rising, Falling}
use Rattle.rbc_model.specs.declared.places.Leg.{Leg}
use Rattle.rbc_model.specs.Levels.{Levels, speed_levels, grade_levels}
use Rattle.rbc_model.specs.Lines.{Line, at_place, line_length, metre_speed, met as gradient_met, speed_at, speeds_from, speeds, grades}
use Rattle.rbc_model.specs.Profiles.{StepFunction, value_at, starts_of, rises_from_zero, runs_over, with_run}
use Rattle.rbc_model.specs.Tracks.{Section, Track, metres_of, metre_of_leg}
use Rattle.rbc_model.proofs.ScanLemmas.{le_or_lt}
use Rattle.rbc_scene_laws.proofs.SpotLemmas.{at_place-append_right}
use Rattle.rbc_steps.proofs.PlaceLemmas.{value_at-index, in_turn, first_at_zero}
use Rattle.rbc_line.specs.Along.{Tells, level_at, level_on, levels_from}
use Rattle.rbc_line.proofs.ChangeLemmas.{parts_metres}
use Rattle.rbc_line.proofs.TellingLemmas.{tells_more}
use Rattle.rbc_model.proofs.BasicLemmas.{if_in, same_or_later, next_or_later}
use Rattle.std.proofs.lemmas.Iterator.Adapters.{option_map_id}

more : (n i : ℕ) → (i + 1 < n) ⊎ (n ≤ i + 1)
more n i = grind arith

some_run : {V : Type 0} (rows : List (ℕ × V)) (i : ℕ) → i < length rows → ℕ × V
some_run [] i h = absurd (omega arith)
some_run (row ∷ rows) i h = row

abbrev start_at : {V : Type 0} (rows : List (ℕ × V)) (d : ℕ × V) (i : ℕ) → ℕ
start_at rows d i = (get_or rows i d).0

-- ---- the runs of one leg

-- the next run for rising offsets has this metre of the leg, or there is none up to the stretch's end
pub record IsNextRising {V : Type 0} (runs : List (ℕ × V)) (low high index reached : ℕ) : Type 0 where
  pub ahead : low ≤ reached
  pub within : reached < high → index < length runs
  pub begun : (d : ℕ × V) → reached < high → (get_or runs index d).0 ≤ reached
  pub later : (k : ℕ) (d : ℕ × V) → index < k → k < length runs → reached < (get_or runs k d).0

-- the runs from this index on are met, down to this metre
pub record AreMetFrom {V : Type 0} (runs : List (ℕ × V)) (high index reached : ℕ) : Type 0 where
  pub top : reached ≤ high
  pub within : index ≤ length runs
  pub begun : (k : ℕ) (d : ℕ × V) → suc k ≡ index → (get_or runs k d).0 < reached
  pub later : (k : ℕ) (d : ℕ × V) → index ≤ k → k < length runs → reached ≤ (get_or runs k d).0
  pub all : index ≡ 0 → reached ≡ 0

-- the level at each metre of the stretch, in the order of rising offsets
abbrev pub AreMetRising : {V : Type 0} → List (ℕ × V) → ℕ → ℕ → ℕ → (V → V) → (ℕ → Option V) → Type 0
AreMetRising runs low high told met level = (x : ℕ) → low ≤ x → x < high → level (told + (x - low)) ≡ option_map met (value_at runs x)

-- and in the order of falling offsets
abbrev pub AreMetFalling : {V : Type 0} → List (ℕ × V) → ℕ → ℕ → ℕ → (V → V) → (ℕ → Option V) → Type 0
AreMetFalling runs low high told met level = (x : ℕ) → low ≤ x → x < high → level (told + (high - 1 - x)) ≡ option_map met (value_at runs x)

module _ {V : Type 0} (runs : List (ℕ × V)) (rises : rises_from_zero (starts_of runs) ≡ true) (low high told : ℕ) (met : V → V) where
  -- the next run begins where the next one of the list does, or none does
  pub after_rising : (index reached next : ℕ) → IsNextRising runs low high index reached → reached < high → ((d : ℕ × V) → index + 1 < length runs → next ≡ (get_or runs (index + 1) d).0) → (length runs ≤ index + 1 → next ≡ high)
      → IsNextRising runs low high (index + 1) next × (reached < next)
  after_rising index reached next s here following none =
      elim (more (length runs) index) [
        | inl l ↦
            let d = some_run runs (index + 1) l in
            let on : reached < next = omega (arith, following d l, s.later (index + 1) d (omega arith) l) in (
              record {
                ahead = omega (arith, s.ahead);
                within = λ h. l;
                begun = λ e h. omega (arith, following e l);
                later = λ k e h m. omega (arith, following e l, in_turn runs (index + 1) k e rises h m);
              },
              on,
            )
        | inr l ↦
            let end : next ≡ high = none l in (
              record {
                ahead = omega (arith, s.ahead);
                within = λ h. absurd (omega arith);
                begun = λ e h. absurd (omega arith);
                later = λ k e h m. absurd (omega arith);
              },
              omega arith,
            )
      ]

  -- behind the last run all of the stretch is met
  pub all_rising : (index reached : ℕ) → IsNextRising runs low high index reached → length runs ≤ index → high ≤ reached
  all_rising index reached s h = elim (le_or_lt high reached) [ inl done ↦ done | inr more ↦ absurd (omega (arith, s.within more)) ]

  -- at its metres stands its level, as it is met
  met_there : (index y : ℕ) (d : ℕ × V) → index < length runs → (get_or runs index d).0 ≤ y → ((k : ℕ) → index < k → k < length runs → y < (get_or runs k d).0) → option_map met (value_at runs y) ≡ Some (met (get_or runs index d).1)
  met_there index y d within begun later = ap (option_map met) (value_at-index runs index y d within begun later)

  -- behind the next run, rows that told up to it tell up to the one after it
  pub told_rising : (level : ℕ → Option V) (rows : List (ℕ × V)) (index reached next : ℕ) (d : ℕ × V) → AreMetRising runs low high told met level → IsNextRising runs low high index reached → reached < high
      → ((e : ℕ × V) → index + 1 < length runs → next ≡ (get_or runs (index + 1) e).0) → (length runs ≤ index + 1 → next ≡ high)
      → Tells rows (told + (min reached high - low)) level → Tells (rows ++ (told + (reached - low), met (get_or runs index d).1) ∷ []) (told + (min next high - low)) level
  told_rising level rows index reached next d are s here following none t =
      let after = after_rising index reached next s here following none in
      let from : told + (min reached high - low) ≡ told + (reached - low) = let l = s.ahead in omega arith in
      tells_more rows (told + (reached - low)) (told + (min next high - low)) level (met (get_or runs index d).1) (subst (λ n. Tells rows n level) from t)
      (let l = s.ahead in let on = after.1 in omega arith)
      (λ x a b. at_metre x (low + (x - told)) (let l = s.ahead in omega arith) (let l = s.ahead in omega arith) (let l = s.ahead in omega arith))
    where
      at_metre : (x y : ℕ) → x ≡ told + (y - low) → reached ≤ y → y < min next high → level x ≡ Some (met (get_or runs index d).1)
      at_metre x y e a b =
          ap level e ∙ are y (let l = s.ahead in omega arith) (omega arith)
          ∙ met_there index y d (s.within here) (omega (arith, s.begun d here)) (λ k h m. elim (next_or_later index k h) [
            | inl same ↦ let eq : start_at runs d k ≡ start_at runs d (index + 1) = ap (start_at runs d) same in omega (arith, eq, following d (let n : index + 1 < length runs = omega arith in n))
            | inr later ↦ omega (arith, following d (let n : index + 1 < length runs = omega arith in n), in_turn runs (index + 1) k d rises later m)
          ])

  -- ---- falling offsets

  -- the run before is met too
  pub before_falling : (index : ℕ) (d : ℕ × V) (reached : ℕ) → AreMetFrom runs high (suc index) reached → AreMetFrom runs high index (get_or runs index d).0
  before_falling index d reached s =
      let begun : (e : ℕ × V) → (get_or runs index e).0 < reached = λ e. s.begun index e refl in
      let same : (e : ℕ × V) → (get_or runs index e).0 ≡ (get_or runs index d).0 = λ e. ap (λ r. r.0) (one_item runs index e d (omega (arith, s.within))) in
      record {
        top = omega (arith, s.top, begun d);
        within = omega (arith, s.within);
        begun = λ k e h. omega (arith, in_turn runs k index e rises (omega arith) (omega (arith, s.within)), same e);
        later = λ k e h m. elim (same_or_later index k h) [
          | inl here ↦ let eq : start_at runs e k ≡ start_at runs e index = ap (start_at runs e) here in omega (arith, eq, same e)
          | inr behind ↦ omega (arith, same e, in_turn runs index k e rises behind m)
        ];
        all = λ h. (let eq : start_at runs d index ≡ start_at runs d 0 = ap (start_at runs d) h in omega (arith, eq, (first_at_zero runs rises).1 d));
      }
    where
      one_item : (rows : List (ℕ × V)) (i : ℕ) (a b : ℕ × V) → i < length rows → get_or rows i a ≡ get_or rows i b
      one_item [] i a b h = absurd (omega arith)
      one_item (row ∷ rows) zero a b h = refl
      one_item (row ∷ rows) (suc i) a b h = one_item rows i a b (omega arith)

  -- and the rows tell of it
  pub told_falling : (level : ℕ → Option V) (rows : List (ℕ × V)) (index reached : ℕ) (d : ℕ × V) → AreMetFalling runs low high told met level → AreMetFrom runs high (suc index) reached → low < reached
      → Tells rows (told + (high - max reached low)) level → Tells (rows ++ (told + (high - reached), met (get_or runs index d).1) ∷ []) (told + (high - max (get_or runs index d).0 low)) level
  told_falling level rows index reached d are s here t =
      let from : told + (high - max reached low) ≡ told + (high - reached) = omega arith in
      let begun : (get_or runs index d).0 < reached = s.begun index d refl in
      let top = s.top in
      tells_more rows (told + (high - reached)) (told + (high - max (get_or runs index d).0 low)) level (met (get_or runs index d).1) (subst (λ n. Tells rows n level) from t)
      (omega arith)
      (λ x a b. at_metre x (high - 1 - (x - told)) (omega arith) (omega arith) (omega arith) (omega arith))
    where
      at_metre : (x y : ℕ) → x ≡ told + (high - 1 - y) → y < reached → (get_or runs index d).0 ≤ y → low ≤ y → level x ≡ Some (met (get_or runs index d).1)
      at_metre x y e a b f =
          ap level e ∙ are y f (omega (arith, s.top))
          ∙ met_there index y d (omega (arith, s.within)) b (λ k h m. omega (arith, s.later k d (omega arith) m))

-- ---- the levels of a line, from leg to leg

module _ {V : Type 0} (steps_of : Section → List (ℕ × V)) (met : Direction → V → V) (track : Track) where
  -- at a place of a leg stands that leg's level
  pub level_there : (legs : Line) (index begin x : ℕ) (leg : Leg) → index < length legs → leg ≡ get_or legs index leg → begin + line_length track (drop index legs) ≡ line_length track legs → x < metres_of track leg.section
      → level_at steps_of met track legs (begin + x) ≡ level_on steps_of met track leg x
  level_there legs index begin x leg within is metres inside =
      let say = level_on steps_of met track in
      let front = take index legs in
      let before : line_length track front ≡ begin = omega (arith, parts_metres track legs index) in
      let parts : front ++ leg ∷ drop (index + 1) legs ≡ legs = ap (λ l. front ++ l ∷ drop (index + 1) legs) is ∙ ap (λ rest. front ++ rest) (sym (drop_more legs index leg within)) ∙ take-append-drop index legs in
      let there : at_place say track legs (begin + x) ≡ Some (say leg x) =
      ap (λ line. at_place say track line (begin + x)) (sym parts)
      ∙ at_place-append_right say track front (leg ∷ drop (index + 1) legs) (begin + x) (omega (arith, before))
      ∙ ap (at_place say track (leg ∷ drop (index + 1) legs)) (let e : begin + x - line_length track front ≡ x = omega (arith, before) in e)
      ∙ if_in (Some (say leg x)) (at_place say track (drop (index + 1) legs) (x - metres_of track leg.section)) x (metres_of track leg.section) inside in
      ap option_flatten there

  -- on a leg of falling offsets the metres come from the last to the first
  falling_by : (number : ℕ) (direction : Direction) (x metres : ℕ) (section : Section) → direction ≡ Falling → slice_get track.sections number ≡ Some section → metres ≡ section.metres
      → level_on steps_of met track (record { section = number; direction = direction }) x ≡ option_map (met Falling) (value_at (steps_of section) (metres - 1 - x))
  falling_by number Rising x metres section d e f = cc
  falling_by number Falling x metres section d e f = rw (e, f) refl

  pub level_on-falling : (leg : Leg) (x metres : ℕ) (section : Section) → leg.direction ≡ Falling → slice_get track.sections leg.section ≡ Some section → metres ≡ section.metres
      → level_on steps_of met track leg x ≡ option_map (met Falling) (value_at (steps_of section) (metres - 1 - x))
  level_on-falling leg x metres section d e f = falling_by leg.section leg.direction x metres section d e f

  -- a stretch of such a leg, by the offsets of its section
  pub met_backwards : (leg : Leg) (low high told metres : ℕ) (section : Section) (runs : List (ℕ × V)) (level : ℕ → Option V) → low < high → high ≤ metres_of track leg.section → leg.direction ≡ Falling → slice_get track.sections leg.section ≡ Some section
      → metres ≡ section.metres → runs ≡ steps_of section → ((x : ℕ) → low ≤ x → x < high → level (told + (x - low)) ≡ level_on steps_of met track leg x)
      → (told + (metres - low - (metres - high)) ≡ told + (high - low)) × AreMetFalling runs (metres - high) (metres - low) told (met Falling) level
  met_backwards leg low high told metres section runs level some on_leg d e f is are = (
    omega (arith, inside),
    λ x a b. ap level (let k : told + (metres - low - 1 - x) ≡ told + (metres - 1 - x - low) = omega arith in k) ∙ are (metres - 1 - x) (omega (arith, inside)) (omega (arith, inside))
        ∙ level_on-falling leg (metres - 1 - x) metres section d e f
        ∙ ap (λ k. option_map (met Falling) (value_at (steps_of section) k)) (let k : metres - 1 - (metres - 1 - x) ≡ x = omega (arith, inside) in k)
        ∙ ap (λ rows. option_map (met Falling) (value_at rows x)) (sym is),
  )
    where
      inside : high ≤ metres
      inside = let same : metres_of track leg.section ≡ metres = ap (λ o. option_map_or (λ (s : Section). s.metres) o 0) e ∙ sym f in omega arith

-- ---- the kinds of level that a track has

-- what is said of each place alike is said alike of the line
at_place-same : {X : Type 0} (f g : Leg → ℕ → X) (track : Track) (legs : Line) (i : ℕ) → ((leg : Leg) (k : ℕ) → f leg k ≡ g leg k) → at_place f track legs i ≡ at_place g track legs i
at_place-same f g track [] i same = refl
at_place-same f g track (leg ∷ legs) i same =
    ap (λ x. if nat_lt i (metres_of track leg.section) then Some x else at_place f track legs (i - metres_of track leg.section)) (same leg i)
    ∙ ap (λ o. if nat_lt i (metres_of track leg.section) then Some (g leg i) else o) (at_place-same f g track legs (i - metres_of track leg.section) same)

-- a speed is met as it is
level_at-speed_at : (track : Track) (legs : Line) (i : ℕ) → level_at (λ section. section.speeds) (λ direction speed. speed) track legs i ≡ speed_at track legs i
level_at-speed_at track legs i =
    ap option_flatten
    (at_place-same (level_on (λ section. section.speeds) (λ direction speed. speed) track) (λ leg k. metre_speed track (metre_of_leg track leg k)) track legs i
    (λ leg k. option_map_id (metre_speed track (metre_of_leg track leg k))))

runs_over-same : {V : Type 0} (levels : Levels V) (n : ℕ) (f g : ℕ → Option V) → ((x : ℕ) → f x ≡ g x) → runs_over levels n f ≡ runs_over levels n g
runs_over-same levels zero f g same = refl
runs_over-same levels (suc n) f g same = ap₂ (λ rows value. with_run levels rows n value) (runs_over-same levels n f g same) (same n)

pub speeds_are : (track there : Track) (legs here : Line) (from to : ℕ) → there ≡ track → here ≡ legs
    → runs_over speed_levels (to - from) (levels_from (λ section. section.speeds) (λ direction speed. speed) there here from) ≡ speeds track legs from to
speeds_are track there legs here from to e f =
    ap₂ (λ (t : Track) (l : Line). runs_over speed_levels (to - from) (levels_from (λ section. section.speeds) (λ direction speed. speed) t l from)) e f
    ∙ runs_over-same speed_levels (to - from) (levels_from (λ section. section.speeds) (λ direction speed. speed) track legs from) (speeds_from track legs from) (λ x. level_at-speed_at track legs (from + x))

pub grades_are : (track there : Track) (legs here : Line) (from to : ℕ) → there ≡ track → here ≡ legs
    → runs_over grade_levels (to - from) (levels_from (λ section. section.grades) gradient_met there here from) ≡ grades track legs from to
grades_are track there legs here from to e f =
    ap₂ (λ (t : Track) (l : Line). runs_over grade_levels (to - from) (levels_from (λ section. section.grades) gradient_met t l from)) e f

-- runs of this end and these steps are the track of them
pub made_of : {V E : Type 0} (result : Result (StepFunction V) E) (n : ℕ) (steps wanted : List (ℕ × V)) → steps ≡ wanted → IfOk result (λ runs. runs.end ≡ n) → IfOk result (λ runs. runs.steps ≡ steps)
    → IfOk result (λ runs. runs ≡ record { steps = wanted; end = n })
made_of (Ok runs) n steps wanted e f g = ap₂ (λ s k. let made : StepFunction _ = record { steps = s; end = k } in made) (g ∙ e) f
made_of (Err fault) n steps wanted e f g = tt

-- ---- from one leg to the next

-- the metres that rows tell of before a leg, and behind the part of it that lies between two places
pub before_leg : (from to begin end first last : ℕ) → begin < to → first ≡ max from begin → last ≡ min to end → first < last → min begin to - from ≡ first - from
before_leg from to begin end first last a e f b = omega arith

pub after_leg : (from to begin metres first last after : ℕ) → begin < to → first ≡ max from begin → last ≡ min to (begin + metres) → first < last → after ≡ begin + metres
    → first - from + (last - begin - (first - begin)) ≡ min after to - from
after_leg from to begin metres first last after a e f b g = omega arith

pub beside_leg : (from to begin metres first last after : ℕ) → begin < to → first ≡ max from begin → last ≡ min to (begin + metres) → last ≤ first → after ≡ begin + metres → min begin to - from ≡ min after to - from
beside_leg from to begin metres first last after a e f b g = omega arith

-- the place of a metre of this part
pub place_on_leg : (from begin first x : ℕ) → first ≡ max from begin → first - begin ≤ x → from + (first - from + (x - (first - begin))) ≡ begin + x
place_on_leg from begin first x e h = omega arith

pub inside_leg : (to begin metres last x here : ℕ) → last ≡ min to (begin + metres) → x < last - begin → metres ≡ here → x < here
inside_leg to begin metres last x here e h f = omega arith
