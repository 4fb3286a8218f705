-- Worked speed profiles: they fit, their loss, and the greatest sound price tables.
use Rattle.std.proofs.Common.{◌≡◌, ◌≤◌, arith, ℕ, List, [], ◌∷◌, refl, lit≤, reverse, true, false}
use Rattle.rbc_model.specs.Levels.{speed_levels}
use Rattle.rbc_model.specs.Profiles.{value_at, loss, joined_steps, Fits, comes_first, starts_of}
use Rattle.rbc_model.specs.PriceTables.{breaks_of, IsSoundTable, IsGreatestSoundTable}
use Rattle.rbc_model.proofs.TableLemmas.{greatest_by_tests, fits_by_tests}

abbrev pub Steps : Type 0
Steps = List (ℕ × ℕ)

-- ---- 0:160 100:120 150:160 end 300

abbrev pub track_1 : Steps
track_1 = (0, 160) ∷ (100, 120) ∷ (150, 160) ∷ []

abbrev pub steps_1 : Steps
steps_1 = (0, 120) ∷ (150, 160) ∷ []

pub fits_1 : Fits speed_levels 1 2 300 (value_at track_1) steps_1
fits_1 = fits_by_tests speed_levels 1 2 300 (value_at track_1) steps_1 refl refl refl (lit≤ tt) refl refl

pub loss_1 : loss speed_levels 300 (value_at track_1) steps_1 ≡ 4000
loss_1 = refl

pub loss_of_first_cut : loss speed_levels 300 (value_at track_1) ((0, 160) ∷ (100, 120) ∷ []) ≡ 6000
loss_of_first_cut = refl

pub joined_1 : joined_steps speed_levels ((0, 160) ∷ (100, 120) ∷ (120, 120) ∷ (150, 160) ∷ []) ≡ track_1
joined_1 = refl

-- a price that is too high: one step to 150 loses 4,000
pub too_high_1 : IsSoundTable speed_levels 1 2 300 track_1 ((0 ∷ 4001 ∷ 10000 ∷ []) ∷ (0 ∷ 0 ∷ 4000 ∷ []) ∷ []) → ⊥
too_high_1 h = let bound : 4001 ≤ 4000 = h.one_step 2 (lit≤ tt) in omega (arith, bound)

pub breaks_1 : breaks_of 1 300 (starts_of track_1) ≡ 0 ∷ 100 ∷ 150 ∷ 300 ∷ []
breaks_1 = refl

pub table_1 : IsGreatestSoundTable speed_levels 1 2 300 track_1 ((0 ∷ 4000 ∷ 10000 ∷ []) ∷ (0 ∷ 0 ∷ 4000 ∷ []) ∷ [])
table_1 = greatest_by_tests speed_levels 1 2 300 track_1 _ refl refl refl refl refl

-- ---- 0:160 100:120 200:160 end 300, where cuts at 100 and at 200 lose the same

abbrev pub track_two_cuts : Steps
track_two_cuts = (0, 160) ∷ (100, 120) ∷ (200, 160) ∷ []

abbrev pub steps_two_cuts : Steps
steps_two_cuts = (0, 160) ∷ (100, 120) ∷ []

pub fits_two_cuts : Fits speed_levels 1 2 300 (value_at track_two_cuts) steps_two_cuts
fits_two_cuts = fits_by_tests speed_levels 1 2 300 (value_at track_two_cuts) steps_two_cuts refl refl refl (lit≤ tt) refl refl

pub loss_two_cuts : loss speed_levels 300 (value_at track_two_cuts) steps_two_cuts ≡ 4000
loss_two_cuts = refl

pub table_two_cuts : IsGreatestSoundTable speed_levels 1 2 300 track_two_cuts ((0 ∷ 4000 ∷ 8000 ∷ []) ∷ (0 ∷ 0 ∷ 4000 ∷ []) ∷ [])
table_two_cuts = greatest_by_tests speed_levels 1 2 300 track_two_cuts _ refl refl refl refl refl

-- ---- 0:100 100:115 200:125 300:140 end 400

abbrev pub track_rising : Steps
track_rising = (0, 100) ∷ (100, 115) ∷ (200, 125) ∷ (300, 140) ∷ []

abbrev pub steps_rising : Steps
steps_rising = (0, 100) ∷ (200, 125) ∷ []

pub fits_rising : Fits speed_levels 1 2 400 (value_at track_rising) steps_rising
fits_rising = fits_by_tests speed_levels 1 2 400 (value_at track_rising) steps_rising refl refl refl (lit≤ tt) refl refl

pub loss_rising : loss speed_levels 400 (value_at track_rising) steps_rising ≡ 3000
loss_rising = refl

pub table_rising : IsGreatestSoundTable speed_levels 1 2 400 track_rising ((0 ∷ 1500 ∷ 4000 ∷ 8000 ∷ []) ∷ (0 ∷ 0 ∷ 1000 ∷ 3000 ∷ []) ∷ [])
table_rising = greatest_by_tests speed_levels 1 2 400 track_rising _ refl refl refl refl refl

-- ---- 0:83 50:81 end 100, speeds that are no multiples of 5

abbrev pub track_uneven : Steps
track_uneven = (0, 83) ∷ (50, 81) ∷ []

abbrev pub steps_uneven : Steps
steps_uneven = (0, 80) ∷ []

pub fits_uneven : Fits speed_levels 1 3 100 (value_at track_uneven) steps_uneven
fits_uneven = fits_by_tests speed_levels 1 3 100 (value_at track_uneven) steps_uneven refl refl refl (lit≤ tt) refl refl

pub loss_uneven : loss speed_levels 100 (value_at track_uneven) steps_uneven ≡ 200
loss_uneven = refl

pub table_uneven : IsGreatestSoundTable speed_levels 1 3 100 track_uneven ((150 ∷ 200 ∷ []) ∷ (150 ∷ 200 ∷ []) ∷ [])
table_uneven = greatest_by_tests speed_levels 1 3 100 track_uneven _ refl refl refl refl refl

-- ---- 0:5 25:600 end 50, in one step

abbrev pub track_extremes : Steps
track_extremes = (0, 5) ∷ (25, 600) ∷ []

abbrev pub steps_extremes : Steps
steps_extremes = (0, 5) ∷ []

pub fits_extremes : Fits speed_levels 1 1 50 (value_at track_extremes) steps_extremes
fits_extremes = fits_by_tests speed_levels 1 1 50 (value_at track_extremes) steps_extremes refl refl refl (lit≤ tt) refl refl

pub loss_extremes : loss speed_levels 50 (value_at track_extremes) steps_extremes ≡ 14875
loss_extremes = refl

pub table_extremes : IsGreatestSoundTable speed_levels 1 1 50 track_extremes ((0 ∷ 14875 ∷ []) ∷ [])
table_extremes = greatest_by_tests speed_levels 1 1 50 track_extremes _ refl refl refl refl refl

-- of the two best profiles of the first track the one with the earlier cut is chosen
pub loss_later_cut : loss speed_levels 300 (value_at track_two_cuts) ((0, 120) ∷ (200, 160) ∷ []) ≡ 4000
loss_later_cut = refl

pub earlier_cut_first : comes_first (reverse (starts_of steps_two_cuts)) (reverse (starts_of {V = ℕ} ((0, 120) ∷ (200, 160) ∷ []))) ≡ true
earlier_cut_first = refl

pub later_cut_not_first : comes_first (reverse (starts_of {V = ℕ} ((0, 120) ∷ (200, 160) ∷ []))) (reverse (starts_of steps_two_cuts)) ≡ false
later_cut_not_first = refl

-- a price that is too high in the second row: one step from 100 to 400 loses 3,500
pub too_high_rising : IsSoundTable speed_levels 1 2 400 track_rising ((0 ∷ 1500 ∷ 4000 ∷ 8000 ∷ []) ∷ (0 ∷ 0 ∷ 1000 ∷ 4000 ∷ []) ∷ []) → ⊥
too_high_rising h = let bound : 4000 ≤ 3500 = h.more_steps 1 1 4 (lit≤ tt) (lit≤ tt) (lit≤ tt) (lit≤ tt) in omega (arith, bound)

-- joining the cheapest neighbours, one pair after the other, loses more
pub loss_of_joining : loss speed_levels 400 (value_at track_rising) ((0, 100) ∷ (100, 115) ∷ []) ≡ 3500
loss_of_joining = refl

-- ---- tens of metres: 0:160 10003:120 end 40000

pub breaks_of_tens : breaks_of 10 40000 (0 ∷ 10003 ∷ []) ≡ 0 ∷ 10000 ∷ 10010 ∷ 40000 ∷ []
breaks_of_tens = refl

-- a start less than ten metres before the end: the track's end stands for the ten that would lie behind it
pub breaks_near_the_end : breaks_of 10 40000 (0 ∷ 39995 ∷ []) ≡ 0 ∷ 39990 ∷ 40000 ∷ []
breaks_near_the_end = refl
