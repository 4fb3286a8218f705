-- Worked gradient profiles.
use Rattle.std.proofs.Common.{◌≡◌, ℕ, List, [], ◌∷◌, refl, lit≤, ℤ, pos, negsuc}
use Rattle.rbc_model.specs.Levels.{grade_levels}
use Rattle.rbc_model.specs.Profiles.{value_at, loss, Fits}
use Rattle.rbc_model.specs.PriceTables.{IsGreatestSoundTable}
use Rattle.rbc_model.proofs.TableLemmas.{greatest_by_tests, fits_by_tests}

-- ---- 0:10 100:-3 end 200, in one step

abbrev pub track_uphill : List (ℕ × ℤ)
track_uphill = (0, pos 10) ∷ (100, negsuc 2) ∷ []

pub fits_uphill : Fits grade_levels 1 1 200 (value_at track_uphill) ((0, negsuc 2) ∷ [])
fits_uphill = fits_by_tests grade_levels 1 1 200 (value_at track_uphill) _ refl refl refl (lit≤ tt) refl refl

pub loss_uphill : loss grade_levels 200 (value_at track_uphill) ((0, negsuc 2) ∷ []) ≡ 1300
loss_uphill = refl

pub table_uphill : IsGreatestSoundTable grade_levels 1 1 200 track_uphill ((0 ∷ 1300 ∷ []) ∷ [])
table_uphill = greatest_by_tests grade_levels 1 1 200 track_uphill _ refl refl refl refl refl

-- ---- the same track run backwards: 0:3 100:-10 end 200

abbrev pub track_backwards : List (ℕ × ℤ)
track_backwards = (0, pos 3) ∷ (100, negsuc 9) ∷ []

pub fits_backwards : Fits grade_levels 1 1 200 (value_at track_backwards) ((0, negsuc 9) ∷ [])
fits_backwards = fits_by_tests grade_levels 1 1 200 (value_at track_backwards) _ refl refl refl (lit≤ tt) refl refl

pub loss_backwards : loss grade_levels 200 (value_at track_backwards) ((0, negsuc 9) ∷ []) ≡ 1300
loss_backwards = refl

-- ---- 0:0 50:-254 end 100, in two steps

abbrev pub track_steep : List (ℕ × ℤ)
track_steep = (0, pos 0) ∷ (50, negsuc 253) ∷ []

pub fits_steep : Fits grade_levels 1 2 100 (value_at track_steep) track_steep
fits_steep = fits_by_tests grade_levels 1 2 100 (value_at track_steep) _ refl refl refl (lit≤ tt) refl refl

pub table_steep : IsGreatestSoundTable grade_levels 1 2 100 track_steep ((0 ∷ 12700 ∷ []) ∷ (0 ∷ 0 ∷ []) ∷ [])
table_steep = greatest_by_tests grade_levels 1 2 100 track_steep _ refl refl refl refl refl
