-- The end has to be a multiple of the unit: over 15 metres with a unit of 10 the last break is 20, and the greatest table's
-- last price, 31, counts five metres more than the best profile has, which loses 21.
use Rattle.std.proofs.Common.{◌≡◌, refl, lit≤, ℕ, List, [], ◌∷◌}
use Rattle.rbc_model.specs.Levels.{speed_levels}
use Rattle.rbc_model.specs.Profiles.{value_at, loss, IsTrackFunction, Fits}
use Rattle.rbc_model.specs.PriceTables.{table_at, row_count, stretch_count, IsGreatestSoundTable}
use Rattle.rbc_model.proofs.TableLemmas.{greatest_by_tests, fits_by_tests}

abbrev short_runs : List (ℕ × ℕ)
short_runs = (0, 5) ∷ (12, 12) ∷ []

abbrev short_rows : List (List ℕ)
short_rows = (0 ∷ 21 ∷ 56 ∷ []) ∷ (0 ∷ 21 ∷ 31 ∷ []) ∷ (0 ∷ 21 ∷ 31 ∷ []) ∷ []

abbrev short_steps : List (ℕ × ℕ)
short_steps = (0, 5) ∷ []

short_track : IsTrackFunction speed_levels 15 short_runs
short_track = record { starts = record { rising = refl; inside = refl }; values = refl; once = refl }

short_greatest : IsGreatestSoundTable speed_levels 10 3 15 short_runs short_rows
short_greatest = greatest_by_tests speed_levels 10 3 15 short_runs short_rows refl refl refl refl refl

short_fits : Fits speed_levels 10 3 15 (value_at short_runs) short_steps
short_fits = fits_by_tests speed_levels 10 3 15 (value_at short_runs) short_steps refl refl refl (lit≤ tt) refl refl

short_price : table_at short_rows (row_count speed_levels 10 3 15 short_runs) (stretch_count speed_levels 10 3 15 short_runs) ≡ 31
short_price = refl

short_loss : loss speed_levels 15 (value_at short_runs) short_steps ≡ 21
short_loss = refl
