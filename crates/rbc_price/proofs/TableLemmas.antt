-- The prices of rows, as they are read.
use Rattle.std.proofs.Common.{◌≡◌, ap, sym, ◌∙◌, arith, ℕ, zero, suc, List, [], ◌∷◌, length, true, false, ◌==◌}
use Rattle.std.specs.List.{list_all}
use Rattle.std.specs.Global.{Vec}
use Rattle.std.proofs.lemmas.Bool.{eqb-true}
use Rattle.std.proofs.lemmas.Bool.Decides.{nat_tests}
use Rattle.std.proofs.lemmas.List.{length-map}
use Rattle.rbc_model.specs.Levels.{Levels}
use Rattle.rbc_model.specs.Profiles.{StepFunction}
use Rattle.rbc_model.specs.PriceChecks.{last_price, steps_of_use}
use Rattle.rbc_model.specs.PriceTables.{table_at}
use Rattle.rbc_model.proofs.CountingLemmas.{both_of}
use Rattle.rbc_table_laws.specs.PriceRows.{prices_of, AreWide}
use Rattle.rbc_price.specs.Columns.{stretches_of}
use Rattle.rbc_price.proofs.ShapeLemmas.{IsShaped}

pub wide_of_test : (width : ℕ) (rows : List (Vec ℕ)) → list_all (λ row. length row == width) (prices_of rows) ≡ true → AreWide width rows
wide_of_test width [] e j row at = absurd (cc)
wide_of_test width (first ∷ rows) e zero row at =
    let same : first ≡ row = cc in
    ap (λ (r : Vec ℕ). length r.items) (sym same) ∙ eqb-true (length first.items) width (both_of (length first.items == width) (list_all (λ row. length row == width) (prices_of rows)) e).0
wide_of_test width (first ∷ rows) e (suc j) row at =
    wide_of_test width rows (both_of (length first.items == width) (list_all (λ row. length row == width) (prices_of rows)) e).1 j row at

pub not_same : (a b : ℕ) → (a ≡ b → ⊥) → (a == b) ≡ false
not_same a b h = grind (arith, nat_tests)

module _ {V : Type 0} (levels : Levels V) (limit : ℕ) (track profile : StepFunction V) (rows : List (Vec ℕ)) (s : IsShaped levels limit track profile (prices_of rows)) where
  pub wide_of_shape : AreWide (stretches_of track) rows
  wide_of_shape = wide_of_test (stretches_of track) rows s.wide

  pub count_of_shape : length rows ≡ steps_of_use levels limit track (prices_of rows)
  count_of_shape = sym (length-map rows (λ row. row.items)) ∙ s.count

  -- the last price
  pub last_is : (columns price : ℕ) → columns ≡ stretches_of track → price ≡ table_at (prices_of rows) (length rows) columns → price ≡ last_price levels limit track (prices_of rows)
  last_is columns price is there =
      there ∙ ap (table_at (prices_of rows) (length rows)) is ∙ ap (λ j. table_at (prices_of rows) j (stretches_of track)) count_of_shape
