-- Single prices of a table.
use Rattle.std.proofs.Common.{◌≡◌, ℕ, suc, zero, ◌-◌, ◌<◌, List, refl, sym, ap, ◌∙◌, arith, get_or, length}
use Rattle.std.specs.Global.{Vec}
use Rattle.rbc_model.specs.PriceTables.{table_at}
use Rattle.rbc_table_laws.specs.PriceRows.{prices_of}
use Rattle.rbc_table_laws.proofs.PriceRowLemmas.{row_at}

pub price_in : (rows : List (Vec ℕ)) (steps column : ℕ) (row : Vec ℕ) → (steps ≡ 0 → ⊥) → (column ≡ 0 → ⊥) → steps - 1 < length rows
    → row ≡ get_or rows (steps - 1) row → get_or row.items (column - 1) 0 ≡ table_at (prices_of rows) steps column
price_in rows zero column row some_row some inside is = absurd (some_row refl)
price_in rows (suc j) zero row some_row some inside is = absurd (some refl)
price_in rows (suc j) (suc i) row some_row some inside is =
    let e : suc j - 1 ≡ j = omega arith in
    let f : suc i - 1 ≡ i = omega arith in
    let same : row ≡ get_or rows j row = is ∙ ap (λ k. get_or rows k row) e in
    ap (λ k. get_or row.items k 0) f ∙ ap (λ (r : Vec ℕ). get_or r.items i 0) same
    ∙ sym (ap (λ r. get_or r i 0) (row_at rows j row (omega arith)))
