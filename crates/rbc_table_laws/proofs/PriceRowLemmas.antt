-- Single prices of a table, as they are read.
use Rattle.std.proofs.Common.{◌≡◌, refl, ap, sym, ◌∙◌, arith, ℕ, zero, suc, ◌-◌, ◌<◌, ◌≤◌, List, [], ◌∷◌, length, get_or}
use Rattle.std.specs.Global.{Vec}
use Rattle.rbc_model.specs.PriceTables.{table_at}
use Rattle.rbc_table_laws.specs.PriceRows.{prices_of}

pub row_at : (rows : List (Vec ℕ)) (j : ℕ) (d : Vec ℕ) → j < length rows → get_or (prices_of rows) j [] ≡ (get_or rows j d).items
row_at [] j d h = absurd (omega arith)
row_at (row ∷ rows) zero d h = refl
row_at (row ∷ rows) (suc j) d h = row_at rows j d (omega arith)

-- what is read does not hang on what stands for nothing
pub same_read : (xs : List ℕ) (i a b : ℕ) → i < length xs → get_or xs i a ≡ get_or xs i b
same_read [] i a b h = absurd (omega arith)
same_read (x ∷ xs) zero a b h = refl
same_read (x ∷ xs) (suc i) a b h = same_read xs i a b (omega arith)

pub price_is : (rows : List (Vec ℕ)) (steps column : ℕ) (row : Vec ℕ) (price : ℕ) → (steps ≡ 0 → ⊥) → (column ≡ 0 → ⊥) → steps ≤ length rows
    → row ≡ get_or rows (steps - 1) row → price ≡ get_or row.items (column - 1) price → column ≤ length row.items → price ≡ table_at (prices_of rows) steps column
price_is rows zero column row price some_row some inside is read room = absurd (some_row refl)
price_is rows (suc j) zero row price some_row some inside is read room = absurd (some refl)
price_is rows (suc j) (suc i) row price some_row some inside is read room =
    let e : suc j - 1 ≡ j = omega arith in
    let f : suc i - 1 ≡ i = omega arith in
    let same : row ≡ get_or rows j row = is ∙ ap (λ k. get_or rows k row) e in
    read ∙ ap (λ k. get_or row.items k price) f ∙ same_read row.items i price 0 (omega arith) ∙ ap (λ (r : Vec ℕ). get_or r.items i 0) same
    ∙ sym (ap (λ r. get_or r i 0) (row_at rows j row (omega arith)))
