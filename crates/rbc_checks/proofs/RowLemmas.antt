-- The rows of a block: a table's rows, and the lines behind them.
use Rattle.std.proofs.Common.{◌≡◌, ℕ, suc, ◌+◌, ◌==◌, Bool, true, false, List, [], ◌∷◌, ◌++◌, Option, Some, None, refl, sym, ap, ◌∙◌, arith, length, append-nil, if◌then◌else◌}
use Rattle.std.specs.Global.{Vec}
use Rattle.std.proofs.lemmas.Bool.{eq-eqb, eqb-true}
use Rattle.std.proofs.lemmas.List.{length-map, map-append, nil_from_length}
use Rattle.rbc_model.specs.CheckText.{CheckLine, SpeedHead, GradeHead, ProfileLine, PriceLine, Bad, Other, put_first, rows_of}
use Rattle.rbc_table_laws.specs.PriceRows.{prices_of}
use Rattle.rbc_checks.specs.Lines.{line_view, lines_view}
use Rattle.rbc_checks.specs.Rows.{numbered, row_lines, no_rows}
use Rattle.rbc_checks.specs.declared.lines.CheckLine.{CheckLine as ReadLine}
use Rattle.rbc_checks.proofs.LineLemmas.{with_front}

-- ---- rows that are told under their numbers

none_in_front : (found : Option (List (List ℕ))) → found ≡ with_front [] found
none_in_front None = refl
none_in_front (Some rows) = refl

one_in_front : (prices : List ℕ) (front : List (List ℕ)) (found : Option (List (List ℕ)))
    → put_first (Some prices) (with_front front found) ≡ with_front (prices ∷ front) found
one_in_front prices front None = refl
one_in_front prices front (Some rows) = refl

told : (same : Bool) (prices : List ℕ) (rest : Option (List (List ℕ))) → same ≡ true → (if same then put_first (Some prices) rest else None) ≡ put_first (Some prices) rest
told true prices rest e = refl
told false prices rest e = absurd cc

rows_of-numbered : (j : ℕ) (front : List (List ℕ)) (more : List CheckLine) → rows_of j (numbered j front ++ more) ≡ with_front front (rows_of (j + length front) more)
rows_of-numbered j [] more = ap (λ k. rows_of k more) (omega arith) ∙ none_in_front (rows_of (j + 0) more)
rows_of-numbered j (prices ∷ front) more =
    told (j == j) prices (rows_of (j + 1) (numbered (j + 1) front ++ more)) (eq-eqb j j refl)
    ∙ ap (put_first (Some prices)) (rows_of-numbered (j + 1) front more ∙ ap (λ k. with_front front (rows_of k more)) (omega arith))
    ∙ one_in_front prices front (rows_of (j + suc (length front)) more)

numbered-append : (j : ℕ) (front : List (List ℕ)) (prices : List ℕ) → numbered j (front ++ prices ∷ []) ≡ numbered j front ++ PriceLine (j + length front) prices ∷ []
numbered-append j [] prices = ap (λ k. PriceLine k prices ∷ []) (omega arith)
numbered-append j (row ∷ front) prices =
    ap (λ rest. PriceLine j row ∷ rest) (numbered-append (j + 1) front prices ∙ ap (λ k. numbered (j + 1) front ++ PriceLine k prices ∷ []) (omega arith))

-- ---- lines that are no next row

none_on : (k j : ℕ) (prices : List ℕ) (rest : Option (List (List ℕ))) (same : Bool) → (if same then put_first (Some prices) rest else None) ≡ None
    → (more : Option (List (List ℕ))) → (rest ≡ None → more ≡ None) → (if same then put_first (Some prices) more else None) ≡ None
none_on k j prices rest false e more on = refl
none_on k j prices None true e more on = ap (put_first (Some prices)) (on refl)
none_on k j prices (Some rows) true e more on = absurd cc

none_behind : (j : ℕ) (lines : List CheckLine) (line : CheckLine) → rows_of j lines ≡ None → rows_of j (lines ++ line ∷ []) ≡ None
none_behind j [] line e = absurd cc
none_behind j (PriceLine k prices ∷ lines) line e =
    none_on k j prices (rows_of (j + 1) lines) (k == j) e (rows_of (j + 1) (lines ++ line ∷ [])) (none_behind (j + 1) lines line)
none_behind j (SpeedHead request ∷ lines) line e = refl
none_behind j (GradeHead request ∷ lines) line e = refl
none_behind j (ProfileLine steps lost ∷ lines) line e = refl
none_behind j (Bad part ∷ lines) line e = refl
none_behind j (Other ∷ lines) line e = refl

-- ---- a table, and the lines behind it

module _ (table : List (Vec ℕ)) where
  length_of : length (prices_of table) ≡ length table
  length_of = length-map table (λ (row : Vec ℕ). row.items)

  pub rows_are : (others : List ReadLine) → rows_of (length table + 1) (lines_view others) ≡ no_rows others
      → rows_of 1 (row_lines table others) ≡ with_front (prices_of table) (no_rows others)
  rows_are others is =
      rows_of-numbered 1 (prices_of table) (lines_view others)
      ∙ ap (λ k. with_front (prices_of table) (rows_of k (lines_view others))) (let n = length_of in omega arith)
      ∙ ap (with_front (prices_of table)) is

  pub row_behind : (prices : Vec ℕ) (line : CheckLine) → line ≡ PriceLine (length table + 1) prices.items
      → row_lines (table ++ prices ∷ []) [] ≡ row_lines table [] ++ line ∷ []
  row_behind prices line is =
      append-nil (numbered 1 (prices_of (table ++ prices ∷ [])))
      ∙ ap (numbered 1) (map-append (λ (row : Vec ℕ). row.items) table (prices ∷ []))
      ∙ numbered-append 1 (prices_of table) prices.items
      ∙ ap (λ k. numbered 1 (prices_of table) ++ PriceLine k prices.items ∷ []) (let n = length_of in omega arith)
      ∙ ap (λ l. numbered 1 (prices_of table) ++ l ∷ []) (sym is)
      ∙ ap (λ rows. rows ++ line ∷ []) (sym (append-nil (numbered 1 (prices_of table))))

-- none of the lines is the next row, and so it is with one more
pub still_no_row : (j : ℕ) (others : List ReadLine) (more : ReadLine) → (others ≡ [] → ⊥) → rows_of j (lines_view others) ≡ no_rows others
    → rows_of j (lines_view (others ++ more ∷ [])) ≡ no_rows (others ++ more ∷ [])
still_no_row j [] more some is = absurd (some refl)
still_no_row j (line ∷ others) more some is =
    ap (rows_of j) (map-append line_view (line ∷ others) (more ∷ []))
    ∙ none_behind j (lines_view (line ∷ others)) (line_view more) is

-- ---- as they are held

pub no_others : (others : Vec ReadLine) → (others.len == 0) ≡ true → others.items ≡ []
no_others others e = nil_from_length others.items (sym others.ok.0 ∙ eqb-true others.len 0 e)

pub some_others : (others : Vec ReadLine) → (others.len == 0) ≡ false → others.items ≡ [] → ⊥
some_others others e none =
    let same : (others.len == 0) ≡ true = eq-eqb others.len 0 (others.ok.0 ∙ ap length none) in
    absurd cc

-- a line more, if there was memory for it
pub no_row_more : (j : ℕ) (others : List ReadLine) (more : ReadLine) (ok : Bool) (new : List ReadLine) → new ≡ (if ok then others ++ more ∷ [] else others)
    → (others ≡ [] → ⊥) → rows_of j (lines_view others) ≡ no_rows others → rows_of j (lines_view new) ≡ no_rows new
no_row_more j others more true new same some is = rw same (still_no_row j others more some is)
no_row_more j others more false new same some is = rw same is

module _ (table : List (Vec ℕ)) (others : List ReadLine) (is : rows_of (length table + 1) (lines_view others) ≡ no_rows others) where
  pub in_table : others ≡ [] → Some (prices_of table) ≡ rows_of 1 (row_lines table others)
  in_table none = sym (rows_are table others is ∙ ap (λ lines. with_front (prices_of table) (no_rows lines)) none ∙ ap Some (append-nil (prices_of table)))

  pub in_no_table : (others ≡ [] → ⊥) → None ≡ rows_of 1 (row_lines table others)
  in_no_table some = sym (rows_are table others is ∙ ap (with_front (prices_of table)) (none_of others some))
    where
      none_of : (lines : List ReadLine) → (lines ≡ [] → ⊥) → no_rows lines ≡ None
      none_of [] some = absurd (some refl)
      none_of (line ∷ lines) some = refl

pub row_more : (table : Vec (Vec ℕ)) (others : Vec ReadLine) (prices : Vec ℕ) (line : CheckLine) (number : ℕ) (ok : Bool) (new : List (Vec ℕ))
    → new ≡ (if ok then table.items ++ prices ∷ [] else table.items) → ok ≡ true → others.items ≡ [] → number ≡ table.len
    → line ≡ PriceLine (number + 1) prices.items → row_lines new others.items ≡ row_lines table.items others.items ++ line ∷ []
row_more table others prices line number false new same ok none count is = absurd cc
row_more table others prices line number true new same ok none count is =
    rw (same, none) (row_behind table.items prices line (is ∙ ap (λ n. PriceLine (n + 1) prices.items) (count ∙ table.ok.0)))
