use Rattle.std.proofs.Common.{arith, ◌≡◌, ℕ, suc, ◌+◌, ◌-◌, ◌≤◌, ◌<◌, ◌⊎◌, inl, inr, Result, Ok, Err, Some, ◌∷◌, ◌++◌, [], ap, sym, ◌∙◌, length, get_or, map, subst}
use Rattle.std.specs.Result.{OnOk}
use Rattle.std.proofs.lemmas.List.{length-map}
use Rattle.std.proofs.lemmas.Option.{slice_get-get_or}
use Rattle.rbc_model.specs.Scales.{unit_of}
use Rattle.rbc_table_laws.specs.Stretches.{cost_of_step}
use Rattle.rbc_costs.proofs.TotalLemmas.{none_behind, read_at, row_is}
use Rattle.rbc_reduce.specs.Rows.{AreFilled, IsCheapest, IsColumnMore, price_up_to, row_in}
use Rattle.rbc_reduce.proofs.RowLemmas.{small_prices}
use Rattle.rbc_reduce.proofs.TileLemmas.{as_column, column_filled, column_kept, column_more, column_of, cut_small}
use Rattle.rbc_reduce.proofs.tiles.add_begun.Given.{Over}
use Rattle.rbc_reduce.proofs.tiles.add_begun.Goals as goal
use Rattle.rbc_reduce.proofs.tiles.add_begun.Goals.{After-as_slice}

now_or_later : (row j : ℕ) → row - 1 ≤ suc j → 1 < row → (suc j ≡ row - 1) ⊎ (row ≤ suc j)
now_or_later row j h some = grind arith

both_ok : {A E P Q R : Type 0} → (r : Result A E) → OnOk r P → OnOk r Q → (P → Q → R) → OnOk r R
both_ok (Ok x) p q f = f p q
both_ok (Err x) p q f = p

abbrev cost : (g : Over) → After-as_slice g → ℕ → ℕ → ℕ
cost g c = cost_of_step g.V.Level.levels (unit_of c.args.track.now.end) c.args.track.now

-- the row before
read : (g : Over) (c : After-as_slice g) → map g.N.Total.number c.as_slice.result.now ≡ row_in g.N.Total.number c.args.rows.now.items (c.loop-row.row - 1 - 1)
read g c =
    let i = c.loop-row.invariant in
    let size = i.size in
    ap (map g.N.Total.number) c.as_slice.ensures.value
    ∙ row_is g.N.Total.number c.loop-row.rows.items (c.loop-row.row - 1 - 1) _ c.index.ensures (omega (arith, c.loop-row-test.true))
    ∙ i.before (c.loop-row.row - 1 - 1) (omega (arith, c.loop-row-test.true))

pub cheapest_from-price-requires-clause-room : goal.cheapest_from-price-requires-clause-room
cheapest_from-price-requires-clause-room g c κs within =
    let at = (goal.at.cheapest_from-price-requires-clause-room g c).After-as_slice in
    let size = c.loop-row.invariant.size in
    let wide = c.requires.filled.wide (c.loop-row.row - 1 - 1) (omega (arith, c.loop-row-test.true)) in
    let same = ap length (read g at) in
    let long = length-map c.as_slice.result.now g.N.Total.number in
    omega (arith, c.requires.inside)

pub cheapest_from-price-requires-clause-small : goal.cheapest_from-price-requires-clause-small
cheapest_from-price-requires-clause-small g c κs within = λ i.
    let at = (goal.at.cheapest_from-price-requires-clause-small g c).After-as_slice in
    subst (λ xs. get_or xs i 0 ≤ g.N.Total.most) (sym (read g at))
    (small_prices (cost g at) (length c.args.rows.now.items) (row_in g.N.Total.number c.args.rows.now.items) (c.args.begun.cut + length c.args.costs.now - 1) g.N.Total.most c.requires.filled
    (λ from to h near. c.requires.small from to h (omega arith)) (c.loop-row.row - 1 - 1) i)

pub cheapest_from-price-requires-clause-small_costs : goal.cheapest_from-price-requires-clause-small_costs
cheapest_from-price-requires-clause-small_costs g c κs within =
    let at = (goal.at.cheapest_from-price-requires-clause-small_costs g c).After-as_slice in
    cut_small (cost g at) c.args.begun.cut (c.args.begun.cut + length c.args.costs.now) g.N.Total.most (map g.N.Total.number c.args.costs.now) (omega (arith, c.requires.inside)) c.requires.costs
    (λ i h. c.requires.small i (c.args.begun.cut + length c.args.costs.now) h (omega arith))

-- the price that is put behind a row
price : (g : Over) (c : After-as_slice g) → (total : ℕ) → ((f : ℕ → ℕ) → ((i : ℕ) → c.args.begun.known + 1 ≤ i → i < c.args.begun.cut + length c.args.costs.now → get_or (map g.N.Total.number c.args.costs.now) (i - c.args.begun.cut) 0 ≡ f i)
    → IsCheapest (price_up_to (map g.N.Total.number c.as_slice.result.now)) f (c.args.begun.known + 1) (g.N.Total.number c.nth-lowest.result)
    → IsCheapest (price_up_to (map g.N.Total.number c.as_slice.result.now)) f (c.args.begun.cut + length c.args.costs.now) total)
    → IsCheapest (price_up_to (row_in g.N.Total.number c.args.rows.now.items (c.loop-row.row - 1 - 1))) (λ i. cost g c i (c.args.begun.cut + length c.args.costs.now)) (c.args.begun.cut + length c.args.costs.now) total
price g c total found =
    let number = g.N.Total.number in
    let size = c.loop-row.invariant.size in
    let to = c.args.begun.cut + length c.args.costs.now in
    let count = c.requires.least.count in
    let there = slice_get-get_or c.args.least.now (c.loop-row.row - 1 - 1) c.index-least-row.result (omega (arith, c.loop-row-test.true)) ∙ ap Some (sym c.index-least-row.is) in
    let begun = subst (λ n. IsCheapest (price_up_to (row_in number c.args.rows.now.items (c.loop-row.row - 1 - 1))) (λ i. cost g c i to) (c.args.begun.known + 1) (number n)) (sym c.nth-lowest.ensures)
    (c.requires.least.prices (c.loop-row.row - 1 - 1) _ there) in
    subst (λ r. IsCheapest (price_up_to r) (λ i. cost g c i to) to total) (read g c)
    (found (λ i. cost g c i to) (λ i low h. c.requires.costs.behind i (omega (arith, c.requires.cut)) h)
    (subst (λ r. IsCheapest (price_up_to r) (λ i. cost g c i to) (c.args.begun.known + 1) (number c.nth-lowest.result)) (sym (read g c)) begun))

pub loop-row-preserved : goal.loop-row-preserved
loop-row-preserved g c =
    let at = (goal.at.loop-row-preserved g c).After-as_slice in
    let i = c.loop-row.invariant in
    let number = g.N.Total.number in
    let size = i.size in
    let some = c.loop-row-test.true in
    let to = c.args.begun.cut + length c.args.costs.now in
    record {
      size = c.add_price.ensures.size ∙ size;
      some = omega arith;
      before = λ j h. c.in_ok-add_price.ensures.others j (λ e. omega (arith, e, h)) ∙ i.before j (omega arith);
      later = λ j low high. elim (now_or_later c.loop-row.row j low some) [
        | inl now ↦
            let added = ap (row_in number c.add_price.new.rows.items) now ∙ c.in_ok-add_price.ensures.added
            ∙ ap (λ k. row_in number c.loop-row.rows.items k ++ number c.cheapest_from-price.result ∷ []) (sym now) in
            let there : row_in number c.loop-row.rows.items (suc j) ≡ row_in number c.args.rows.now.items (suc j) = i.before (suc j) (omega arith) in
            let place : c.loop-row.row - 1 - 1 ≡ j = omega arith in (
              number c.cheapest_from-price.result,
              added ∙ ap (λ r. r ++ number c.cheapest_from-price.result ∷ []) there,
              as_column (price_up_to (row_in number c.args.rows.now.items j)) (cost g at) to (number c.cheapest_from-price.result)
                  (subst (λ k. IsCheapest (price_up_to (row_in number c.args.rows.now.items k)) (λ i. cost g at i to) to (number c.cheapest_from-price.result)) place
                  (price g at (number c.cheapest_from-price.result) c.cheapest_from-price.ensures)),
            )
        | inr behind ↦
            let there = i.later j behind high in
            (there.0, c.in_ok-add_price.ensures.others (suc j) (λ e. omega (arith, e, behind, some)) ∙ there.1, there.2)
      ];
    }

pub returns-clause-filled : goal.returns-clause-filled
returns-clause-filled g c =
    let number = g.N.Total.number in
    let i = c.loop-row.invariant in
    let some = i.some in
    let size = i.size in
    let last = c.add_price-2.ensures.size in
    let cost = cost_of_step g.V.Level.levels (unit_of c.args.track.now.end) c.args.track.now in
    let to = c.args.begun.cut + length c.args.costs.now in
    let long = c.requires.costs.count in
    let is = read_at number c.args.costs.now 0 _ c.index-costs-0.is (omega (arith, length-map c.args.costs.now number, c.requires.inside)) in
    let old = row_in number c.args.rows.now.items in
    let new = row_in number c.add_price-2.new.rows.items in
    both_ok c.add_price-2.result c.add_price-2.ensures.added c.add_price-2.ensures.others (λ added others.
    column_filled cost (to - 1) to (length c.args.rows.now.items) old new (omega (arith, c.requires.inside)) c.requires.filled c.requires.some
    (λ j h. none_behind number c.add_price-2.new.rows.items j (omega arith))
    (column_more cost to (length c.args.rows.now.items) old (row_in number c.loop-row.rows.items) new (number c.index-costs-0.result) (omega (arith, c.requires.inside)) (is ∙ c.requires.costs.first)
    (i.before 0 (omega arith)) (λ j h. i.later j (omega (arith, c.loop-row-test.false)) h) added others))

pub returns-clause-kept : goal.returns-clause-kept
returns-clause-kept g c =
    let number = g.N.Total.number in
    let i = c.loop-row.invariant in
    let some = i.some in
    let size = i.size in
    let last = c.add_price-2.ensures.size in
    let cost = cost_of_step g.V.Level.levels (unit_of c.args.track.now.end) c.args.track.now in
    let to = c.args.begun.cut + length c.args.costs.now in
    let is = read_at number c.args.costs.now 0 _ c.index-costs-0.is (omega (arith, length-map c.args.costs.now number, c.requires.inside)) in
    let old = row_in number c.args.rows.now.items in
    let new = row_in number c.add_price-2.new.rows.items in
    both_ok c.add_price-2.result c.add_price-2.ensures.added c.add_price-2.ensures.others (λ added others j k h inside.
    column_kept cost (to - 1) to (length c.args.rows.now.items) old new (omega (arith, c.requires.inside)) c.requires.filled c.requires.some
    (λ n far. none_behind number c.add_price-2.new.rows.items n (omega arith))
    (column_more cost to (length c.args.rows.now.items) old (row_in number c.loop-row.rows.items) new (number c.index-costs-0.result) (omega (arith, c.requires.inside)) (is ∙ c.requires.costs.first)
    (i.before 0 (omega arith)) (λ n near. i.later n (omega (arith, c.loop-row-test.false)) near) added others) j k h (omega (arith, c.requires.inside)))
