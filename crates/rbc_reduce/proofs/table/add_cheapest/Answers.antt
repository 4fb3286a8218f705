use Rattle.std.proofs.Common.{arith, ◌≡◌, ℕ, suc, ◌-◌, ◌≤◌, ◌<◌, ◌⊎◌, inl, inr, ◌∷◌, ◌++◌, [], ap, sym, ◌∙◌, length, get_or, map, subst}
use Rattle.std.proofs.lemmas.List.{length-map}
use Rattle.rbc_reduce.specs.Rows.{IsCheapest, price_up_to, row_in}
use Rattle.rbc_costs.proofs.TotalLemmas.{row_is}
use Rattle.rbc_reduce.proofs.table.add_cheapest.Given.{Over}
use Rattle.rbc_reduce.proofs.table.add_cheapest.Goals as goal
use Rattle.rbc_reduce.proofs.table.add_cheapest.Goals.{After-as_slice}

now_or_later : (row j : ℕ) → row - 1 ≤ suc j → 1 < row → (suc j ≡ row - 1) ⊎ (row ≤ suc j)
now_or_later row j h some = grind arith

-- the row before, as it is handed on
before_here : (g : Over) (c : After-as_slice g) → map g.N.Total.number c.as_slice.result.now ≡ row_in g.N.Total.number c.args.rows.now.items (c.loop-row.row - 1 - 1)
before_here g c =
    let i = c.loop-row.invariant in
    let size = i.size in
    let some = c.loop-row-test.true in
    ap (map g.N.Total.number) c.as_slice.ensures.value
    ∙ row_is g.N.Total.number c.loop-row.rows.items (c.loop-row.row - 1 - 1) _ c.index.ensures (omega arith)
    ∙ i.before (c.loop-row.row - 1 - 1) (omega arith)

pub cheapest-price-requires-clause-room : goal.cheapest-price-requires-clause-room
cheapest-price-requires-clause-room g c =
    let before = before_here g (goal.at.cheapest-price-requires-clause-room g c).After-as_slice in
    let width = c.requires.wide (c.loop-row.row - 1 - 1) (omega (arith, c.loop-row.invariant.size)) in
    omega (arith, ap length before, length-map c.as_slice.result.now g.N.Total.number, width)

pub cheapest-price-requires-clause-small : goal.cheapest-price-requires-clause-small
cheapest-price-requires-clause-small g c κs within =
    let before = before_here g (goal.at.cheapest-price-requires-clause-small g c).After-as_slice in
    λ i. subst (λ row. get_or row i 0 ≤ g.N.Total.most) (sym before) (c.requires.small (c.loop-row.row - 1 - 1) i (omega arith))

pub loop-row-preserved : goal.loop-row-preserved
loop-row-preserved g c =
    let i = c.loop-row.invariant in
    let number = g.N.Total.number in
    let size = i.size in
    let some = c.loop-row-test.true in
    let read = before_here g (goal.at.loop-row-preserved g c).After-as_slice in
    record {
      size = c.add_price.ensures.size ∙ size;
      some = omega arith;
      before = λ j h. c.in_ok-add_price.ensures.others j (λ e. omega (arith, e, h)) ∙ i.before j (omega arith);
      later = λ j low high. elim (now_or_later c.loop-row.row j low some) [
        | inl now ↦
            let added = ap (row_in g.N.Total.number c.add_price.new.rows.items) now ∙ c.in_ok-add_price.ensures.added
            ∙ ap (λ k. row_in g.N.Total.number c.loop-row.rows.items k ++ g.N.Total.number c.cheapest-price.result ∷ []) (sym now) in
            let there : row_in g.N.Total.number c.loop-row.rows.items (suc j) ≡ row_in g.N.Total.number c.args.rows.now.items (suc j) = i.before (suc j) (omega arith) in
            let place : c.loop-row.row - 1 - 1 ≡ j = omega arith in
            let before : map g.N.Total.number c.as_slice.result.now ≡ row_in g.N.Total.number c.args.rows.now.items j = read ∙ ap (row_in g.N.Total.number c.args.rows.now.items) place in (
              g.N.Total.number c.cheapest-price.result,
              added ∙ ap (λ r. r ++ g.N.Total.number c.cheapest-price.result ∷ []) there,
              subst (λ b. IsCheapest (price_up_to b) (λ k. get_or (map g.N.Total.number c.args.costs.now) k 0) (length c.args.costs.now) (g.N.Total.number c.cheapest-price.result)) before c.cheapest-price.ensures,
            )
        | inr behind ↦
            let there = i.later j behind high in
            (there.0, c.in_ok-add_price.ensures.others (suc j) (λ e. omega (arith, e, behind, some)) ∙ there.1, there.2)
      ];
      behind = λ j far. c.in_ok-add_price.ensures.others j (λ e. omega (arith, e, far)) ∙ i.behind j far;
    }

pub returns-clause-more : goal.returns-clause-more
returns-clause-more g c =
    let i = c.loop-row.invariant in
    let end : c.loop-row.row ≡ 1 = omega arith in
    let count = length-map c.args.costs.now g.N.Total.number in
    λ j h.
    let there = i.later j (omega arith) h in (
      there.0,
      there.1,
      subst (λ n. IsCheapest (price_up_to (row_in g.N.Total.number c.args.rows.now.items j)) (λ k. get_or (map g.N.Total.number c.args.costs.now) k 0) n there.0) (sym count) there.2,
    )

pub returns-clause-first : goal.returns-clause-first
returns-clause-first g c = c.loop-row.invariant.before 0 (omega arith)

pub returns-clause-others : goal.returns-clause-others
returns-clause-others g c = c.loop-row.invariant.behind
