use Rattle.std.proofs.Common.{arith, ◌≡◌, ℕ, ◌∙◌, ◌≤◌, ap, sym, subst, refl, map, take, get_or, [], ◌∷◌, ◌++◌}
use Rattle.std.proofs.lemmas.List.{take_all, map_more as mapped_more}
use Rattle.std.specs.Global.{Vec}
use Rattle.rbc_table_laws.specs.PriceRows.{prices_of}
use Rattle.rbc_price.specs.Totals.{AreTotals}
use Rattle.rbc_price.proofs.SoundLemmas.{some_of, totals_more}
use Rattle.rbc_price.proofs.sound.rows_of.Goals as goal

pub loop-row-init : goal.loop-row-init
loop-row-init g c = rw c.in_ok-table.ensures.items (record { count = refl; same = λ j. refl; small = λ j i. omega arith })

pub loop-row-preserved : goal.loop-row-preserved
loop-row-preserved g c =
    let number = g.N.Total.number in
    let most = g.N.Total.most in
    let rows = c.args.rows.now in
    let index = c.loop-row.row-index in
    let row = c.row-item.result in
    let same = some_of (λ totals. map number totals.items ≡ c.deref.result.now) c.in_ok-totals.field-0 c.in-Some.totals c.in-Some.is c.in_ok-totals.ensures.same in
    let small = some_of (λ totals. (i : ℕ) → get_or (map number totals.items) i 0 ≤ most) c.in_ok-totals.field-0 c.in-Some.totals c.in-Some.is c.in_ok-totals.ensures.small in
    let made = totals_more number most (prices_of (take index rows)) c.loop-row.table.items c.in-Some.totals row.items c.loop-row.invariant (same ∙ c.deref.ensures.value) small in
    let more = mapped_more (λ (r : Vec ℕ). r.items) rows index row (omega (arith, c.loop-row-test.true)) ∙ ap (λ (r : Vec ℕ). prices_of (take index rows) ++ r.items ∷ []) (sym c.row-item.is) in
    subst (λ p. AreTotals number most p c.push.new.self.items) (sym more)
    (subst (AreTotals number most (prices_of (take index rows) ++ row.items ∷ [])) (sym c.in_ok-push-in-Some.ensures.items) made)

pub returns : goal.returns
returns g c = subst (λ rows. AreTotals g.N.Total.number g.N.Total.most (prices_of rows) c.loop-row.table.items) (take_all c.loop-row.row-index c.args.rows.now (omega (arith, c.loop-row-test.false))) c.loop-row.invariant
