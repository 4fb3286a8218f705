use Rattle.std.proofs.Common.{arith, ◌*◌, ◌<◌, ◌≤◌, ◌≡◌, ℕ, List, Result, Ok, Err, length, sym, ◌∙◌, lit≤}
use Rattle.std.specs.Global.{Vec}
use Rattle.std.specs.Result.{IfOk}
use Rattle.rbc_model.specs.Scales.{unit_of}
use Rattle.rbc_table_laws.specs.Stretches.{breaks_for, cost_of_step}
use Rattle.rbc_costs.specs.Prices.{ArePricesAtMost}
use Rattle.rbc_costs.proofs.CostLemmas.{costs_bounded}
use Rattle.rbc_model.specs.PriceTables.{IsGreatestSoundTable}
use Rattle.rbc_table_laws.specs.PriceRows.{prices_of, AreWide}
use Rattle.rbc_reduce.specs.Rows.{AreFilled, AreSmall, price_in, row_at, row_in}
use Rattle.rbc_reduce.proofs.RowLemmas.{same_filled, some_min, numbers_in}
use Rattle.rbc_reduce.proofs.GreatestTableLemmas.{filled_is_greatest, wide_rows, small_in}
use Rattle.rbc_reduce.proofs.fill.fill.Given.{Over}
use Rattle.rbc_reduce.proofs.fill.fill.Goals as goal
use Rattle.rbc_reduce.proofs.fill.fill.Goals.{After-min-count}

both_ok : {X Y : Type 0} {P Q R : X → Type 0} → (r : Result X Y) → IfOk r P → IfOk r Q → ((x : X) → P x → Q x → R x) → IfOk r R
both_ok (Ok x) p q f = f x p q
both_ok (Err e) p q f = p

-- there is a row
some_rows : (g : Over) (c : After-min-count g) → 0 < c.min-count.result
some_rows g c =
    let all = c.requires.stretches.count in
    let two = c.requires.stretches.breaks.some in
    let some = some_min c.args.limit (length c.args.stretches.now) c.requires.limit (omega arith) in
    omega (arith, some, c.min-count.ensures)

-- what a step costs, where no price is above so much
cheap_here : (g : Over) (c : After-min-count g) (most total : ℕ) → ArePricesAtMost g.V.Level.levels most → 100000 * most ≤ total → (i to : ℕ) → i < to → to ≤ length c.args.stretches.now
    → cost_of_step g.V.Level.levels (unit_of c.args.track.now.end) c.args.track.now i to ≤ total
cheap_here g c most total low room i to h inside =
    let level = g.met.V.Level g.world.𝓛 g.world.𝓜 g.world.𝓡 ((λ s x. x), (λ x. x), (λ x. x), λ x. x) in
    let count = c.requires.stretches.count in
    costs_bounded g.V.Level.levels level.lawful c.args.track.now c.known.ensures.track most low (unit_of c.args.track.now.end) c.requires.stretches.breaks c.known.ensures.within_limit total room i to h (omega arith)

cheap_of_any : (g : Over) (c : After-min-count g) (i to : ℕ) → i < to → to ≤ length c.args.stretches.now → cost_of_step g.V.Level.levels (unit_of c.args.track.now.end) c.args.track.now i to ≤ 100000000000
cheap_of_any g c =
    let level = g.met.V.Level g.world.𝓛 g.world.𝓜 g.world.𝓡 ((λ s x. x), (λ x. x), (λ x. x), λ x. x) in
    cheap_here g c 1000000 100000000000 level.lawful.price_is_bounded (lit≤ tt)

pub filled_of_few-requires-clause-some : goal.filled_of_few-requires-clause-some
filled_of_few-requires-clause-some g c κs within = some_rows g (goal.at.filled_of_few-requires-clause-some g c).After-min-count

pub filled_of_few-requires-clause-small : goal.filled_of_few-requires-clause-small
filled_of_few-requires-clause-small g c κs within = cheap_of_any g (goal.at.filled_of_few-requires-clause-small g c).After-min-count

pub fill_in-requires-clause-small : goal.fill_in-requires-clause-small
fill_in-requires-clause-small g c κs within =
    cheap_here g (goal.at.fill_in-requires-clause-small g c).After-min-count 20000 2000000000 (c.is_low.ensures c.if-is_low.true) (lit≤ tt)

pub filled-requires-clause-small : goal.filled-requires-clause-small
filled-requires-clause-small g c κs within = cheap_of_any g (goal.at.filled-requires-clause-small g c).After-min-count

pub returns-then-is_low-clause-table : goal.returns-then-is_low-clause-table
returns-then-is_low-clause-table g c =
    both_ok c.fill_in.result c.fill_in.ensures.count c.fill_in.ensures.filled (λ rows count filled.
    filled_is_greatest g.V.Level.levels (unit_of c.args.track.now.end) c.args.limit c.args.track.now (breaks_for (unit_of c.args.track.now.end) c.args.track.now) c.requires.stretches.breaks rows.items (length c.args.stretches.now) (sym c.requires.stretches.count) filled count)

pub returns-then-is_low-clause-wide : goal.returns-then-is_low-clause-wide
returns-then-is_low-clause-wide g c =
    both_ok c.fill_in.result c.fill_in.ensures.count c.fill_in.ensures.filled (λ rows count filled. wide_rows (length c.args.stretches.now) rows.items filled.wide)

pub returns-then-is_low-clause-small : goal.returns-then-is_low-clause-small
returns-then-is_low-clause-small g c =
    let cheap = cheap_of_any g (goal.at.returns-then-is_low-clause-small g c).After-min-count in
    both_ok c.fill_in.result c.fill_in.ensures.count c.fill_in.ensures.filled (λ rows count filled. small_in (cost_of_step g.V.Level.levels (unit_of c.args.track.now.end) c.args.track.now) rows.items (length c.args.stretches.now) filled cheap)

-- the rows of totals of 64 bits are the rows of numbers
as_numbers : (g : Over) (c : After-min-count g) (count : ℕ) (rows : List (Vec ℕ))
    → AreFilled (cost_of_step g.V.Level.levels (unit_of c.args.track.now.end) c.args.track.now) count (row_in (λ n. n) rows) (length c.args.stretches.now) → length rows ≡ count
    → AreFilled (cost_of_step g.V.Level.levels (unit_of c.args.track.now.end) c.args.track.now) (length rows) (row_at rows) (length c.args.stretches.now)
as_numbers g c count rows filled is =
    rw is (same_filled (cost_of_step g.V.Level.levels (unit_of c.args.track.now.end) c.args.track.now) count (row_in (λ n. n) rows) (row_at rows) (length c.args.stretches.now) (numbers_in rows) filled)

pub filled-requires-clause-some : goal.filled-requires-clause-some
filled-requires-clause-some g c κs within = some_rows g (goal.at.filled-requires-clause-some g c).After-min-count

-- what such rows are
table_of : {X : Type 0} (g : Over) (c : After-min-count g) (r : Result (Vec (Vec ℕ)) X)
    → IfOk r (λ rows. length rows.items ≡ c.min-count.result)
    → IfOk r (λ rows. AreFilled (cost_of_step g.V.Level.levels (unit_of c.args.track.now.end) c.args.track.now) c.min-count.result (row_in (λ n. n) rows.items) (length c.args.stretches.now))
    → IfOk r (λ rows. IsGreatestSoundTable g.V.Level.levels (unit_of c.args.track.now.end) c.args.limit c.args.track.now.end c.args.track.now.steps (prices_of rows.items))
table_of g c r count filled =
    both_ok r count filled (λ rows count filled.
    filled_is_greatest g.V.Level.levels (unit_of c.args.track.now.end) c.args.limit c.args.track.now (breaks_for (unit_of c.args.track.now.end) c.args.track.now) c.requires.stretches.breaks rows.items (length c.args.stretches.now) (sym c.requires.stretches.count)
    (as_numbers g c c.min-count.result rows.items filled count) (count ∙ c.min-count.ensures))

width_of : {X : Type 0} (g : Over) (c : After-min-count g) (r : Result (Vec (Vec ℕ)) X)
    → IfOk r (λ rows. length rows.items ≡ c.min-count.result)
    → IfOk r (λ rows. AreFilled (cost_of_step g.V.Level.levels (unit_of c.args.track.now.end) c.args.track.now) c.min-count.result (row_in (λ n. n) rows.items) (length c.args.stretches.now))
    → IfOk r (λ rows. AreWide (length c.args.stretches.now) rows.items)
width_of g c r count filled =
    both_ok r count filled (λ rows count filled.
    wide_rows (length c.args.stretches.now) rows.items (as_numbers g c c.min-count.result rows.items filled count).wide)

small_of : {X : Type 0} (g : Over) (c : After-min-count g) (r : Result (Vec (Vec ℕ)) X)
    → IfOk r (λ rows. length rows.items ≡ c.min-count.result)
    → IfOk r (λ rows. AreFilled (cost_of_step g.V.Level.levels (unit_of c.args.track.now.end) c.args.track.now) c.min-count.result (row_in (λ n. n) rows.items) (length c.args.stretches.now))
    → IfOk r (λ rows. (j : ℕ) → AreSmall (price_in rows.items j))
small_of g c r count filled =
    both_ok r count filled (λ rows count filled.
    small_in (cost_of_step g.V.Level.levels (unit_of c.args.track.now.end) c.args.track.now) rows.items (length c.args.stretches.now) (as_numbers g c c.min-count.result rows.items filled count) (cheap_of_any g c))

pub returns-then-stretches-le-FEW-clause-table : goal.returns-then-stretches-le-FEW-clause-table
returns-then-stretches-le-FEW-clause-table g c = table_of g (goal.at.returns-then-stretches-le-FEW-clause-table g c).After-min-count c.filled_of_few.result c.filled_of_few.ensures.count c.filled_of_few.ensures.filled

pub returns-then-stretches-le-FEW-clause-wide : goal.returns-then-stretches-le-FEW-clause-wide
returns-then-stretches-le-FEW-clause-wide g c = width_of g (goal.at.returns-then-stretches-le-FEW-clause-wide g c).After-min-count c.filled_of_few.result c.filled_of_few.ensures.count c.filled_of_few.ensures.filled

pub returns-then-stretches-le-FEW-clause-small : goal.returns-then-stretches-le-FEW-clause-small
returns-then-stretches-le-FEW-clause-small g c = small_of g (goal.at.returns-then-stretches-le-FEW-clause-small g c).After-min-count c.filled_of_few.result c.filled_of_few.ensures.count c.filled_of_few.ensures.filled

pub returns-clause-table : goal.returns-clause-table
returns-clause-table g c = table_of g (goal.at.returns-clause-table g c).After-min-count c.filled.result c.filled.ensures.count c.filled.ensures.filled

pub returns-clause-wide : goal.returns-clause-wide
returns-clause-wide g c = width_of g (goal.at.returns-clause-wide g c).After-min-count c.filled.result c.filled.ensures.count c.filled.ensures.filled

pub returns-clause-small : goal.returns-clause-small
returns-clause-small g c = small_of g (goal.at.returns-clause-small g c).After-min-count c.filled.result c.filled.ensures.count c.filled.ensures.filled
