use Rattle.std.proofs.Common.{arith, ◌≡◌, ◌+◌, ◌-◌, Some, ◌∙◌, ap, sym, refl, length, get_or, map, subst}
use Rattle.std.specs.List.{slice_get}
use Rattle.std.proofs.lemmas.List.{length-map}
use Rattle.std.proofs.lemmas.Option.{slice_get-get_or}
use Rattle.rbc_model.specs.Scales.{unit_of}
use Rattle.rbc_table_laws.specs.Stretches.{cost_of_step}
use Rattle.rbc_costs.proofs.TotalLemmas.{small_totals}
use Rattle.rbc_reduce.specs.Rows.{AreFilled, row_in}
use Rattle.rbc_reduce.specs.Tiles.{AreLeast, IsGroup}
use Rattle.rbc_reduce.proofs.RowLemmas.{filled_none, small_prices}
use Rattle.rbc_reduce.proofs.TileLemmas.{least_of, min_first, min_second, min_some, some_inside, some_is}
use Rattle.rbc_reduce.proofs.tiles.fill_by_fours.Goals as goal

pub loop-alloc-init : goal.loop-alloc-init
loop-alloc-init g c =
    let none = ap length c.new-before.ensures.items in
    record {
      inside = omega arith;
      costs = λ i h. let long = length-map c.new-before.result.items g.N.Total.number in absurd (omega arith);
      count = refl;
      filled = subst (AreFilled (cost_of_step g.V.Level.levels (unit_of c.args.track.now.end) c.args.track.now) (length c.args.rows.now.items) (row_in g.N.Total.number c.args.rows.now.items)) (sym none)
          (filled_none (cost_of_step g.V.Level.levels (unit_of c.args.track.now.end) c.args.track.now) (length c.args.rows.now.items) (row_in g.N.Total.number c.args.rows.now.items) c.requires.empty);
    }

pub begin_four-requires-clause-inside : goal.begin_four-requires-clause-inside
begin_four-requires-clause-inside g c κs within =
    let count = c.in_ok-columns.ensures.count in
    let rooms = c.in_ok-rooms.ensures in
    let same = ap length c.deref-in-loop-alloc.ensures.value in
    let some = min_some 4 (length c.args.stretches.now - c.len-known.result) (omega arith) (omega (arith, c.len-known.ensures, c.len.ensures, c.loop-alloc-test.true)) in
    omega (arith, c.min.ensures)

pub begin_four-requires-clause-wide : goal.begin_four-requires-clause-wide
begin_four-requires-clause-wide g c κs within = λ j q column h low there.
    let here = subst (λ xs. slice_get xs q ≡ Some column) c.deref-in-loop-alloc.ensures.value there in
    let width = c.in_ok-columns.ensures.costs.width q column here in
    let i = c.loop-alloc.invariant in
    let rows = ap length c.as_slice.ensures.value in
    let count = i.count in
    let wide = i.filled.wide j (omega arith) in
    let same = ap (λ xs. length (row_in g.N.Total.number xs j)) c.as_slice.ensures.value in
    omega (arith, c.len-known.ensures)

pub begin_four-requires-clause-small : goal.begin_four-requires-clause-small
begin_four-requires-clause-small g c κs within =
    let i = c.loop-alloc.invariant in
    let inside = i.inside in
    rw c.as_slice.ensures.value (small_prices (cost_of_step g.V.Level.levels (unit_of c.args.track.now.end) c.args.track.now) (length c.args.rows.now.items) (row_in g.N.Total.number c.loop-alloc.rows.items) (length c.loop-alloc.before.items) g.N.Total.most i.filled
    (λ from to h near. c.requires.small from to h (omega arith)))

pub begin_four-requires-clause-small_costs : goal.begin_four-requires-clause-small_costs
begin_four-requires-clause-small_costs g c κs within = λ q i column there.
    let number = g.N.Total.number in
    let here = subst (λ xs. slice_get xs q ≡ Some column) c.deref-in-loop-alloc.ensures.value there in
    let inside = some_inside c.in_ok-columns.columns.items q column here in
    let count = c.in_ok-columns.ensures.count in
    let rooms = c.in_ok-rooms.ensures in
    let width = c.in_ok-columns.ensures.costs.width q column here in
    let long = length-map column.items number in
    let most = min_second 4 (length c.args.stretches.now - c.len-known.result) in
    small_totals (map number column.items) g.N.Total.most (λ k h.
    let is = c.in_ok-columns.ensures.costs.costs q column here k h in
    let small = c.requires.small k (length (map number column.items)) h (omega (arith, c.min.ensures, c.len-known.ensures, c.loop-alloc.invariant.inside)) in
    omega arith) i

pub fill_four-requires-clause-four : goal.fill_four-requires-clause-four
fill_four-requires-clause-four g c κs within =
    let count = c.in_ok-columns.ensures.count in
    let rooms = c.in_ok-rooms.ensures in
    let same = ap length c.deref-in-loop-alloc-2.ensures.value in
    let few = min_first 4 (length c.args.stretches.now - c.len-known.result) in
    omega (arith, c.min.ensures)

pub fill_four-requires-clause-begun : goal.fill_four-requires-clause-begun
fill_four-requires-clause-begun g c κs within = λ k h.
    let number = g.N.Total.number in
    let cost = cost_of_step g.V.Level.levels (unit_of c.args.track.now.end) c.args.track.now in
    let i = c.loop-alloc.invariant in
    let count = c.in_ok-columns.ensures.count in
    let rooms = c.in_ok-rooms.ensures in
    let seen = ap length c.deref-in-loop-alloc-2.ensures.value in
    let few = min_first 4 (length c.args.stretches.now - c.len-known.result) in
    let known : length c.loop-alloc.before.items ≡ c.len-known.result = omega (arith, c.len-known.ensures) in
    let group = subst (λ xs. IsGroup number xs c.in_ok-columns.columns.items c.in_ok-least.least.items) c.as_slice.ensures.value
    (subst (λ xs. IsGroup number c.as_slice.result.now xs c.in_ok-least.least.items) c.deref-in-loop-alloc.ensures.value c.in_ok-least.ensures) in
    let filled = subst (λ n. AreFilled cost n (row_in number c.loop-alloc.rows.items) (length c.loop-alloc.before.items)) (sym i.count) i.filled in
    subst (λ n. AreLeast number c.loop-alloc.rows.items cost n (n + k + 1) k c.deref-in-loop-alloc-3.result.now) known
    (subst (λ xs. AreLeast number c.loop-alloc.rows.items cost (length c.loop-alloc.before.items) (length c.loop-alloc.before.items + k + 1) k xs) (sym c.deref-in-loop-alloc-3.ensures.value)
    (least_of number cost (length c.loop-alloc.before.items) c.loop-alloc.rows.items c.in_ok-columns.columns.items (length c.loop-alloc.before.items) k c.in_ok-least.least.items (omega arith) (omega (arith, c.min.ensures)) (omega arith) filled c.in_ok-columns.ensures.costs group))

pub fill_four-requires-clause-small : goal.fill_four-requires-clause-small
fill_four-requires-clause-small g c κs within = λ i to h inside.
    let count = c.in_ok-columns.ensures.count in
    let rooms = c.in_ok-rooms.ensures in
    let same = ap length c.deref-in-loop-alloc-2.ensures.value in
    let most = min_second 4 (length c.args.stretches.now - c.len-known.result) in
    c.requires.small i to h (omega (arith, c.min.ensures, c.len-known.ensures, c.loop-alloc.invariant.inside))

pub loop-alloc-smaller : goal.loop-alloc-smaller
loop-alloc-smaller g c =
    let count = c.in_ok-columns.ensures.count in
    let rooms = c.in_ok-rooms.ensures in
    let value = c.pop.ensures.value c.in-Some.last (omega arith) in
    let same : c.in-Some.last ≡ get_or c.in_ok-columns.columns.items c.min.result c.in-Some.last =
    some_is _ _ (sym c.in-Some.is ∙ value ∙ ap (λ n. Some (get_or c.in_ok-columns.columns.items n c.in-Some.last)) (omega arith)) in
    let there = slice_get-get_or c.in_ok-columns.columns.items c.min.result c.in-Some.last (omega arith) ∙ ap Some (sym same) in
    let width = c.in_ok-columns.ensures.costs.width c.min.result c.in-Some.last there in
    let some = min_some 4 (length c.args.stretches.now - c.len-known.result) (omega arith) (omega (arith, c.len-known.ensures, c.len.ensures, c.loop-alloc-test.true)) in
    omega (arith, c.min.ensures, c.len.ensures, c.loop-alloc-test.true, width, some)

pub loop-alloc-preserved : goal.loop-alloc-preserved
loop-alloc-preserved g c =
    let i = c.loop-alloc.invariant in
    let inside = i.inside in
    let count = c.in_ok-columns.ensures.count in
    let rooms = c.in_ok-rooms.ensures in
    let value = c.pop.ensures.value c.in-Some.last (omega arith) in
    let same : c.in-Some.last ≡ get_or c.in_ok-columns.columns.items c.min.result c.in-Some.last =
    some_is _ _ (sym c.in-Some.is ∙ value ∙ ap (λ n. Some (get_or c.in_ok-columns.columns.items n c.in-Some.last)) (omega arith)) in
    let there = slice_get-get_or c.in_ok-columns.columns.items c.min.result c.in-Some.last (omega arith) ∙ ap Some (sym same) in
    let width = c.in_ok-columns.ensures.costs.width c.min.result c.in-Some.last there in
    let most = min_second 4 (length c.args.stretches.now - c.len-known.result) in
    let seen = ap length c.deref-in-loop-alloc-2.ensures.value in
    let cost = cost_of_step g.V.Level.levels (unit_of c.args.track.now.end) c.args.track.now in
    let end : c.len-known.result + length c.deref-in-loop-alloc-2.result.now - 1 ≡ length c.in-Some.last.items = omega (arith, c.len-known.ensures, width) in
    record {
      inside = omega (arith, c.min.ensures, c.len-known.ensures, c.loop-alloc-test.true, c.len.ensures, width, most);
      costs = c.in_ok-columns.ensures.costs.costs c.min.result c.in-Some.last there;
      count = c.fill_four.ensures.size ∙ i.count;
      filled = subst (AreFilled cost (length c.args.rows.now.items) (row_in g.N.Total.number c.fill_four.new.rows.items)) end
          (subst (λ n. AreFilled cost n (row_in g.N.Total.number c.fill_four.new.rows.items) (c.len-known.result + length c.deref-in-loop-alloc-2.result.now - 1)) i.count c.in_ok-fill_four.ensures.filled);
    }

pub returns-clause-filled : goal.returns-clause-filled
returns-clause-filled g c =
    let inside = c.loop-alloc.invariant.inside in
    let end : length c.loop-alloc.before.items ≡ length c.args.stretches.now = omega (arith, c.loop-alloc-test.false, c.len.ensures) in
    subst (AreFilled (cost_of_step g.V.Level.levels (unit_of c.args.track.now.end) c.args.track.now) (length c.args.rows.now.items) (row_in g.N.Total.number c.loop-alloc.rows.items)) end c.loop-alloc.invariant.filled
