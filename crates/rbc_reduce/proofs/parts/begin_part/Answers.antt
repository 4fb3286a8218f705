use Rattle.std.proofs.Common.{arith, ◌≡◌, ◌+◌, ◌-◌, ◌*◌, ◌<◌, ◌≤◌, ◌∷◌, ◌++◌, [], ℕ, Some, ◌∙◌, ap, sym, refl, length, length-append, get_or, map, min, subst}
use Rattle.std.specs.List.{slice_get}
use Rattle.std.specs.Global.{Vec}
use Rattle.std.proofs.lemmas.List.{length-map}
use Rattle.std.proofs.lemmas.Option.{slice_get-get_or}
use Rattle.rbc_model.specs.Scales.{unit_of}
use Rattle.rbc_table_laws.specs.Stretches.{cost_of_step}
use Rattle.rbc_costs.proofs.NextBreakLemmas.{each_more}
use Rattle.rbc_costs.proofs.TotalLemmas.{small_totals}
use Rattle.rbc_reduce.specs.Rows.{AreFilled, row_in}
use Rattle.rbc_reduce.specs.Tiles.{AreCut, AreLeast, IsBegun, IsGroup}
use Rattle.rbc_reduce.specs.declared.parts.Group.{Group}
use Rattle.rbc_reduce.proofs.RowLemmas.{small_prices}
use Rattle.rbc_reduce.proofs.TileLemmas.{begin_place, end_place, least_of, min_first, min_second, min_some, next_place, some_at, some_inside, some_is}
use Rattle.rbc_reduce.proofs.parts.begin_part.Goals as goal

pub loop-alloc-init : goal.loop-alloc-init
loop-alloc-init g c =
    let none = ap length c.in_ok-groups.ensures.items in
    record {
      low = omega (arith, c.in_ok-before.ensures.count);
      place = begin_place c.args.span.from c.args.span.end (length c.in_ok-before.before.items) (length c.in_ok-groups.groups.items) c.in_ok-before.ensures.count none c.requires.rises;
      few = omega arith;
      costs = c.in_ok-before.ensures.costs;
      each = λ k group e. absurd (cc (e, ap (λ xs. slice_get xs k) c.in_ok-groups.ensures.items));
    }

pub begin_four-requires-clause-inside : goal.begin_four-requires-clause-inside
begin_four-requires-clause-inside g c κs within =
    let count = c.in_ok-columns.ensures.count in
    let rooms = c.in_ok-rooms.ensures in
    let same = ap length c.deref.ensures.value in
    let some = min_some 4 (c.args.span.end - c.len-in-loop-alloc.result) (omega arith) (omega (arith, c.len-in-loop-alloc.ensures, c.len.ensures, c.loop-alloc-test.true)) in
    omega (arith, c.min.ensures)

pub begin_four-requires-clause-wide : goal.begin_four-requires-clause-wide
begin_four-requires-clause-wide g c κs within = λ j q column h low there.
    let here = subst (λ xs. slice_get xs q ≡ Some column) c.deref.ensures.value there in
    let width = c.in_ok-columns.ensures.costs.width q column here in
    let wide = c.requires.filled.wide j h in
    let up = c.loop-alloc.invariant.low in
    omega (arith, c.requires.behind)

pub begin_four-requires-clause-small : goal.begin_four-requires-clause-small
begin_four-requires-clause-small g c κs within =
    small_prices (cost_of_step g.V.Level.levels (unit_of c.args.track.now.end) c.args.track.now) (length c.args.rows.now) (row_in g.N.Total.number c.args.rows.now) c.args.span.known g.N.Total.most c.requires.filled
    (λ from to h near. c.requires.small from to h (omega (arith, c.requires.behind, c.requires.rises, c.requires.inside)))

pub begin_four-requires-clause-small_costs : goal.begin_four-requires-clause-small_costs
begin_four-requires-clause-small_costs g c κs within = λ q i column there.
    let number = g.N.Total.number in
    let here = subst (λ xs. slice_get xs q ≡ Some column) c.deref.ensures.value there in
    let inside = some_inside c.in_ok-columns.columns.items q column here in
    let count = c.in_ok-columns.ensures.count in
    let rooms = c.in_ok-rooms.ensures in
    let width = c.in_ok-columns.ensures.costs.width q column here in
    let long = length-map column.items number in
    let most = min_second 4 (c.args.span.end - c.len-in-loop-alloc.result) in
    small_totals (map number column.items) g.N.Total.most (λ k h.
    let is = c.in_ok-columns.ensures.costs.costs q column here k h in
    let small = c.requires.small k (length (map number column.items)) h (omega (arith, c.min.ensures, c.len-in-loop-alloc.ensures, c.len.ensures, c.loop-alloc-test.true, c.requires.inside)) in
    omega arith) i

pub cut_columns-requires-clause-wide : goal.cut_columns-requires-clause-wide
cut_columns-requires-clause-wide g c κs within = λ q column low there.
    let here = subst (λ xs. slice_get xs q ≡ Some column) c.deref-in-loop-alloc.ensures.value there in
    let width = c.in_ok-columns.ensures.costs.width q column here in
    let up = c.loop-alloc.invariant.low in
    omega (arith, c.requires.behind)

pub loop-alloc-smaller : goal.loop-alloc-smaller
loop-alloc-smaller g c =
    let count = c.in_ok-columns.ensures.count in
    let rooms = c.in_ok-rooms.ensures in
    let value = c.pop.ensures.value c.in-Some.last (omega arith) in
    let same : c.in-Some.last ≡ get_or c.in_ok-columns.columns.items c.min.result c.in-Some.last =
    some_is _ _ (sym c.in-Some.is ∙ value ∙ ap (λ n. Some (get_or c.in_ok-columns.columns.items n c.in-Some.last)) (omega arith)) in
    let there = slice_get-get_or c.in_ok-columns.columns.items c.min.result c.in-Some.last (omega arith) ∙ ap Some (sym same) in
    let width = c.in_ok-columns.ensures.costs.width c.min.result c.in-Some.last there in
    let some = min_some 4 (c.args.span.end - c.len-in-loop-alloc.result) (omega arith) (omega (arith, c.len-in-loop-alloc.ensures, c.len.ensures, c.loop-alloc-test.true)) in
    omega (arith, c.min.ensures, c.len.ensures, c.loop-alloc-test.true, width, some)

pub loop-alloc-preserved : goal.loop-alloc-preserved
loop-alloc-preserved g c =
    let number = g.N.Total.number in
    let cost = cost_of_step g.V.Level.levels (unit_of c.args.track.now.end) c.args.track.now in
    let i = c.loop-alloc.invariant in
    let low = i.low in
    let len = length c.loop-alloc.before.items in
    let groups = c.loop-alloc.groups.items in
    let count = c.in_ok-columns.ensures.count in
    let rooms = c.in_ok-rooms.ensures in
    let value = c.pop.ensures.value c.in-Some.last (omega arith) in
    let same : c.in-Some.last ≡ get_or c.in_ok-columns.columns.items c.min.result c.in-Some.last =
    some_is _ _ (sym c.in-Some.is ∙ value ∙ ap (λ n. Some (get_or c.in_ok-columns.columns.items n c.in-Some.last)) (omega arith)) in
    let there = slice_get-get_or c.in_ok-columns.columns.items c.min.result c.in-Some.last (omega arith) ∙ ap Some (sym same) in
    let width = c.in_ok-columns.ensures.costs.width c.min.result c.in-Some.last there in
    let most = min_second 4 (c.args.span.end - c.len-in-loop-alloc.result) in
    let few = min_first 4 (c.args.span.end - c.len-in-loop-alloc.result) in
    let test : len < c.args.span.end = omega (arith, c.len.ensures, c.loop-alloc-test.true) in
    let lens : c.len-in-loop-alloc.result ≡ len = omega (arith, c.len-in-loop-alloc.ensures) in
    let four : c.min.result ≡ min 4 (c.args.span.end - len) = c.min.ensures ∙ ap (λ n. min 4 (c.args.span.end - n)) lens in
    let next = next_place c.args.span.from c.args.span.end len (length groups) c.min.result i.place test four in
    let here : len ≡ c.args.span.from + 4 * length groups = next.0 in
    let is = c.in_ok-push.ensures.items in
    let new : Group g.row.N.Denot = record { columns = c.in_ok-kept.kept; least = c.in_ok-least.least } in
    let kept = c.in_ok-kept.ensures in
    let seen = c.deref-in-loop-alloc.ensures.value in
    let kept_count = kept.count in
    let seen_count = ap length seen in
    let group = subst (λ xs. IsGroup number c.args.rows.now xs c.in_ok-least.least.items) c.deref.ensures.value c.in_ok-least.ensures in
    let made : IsBegun number c.args.rows.now cost c.args.span.known len c.args.span.end new = record {
      count = (let e : length c.in_ok-kept.kept.items ≡ c.min.result = omega arith in e) ∙ four;
      costs = λ k part e.
          let inside = some_inside c.in_ok-kept.kept.items k part e in
          let column = some_at c.in_ok-columns.columns.items (k + 1) (omega arith) in
          let long = c.in_ok-columns.ensures.costs.width (k + 1) column.0 column.1 in
          subst (λ n. AreCut cost c.args.span.known n (map number part.items)) (let e : length column.0.items ≡ len + k + 1 = omega arith in e)
          (kept.cut k part e cost column.0 (subst (λ xs. slice_get xs (k + 1) ≡ Some column.0) (sym seen) column.1) (c.in_ok-columns.ensures.costs.costs (k + 1) column.0 column.1));
      least = λ k h. least_of number cost c.args.span.known c.args.rows.now c.in_ok-columns.columns.items len k c.in_ok-least.least.items (omega (arith, c.requires.behind)) (omega arith) (omega arith) c.requires.filled c.in_ok-columns.ensures.costs group;
    } in
    let P : ℕ → Group g.row.N.Denot → Type 0 = λ k group. IsBegun number c.args.rows.now cost c.args.span.known (c.args.span.from + 4 * k) c.args.span.end group in
    let more = ap length is ∙ length-append groups (new ∷ []) in
    record {
      low = omega (arith, width);
      place = (let e : length c.in-Some.last.items ≡ len + c.min.result = omega (arith, width) in e) ∙ next.1 ∙ ap (λ n. min c.args.span.end (c.args.span.from + 4 * n)) (let e : length groups + 1 ≡ length c.push.new.self.items = omega arith in e);
      few = omega arith;
      costs = c.in_ok-columns.ensures.costs.costs c.min.result c.in-Some.last there;
      each = subst (λ xs. (k : ℕ) (group : Group g.row.N.Denot) → slice_get xs k ≡ Some group → P k group) (sym is)
          (each_more P groups new i.each (subst (λ n. IsBegun number c.args.rows.now cost c.args.span.known n c.args.span.end new) here made));
    }

pub returns : goal.returns
returns g c =
    let i = c.loop-alloc.invariant in
    let few = i.few in
    let end = end_place c.args.span.from c.args.span.end (length c.loop-alloc.before.items) (length c.loop-alloc.groups.items) i.place (omega (arith, c.loop-alloc-test.false, c.len.ensures)) in
    record { begun = record { count = omega arith; each = i.each } }
