use Rattle.std.proofs.Common.{◌≡◌, length, ap, sym, ◌∙◌, arith, refl}
use Rattle.rbc_price.proofs.ColumnLemmas.{columns_are_runs, index_small, inside}
use Rattle.rbc_model.specs.Scales.{unit_of}
use Rattle.rbc_price.proofs.columns.column_count.Goals as goal

pub loop-next-preserved : goal.loop-next-preserved
loop-next-preserved g c = c.in-Some.ensures.behind c.in-Some.next refl

pub loop-next-smaller : goal.loop-next-smaller
loop-next-smaller g c =
    let level = g.met.V.Level g.world.𝓛 g.world.𝓜 g.world.𝓡 ((λ s x. x), (λ x. x), (λ x. x), λ x. x) in
    let next = c.in-Some.ensures.behind c.in-Some.next refl in
    let index = c.in-Some.ensures.index c.in-Some.next refl in
    let room = inside g.V.Level.levels level.lawful c.args.track.now c.known.ensures.track c.requires c.in-Some.next next in
    omega arith

pub overflow_add-result : goal.overflow_add-result
overflow_add-result g c =
    let level = g.met.V.Level g.world.𝓛 g.world.𝓜 g.world.𝓡 ((λ s x. x), (λ x. x), (λ x. x), λ x. x) in
    let small = index_small g.V.Level.levels level.lawful c.args.track.now c.known.ensures.track c.requires c.loop-next.last c.loop-next.invariant in
    let near = c.known.ensures.within_limit in
    omega arith

pub returns : goal.returns
returns g c = c.column_behind.ensures.last c.in_default.is

pub returns-then-unit_of-eq1 : goal.returns-then-unit_of-eq1
returns-then-unit_of-eq1 g c =
    let level = g.met.V.Level g.world.𝓛 g.world.𝓜 g.world.𝓡 ((λ s x. x), (λ x. x), (λ x. x), λ x. x) in
    let track = c.args.track.now in
    let one : unit_of track.end ≡ 1 = sym (c.unit_of.ensures.unit ∙ ap unit_of c.end-end.ensures) ∙ c.if-unit_of-eq1.true in
    ap length c.runs.ensures ∙ columns_are_runs g.V.Level.levels level.lawful track c.known.ensures.track c.requires one
