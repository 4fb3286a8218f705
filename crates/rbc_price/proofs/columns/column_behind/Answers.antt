use Rattle.std.proofs.Common.{arith, refl, ap, sym, ◌∙◌, ◌≡◌, ◌+◌, subst}
use Rattle.rbc_model.specs.Scales.{unit_of}
use Rattle.rbc_stretches.specs.OnTracks.{IsStretch}
use Rattle.rbc_price.specs.Columns.{IsColumn}
use Rattle.rbc_price.proofs.ColumnLemmas.{columns_are_runs, index_small, inside}
use Rattle.rbc_price.proofs.columns.column_behind.Goals as goal
use Rattle.std.proofs.lemmas.Option.{same_Some}

pub overflow_add-result : goal.overflow_add-result
overflow_add-result g c =
    let level = g.met.V.Level g.world.𝓛 g.world.𝓜 g.world.𝓡 ((λ s x. x), (λ x. x), (λ x. x), λ x. x) in
    let small = index_small g.V.Level.levels level.lawful c.args.track.now c.known.ensures.track c.requires.whole c.args.column c.requires.column in
    let near = c.known.ensures.within_limit in
    omega arith

pub returns-clause-behind : goal.returns-clause-behind
returns-clause-behind g c = λ next e.
    let unit : c.unit_of-unit.result ≡ unit_of c.args.track.now.end = c.unit_of-unit.ensures.unit ∙ ap unit_of c.end.ensures in
    let here = subst (λ u. IsStretch u c.args.track.now c.args.column.index c.args.column.stretch) (sym unit) c.requires.column in
    let made = c.in_ok-stretch.ensures.behind c.args.column.index c.in_ok-stretch.stretch here refl in
    subst (λ n. IsColumn c.args.track.now n) (same_Some _ next e) (subst (λ u. IsStretch u c.args.track.now (c.args.column.index + 1) c.in_ok-stretch.stretch) unit made)

pub run_behind-requires-clause-inside : goal.run_behind-requires-clause-inside
run_behind-requires-clause-inside g c =
    let level = g.met.V.Level g.world.𝓛 g.world.𝓜 g.world.𝓡 ((λ s x. x), (λ x. x), (λ x. x), λ x. x) in
    let track = c.args.track.now in
    let one : unit_of track.end ≡ 1 = sym (c.unit_of-unit.ensures.unit ∙ ap unit_of c.end.ensures) ∙ c.if-unit-eq1.true in
    let count = columns_are_runs g.V.Level.levels level.lawful track c.known.ensures.track c.requires.whole one in
    let here = inside g.V.Level.levels level.lawful track c.known.ensures.track c.requires.whole c.args.column c.requires.column in
    omega arith

pub returns-then-unit-eq1-clause-last : goal.returns-then-unit-eq1-clause-last
returns-then-unit-eq1-clause-last g c = λ none.
    let level = g.met.V.Level g.world.𝓛 g.world.𝓜 g.world.𝓡 ((λ s x. x), (λ x. x), (λ x. x), λ x. x) in
    let track = c.args.track.now in
    let one : unit_of track.end ≡ 1 = sym (c.unit_of-unit.ensures.unit ∙ ap unit_of c.end.ensures) ∙ c.if-unit-eq1.true in
    c.run_behind.ensures.last none ∙ columns_are_runs g.V.Level.levels level.lawful track c.known.ensures.track c.requires.whole one
