use Rattle.std.proofs.Common.{arith, refl, ap, sym, ◌∙◌, ◌≡◌, ◌+◌, ◌-◌, subst}
use Rattle.rbc_model.specs.Scales.{unit_of}
use Rattle.rbc_stretches.specs.OnTracks.{IsStretch}
use Rattle.rbc_price.specs.Columns.{IsColumn}
use Rattle.rbc_price.specs.declared.columns.Column.{Column}
use Rattle.rbc_price.proofs.ColumnLemmas.{columns_are_runs, inside}
use Rattle.rbc_price.proofs.columns.column_before.Goals as goal
use Rattle.std.proofs.lemmas.Option.{same_Some}

pub returns-clause-before : goal.returns-clause-before
returns-clause-before g c = λ next e.
    let unit : c.unit_of-unit.result ≡ unit_of c.args.track.now.end = c.unit_of-unit.ensures.unit ∙ ap unit_of c.end.ensures in
    let last : c.args.column.index ≡ c.args.column.index - 1 + 1 = omega arith in
    let here = subst (λ i. IsStretch c.unit_of-unit.result c.args.track.now i c.args.column.stretch) last
    (subst (λ u. IsStretch u c.args.track.now c.args.column.index c.args.column.stretch) (sym unit) c.requires.column) in
    let made = c.in_ok-stretch.ensures.before (c.args.column.index - 1) c.in_ok-stretch.stretch here refl in
    subst (λ n. IsColumn c.args.track.now n) (same_Some _ next e) (subst (λ u. IsStretch u c.args.track.now (c.args.column.index - 1) c.in_ok-stretch.stretch) unit made)

pub returns-clause-index : goal.returns-clause-index
returns-clause-index g c = λ next e. let same = ap (λ (n : Column). n.index) (same_Some _ next e) in omega arith

pub column_of_run-requires-clause-inside : goal.column_of_run-requires-clause-inside
column_of_run-requires-clause-inside g c =
    let level = g.met.V.Level g.world.𝓛 g.world.𝓜 g.world.𝓡 ((λ s x. x), (λ x. x), (λ x. x), λ x. x) in
    let track = c.args.track.now in
    let one : unit_of track.end ≡ 1 = sym (c.unit_of-unit.ensures.unit ∙ ap unit_of c.end.ensures) ∙ c.if-unit-eq1.true in
    let count = columns_are_runs g.V.Level.levels level.lawful track c.known.ensures.track c.requires.whole one in
    let here = inside g.V.Level.levels level.lawful track c.known.ensures.track c.requires.whole c.args.column c.requires.column in
    omega arith
