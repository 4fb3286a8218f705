use Rattle.std.proofs.Common.{◌≡◌, true, subst, ap, ◌∙◌}
use Rattle.std.specs.List.{list_all}
use Rattle.rbc_model.specs.Profiles.{value_at, starts_of, rises_from_zero, are_inside}
use Rattle.rbc_steps.proofs.JoinedLemmas.{value_at-joined}
use Rattle.rbc_steps.proofs.MadeLemmas.{track_made}
use Rattle.rbc_steps.proofs.runs.Runs.new.Goals as goal

pub invariant_of-result : goal.invariant_of-result
invariant_of-result g c =
    let rows = c.args.rows.items in
    let rising : rises_from_zero (starts_of rows) ≡ true = cc in
    let inside : are_inside c.args.end (starts_of rows) ≡ true = cc in
    let in_range : list_all (λ row. g.V.Level.levels.in_range row.1) rows ≡ true = subst (λ s. list_all (λ row. g.V.Level.levels.in_range row.1) s ≡ true) c.deref.ensures.value (c.rise_from_zero.ensures.in_range c.if-not-rise_from_zero.false) in
    track_made g.V.Level.levels c.args.end rows rising inside in_range c.join.new.rows.items c.join.ensures

pub returns-clause-values : goal.returns-clause-values
returns-clause-values g c =
    let rows = c.args.rows.items in
    let level = g.met.V.Level g.world.𝓛 g.world.𝓜 g.world.𝓡 ((λ s x. x), (λ x. x), (λ x. x), λ x. x) in
    let rising : rises_from_zero (starts_of rows) ≡ true = cc in
    let in_range : list_all (λ row. g.V.Level.levels.in_range row.1) rows ≡ true = subst (λ s. list_all (λ row. g.V.Level.levels.in_range row.1) s ≡ true) c.deref.ensures.value (c.rise_from_zero.ensures.in_range c.if-not-rise_from_zero.false) in
    λ x. ap (λ steps. value_at steps x) c.join.ensures ∙ value_at-joined g.V.Level.levels level.lawful rows x rising in_range
