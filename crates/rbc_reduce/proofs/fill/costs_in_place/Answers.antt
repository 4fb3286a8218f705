use Rattle.std.proofs.Common.{arith, ◌≡◌, ℕ, ◌-◌, ◌∙◌, List, [], ◌∷◌, ap, sym, length, get_or, take, ◌≤◌}
use Rattle.std.proofs.lemmas.List.{get_or_append_left, length-take-le, map-id}
use Rattle.rbc_model.specs.Scales.{unit_of}
use Rattle.rbc_table_laws.specs.Stretches.{cost_of_step}
use Rattle.rbc_reduce.proofs.fill.costs_in_place.Goals as goal

abbrev zeros : List ℕ
zeros = 0 ∷ 0 ∷ 0 ∷ 0 ∷ 0 ∷ 0 ∷ 0 ∷ 0 ∷ 0 ∷ 0 ∷ 0 ∷ 0 ∷ 0 ∷ 0 ∷ 0 ∷ 0 ∷ []

-- as many are written
wide : (to : ℕ) → to ≤ 16 → length (take to zeros) ≡ to
wide to few = length-take-le to zeros few

pub next_costs-requires-clause-before : goal.next_costs-requires-clause-before
next_costs-requires-clause-before g c κs within = λ i h.
    let is = wide c.args.to (omega arith) in
    let same : length (take c.args.to zeros) - 1 ≡ c.args.to - 1 = ap (λ n. n - 1) is in
    ap (λ xs. get_or xs i 0) (map-id c.args.before.now) ∙ c.requires.before i (omega (arith, h, is))
    ∙ ap (cost_of_step g.V.Level.levels (unit_of c.args.track.now.end) c.args.track.now i) (omega (arith, same))

pub next_costs-requires-clause-small : goal.next_costs-requires-clause-small
next_costs-requires-clause-small g c κs within = c.requires.small

pub returns : goal.returns
returns g c = λ i h.
    let is = wide c.args.to (omega arith) in
    let kept = c.next_costs.auto.costs in
    get_or_append_left c.next_costs.new.costs _ 0 i (omega (arith, kept, is, h)) ∙ ap (λ xs. get_or xs i 0) (sym (map-id c.next_costs.new.costs))
    ∙ c.next_costs.ensures i (omega (arith, is, h)) ∙ ap (cost_of_step g.V.Level.levels (unit_of c.args.track.now.end) c.args.track.now i) is
