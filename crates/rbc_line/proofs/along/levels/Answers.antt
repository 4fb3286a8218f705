use Rattle.std.proofs.Common.{◌≡◌, ℕ, ◌-◌, IfOk, arith, sym, subst, ◌∙◌}
use Rattle.rbc_model.specs.Profiles.{IsTrackFunction, value_at}
use Rattle.rbc_line.specs.Along.{levels_from}
use Rattle.rbc_line.proofs.SpellingLemmas.{spelled}
use Rattle.rbc_line.proofs.along.levels.Goals as goal

pub returns-clause-steps : goal.returns-clause-steps
returns-clause-steps g c =
    let level = g.met.V.Level g.world.𝓛 g.world.𝓜 g.world.𝓡 ((λ s x. x), (λ x. x), (λ x. x), λ x. x) in
    let n = c.args.to - c.args.from in
    let runs = c.unwrap-runs.result in
    let end : runs.end ≡ n = sym c.end.ensures ∙ c.if-prove.false in
    spelled g.V.Level.levels level.lawful n runs.steps (levels_from g.V.TrackLevel.steps_of g.V.TrackLevel.met c.args.track.now c.args.legs.now c.args.from) (omega (arith, c.requires.some))
    (subst (λ k. IsTrackFunction g.V.Level.levels k runs.steps) end c.known.ensures.track)
    (λ x h. (subst (λ r. IfOk r (λ made. (y : ℕ) → value_at made.steps y ≡ value_at c.in_ok-rows.rows.items y)) c.unwrap-runs.ensures c.new.ensures.values) x ∙ c.in_ok-rows.ensures.values x h)
