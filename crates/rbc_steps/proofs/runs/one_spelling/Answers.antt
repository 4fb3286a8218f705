-- The two tracks' runs are one list, by their levels.
use Rattle.std.proofs.Common.{◌≡◌, ℕ, sym, ap, subst, ◌∙◌}
use Rattle.rbc_model.specs.Profiles.{StepFunction, IsTrackFunction}
use Rattle.rbc_model.proofs.OneSpellingLemmas.{one_spelling}
use Rattle.rbc_steps.proofs.runs.one_spelling.Goals as goal

function_of : {V : Type 0} (end : ℕ) (one other : StepFunction V) → one.end ≡ other.end → one.steps ≡ other.steps → one ≡ other
function_of end one other e f = ap (λ n. record { steps = one.steps; end = n }) e ∙ ap (λ s. record { steps = s; end = other.end }) f

pub returns : goal.returns
returns g c =
    let level = g.met.V.Level g.world.𝓛 g.world.𝓜 g.world.𝓡 ((λ s x. x), (λ x. x), (λ x. x), λ x. x) in
    let ends = c.requires.ends in
    function_of c.args.one.now.end c.args.one.now c.args.other.now ends
    (one_spelling g.V.Level.levels level.lawful c.args.one.now.end c.args.one.now.steps c.args.other.now.steps
    c.known.ensures.track (subst (λ n. IsTrackFunction g.V.Level.levels n c.args.other.now.steps) (sym ends) c.known-2.ensures.track) c.requires.levels)
