use Rattle.std.proofs.Common.{◌≤◌, ap, sym, ◌∙◌, subst}
use Rattle.std.specs.Option.{option_map}
use Rattle.rbc_model.specs.declared.limits.TheConstants.{LONGEST_TRACK}
use Rattle.rbc_model.specs.Profiles.{StepFunction}
use Rattle.rbc_words.specs.StepsLines.{request_view}
use Rattle.rbc_checks.specs.Tables.{steps_view}
use Rattle.rbc_checks.proofs.VerdictLemmas.{no_track, no_steps_in, steps_in}
use Rattle.rbc_checks.proofs.certify.parts_of.Goals as goal

pub returns-in_default : goal.returns-in_default
returns-in_default g c told lines =
    no_track g.V.Level.levels g.V.ToldLevel.value_of told lines c.args.steps.now (request_view c.args.request) c.in_default.field-0
    (sym c.in_default.is ∙ c.new.ensures.track)

pub returns-in_default-2 : goal.returns-in_default-2
returns-in_default-2 g c told lines =
    no_steps_in g.V.Level.levels g.V.ToldLevel.value_of told lines c.args.steps.now (request_view c.args.request) c.in-Ok.track
    (sym c.in-Ok.is ∙ c.new.ensures.track)
    (subst (λ (t : StepFunction _). t.end ≤ LONGEST_TRACK) c.track.view_is c.track.invariant.1)
    (sym (ap (option_map steps_view) c.in_default-2.is) ∙ c.in_ok-steps.ensures)

pub returns : goal.returns
returns g c told lines =
    steps_in g.V.Level.levels g.V.ToldLevel.value_of told lines c.args.steps.now (request_view c.args.request) c.in-Ok.track
    (sym c.in-Ok.is ∙ c.new.ensures.track)
    (subst (λ (t : StepFunction _). t.end ≤ LONGEST_TRACK) c.track.view_is c.track.invariant.1)
    c.in-Some.steps.items (sym (ap (option_map steps_view) c.in-Some.is) ∙ c.in_ok-steps.ensures)
