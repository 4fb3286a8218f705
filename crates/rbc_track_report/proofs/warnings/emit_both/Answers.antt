use Rattle.std.proofs.Common.{ap, ap₂, sym, ◌∙◌}
use Rattle.std.specs.Prelude.{find, option_map}
use Rattle.rbc_model.specs.declared.places.Leg.{Leg}
use Rattle.rbc_track_report.specs.Report.{both_line, has_leg}
use Rattle.rbc_streams.proofs.EmittingLemmas.{emits_as}
use Rattle.rbc_track_report.proofs.ReportLemmas.{ways_line-is}
use Rattle.rbc_track_report.proofs.warnings.emit_both.Goals as goal

pub returns : goal.returns
returns g c =
    let routes = c.args.track.now.routes in
    let name = c.args.section.now.name in
    let found = c.in-Some-Some in
    let up = ap (λ (leg : Leg). find (has_leg leg) routes) (sym c.leg_along.ensures) ∙ sym c.first_with-up.ensures ∙ ap (option_map (λ route. route.now)) found.is-0 in
    let down = ap (λ (leg : Leg). find (has_leg leg) routes) (sym c.leg_along-2.ensures) ∙ sym c.first_with-down.ensures ∙ ap (option_map (λ route. route.now)) found.is-1 in
    emits_as
    (ways_line-is _ _ _ _ _ _ c.name.ensures c.name-2.ensures c.name-3.ensures ∙ sym (ap₂ (both_line name) up down)) c.emit_line.ensures
