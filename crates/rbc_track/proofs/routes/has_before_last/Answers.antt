use Rattle.std.proofs.Common.{◌∙◌, sym, ap}
use Rattle.std.specs.List.{list_any}
use Rattle.rbc_model.specs.Tracks.{leg_eq}
use Rattle.rbc_model.specs.SoundTracks.{but_last}
use Rattle.rbc_track.proofs.RouteLemmas.{but_last-append}
use Rattle.rbc_track.proofs.routes.has_before_last.Goals as goal

pub returns-in-Some : goal.returns-in-Some
returns-in-Some c =
    c.has_leg.ensures
    ∙ sym (ap (λ legs. list_any (leg_eq c.args.leg.now) legs) (ap but_last c.in-Some.ensures.cases.0 ∙ but_last-append c.in-Some.earlier.now c.in-Some.field-0-0.now))
