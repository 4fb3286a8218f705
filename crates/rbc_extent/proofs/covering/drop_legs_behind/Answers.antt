use Rattle.std.proofs.Common.{◌≡◌, ap₂, arith, ◌∙◌}
use Rattle.std.specs.List.{position_or_len}
use Rattle.rbc_model.specs.Tracks.{leg_eq}
use Rattle.rbc_model.specs.Placing.{leg_told}
use Rattle.rbc_extent.proofs.CoveringLemmas.{position-has_leg}
use Rattle.rbc_extent.proofs.covering.drop_legs_behind.Goals as goal

pub cut_front-requires : goal.cut_front-requires
cut_front-requires c =
    let low = position-has_leg c.args.line.now.legs (leg_told c.args.group.now c.args.report.now) c.requires.told in
    let same : c.legs_before-before.result ≡ position_or_len (leg_eq (leg_told c.args.group.now c.args.report.now)) c.args.line.now.legs =
    c.legs_before-before.ensures.before ∙ ap₂ (λ leg legs. position_or_len (leg_eq leg) legs) c.leg_told.ensures c.legs.ensures.legs in
    omega arith
