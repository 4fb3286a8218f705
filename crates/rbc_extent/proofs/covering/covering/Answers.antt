use Rattle.std.proofs.Common.{ap, ◌∙◌, min, arith}
use Rattle.std.specs.List.{position_or_len}
use Rattle.rbc_model.specs.Tracks.{leg_eq}
use Rattle.rbc_model.specs.Lines.{has_leg, legs_ending_by}
use Rattle.rbc_model.specs.Placing.{leg_told, rear_on}
use Rattle.rbc_scene_laws.proofs.OriginLemmas.{has_leg-drop}
use Rattle.rbc_extent.proofs.covering.covering.Goals as goal

pub lengthened_to_rear-requires-clause-told : goal.lengthened_to_rear-requires-clause-told
lengthened_to_rear-requires-clause-told c =
    let told = leg_told c.args.group.now c.args.report.now in
    let gone = min (position_or_len (leg_eq told) c.args.line.legs) (legs_ending_by c.args.line.track (rear_on c.args.line.track c.args.group.now c.args.report.now c.args.line.legs) c.args.line.legs) in
    ap (λ l. has_leg l told) c.drop_legs_behind.ensures.legs ∙ has_leg-drop gone c.args.line.legs told (omega arith) c.requires.told
