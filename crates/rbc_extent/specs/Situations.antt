-- How a report is placed in its situation.
use Rattle.std.specs.Prelude.{Option, option_map, Result}
use Rattle.std.specs.Arc.{arc_value}
use Rattle.rbc_model.specs.declared.tracks.BaliseGroup.{BaliseGroup}
use Rattle.rbc_model.specs.declared.refusals.Refusal.{Refusal}
use Rattle.rbc_model.specs.Reports.{Report}
use Rattle.rbc_model.specs.Lines.{Line}
use Rattle.rbc_extent.specs.PlacingSteps.{Finding, finding, finding_from}
use Rattle.rbc_extent.specs.declared.situation.Situation.{Situation}

-- the known line
abbrev pub legs_known : Situation → Option Line
legs_known situation = option_map (λ line. line.now.legs) situation.known

-- what a report comes to, and what one from a group comes to
abbrev pub finding_in : Situation → Report → Result Finding Refusal
finding_in situation report = finding (arc_value situation.track.now) situation.locks.now (legs_known situation) report

abbrev pub finding_from_group : Situation → Report → BaliseGroup → Result Finding Refusal
finding_from_group situation report group = finding_from (arc_value situation.track.now) situation.locks.now (legs_known situation) report group
