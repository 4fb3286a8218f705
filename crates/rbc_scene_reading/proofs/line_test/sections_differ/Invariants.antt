use Rattle.std.proofs.Common.{◌≡◌, drop}
use Rattle.rbc_model.specs.SoundTracks.{sections_differ}
use Rattle.rbc_scene_reading.proofs.line_test.sections_differ.Given as goal

abbrev pub invariant-loop-index : goal.invariant-loop-index
invariant-loop-index l = sections_differ (drop l.index l.legs) ≡ sections_differ l.legs
