use Rattle.std.proofs.Common.{◌≡◌, ◌/◌, length, take}
use Rattle.rbc_model.specs.declared.limits.TheConstants.{MOST_STEPS}
use Rattle.rbc_model.specs.Scales.{unit_of}
use Rattle.rbc_packet.proofs.ElementLemmas.{AreRead}
use Rattle.rbc_packet.proofs.profile.read_steps.Given as goal

abbrev pub invariant-loop-index : goal.invariant-loop-index
invariant-loop-index g l = record {
  room : length l.steps ≡ MOST_STEPS;
  read : AreRead g.V.Encoded.layout g.V.Level.levels (unit_of l.end) (l.end / unit_of l.end) l.fn.first l.count l.index l.from l.fn.bits l.bits (take l.index l.steps);
}
