use Rattle.std.proofs.Common.{◌≡◌, ◌++◌, drop}
use Rattle.rbc_model.specs.Scales.{unit_of}
use Rattle.rbc_packet.specs.Fields.{bits_of_fields}
use Rattle.rbc_packet.specs.Layouts.{elements}
use Rattle.rbc_packet.proofs.RestLemmas.{IsRest}
use Rattle.rbc_packet.proofs.profile.put_profile.Given as goal

abbrev pub invariant-loop-start : goal.invariant-loop-start
invariant-loop-start g l =
    let end = l.profile.end in
    record {
      rest : IsRest g.V.Level.levels end l.from (drop l.start-index l.start-items);
      fields : l.bits ++ bits_of_fields (elements g.V.Encoded.layout (unit_of end) end l.from (drop l.start-index l.start-items))
          ≡ l.fn.bits ++ bits_of_fields (g.V.Encoded.packet l.nominal end l.profile.steps);
    }
