use Rattle.std.proofs.Common.{◌≡◌, ◌≤◌, ◌<◌, ◌^◌, ◌++◌, drop}
use Rattle.rbc_model.specs.Bits.{bits_of}
use Rattle.rbc_packet.specs.Fields.{bits_of_fields}
use Rattle.rbc_packet.proofs.fields.put_fields.Given as goal

abbrev pub invariant-loop-name : goal.invariant-loop-name
invariant-loop-name l =
    (l.bits ++ (bits_of l.row.width l.row.number ++ bits_of_fields (drop l.name-index l.fields)) ≡ l.fn.bits ++ bits_of_fields l.fields)
    × (l.row.number < 2 ^ l.row.width)
    × (l.row.width ≤ 32)
