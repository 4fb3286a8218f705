use Rattle.std.proofs.Common.{◌≡◌, ◌≤◌, length, take}
use Rattle.rbc_decode.specs.DecodeText.{reading_kind}
use Rattle.rbc_decode.specs.Readings.{IsCounted}
use Rattle.rbc_decode.proofs.ListLemmas.{IsRest}
use Rattle.rbc_decode.proofs.RestLemmas.{Rest}
use Rattle.rbc_decode.proofs.listing.list_fields.Given as goal

-- those in the list in front of those that are left are all
abbrev pub invariant-loop-count : goal.invariant-loop-count
invariant-loop-count l = record {
  counted : IsCounted l.fields;
  within : l.count ≤ 252;
  long : length l.items ≡ 253;
  rest : Rest l.fields (IsRest (take l.count l.items) (reading_kind l.is_packet l.bytes));
}

abbrev pub decreases-loop-count : goal.decreases-loop-count
decreases-loop-count l = length l.fields.bits
