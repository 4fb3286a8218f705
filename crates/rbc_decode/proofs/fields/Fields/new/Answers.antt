use Rattle.std.proofs.Common.{length, arith, sym, ap, ◌∙◌}
use Rattle.rbc_decode.proofs.fields.Fields.new.Goals as goal
use Rattle.rbc_model.proofs.MessageSizeLemmas.{length-byte_bits}

pub returns-clause-counted : goal.returns-clause-counted
returns-clause-counted c = record {
  left = sym (ap length c.new.ensures ∙ length-byte_bits c.args.bytes.now);
  few = omega arith;
}
