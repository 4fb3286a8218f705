use Rattle.std.proofs.Common.{arith}
use Rattle.rbc_packet.proofs.SpellingLemmas.{spelled_once}
use Rattle.rbc_packet.proofs.message.read_message.Goals as goal

pub returns-clause-spelling : goal.returns-clause-spelling
returns-clause-spelling c = spelled_once c.args.bytes.now c.read_fields.result (λ i. omega (arith, c.type_inv.bytes i)) c.read_fields.ensures
