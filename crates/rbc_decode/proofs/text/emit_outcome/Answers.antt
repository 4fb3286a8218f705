use Rattle.std.proofs.Common.{◌++◌, codes, ap}
use Rattle.rbc_streams.proofs.EmittingLemmas.{emits_then, emits_as}
use Rattle.rbc_decode.proofs.PartsLemmas.{parts_text-words}
use Rattle.rbc_decode.proofs.text.emit_outcome.Goals as goal

pub returns-in-None : goal.returns-in-None
returns-in-None g c =
    rw c.in-None.is (emits_as (ap (λ l. l ++ codes "done\n") (parts_text-words c.args.items.now)) (emits_then c.emit_parts.ensures c.emit.ensures))

pub returns-in-Some : goal.returns-in-Some
returns-in-Some g c = rw c.in-Some.is c.emit_found.ensures
