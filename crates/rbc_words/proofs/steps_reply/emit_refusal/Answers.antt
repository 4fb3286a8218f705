use Rattle.std.proofs.Common.{sym}
use Rattle.rbc_streams.proofs.EmittingLemmas.{emits_then, emits_as}
use Rattle.rbc_words.proofs.LineTextLemmas.{refusal_reply-is}
use Rattle.rbc_words.proofs.steps_reply.emit_refusal.Goals as goal

pub returns : goal.returns
returns g c = emits_as (sym (refusal_reply-is c.args.refusal)) (emits_then c.emit.ensures c.emit_cause.ensures)
