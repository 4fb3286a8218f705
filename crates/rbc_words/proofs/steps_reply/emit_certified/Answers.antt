use Rattle.std.proofs.Common.{sym}
use Rattle.rbc_streams.proofs.EmittingLemmas.{emits_then, emits_as}
use Rattle.rbc_words.proofs.LineTextLemmas.{packet_lines-is}
use Rattle.rbc_words.proofs.steps_reply.emit_certified.Goals as goal

pub returns : goal.returns
returns g c = emits_then c.emit_certificate.ensures (emits_as (sym (packet_lines-is c.args.packet.now)) c.emit_hex_between.ensures)
