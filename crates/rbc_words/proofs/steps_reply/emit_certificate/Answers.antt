use Rattle.std.proofs.Common.{sym}
use Rattle.rbc_streams.proofs.EmittingLemmas.{emits_then, emits_as}
use Rattle.rbc_words.proofs.LineTextLemmas.{certificate_lines-is}
use Rattle.rbc_words.proofs.steps_reply.emit_certificate.Goals as goal

pub emit_profile-requires-send-V : goal.emit_profile-requires-send-V
emit_profile-requires-send-V g c κs within = c.type_bounds.send-V

pub emit_profile-requires-sync-V : goal.emit_profile-requires-sync-V
emit_profile-requires-sync-V g c κs within = c.type_bounds.sync-V

pub returns : goal.returns
returns g c =
    emits_as (sym (certificate_lines-is g.V.Spelled.kind c.args.profile.now c.args.loss c.args.basis.now))
    (emits_then c.emit_track.ensures (emits_then c.emit_profile.ensures c.emit_table.ensures))
