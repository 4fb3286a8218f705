use Rattle.std.proofs.Common.{sym}
use Rattle.rbc_streams.proofs.EmittingLemmas.{emits_then, emits_as}
use Rattle.rbc_lines.proofs.LineTextLemmas.{train_lines-is}
use Rattle.rbc_lines.proofs.train.emit_train.Goals as goal

pub returns : goal.returns
returns g c = λ scene told.
    emits_as (sym (train_lines-is c.args.track.now scene c.args.train.now.train _ _ _ _ _ c.report.ensures c.rear.ensures.rear c.front.ensures.front c.from.ensures.from c.to.ensures.to))
    (emits_then c.emit_report.ensures (emits_then c.emit_way.ensures (emits_then c.emit_places.ensures (emits_then c.emit_places-2.ensures (c.emit_next.ensures scene told)))))
