use Rattle.std.proofs.Common.{sym, map}
use Rattle.rbc_model.specs.SessionReply.{leg_word}
use Rattle.rbc_streams.proofs.EmittingLemmas.{emits_then, emits_as}
use Rattle.rbc_words.specs.LineWords.{word_text}
use Rattle.rbc_words.proofs.SpacedLemmas.{line_of-parts}
use Rattle.rbc_lines.proofs.train.emit_leg_line.Goals as goal

pub returns : goal.returns
returns g c =
    emits_as (sym (line_of-parts c.args.first.now (map word_text c.args.words.now) (map (leg_word c.args.track.now) c.args.legs.now)))
    (emits_then c.emit.ensures (emits_then c.emit_words.ensures (emits_then c.emit_legs.ensures c.emit-2.ensures)))
