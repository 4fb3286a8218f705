use Rattle.std.proofs.Common.{◌++◌, ◌∷◌, ap, sym, ◌∙◌}
use Rattle.std.specs.Prelude.{codes, decimal}
use Rattle.rbc_words.specs.Replies.{runs_text}
use Rattle.rbc_words.proofs.LineTextLemmas.{track_text-is}
use Rattle.rbc_streams.proofs.EmittingLemmas.{emits_then, emits_as}
use Rattle.rbc_words.proofs.steps_reply.emit_track.Goals as goal

pub returns-then-runs-gt-SHORT : goal.returns-then-runs-gt-SHORT
returns-then-runs-gt-SHORT g c =
    let same_end = c.from-end.ensures ∙ c.end.ensures in
    let whole = track_text-is g.V.Spelled.kind c.args.limit c.args.track.now _ _ c.runs-runs.ensures same_end in
    emits_as (sym whole) (emits_then c.emit_command.ensures c.emit_line_end.ensures)

pub returns : goal.returns
returns g c =
    let same_end = c.from-end.ensures ∙ c.end.ensures in
    let whole = track_text-is g.V.Spelled.kind c.args.limit c.args.track.now _ _ c.runs-runs.ensures same_end in
    let command = g.V.Spelled.kind.command ++ (32 ∷ decimal c.args.limit) in
    let runs = runs_text g.V.Spelled.kind c.runs-runs.result.now in
    let text = c.bytes.ensures ∙ c.gather_command.ensures ∙ ap (λ l. command ++ l) (c.gather_line_end.ensures.text
    ∙ ap (λ l. runs ++ (codes " end " ++ (decimal c.from-end.result ++ 10 ∷ l))) c.new-text.ensures) in
    emits_as (text ∙ sym whole) c.emit.ensures
