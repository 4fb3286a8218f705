use Rattle.std.proofs.Common.{◌++◌, ap, ◌∙◌, append-nil}
use Rattle.rbc_words.specs.Replies.{runs_text}
use Rattle.rbc_streams.proofs.EmittingLemmas.{emits_as}
use Rattle.rbc_words.proofs.steps_reply.emit_piece.Goals as goal

pub returns : goal.returns
returns g c =
    let runs = runs_text g.V.Spelled.kind c.args.piece.now in
    emits_as (c.bytes.ensures ∙ c.gather_runs.ensures.text ∙ ap (λ l. runs ++ l) c.new-text.ensures ∙ append-nil runs) c.emit.ensures
