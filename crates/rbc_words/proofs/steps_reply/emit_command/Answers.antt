use Rattle.std.proofs.Common.{◌++◌, ◌∷◌, ap, ◌∙◌, append-nil}
use Rattle.std.specs.Prelude.{decimal}
use Rattle.rbc_streams.proofs.EmittingLemmas.{emits_as}
use Rattle.rbc_words.proofs.steps_reply.emit_command.Goals as goal

pub returns : goal.returns
returns g c =
    let command = g.V.Spelled.kind.command ++ (32 ∷ decimal c.args.limit) in
    emits_as (c.bytes.ensures ∙ c.gather_command.ensures ∙ ap (λ l. command ++ l) c.new-text.ensures ∙ append-nil command) c.emit.ensures
