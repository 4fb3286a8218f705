use Rattle.std.proofs.Common.{◌++◌, ap, ◌∙◌, append-nil}
use Rattle.rbc_model.specs.Words.{hex_of}
use Rattle.rbc_streams.proofs.EmittingLemmas.{emits_as}
use Rattle.rbc_words.proofs.printing.emit_piece.Goals as goal

pub returns : goal.returns
returns g c =
    let digits = hex_of c.args.piece.now in
    emits_as (c.bytes.ensures ∙ c.hex.ensures.text ∙ ap (λ l. digits ++ l) c.new-text.ensures ∙ append-nil digits) c.emit.ensures
