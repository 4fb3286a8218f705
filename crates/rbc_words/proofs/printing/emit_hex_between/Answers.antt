use Rattle.std.proofs.Common.{◌++◌, ap, ◌∙◌}
use Rattle.std.proofs.lemmas.List.{append-nil}
use Rattle.rbc_model.specs.Words.{hex_of}
use Rattle.rbc_streams.proofs.EmittingLemmas.{emits_then, emits_as}
use Rattle.rbc_words.proofs.printing.emit_hex_between.Goals as goal

pub returns-then-bytes-gt-SHORT : goal.returns-then-bytes-gt-SHORT
returns-then-bytes-gt-SHORT g c =
    emits_then c.emit.ensures (emits_then c.emit_hex.ensures c.emit-then-bytes-gt-SHORT.ensures)

pub returns : goal.returns
returns g c =
    let text = c.bytes.ensures ∙ c.text-2.ensures.text ∙ ap (λ l. c.args.before.now ++ l) (c.hex.ensures.text
    ∙ ap (λ l. hex_of c.args.bytes.now ++ l) (c.text.ensures.text ∙ ap (λ l. c.args.behind.now ++ l) c.new-text.ensures ∙ append-nil c.args.behind.now)) in
    emits_as text c.emit-2.ensures
