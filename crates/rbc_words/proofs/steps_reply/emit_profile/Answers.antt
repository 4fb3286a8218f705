use Rattle.std.proofs.Common.{◌++◌, ◌∷◌, ap, sym, ◌∙◌}
use Rattle.std.specs.Prelude.{codes, decimal}
use Rattle.rbc_words.specs.Replies.{runs_text}
use Rattle.rbc_words.proofs.LineTextLemmas.{profile_line-is}
use Rattle.rbc_streams.proofs.EmittingLemmas.{emits_then, emits_as}
use Rattle.rbc_words.proofs.steps_reply.emit_profile.Goals as goal

pub returns-then-steps-gt-SHORT : goal.returns-then-steps-gt-SHORT
returns-then-steps-gt-SHORT g c =
    let whole = profile_line-is g.V.Spelled.kind c.args.profile.now.steps _ c.args.loss c.steps-steps.ensures in
    emits_as (sym whole) (emits_then c.emit.ensures c.emit_line_end.ensures)

pub returns : goal.returns
returns g c =
    let whole = profile_line-is g.V.Spelled.kind c.args.profile.now.steps _ c.args.loss c.steps-steps.ensures in
    let runs = runs_text g.V.Spelled.kind c.steps-steps.result.now in
    let text = c.bytes.ensures ∙ c.text.ensures.text ∙ ap (λ l. codes "steps" ++ l) (c.gather_line_end.ensures.text
    ∙ ap (λ l. runs ++ (codes " loss " ++ (decimal c.args.loss ++ 10 ∷ l))) c.new-text.ensures) in
    emits_as (text ∙ sym whole) c.emit-2.ensures
