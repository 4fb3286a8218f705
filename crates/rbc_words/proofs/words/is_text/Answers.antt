use Rattle.std.proofs.Common.{◌≤◌, ◌&&◌, ◌-◌, ◌*◌, ◌/◌, length, take, nat_le, ap, ◌∙◌, arith}
use Rattle.rbc_model.specs.Words.{is_text}
use Rattle.rbc_words.proofs.EndsLemmas.{all_by_ends}
use Rattle.rbc_words.proofs.words.is_text.Goals as goal
use Rattle.rbc_streams.proofs.PieceLemmas.{rest_from}

pub returns : goal.returns
returns c =
    let text = c.args.text.now in
    let whole = length text / 8 * 8 in
    let back = length text - 8 in
    let meet : back ≤ whole = omega (arith, c.if-text-lt-AT_ONCE.false) in
    ap (λ b. b && c.are_visible-3.result) c.are_visible-2.ensures
    ∙ ap (λ b. is_text (take whole text) && b) (c.are_visible-3.ensures ∙ ap is_text (rest_from back text))
    ∙ all_by_ends (λ byte. nat_le 0x20 byte && nat_le byte 0x7e) text back whole meet
