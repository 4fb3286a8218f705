use Rattle.std.proofs.Common.{◌≡◌, false, length, nat_lt, ◌||◌, Option, ap, ◌∙◌, arith}
use Rattle.rbc_model.specs.declared.limits.TheConstants.{LONGEST_CHECK_LINE}
use Rattle.rbc_decode.specs.declared.granted.GrantedLine.{GrantedLine}
use Rattle.rbc_decode.specs.DecodeText.{LineMeaning, told_view, told_reply, is_told_refused}
use Rattle.rbc_decode.proofs.SpellingLemmas.{not_long}
use Rattle.rbc_decode.proofs.decoding.DecoderLineHandler.answer.Goals as goal

pub returns-clause-reply : goal.returns-clause-reply
returns-clause-reply g c =
    let printing = g.F.Form.printing in
    let before = c.args.self.now.progress in
    let short : nat_lt LONGEST_CHECK_LINE (length c.args.line.now) ≡ false = not_long (length c.args.line.now) LONGEST_CHECK_LINE (omega (arith, c.if-line-gt-LONGEST_CHECK_LINE.false)) in
    let told = c.meant_in.ensures in
    let counted = c.count-number.ensures in
    let followed = c.follow-granted.ensures in (
      told_reply printing c.count-number.result c.follow-granted.result (told_view c.meant_in.result),
      (
        rw short (ap (λ n. told_reply printing n c.follow-granted.result (told_view c.meant_in.result)) counted.number
            ∙ ap (λ (g : Option GrantedLine). told_reply printing before.line g (told_view c.meant_in.result)) (followed.before ∙ counted.granted)
            ∙ ap (λ (t : LineMeaning). told_reply printing before.line before.granted t) told),
        c.emit_told.ensures.line ∙ followed.line ∙ counted.line,
        c.emit_told.ensures.refused
            ∙ ap (λ b. b || is_told_refused (told_view c.meant_in.result)) (followed.refused ∙ counted.refused)
            ∙ rw short (ap (λ (t : LineMeaning). before.refused || is_told_refused t) told),
        c.emit_told.ensures.granted ∙ followed.kept ∙ rw short c.granted_by.ensures,
      ),
      c.outcome.ensures.printed _ _ c.requires.going c.emit_told.ensures.reply,
    )
