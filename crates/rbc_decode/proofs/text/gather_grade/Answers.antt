use Rattle.std.proofs.Common.{◌≡◌, ◌∷◌, [], ◌++◌, codes, decimal, ap, ◌∙◌, rules, to_z, of_z, w64}
use Rattle.std.specs.Fmt.{signed_decimal}
use Rattle.rbc_decode.proofs.LineLemmas.{grade_line-is}
use Rattle.rbc_decode.proofs.OutBufferLemmas.{behind_5}
use Rattle.rbc_decode.proofs.text.gather_grade.Goals as goal

pub returns : goal.returns
returns c =
    let fits : to_z w64 (of_z w64 c.args.per_mille) ≡ c.args.per_mille = search rules in
    let value = c.signed.ensures.text ∙ ap (λ z. c.byte.new.self ++ signed_decimal z) fits in
    behind_5 c.args.buffer.now (codes "grade ") (decimal c.args.from) (32 ∷ []) (signed_decimal c.args.per_mille) (10 ∷ [])
    c.text.ensures.text c.number.ensures.text c.byte.ensures.text value c.byte-2.ensures.text
    ∙ ap (λ l. c.args.buffer.now ++ l) (grade_line-is c.args.from c.args.per_mille)
