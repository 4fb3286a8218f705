use Rattle.std.proofs.Common.{◌≡◌, ◌∷◌, [], ◌++◌, codes, decimal, refl, ap, ◌∙◌, rules, to_z, of_z, w64}
use Rattle.std.specs.Fmt.{signed_decimal}
use Rattle.serde_json.specs.Written.{comma_if}
use Rattle.rbc_decode.proofs.JsonLemmas.{grade_text}
use Rattle.rbc_decode.proofs.OutBufferLemmas.{behind_6}
use Rattle.rbc_decode.proofs.json_line.gather_grade.Goals as goal

pub returns : goal.returns
returns c =
    let fits : to_z w64 (of_z w64 c.args.per_mille) ≡ c.args.per_mille = search rules in
    let value = c.signed.ensures.text ∙ ap (λ z. c.text-2.new.self ++ signed_decimal z) fits in
    behind_6 c.args.buffer.now (comma_if c.args.later) (codes "{\"from\":") (decimal c.args.from) (codes ",\"per_mille\":") (signed_decimal c.args.per_mille) (125 ∷ [])
    c.gather_comma.ensures.text c.text.ensures.text c.number.ensures.text c.text-2.ensures.text value c.byte.ensures.text
    ∙ ap (λ l. c.args.buffer.now ++ l) (grade_text (comma_if c.args.later) c.args.from c.args.per_mille c.args.per_mille refl)
