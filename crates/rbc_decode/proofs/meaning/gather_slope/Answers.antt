use Rattle.std.proofs.Common.{◌≡◌, ◌++◌, codes, ap, ◌∙◌, rules, to_z, of_z, w64}
use Rattle.std.specs.Fmt.{signed_decimal}
use Rattle.rbc_decode.specs.Meanings.{place_meaning}
use Rattle.rbc_decode.proofs.OutBufferLemmas.{behind}
use Rattle.rbc_decode.proofs.meaning.gather_slope.Goals as goal

pub returns-clause-text : goal.returns-clause-text
returns-clause-text c =
    let walk = c.args.walk.now in
    let fits : to_z w64 (of_z w64 c.args.per_mille) ≡ c.args.per_mille = search rules in
    let value = c.signed.ensures.text ∙ ap (λ z. c.args.buffer.now ++ signed_decimal z) fits in
    behind c.args.buffer.now (signed_decimal c.args.per_mille) (place_meaning walk (codes " per mille from ") walk.from) value c.gather_place.ensures.text
