use Rattle.std.proofs.Common.{◌≡◌, [], ◌∷◌, ◌∙◌, arith, of_z, to_z, to_z-of_z, w64}
use Rattle.std.specs.Prelude.{decimal}
use Rattle.std.specs.Fmt.{signed_decimal}
use Rattle.rbc_model.specs.Words.{line_of}
use Rattle.rbc_streams.proofs.EmittingLemmas.{emits_as}
use Rattle.rbc_lines.proofs.train.emit_places.Goals as goal

pub returns : goal.returns
returns g c =
    let number = c.number.ensures ∙ c.id.ensures in
    let low_fits = c.from_group.type_inv in
    let high_fits = c.from_group-2.type_inv in
    let low_is : to_z w64 (of_z w64 c.from_group.result) ≡ c.from_group.result = grind (arith, to_z-of_z) in
    let high_is : to_z w64 (of_z w64 c.from_group-2.result) ≡ c.from_group-2.result = grind (arith, to_z-of_z) in
    let low = low_is ∙ c.from_group.ensures in
    let high = high_is ∙ c.from_group-2.ensures in
    emits_as (λ j. line_of (c.args.first.now ∷ decimal (number j) ∷ signed_decimal (low j) ∷ signed_decimal (high j) ∷ [])) c.emit_line.ensures
