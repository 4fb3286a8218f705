use Rattle.std.proofs.Common.{◌≡◌, arith, rules, ◌∙◌}
use Rattle.hex.specs.Hex.{encode_lower}
use Rattle.rbc_words.proofs.HexTextLemmas.{hex_of-encoded}
use Rattle.rbc_words.proofs.tail_buffer.write_hex.Goals as goal

pub returns : goal.returns
returns c =
    let bytes = c.args.bytes.now in
    let encoded : c.encode_to_slice.new.output ≡ encode_lower bytes = search rules in
    encoded ∙ hex_of-encoded bytes (λ i. omega (arith, c.type_inv.bytes i))
