use Rattle.std.proofs.Common.{length, refl}
use Rattle.hex.specs.Hex.{decode_sized}
use Rattle.hex.proofs.HexLemmas.{IsOk-written}
use Rattle.rbc_decode.proofs.DigitLemmas.{hex_decoded}
use Rattle.rbc_decode.proofs.spelling.decode_digits.Goals as goal

pub unwrap-requires : goal.unwrap-requires
unwrap-requires c =
    let decoded = hex_decoded c.args.digits.now c.requires.hex in
    let written = IsOk-written (decode_sized c.args.digits.now (length c.args.bytes.now)) c.decode_to_slice.result c.decode_to_slice.new.out c.decode_to_slice.ensures.value in
    written.1 (rw (c.requires.half, decoded.sized) refl)
