use Rattle.std.proofs.Common.{◌∷◌, [], ◌++◌, codes, decimal, sym, ap, append_assoc}
use Rattle.json.specs.Print.{escape_byte}
use Rattle.rbc_streams.proofs.EmittingLemmas.{emits_as}
use Rattle.rbc_decode.proofs.json_line.emit_overlong.Goals as goal

pub returns : goal.returns
unfolding escape_byte
returns g c =
    emits_as (sym (ap (λ l. codes "{\"line\":" ++ l) (append_assoc (decimal c.args.line) (codes ",\"refused\":{\"fault\":\"Overlong\"}}") (10 ∷ [])))) c.emit_pieces.ensures
