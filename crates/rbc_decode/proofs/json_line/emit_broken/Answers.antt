use Rattle.std.proofs.Common.{◌∷◌, [], ◌++◌, codes, decimal, sym, ap, ◌∙◌, append_assoc}
use Rattle.json.specs.Print.{escape_byte}
use Rattle.rbc_streams.proofs.EmittingLemmas.{emits_as}
use Rattle.rbc_decode.proofs.JsonLemmas.{closed}
use Rattle.rbc_decode.proofs.json_line.emit_broken.Goals as goal

pub returns : goal.returns
unfolding escape_byte
returns g c =
    let line = decimal c.args.line in
    let place = decimal c.args.place in
    emits_as
    (sym
    (ap (λ l. codes "{\"line\":" ++ l) (append_assoc line (codes ",\"refused\":{\"fault\":\"Digits\",\"at\":" ++ ((place ++ 125 ∷ []) ++ 125 ∷ [])) (10 ∷ []))
    ∙ ap (λ l. codes "{\"line\":" ++ (line ++ (codes ",\"refused\":{\"fault\":\"Digits\",\"at\":" ++ l))) (closed place)))
    c.emit_pieces.ensures
