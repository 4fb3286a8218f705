use Rattle.std.proofs.Common.{◌∷◌, [], ◌++◌, codes, decimal, ap, ◌∙◌}
use Rattle.serde_json.specs.Written.{comma_if}
use Rattle.rbc_decode.proofs.JsonLemmas.{speed_text}
use Rattle.rbc_decode.proofs.OutBufferLemmas.{behind_6}
use Rattle.rbc_decode.proofs.json_line.gather_speed.Goals as goal

pub returns : goal.returns
returns c =
    behind_6 c.args.buffer.now (comma_if c.args.later) (codes "{\"from\":") (decimal c.args.from) (codes ",\"km_per_hour\":") (decimal c.args.kmh) (125 ∷ [])
    c.gather_comma.ensures.text c.text.ensures.text c.number.ensures.text c.text-2.ensures.text c.number-2.ensures.text c.byte.ensures.text
    ∙ ap (λ l. c.args.buffer.now ++ l) (speed_text (comma_if c.args.later) c.args.from c.args.kmh)
