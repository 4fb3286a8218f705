use Rattle.std.proofs.Common.{◌∷◌, [], ◌++◌, codes, decimal, ap, ◌∙◌}
use Rattle.rbc_decode.proofs.LineLemmas.{speed_line-is}
use Rattle.rbc_decode.proofs.OutBufferLemmas.{behind_5}
use Rattle.rbc_decode.proofs.text.gather_speed.Goals as goal

pub returns : goal.returns
returns c =
    behind_5 c.args.buffer.now (codes "speed ") (decimal c.args.from) (32 ∷ []) (decimal c.args.kmh) (10 ∷ [])
    c.text.ensures.text c.number.ensures.text c.byte.ensures.text c.number-2.ensures.text c.byte-2.ensures.text
    ∙ ap (λ l. c.args.buffer.now ++ l) (speed_line-is c.args.from c.args.kmh)
