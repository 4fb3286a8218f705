use Rattle.std.proofs.Common.{◌≡◌, ◌++◌, codes, decimal, ap, ◌∙◌, rules}
use Rattle.rbc_decode.proofs.OutBufferLemmas.{behind}
use Rattle.rbc_decode.proofs.text.gather_country.Goals as goal

pub returns : goal.returns
returns c =
    let same : c.from.result ≡ c.args.country = search rules in
    behind c.args.buffer.now (codes "group ") (decimal c.args.country) c.text.ensures.text (c.number.ensures.text ∙ ap (λ n. c.text.new.self ++ decimal n) same)
