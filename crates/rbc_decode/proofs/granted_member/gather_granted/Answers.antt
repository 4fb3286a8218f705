use Rattle.std.proofs.Common.{◌≡◌, ◌++◌, codes, decimal, ap, ◌∙◌, rules, to_z, of_z, w64}
use Rattle.std.specs.Fmt.{signed_decimal}
use Rattle.rbc_decode.specs.GrantedLines.{ahead_text}
use Rattle.rbc_decode.proofs.GrantedLemmas.{granted_text}
use Rattle.rbc_decode.proofs.OutBufferLemmas.{behind_9}
use Rattle.rbc_decode.proofs.granted_member.gather_granted.Goals as goal

pub returns : goal.returns
returns c =
    let granted = c.args.granted.now in
    let same : c.from.result ≡ granted.train = search rules in
    let fits : to_z w64 (of_z w64 granted.beginning) ≡ granted.beginning = search rules in
    let train = c.number.ensures.text ∙ ap (λ n. c.text.new.self ++ decimal n) same in
    let beginning = c.signed.ensures.text ∙ ap (λ z. c.text-3.new.self ++ signed_decimal z) fits in
    behind_9 c.args.buffer.now (codes ",\"granted\":{\"train\":") (decimal granted.train) (codes ",\"version\":") (decimal granted.version)
    (codes ",\"beginning\":") (signed_decimal granted.beginning) (codes ",\"obstacle\":\"") (ahead_text granted.obstacle) (codes "\"}")
    c.text.ensures.text train c.text-2.ensures.text c.number-2.ensures.text c.text-3.ensures.text beginning c.text-4.ensures.text
    c.gather_ahead.ensures.text c.text-5.ensures.text
    ∙ ap (λ l. c.args.buffer.now ++ l) (granted_text granted c.gather_ahead.ensures.plain)
