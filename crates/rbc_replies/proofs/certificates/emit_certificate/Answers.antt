use Rattle.rbc_streams.proofs.EmittingLemmas.{emits_as}
use Rattle.rbc_replies.proofs.GrantTextLemmas.{certificate_text-is}
use Rattle.rbc_replies.proofs.certificates.emit_certificate.Goals as goal

pub returns : goal.returns
returns g c =
    let spelled = g.met.V.Spelled g.world.𝓛 g.world.𝓜 g.world.𝓡 ((λ s x. x), (λ x. x), (λ x. x), λ x. x) in
    emits_as (certificate_text-is g.V.Spelled.kind g.V.Level.levels c.args.profile.now c.args.basis.now _ spelled.same_levels c.requires.ends c.requires.loss)
    c.emit_certificate.ensures
