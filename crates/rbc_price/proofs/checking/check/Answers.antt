use Rattle.rbc_table_laws.specs.PriceRows.{prices_of}
use Rattle.std.proofs.Common.{sym, ◌∙◌}
use Rattle.rbc_price.proofs.CertificateLemmas.{certificate_of_check, certified_of, best_of_certificate, on_ok}
use Rattle.rbc_price.proofs.checking.check.Goals as goal

pub returns-clause-verdict : goal.returns-clause-verdict
returns-clause-verdict g c = rw c.as_slice.ensures.value at c.judge.ensures

pub returns-clause-certified : goal.returns-clause-certified
returns-clause-certified g c =
    let verdict = rw c.as_slice.ensures.value at c.judge.ensures in
    certified_of g.V.Level.levels c.args.limit c.args.track.now c.args.profile.now (prices_of c.args.prices.now.items) c.judge.result verdict c.known-2.ensures.profile

pub returns-clause-best : goal.returns-clause-best
returns-clause-best g c =
    let level = g.met.V.Level g.world.𝓛 g.world.𝓜 g.world.𝓡 ((λ s x. x), (λ x. x), (λ x. x), λ x. x) in
    let verdict = rw c.as_slice.ensures.value at c.judge.ensures in
    on_ok c.judge.result (λ ok.
    best_of_certificate g.V.Level.levels c.args.limit c.args.track.now c.args.profile.now (prices_of c.args.prices.now.items)
    (certificate_of_check g.V.Level.levels c.args.limit c.args.track.now c.args.profile.now (prices_of c.args.prices.now.items) c.known-2.ensures.profile (sym verdict ∙ ok))
    level.lawful c.known.ensures.track)
