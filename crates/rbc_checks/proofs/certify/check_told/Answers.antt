use Rattle.std.proofs.Common.{◌≡◌, ap, ◌∙◌, ◌==◌, min}
use Rattle.rbc_model.specs.CheckText.{with_loss}
use Rattle.rbc_model.specs.PriceChecks.{last_price}
use Rattle.rbc_model.specs.PriceTables.{table_at}
use Rattle.rbc_table_laws.specs.PriceRows.{prices_of}
use Rattle.rbc_checks.proofs.certify.check_told.Goals as goal

pub returns : goal.returns
returns g c =
    let parts = c.args.parts.now in
    let rows = prices_of c.args.prices.now.items in
    let price : c.price_at.result ≡ last_price g.V.Level.levels parts.limit parts.track rows =
    c.price_at.ensures ∙ ap (λ j. table_at rows j c.column_count-columns.result) c.min.ensures
    ∙ ap (λ n. table_at rows (min parts.limit n) n) c.column_count-columns.ensures in
    c.with_loss.ensures ∙ ap (λ p. with_loss (c.args.loss == p) c.check.result) price
    ∙ ap (with_loss (c.args.loss == last_price g.V.Level.levels parts.limit parts.track rows)) c.check.ensures.verdict
