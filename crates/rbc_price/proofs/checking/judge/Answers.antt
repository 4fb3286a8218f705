use Rattle.std.proofs.Common.{arith, ◌≡◌, ap, sym, ◌∙◌, length, nat_le, ◌==◌}
use Rattle.std.proofs.lemmas.Bool.{le-leb, eq-eqb, lt-leb}
use Rattle.rbc_model.specs.Profiles.{loss, value_at}
use Rattle.rbc_model.specs.PriceChecks.{has_shape, first_above, first_too_high, lost, last_price}
use Rattle.rbc_table_laws.specs.PriceRows.{prices_of}
use Rattle.rbc_price.specs.Columns.{stretches_of}
use Rattle.rbc_price.proofs.ShapeLemmas.{shaped}
use Rattle.rbc_price.proofs.TableLemmas.{not_same, wide_of_shape, count_of_shape, last_is}
use Rattle.rbc_price.proofs.CertificateLemmas.{stop_at_loss, stop_at_steps, all_pass}
use Rattle.rbc_price.proofs.checking.judge.Given.{Over}
use Rattle.rbc_price.proofs.checking.judge.Goals as goal
use Rattle.rbc_price.proofs.checking.judge.Goals.{After-price_at}

pub has_no_high_price-requires-clause-wide : goal.has_no_high_price-requires-clause-wide
has_no_high_price-requires-clause-wide g c κs within = wide_of_shape g.V.Level.levels c.args.limit c.args.track.now c.args.profile.now c.args.rows.now (shaped g.V.Level.levels c.args.limit c.args.track.now c.args.profile.now (prices_of c.args.rows.now) (sym c.has_shape.ensures ∙ c.if-not-has_shape.false))

pub has_no_high_price-requires-clause-whole : goal.has_no_high_price-requires-clause-whole
has_no_high_price-requires-clause-whole g c κs within = (shaped g.V.Level.levels c.args.limit c.args.track.now c.args.profile.now (prices_of c.args.rows.now) (sym c.has_shape.ensures ∙ c.if-not-has_shape.false)).whole

pub column_count-columns-requires-after_bounds : goal.column_count-columns-requires-after_bounds
column_count-columns-requires-after_bounds g c κs within = (shaped g.V.Level.levels c.args.limit c.args.track.now c.args.profile.now (prices_of c.args.rows.now) (sym c.has_shape.ensures ∙ c.if-not-has_shape.false)).whole

pub loss-requires-after_bounds : goal.loss-requires-after_bounds
loss-requires-after_bounds g c κs within =
    let end = (shaped g.V.Level.levels c.args.limit c.args.track.now c.args.profile.now (prices_of c.args.rows.now) (sym c.has_shape.ensures ∙ c.if-not-has_shape.false)).end in
    (omega arith, (end, λ x h. c.in_ok-stays_below.ensures.below x (omega arith)))

pub price_at-requires-clause-wide : goal.price_at-requires-clause-wide
price_at-requires-clause-wide g c = record {
  width = stretches_of c.args.track.now;
  wide = wide_of_shape g.V.Level.levels c.args.limit c.args.track.now c.args.profile.now c.args.rows.now (shaped g.V.Level.levels c.args.limit c.args.track.now c.args.profile.now (prices_of c.args.rows.now) (sym c.has_shape.ensures ∙ c.if-not-has_shape.false));
  room = omega (arith, c.column_count-columns.ensures);
}

-- the loss, and the last price
loss_here : (g : Over) (c : After-price_at g) → c.loss.result ≡ lost g.V.Level.levels c.args.limit c.args.track.now c.args.profile.now (prices_of c.args.rows.now)
loss_here g c =
    c.loss.ensures ∙ ap (λ n. loss g.V.Level.levels n (value_at c.args.track.now.steps) c.args.profile.now.steps) (sym (shaped g.V.Level.levels c.args.limit c.args.track.now c.args.profile.now (prices_of c.args.rows.now) (sym c.has_shape.ensures ∙ c.if-not-has_shape.false)).end)

price_here : (g : Over) (c : After-price_at g) → c.price_at.result ≡ last_price g.V.Level.levels c.args.limit c.args.track.now (prices_of c.args.rows.now)
price_here g c = last_is g.V.Level.levels c.args.limit c.args.track.now c.args.profile.now c.args.rows.now (shaped g.V.Level.levels c.args.limit c.args.track.now c.args.profile.now (prices_of c.args.rows.now) (sym c.has_shape.ensures ∙ c.if-not-has_shape.false))
    _ _ c.column_count-columns.ensures c.price_at.ensures

pub returns-then-loss-price_at : goal.returns-then-loss-price_at
returns-then-loss-price_at g c =
    let there = (goal.at.returns-then-loss-price_at g c).After-price_at in
    stop_at_loss (has_shape g.V.Level.levels c.args.limit c.args.track.now c.args.profile.now (prices_of c.args.rows.now)) (first_above g.V.Level.levels c.args.track.now c.args.profile.now)
    (first_too_high g.V.Level.levels c.args.limit c.args.track.now (prices_of c.args.rows.now))
    (lost g.V.Level.levels c.args.limit c.args.track.now c.args.profile.now (prices_of c.args.rows.now) == last_price g.V.Level.levels c.args.limit c.args.track.now (prices_of c.args.rows.now)) (nat_le (length c.args.profile.now.steps) c.args.limit)
    (sym c.has_shape.ensures ∙ c.if-not-has_shape.false) c.in_ok-stays_below.ensures.above
    (c.in_ok-has_no_high_price.ensures c.args.limit (count_of_shape g.V.Level.levels c.args.limit c.args.track.now c.args.profile.now c.args.rows.now (shaped g.V.Level.levels c.args.limit c.args.track.now c.args.profile.now (prices_of c.args.rows.now) (sym c.has_shape.ensures ∙ c.if-not-has_shape.false))))
    (not_same _ _ (λ e. c.if-loss-price_at.true (loss_here g there ∙ e ∙ sym (price_here g there))))

pub returns-then-steps-limit : goal.returns-then-steps-limit
returns-then-steps-limit g c =
    let there = (goal.at.returns-then-steps-limit g c).After-price_at in
    stop_at_steps (has_shape g.V.Level.levels c.args.limit c.args.track.now c.args.profile.now (prices_of c.args.rows.now)) (first_above g.V.Level.levels c.args.track.now c.args.profile.now)
    (first_too_high g.V.Level.levels c.args.limit c.args.track.now (prices_of c.args.rows.now))
    (lost g.V.Level.levels c.args.limit c.args.track.now c.args.profile.now (prices_of c.args.rows.now) == last_price g.V.Level.levels c.args.limit c.args.track.now (prices_of c.args.rows.now)) (nat_le (length c.args.profile.now.steps) c.args.limit)
    (sym c.has_shape.ensures ∙ c.if-not-has_shape.false) c.in_ok-stays_below.ensures.above
    (c.in_ok-has_no_high_price.ensures c.args.limit (count_of_shape g.V.Level.levels c.args.limit c.args.track.now c.args.profile.now c.args.rows.now (shaped g.V.Level.levels c.args.limit c.args.track.now c.args.profile.now (prices_of c.args.rows.now) (sym c.has_shape.ensures ∙ c.if-not-has_shape.false))))
    (eq-eqb _ _ (sym (loss_here g there) ∙ c.if-loss-price_at.false ∙ price_here g there))
    (lt-leb (length c.args.profile.now.steps) c.args.limit (omega (arith, ap length c.steps.ensures)))

pub returns : goal.returns
returns g c =
    let there = (goal.at.returns g c).After-price_at in
    all_pass (has_shape g.V.Level.levels c.args.limit c.args.track.now c.args.profile.now (prices_of c.args.rows.now)) (first_above g.V.Level.levels c.args.track.now c.args.profile.now)
    (first_too_high g.V.Level.levels c.args.limit c.args.track.now (prices_of c.args.rows.now))
    (lost g.V.Level.levels c.args.limit c.args.track.now c.args.profile.now (prices_of c.args.rows.now) == last_price g.V.Level.levels c.args.limit c.args.track.now (prices_of c.args.rows.now)) (nat_le (length c.args.profile.now.steps) c.args.limit)
    (sym c.has_shape.ensures ∙ c.if-not-has_shape.false) c.in_ok-stays_below.ensures.above
    (c.in_ok-has_no_high_price.ensures c.args.limit (count_of_shape g.V.Level.levels c.args.limit c.args.track.now c.args.profile.now c.args.rows.now (shaped g.V.Level.levels c.args.limit c.args.track.now c.args.profile.now (prices_of c.args.rows.now) (sym c.has_shape.ensures ∙ c.if-not-has_shape.false))))
    (eq-eqb _ _ (sym (loss_here g there) ∙ c.if-loss-price_at.false ∙ price_here g there))
    (le-leb (length c.args.profile.now.steps) c.args.limit (omega (arith, ap length c.steps.ensures)))
