use Rattle.std.proofs.Common.{arith, ◌∙◌, ◌≤◌, ap, sym, refl, map, take, get_or, ◌∷◌, ◌++◌, []}
use Rattle.std.proofs.lemmas.Bool.{leb-true}
use Rattle.std.proofs.lemmas.List.{take_more, take_all}
use Rattle.rbc_costs.proofs.TotalLemmas.{map_more}
use Rattle.rbc_price.proofs.SoundLemmas.{small_more}
use Rattle.rbc_price.proofs.sound.totals_of.Goals as goal

pub loop-price-init : goal.loop-price-init
loop-price-init g c = rw c.in_ok-totals.ensures.items (record { same = refl; small = λ i. omega arith })

pub loop-price-preserved : goal.loop-price-preserved
loop-price-preserved g c =
    let number = g.N.Total.number in
    let items = c.loop-price.totals.items in
    let row = c.args.row.now in
    let index = c.loop-price.price-index in
    let more = ap (map number) c.in_ok-push.ensures.items ∙ map_more number items c.of.result in
    let fits : get_or row index 0 ≤ g.N.Total.most = leb-true (get_or row index 0) g.N.Total.most (sym c.has.ensures ∙ c.if-not-has.false) in
    record {
      same = more ∙ ap (λ xs. xs ++ number c.of.result ∷ []) c.loop-price.invariant.same ∙ ap (λ x. take index row ++ x ∷ []) c.of.ensures
          ∙ sym (take_more row index 0 (omega (arith, c.loop-price-test.true)));
      small = λ i.
          let is = ap (λ xs. get_or xs i 0) more in
          let low = small_more (map number items) (number c.of.result) g.N.Total.most c.loop-price.invariant.small (omega (arith, c.of.ensures, fits)) i in
          omega (arith, is, low);
    }

pub returns-clause-same : goal.returns-clause-same
returns-clause-same g c = c.loop-price.invariant.same ∙ take_all c.loop-price.price-index c.args.row.now (omega (arith, c.loop-price-test.false))

pub returns-clause-small : goal.returns-clause-small
returns-clause-small g c = c.loop-price.invariant.small
