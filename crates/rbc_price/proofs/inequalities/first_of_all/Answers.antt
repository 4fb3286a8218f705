use Rattle.std.proofs.Common.{arith, ◌≡◌, ℕ, ◌+◌, ◌≤◌, ◌⊎◌, inl, inr, refl, subst}
use Rattle.rbc_table_laws.specs.PriceRows.{prices_of}
use Rattle.rbc_price.specs.Costs.{IsLowestStretch}
use Rattle.rbc_price.proofs.ColumnLemmas.{inside}
use Rattle.rbc_price.proofs.LowestStretchLemmas.{some_lowest}
use Rattle.rbc_price.proofs.PlaceLemmas.{first_of_fewer, first_of_both}
use Rattle.rbc_price.proofs.inequalities.first_of_all.Goals as goal

last_or_before : (i k : ℕ) → i ≤ k + 1 → (i ≡ k + 1) ⊎ (i ≤ k)
last_or_before i k h = grind arith

pub loop-next-init : goal.loop-next-init
loop-next-init g c = record {
  column = c.first_column-lowest.ensures.column;
  first = first_of_fewer g.V.Level.levels c.args.track.now (prices_of c.args.rows.now)
      (λ from to. IsLowestStretch g.V.Level.levels c.args.track.now from to c.first_column-lowest.result.index)
      (λ from to. (lowest : ℕ) × (lowest ≤ c.first_column-lowest.result.index) × IsLowestStretch g.V.Level.levels c.args.track.now from to lowest) c.first_over-first.result
      (λ from to on column j. subst (λ k. IsLowestStretch g.V.Level.levels c.args.track.now from to k) (let few = j.1 in omega (arith, c.first_column-lowest.ensures.first)) j.2)
      c.first_over-first.ensures;
}

pub loop-next-preserved : goal.loop-next-preserved
loop-next-preserved g c =
    let column = c.in-Some.ensures.behind c.in-Some.next refl in
    let index = c.in-Some.ensures.index c.in-Some.next refl in
    record {
      column = column;
      first = rw c.earlier-first.ensures (first_of_both g.V.Level.levels c.args.track.now (prices_of c.args.rows.now)
          (λ from to. (lowest : ℕ) × (lowest ≤ c.loop-next.lowest.index) × IsLowestStretch g.V.Level.levels c.args.track.now from to lowest)
          (λ from to. IsLowestStretch g.V.Level.levels c.args.track.now from to c.in-Some.next.index)
          (λ from to. (lowest : ℕ) × (lowest ≤ c.in-Some.next.index) × IsLowestStretch g.V.Level.levels c.args.track.now from to lowest)
          c.loop-next.first c.first_over.result
          (λ from to on column j. elim (last_or_before j.0 c.loop-next.lowest.index (omega (arith, j.1, index))) [
            | inl e ↦ inr (subst (λ k. IsLowestStretch g.V.Level.levels c.args.track.now from to k) (omega (arith, e, index)) j.2)
            | inr less ↦ inl (j.0, less, j.2)
          ])
          c.loop-next.invariant.first c.first_over.ensures);
    }

pub returns : goal.returns
returns g c =
    let level = g.met.V.Level g.world.𝓛 g.world.𝓜 g.world.𝓡 ((λ s x. x), (λ x. x), (λ x. x), λ x. x) in
    first_of_fewer g.V.Level.levels c.args.track.now (prices_of c.args.rows.now)
    (λ from to. (lowest : ℕ) × (lowest ≤ c.loop-next.lowest.index) × IsLowestStretch g.V.Level.levels c.args.track.now from to lowest)
    (λ from to. Unit {0}) c.loop-next.first
    (λ from to on column j.
    let there = some_lowest g.V.Level.levels level.lawful c.args.track.now c.known.ensures.track c.requires.whole from to on column in
    let high = there.1.high in
    (there.0, omega arith, there.1)) c.loop-next.invariant.first

pub loop-next-smaller : goal.loop-next-smaller
loop-next-smaller g c =
    let level = g.met.V.Level g.world.𝓛 g.world.𝓜 g.world.𝓡 ((λ s x. x), (λ x. x), (λ x. x), λ x. x) in
    let next = c.in-Some.ensures.behind c.in-Some.next refl in
    let index = c.in-Some.ensures.index c.in-Some.next refl in
    let room = inside g.V.Level.levels level.lawful c.args.track.now c.known.ensures.track c.requires.whole c.in-Some.next next in
    omega arith
