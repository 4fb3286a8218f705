use Rattle.std.proofs.Common.{arith, ◌≡◌, ◌+◌, ◌≤◌, None, inl, inr, refl}
use Rattle.rbc_model.proofs.ScanLemmas.{le_or_lt}
use Rattle.rbc_table_laws.specs.PriceRows.{prices_of}
use Rattle.rbc_price.proofs.ColumnLemmas.{inside}
use Rattle.rbc_price.proofs.PlaceLemmas.{first_of_fewer, first_of_both}
use Rattle.rbc_price.proofs.inequalities.is_sound_by_pairs.Goals as goal

pub loop-next-init : goal.loop-next-init
loop-next-init g c =
    let index = c.first_column-last.ensures.first in
    record {
      column = c.first_column-last.ensures.column;
      none = first_of_fewer g.V.Level.levels c.args.track.now (prices_of c.args.rows.now) (λ from to. to ≡ c.first_column-last.result.index + 1) (λ from to. to ≤ c.first_column-last.result.index + 1) None
          (λ from to on column j. omega (arith, j, on, index)) (c.is_sound_up_to.ensures c.if-not-is_sound_up_to.false);
    }

pub loop-next-preserved : goal.loop-next-preserved
loop-next-preserved g c =
    let index = c.in-Some.ensures.index c.in-Some.next refl in
    record {
      column = c.in-Some.ensures.behind c.in-Some.next refl;
      none = first_of_both g.V.Level.levels c.args.track.now (prices_of c.args.rows.now) (λ from to. to ≤ c.loop-next.last.index + 1) (λ from to. to ≡ c.in-Some.next.index + 1)
          (λ from to. to ≤ c.in-Some.next.index + 1) None None
          (λ from to on column j. elim (le_or_lt to (c.loop-next.last.index + 1)) [
            | inl h ↦ inl h
            | inr past ↦ inr (omega (arith, j, past, index))
          ])
          c.loop-next.invariant.none (c.is_sound_up_to-in-Some.ensures c.if-not-is_sound_up_to-2.false);
    }

pub loop-next-smaller : goal.loop-next-smaller
loop-next-smaller g c =
    let level = g.met.V.Level g.world.𝓛 g.world.𝓜 g.world.𝓡 ((λ s x. x), (λ x. x), (λ x. x), λ x. x) in
    let next = c.in-Some.ensures.behind c.in-Some.next refl in
    let index = c.in-Some.ensures.index c.in-Some.next refl in
    let room = inside g.V.Level.levels level.lawful c.args.track.now c.known.ensures.track c.requires.whole c.in-Some.next next in
    omega arith
