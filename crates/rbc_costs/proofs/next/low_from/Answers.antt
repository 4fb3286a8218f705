use Rattle.std.proofs.Common.{arith, length-set, ℕ, inl, inr, sym, subst}
use Rattle.std.proofs.lemmas.List.{get_or-set_other}
use Rattle.std.proofs.lemmas.Grind.{get_or-set_at}
use Rattle.rbc_model.specs.Scales.{unit_of}
use Rattle.rbc_costs.specs.Stretches.{IsLowFrom}
use Rattle.rbc_costs.proofs.TotalLemmas.{last_or_before}
use Rattle.rbc_costs.proofs.next.low_from.Goals as goal

pub loop-stretch-preserved : goal.loop-stretch-preserved
loop-stretch-preserved g c = λ k h.
    let low : ℕ → ℕ → Type 0 = λ n first. IsLowFrom g.V.Level.levels (unit_of c.args.track.now.end) c.args.track.now c.args.stretches.now n first in
    elim (last_or_before k c.loop-stretch.stretch h) [
      | inl same ↦ subst (low k) (sym (get_or-set_at c.loop-stretch.firsts c.loop-stretch.stretch k c.low_up_to.result 0 (omega arith) (omega (arith, length-set {A = ℕ})))) (subst (λ n. low n c.low_up_to.result) (sym same) c.low_up_to.ensures)
      | inr less ↦ subst (low k) (sym (get_or-set_other c.loop-stretch.firsts c.loop-stretch.stretch k c.low_up_to.result 0 (omega arith))) (c.loop-stretch.invariant k less)
    ]
