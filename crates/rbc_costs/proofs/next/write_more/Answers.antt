use Rattle.std.proofs.Common.{arith, length-set, ◌+◌, inl, inr, ap, sym, ◌∙◌, get_or, map, set}
use Rattle.rbc_costs.proofs.TotalLemmas.{last_or_before, map_set_at, map_set_other, read_at}
use Rattle.rbc_costs.proofs.next.write_more.Goals as goal

pub plus-requires-clause-one : goal.plus-requires-clause-one
plus-requires-clause-one g c =
    let read = read_at g.N.Total.number c.args.before.now c.loop-i.i _ c.index-before-i.is (omega arith) in
    let small = c.requires.small c.loop-i.i (omega arith) (omega arith) in
    omega arith

pub loop-i-preserved : goal.loop-i-preserved
loop-i-preserved g c =
    let number = g.N.Total.number in
    let read = read_at number c.args.before.now c.loop-i.i _ c.index-before-i.is (omega arith) in
    record {
      written = λ k low h. elim (last_or_before k c.loop-i.i h) [
        | inl same ↦
            let at = map_set_at number c.loop-i.costs c.loop-i.i c.plus.result (omega (arith, length-set {A = g.row.N.Denot})) in
            ap (λ x. get_or (map number (set c.loop-i.costs c.loop-i.i c.plus.result)) x 0) same ∙ at ∙ c.plus.ensures ∙ ap (λ n. n + number c.args.lost) read
            ∙ ap (λ x. get_or (map number c.args.before.now) x 0 + number c.args.lost) (sym same)
        | inr less ↦ map_set_other number c.loop-i.costs c.loop-i.i k c.plus.result (λ e. omega (arith, e, less)) ∙ c.loop-i.invariant.written k low less
      ];
      others = λ k h. map_set_other number c.loop-i.costs c.loop-i.i k c.plus.result (λ e. omega (arith, e, h)) ∙ c.loop-i.invariant.others k (omega arith);
    }

pub returns-clause-others : goal.returns-clause-others
returns-clause-others g c = λ i h. c.loop-i.invariant.others i (omega (arith, c.loop-i-test.false, h))
