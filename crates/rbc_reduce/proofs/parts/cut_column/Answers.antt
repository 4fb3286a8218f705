use Rattle.std.proofs.Common.{arith, ◌≡◌, ◌∙◌, ◌+◌, ◌-◌, ◌<◌, ◌∷◌, ◌++◌, [], ℕ, inl, inr, ap, sym, refl, get_or, length, length-append, map}
use Rattle.std.proofs.lemmas.List.{length-map}
use Rattle.rbc_costs.proofs.TotalLemmas.{last_or_before, map_more, read_at}
use Rattle.rbc_reduce.proofs.RowLemmas.{at_before, at_last}
use Rattle.rbc_reduce.proofs.parts.cut_column.Goals as goal

pub loop-i-init : goal.loop-i-init
loop-i-init g c =
    let number = g.N.Total.number in
    let is = c.in_ok-push.ensures.items ∙ ap (λ xs. xs ++ c.index-costs-0.result ∷ []) c.in_ok-kept.ensures.items in
    record {
      count = let one = ap length is in omega arith;
      some = omega arith;
      first = ap (λ xs. get_or (map number xs) 0 0) is ∙ read_at number c.args.costs.now 0 _ c.index-costs-0.is (omega (arith, c.requires.inside));
      behind = λ k low h. absurd (omega arith);
    }

pub loop-i-preserved : goal.loop-i-preserved
loop-i-preserved g c =
    let number = g.N.Total.number in
    let i = c.loop-i.invariant in
    let count = i.count in
    let some = i.some in
    let kept = c.loop-i.kept.items in
    let is = c.in_ok-push-2.ensures.items in
    let long = length-map kept number in
    let more = ap (map number) is ∙ map_more number kept c.index-costs-i.result in
    let read = read_at number c.args.costs.now c.loop-i.i _ c.index-costs-i.is (omega (arith, c.loop-i-test.true)) in
    record {
      count = let one = ap length is ∙ length-append kept (c.index-costs-i.result ∷ []) in omega arith;
      some = omega arith;
      first = ap (λ xs. get_or xs 0 0) more ∙ at_before (map number kept) (number c.index-costs-i.result) 0 (omega arith) ∙ i.first;
      behind = λ k low h. elim (last_or_before k c.loop-i.i h) [
        | inl same ↦
            let place : k - c.args.cut ≡ length (map number kept) = omega arith in
            ap (λ xs. get_or xs (k - c.args.cut) 0) more ∙ ap (λ n. get_or (map number kept ++ number c.index-costs-i.result ∷ []) n 0) place
            ∙ at_last (map number kept) (number c.index-costs-i.result) ∙ read ∙ ap (λ n. get_or (map number c.args.costs.now) n 0) (sym same)
        | inr less ↦ ap (λ xs. get_or xs (k - c.args.cut) 0) more ∙ at_before (map number kept) (number c.index-costs-i.result) (k - c.args.cut) (omega arith) ∙ i.behind k low less
      ];
    }

pub returns-clause-count : goal.returns-clause-count
returns-clause-count g c =
    let count = c.loop-i.invariant.count in
    omega (arith, c.loop-i-test.false, c.requires.inside)

pub returns-clause-first : goal.returns-clause-first
returns-clause-first g c = c.loop-i.invariant.first

pub returns-clause-behind : goal.returns-clause-behind
returns-clause-behind g c = λ i low h. c.loop-i.invariant.behind i low (omega (arith, c.loop-i-test.false))
