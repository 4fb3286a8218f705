use Rattle.std.proofs.Common.{rules, refl, arith}
use Rattle.rbc_sessions.proofs.GrantLemmas.{ranks_next, ranks_sorted}
use Rattle.rbc_sessions.proofs.grants.ranked.Goals as goal

pub loop-number-preserved : goal.loop-number-preserved
loop-number-preserved c = record {
  each = ranks_next c.loop-number.ranks.items c.push_reserved.new.self.items (record { place = c.place_of-place.result; number = c.loop-number.number }) c.loop-number.number (search rules) refl
      c.loop-number.invariant.each;
  count = search rules;
  room = search rules;
}

pub returns-clause-each : goal.returns-clause-each
returns-clause-each c = λ k less. ranks_sorted c.loop-number.ranks.items c.sorted.result.items _ c.sorted.ensures.permutation c.loop-number.invariant.each k (omega arith)
