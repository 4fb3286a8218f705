use Rattle.std.proofs.Common.{◌≡◌, ◌+◌, ◌-◌, ◌*◌, ◌<◌, ◌≤◌, length, get_or}
use Rattle.rbc_table_laws.specs.Breaks.{breaks_in, lost_below}
use Rattle.rbc_stretches.proofs.prices.price_on.Given as goal

abbrev pub invariant-loop-from : goal.invariant-loop-from
invariant-loop-from g l = record {
  begun : l.stretch.from ≤ l.from;
  up_to : l.from ≤ l.stretch.to;
  run : l.from < l.stretch.to → l.run < length l.track.steps;
  low : l.from < l.stretch.to → get_or (breaks_in l.track) l.run 0 ≤ l.from;
  high : l.from < l.stretch.to → l.from < get_or (breaks_in l.track) (l.run + 1) 0;
  lost : lost_below g.V.Level.levels l.track l.given l.stretch.from + l.price ≡ lost_below g.V.Level.levels l.track l.given l.from;
  bound : l.stretch.from * 1000000 + l.price ≤ l.from * 1000000;
}

abbrev pub decreases-loop-from : goal.decreases-loop-from
decreases-loop-from g l = l.stretch.to - l.from
