use Rattle.std.proofs.Common.{◌≡◌, ◌≤◌, drop}
use Rattle.std.specs.Prelude.{fold}
use Rattle.rbc_search.specs.OnLegs.{nearest_in}
use Rattle.rbc_search.proofs.leg_search.LegMet.nearest.Given as goal

abbrev pub invariant-loop-stretch : goal.invariant-loop-stretch
invariant-loop-stretch l = record {
  near : fold (nearest_in l.self.leg.direction l.self.metres l.first) l.near (drop l.stretch-index l.self.stretches.now) ≡ fold (nearest_in l.self.leg.direction l.self.metres l.first) l.free l.self.stretches.now;
  at_most : l.near ≤ l.free;
}
