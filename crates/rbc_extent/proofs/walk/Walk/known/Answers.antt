use Rattle.std.proofs.Common.{ap, arith}
use Rattle.rbc_model.specs.Lines.{line_length}
use Rattle.rbc_extent.specs.Walks.{Walked}
use Rattle.rbc_extent.proofs.WalkLemmas.{walk-small}
use Rattle.rbc_extent.proofs.walk.Walk.known.Goals as goal

pub returns-clause-at_most : goal.returns-clause-at_most
returns-clause-at_most c =
    let s = c.self.inside in
    let small = walk-small s.track.now s.locks.now s.known.now s.turn s.behind s.ahead s.first s.last s.metres c.self.invariant in
    let long = c.self.invariant.long in
    let same = ap (λ (w : Walked). line_length w.line.track w.line.legs) c.self.view_is in
    omega arith
