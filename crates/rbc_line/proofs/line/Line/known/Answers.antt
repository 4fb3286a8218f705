use Rattle.std.proofs.Common.{ap, arith}
use Rattle.std.specs.Arc.{arc_value}
use Rattle.rbc_model.specs.Lines.{line_length}
use Rattle.rbc_line.specs.OnTracks.{LineOnTrack}
use Rattle.rbc_line.proofs.ChangeLemmas.{length_at_most}
use Rattle.rbc_line.proofs.line.Line.known.Goals as goal

pub returns-clause-at_most : goal.returns-clause-at_most
returns-clause-at_most c =
    let l = c.self.inside in
    let small = length_at_most (arc_value l.track) l.legs.items l.length c.self.invariant in
    let metres = c.self.invariant.metres in
    let same = ap (λ (w : LineOnTrack). line_length w.track w.legs) c.self.view_is in
    omega arith
