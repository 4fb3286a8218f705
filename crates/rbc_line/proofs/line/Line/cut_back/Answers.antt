use Rattle.std.proofs.Common.{◌≡◌, ◌-◌, ◌<◌, take, drop, length, arith, ap, ap₂, ◌∙◌}
use Rattle.std.specs.Arc.{arc_value}
use Rattle.rbc_model.specs.Lines.{Line, line_length}
use Rattle.rbc_model.specs.Tracks.{Track}
use Rattle.rbc_line.proofs.ChangeLemmas.{cut_back_here, length_at_most, parts_metres, rest_is}
use Rattle.rbc_line.proofs.line.Line.cut_back.Goals as goal
use Rattle.rbc_line.proofs.line.Line.cut_back.Goals.{After-length_of}

pub length_of-requires-clause-fits : goal.length_of-requires-clause-fits
length_of-requires-clause-fits c =
    let track = arc_value c.self.inside.track in
    let legs = c.self.inside.legs.items in
    let left = c.len.result - c.args.count in
    let rest : line_length track (take (length legs - left) (drop left legs)) ≡ line_length track (drop left legs) = ap (line_length track) (rest_is track legs left) in
    rw (c.deref.ensures, c.deref-2.ensures.value)
    (omega (arith, rest, parts_metres track legs left, length_at_most track legs c.self.inside.length c.self.invariant, c.self.invariant.metres))

-- the metres that are dropped
dropped : (c : After-length_of) → c.length_of.result ≡ line_length (arc_value c.self.inside.track) (take (length c.self.inside.legs.items - (c.len.result - c.args.count)) (drop (c.len.result - c.args.count) c.self.inside.legs.items))
dropped c =
    let left = c.len.result - c.args.count in
    c.length_of.ensures ∙ ap₂ (λ (t : Track) (line : Line). line_length t (take (length line - left) (drop left line))) c.deref.ensures c.deref-2.ensures.value

pub overflow_sub-self : goal.overflow_sub-self
overflow_sub-self c =
    let track = arc_value c.self.inside.track in
    let legs = c.self.inside.legs.items in
    let left = c.len.result - c.args.count in
    omega (arith, dropped c, ap (line_length track) (rest_is track legs left), parts_metres track legs left, c.self.invariant.metres)

pub invariant_of-self : goal.invariant_of-self
invariant_of-self c =
    let track = arc_value c.self.inside.track in
    let legs = c.self.inside.legs.items in
    let fewer : c.args.count < length legs = rw (← c.self.view_is) at c.requires in
    cut_back_here track legs c.truncate.new.self.items (c.len.result - c.args.count) c.self.inside.length c.length_of.result c.self.invariant
    (omega (arith, c.len.ensures, c.self.inside.legs.ok.0, fewer)) (omega (arith, c.len.ensures, c.self.inside.legs.ok.0)) (dropped (goal.at.invariant_of-self c).After-length_of) c.truncate.ensures.items
