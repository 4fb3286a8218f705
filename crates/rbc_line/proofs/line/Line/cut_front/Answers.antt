use Rattle.std.proofs.Common.{◌≡◌, ◌<◌, take, length, arith, ap₂, ◌∙◌}
use Rattle.std.specs.Arc.{arc_value}
use Rattle.rbc_model.specs.Lines.{Line, line_length}
use Rattle.rbc_model.specs.Tracks.{Track}
use Rattle.rbc_line.proofs.ChangeLemmas.{cut_front_here}
use Rattle.rbc_line.proofs.line.Line.cut_front.Goals as goal

pub invariant_of-self : goal.invariant_of-self
invariant_of-self c =
    let track = arc_value c.self.inside.track in
    let legs = c.self.inside.legs.items in
    let fewer : c.args.count < length legs = rw (← c.self.view_is) at c.requires in
    let metres : c.length_of.result ≡ line_length track (take c.args.count legs) =
    c.length_of.ensures ∙ ap₂ (λ (t : Track) (line : Line). line_length t (take c.args.count line)) c.deref.ensures c.deref-2.ensures.value in
    cut_front_here track legs c.rotate_left.new.self.items c.truncate.new.self.items c.args.count _ c.self.inside.length c.length_of.result c.self.invariant fewer metres c.rotate_left.ensures.items
    (omega (arith, c.len.ensures, c.rotate_left.ensures.len, c.self.inside.legs.ok.0, fewer)) c.truncate.ensures.items
