-- The metres of legs that make a line fit their number.
use Rattle.std.proofs.Common.{arith, subst}
use Rattle.std.specs.Arc.{arc_value}
use Rattle.rbc_model.specs.SoundTracks.{IsInForm, IsSound}
use Rattle.rbc_scene_laws.proofs.BoundLemmas.{line_length-small}
use Rattle.rbc_line.proofs.line.Line.along.Goals as goal

pub length_of-length-requires-clause-fits : goal.length_of-length-requires-clause-fits
length_of-length-requires-clause-fits c =
    let track = arc_value c.args.track.now in
    let of_track = c.known.ensures in
    let small = line_length-small track c.args.legs.now (subst IsSound c.deref.ensures of_track.sound) (subst IsInForm c.deref.ensures of_track.form) c.requires in
    rw c.deref-2.ensures (omega (arith, small))
