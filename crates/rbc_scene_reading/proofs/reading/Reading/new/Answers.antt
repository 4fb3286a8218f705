use Rattle.std.proofs.Common.{◌∙◌, ap, subst}
use Rattle.std.specs.Arc.{arc_value}
use Rattle.rbc_model.specs.Locks.{no_locks}
use Rattle.rbc_model.specs.SoundTracks.{IsSound}
use Rattle.rbc_scene_reading.proofs.AdditionLemmas.{so_begun}
use Rattle.rbc_scene_reading.proofs.reading.Reading.new.Goals as goal

pub invariant_of-result : goal.invariant_of-result
invariant_of-result c =
    so_begun (arc_value c.args.track) c.in_ok-locks.locks c.in_ok-book.book (c.in_ok-locks.ensures ∙ ap no_locks c.deref-2.ensures) c.in_ok-book.ensures
    (subst IsSound c.deref.ensures c.known.ensures.sound)
