use Rattle.std.proofs.Common.{◌∙◌, ap, sym}
use Rattle.rbc_model.specs.Tracks.{Track, group_named}
use Rattle.rbc_scene_reading.proofs.StandingLemmas.{group_good}
use Rattle.rbc_scene_reading.proofs.standing.origin_told.Goals as goal

pub place_of-requires : goal.place_of-requires
place_of-requires c =
    group_good c.args.line.now.track c.group.result c.in_ok-group.group c.known.ensures.sound
    (ap (λ (t : Track). group_named t c.group.result) (sym (c.deref.ensures ∙ c.track.ensures.track)) ∙ sym c.group-2.ensures.group ∙ c.in_ok-group.was)
