use Rattle.std.proofs.Common.{Some, ap, sym, ◌∙◌}
use Rattle.rbc_lines.specs.ScenesOnTracks.{SceneOnTrack}
use Rattle.rbc_page.proofs.LookoutLemmas.{of_scene, state_of_scene}
use Rattle.rbc_page.proofs.lookout.Lookout.look.Goals as goal

pub invariant_of-self-then-version-self-clause-on_track : goal.invariant_of-self-then-version-self-clause-on_track
invariant_of-self-then-version-self-clause-on_track g c =
    let later = c.published.ensures.later in
    λ _. c.args.self.now.on_track c.if-was_kept.true ∙ ap Some (sym later.track)

pub invariant_of-self-2-clause-shown : goal.invariant_of-self-2-clause-shown
invariant_of-self-2-clause-shown g c =
    let told = c.published.new.self.told in
    let seen = c.in-Ok.ensures in
    λ _. of_scene told c.deref.result.now c.in-Ok.seen.1 c.in_ok-self.field-0.items (c.deref.ensures ∙ seen.scene) seen.version c.in_ok-self.ensures

pub invariant_of-self-2-clause-on_track : goal.invariant_of-self-2-clause-on_track
invariant_of-self-2-clause-on_track g c =
    let seen = c.in-Ok.ensures in
    λ _. ap Some (c.in_ok-try_clone.ensures ∙ c.track.ensures ∙ ap (λ (s : SceneOnTrack). s.track) (c.deref-2.ensures ∙ seen.scene))

pub invariant_of-self-2-clause-counted : goal.invariant_of-self-2-clause-counted
invariant_of-self-2-clause-counted g c =
    let told = c.published.new.self.told in
    let seen = c.in-Ok.ensures in
    λ _. state_of_scene told c.deref-3.result.now c.in-Ok.seen.1 c.of-self.result (c.deref-3.ensures ∙ seen.scene) seen.version c.of-self.ensures
