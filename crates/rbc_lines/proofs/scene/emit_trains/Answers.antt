use Rattle.std.proofs.Common.{◌≡◌, [], ◌∷◌, ◌∙◌, ap, sym, subst, arith}
use Rattle.std.specs.Prelude.{map, flat_map}
use Rattle.std.proofs.lemmas.Grind.{common_steps}
use mathlib.Core.List.{map-map, map-id}
use Rattle.rbc_model.specs.SceneLines.{train_lines}
use Rattle.rbc_model.specs.Tracks.{Track}
use Rattle.rbc_model.specs.Words.{line_of}
use Rattle.rbc_scene.specs.Entries.{on_track}
use Rattle.rbc_scene_laws.specs.Good.{IsGoodTrain}
use Rattle.rbc_replies.specs.Replies.{ObstacleIsOfTrack}
use Rattle.rbc_streams.proofs.EmittingLemmas.{emits_then, emits_as, emits_nothing}
use Rattle.rbc_lines.specs.Nexts.{next_of}
use Rattle.rbc_lines.proofs.LeftLemmas.{first_left, train_of}
use Rattle.rbc_lines.proofs.LineTextLemmas.{trains-next}
use Rattle.rbc_lines.proofs.StopOfTrackLemmas.{stop_of_track}
use Rattle.rbc_lines.proofs.scene.emit_trains.Goals as goal

pub loop-train-init : goal.loop-train-init
loop-train-init g c =
    let scene = c.args.scene.now in
    let it = c.into_iter-train-iterator.result in
    let e : it ≡ map (on_track scene.track) scene.scene.trains =
    c.into_iter-train-iterator.ensures.into_iter_gives ∙ c.trains-train-items.ensures.trains ∙ (λ j. map (on_track (c.book.ensures.track j)) (c.book.ensures.trains j)) in
    let same : map train_of it ≡ scene.scene.trains = ap (map train_of) e ∙ map-map train_of (on_track scene.track) scene.scene.trains ∙ map-id scene.scene.trains in
    record {
      can = tt;
      finite = tt;
      tracks = e ∙ ap (map (on_track scene.track)) (sym same);
      nexts = c.requires.nexts ∙ ap (map (next_of scene.track scene.scene)) (sym same);
      whole = λ end emitted. emits_as (ap (λ l. flat_map line_of (flat_map (train_lines c.args.track.now scene.scene) l)) same) emitted;
    }

pub first_and_rest-requires : goal.first_and_rest-requires
first_and_rest-requires g c =
    let iter : c.loop-train.train-iterator ≡ c.in-Some.train.now ∷ c.next.new.self = grind (arith, common_steps) in
    let known = c.loop-train.invariant.nexts ∙ ap (λ l. map (next_of c.args.scene.now.track c.args.scene.now.scene) (map train_of l)) iter in
    grind (arith, known)

pub emit_train-requires-clause-of_track : goal.emit_train-requires-clause-of_track
emit_train-requires-clause-of_track g c =
    let scene = c.args.scene.now in
    let item = c.in-Some.train.now in
    let iter : c.loop-train.train-iterator ≡ item ∷ c.next.new.self = grind (arith, common_steps) in
    let first = first_left scene.track scene.scene c.loop-train.train-iterator item c.next.new.self _ _ _ iter c.loop-train.invariant.tracks c.loop-train.invariant.nexts c.first_and_rest.ensures in
    let well = subst (λ (t : Track). IsGoodTrain t item.train) first.on c.known-in-loop-train.ensures in
    subst (λ (t : Track). ObstacleIsOfTrack t c.first_and_rest.result.0.now.obstacle) (sym c.requires.track)
    (subst (λ n. ObstacleIsOfTrack scene.track n.obstacle) (sym first.told) (stop_of_track scene.track scene.scene item.train c.known.ensures well))

pub loop-train-preserved : goal.loop-train-preserved
loop-train-preserved g c =
    let scene = c.args.scene.now in
    let item = c.in-Some.train.now in
    let lines = train_lines c.args.track.now scene.scene in
    let iter : c.loop-train.train-iterator ≡ item ∷ c.next.new.self = grind (arith, common_steps) in
    let first = first_left scene.track scene.scene c.loop-train.train-iterator item c.next.new.self _ _ _ iter c.loop-train.invariant.tracks c.loop-train.invariant.nexts c.first_and_rest.ensures in
    let told = first.told ∙ sym (λ j. next_of (c.requires.track j) scene.scene item.train) in
    let cut = ap (λ l. flat_map line_of (flat_map lines (map train_of l))) iter ∙ trains-next lines item.train (map train_of c.next.new.self) in
    record {
      can = tt;
      finite = tt;
      tracks = first.tracks;
      nexts = first.nexts;
      whole = λ end rest. c.loop-train.invariant.whole end (emits_as (sym cut) (emits_then (c.emit_train.ensures scene.scene told) rest));
    }

pub returns : goal.returns
returns g c =
    let lines = train_lines c.args.track.now c.args.scene.now.scene in
    let iter : c.loop-train.train-iterator ≡ [] = grind (arith, common_steps) in
    let none_left = ap (λ l. flat_map line_of (flat_map lines (map train_of l))) iter in
    c.loop-train.invariant.whole _ (emits_as (sym none_left) (emits_nothing _))
