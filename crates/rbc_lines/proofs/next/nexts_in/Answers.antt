use Rattle.std.proofs.Common.{◌≡◌, ◌++◌, ◌∙◌, ap, sym}
use Rattle.std.specs.Prelude.{map}
use mathlib.Core.List.{map-map, map-id}
use Rattle.rbc_scene.specs.TrainsOnTracks.{TrainOnTrack}
use Rattle.rbc_scene.specs.Entries.{on_track}
use Rattle.rbc_scene.specs.Reaches.{scene_of}
use Rattle.rbc_lines.specs.Nexts.{next_of}
use Rattle.rbc_lines.proofs.next.nexts_in.Goals as goal

pub loop-train-init : goal.loop-train-init
loop-train-init c =
    let track = c.args.book.now.track in
    let it = c.into_iter-train-iterator.result in
    let e : it ≡ map (on_track track) c.args.book.now.trains = c.into_iter-train-iterator.ensures.into_iter_gives ∙ c.trains-train-items.ensures.trains in
    let same : map (λ (t : TrainOnTrack). t.train) it ≡ c.args.book.now.trains =
    ap (map (λ (t : TrainOnTrack). t.train)) e ∙ map-map (λ (t : TrainOnTrack). t.train) (on_track track) c.args.book.now.trains ∙ map-id c.args.book.now.trains in
    let told = next_of track (scene_of c.args.locks.now c.args.book.now.trains) in
    record {
      can = tt;
      finite = tt;
      tracks = e ∙ ap (map (on_track track)) (sym same);
      told = ap (λ l. l ++ map told (map (λ (t : TrainOnTrack). t.train) it)) c.new-nexts.ensures.items ∙ ap (map told) same;
    }
