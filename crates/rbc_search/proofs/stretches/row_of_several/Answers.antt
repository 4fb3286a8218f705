use Rattle.std.proofs.Common.{◌≡◌, ◌∙◌, List, ap, sym}
use Rattle.std.specs.Prelude.{map}
use Rattle.rbc_model.specs.Trains.{Train}
use Rattle.rbc_book.specs.TrainsOnTracks.{TrainOnTrack}
use Rattle.rbc_book.specs.Entries.{on_track}
use Rattle.rbc_search.specs.Stretches.{but, stretches_of}
use Rattle.rbc_search.proofs.StretchLemmas.{off_track}
use Rattle.rbc_search.proofs.stretches.row_of_several.Goals as goal

pub loop-train-init : goal.loop-train-init
loop-train-init c =
    let track = c.args.book.now.track in
    let it = c.into_iter-train-iterator.result in
    let e : it ≡ map (on_track track) c.args.book.now.trains = c.into_iter-train-iterator.ensures.into_iter_gives ∙ c.trains-train-items.ensures.trains in
    let same : map (λ (t : TrainOnTrack). t.train) it ≡ c.args.book.now.trains = ap (map (λ (t : TrainOnTrack). t.train)) e ∙ off_track track c.args.book.now.trains in
    record {
      can = tt;
      finite = tt;
      tracks = e ∙ ap (map (on_track track)) (sym same);
      told = ap (λ (l : List Train). stretches_of track (but c.args.id l) c.args.section) same;
    }
