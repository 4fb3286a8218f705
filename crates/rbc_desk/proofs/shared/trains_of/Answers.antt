use Rattle.std.proofs.Common.{◌≡◌, ◌++◌, ℕ, List, ap, map, ◌∙◌}
use Rattle.rbc_model.specs.Trains.{Train}
use Rattle.rbc_snap.specs.BookEntries.{number_on, on_track}
use Rattle.rbc_snap.specs.TrainsOnTracks.{TrainOnTrack}
use Rattle.rbc_snap.specs.ScenesOnTracks.{SceneOnTrack}
use Rattle.rbc_desk.proofs.TrainLemmas.{numbers_on}
use Rattle.rbc_desk.proofs.shared.trains_of.Goals as goal

pub loop-train-init : goal.loop-train-init
loop-train-init c =
    let track = c.book.result.now.track in
    let items : c.into_iter-train-iterator.result ≡ map (on_track track) c.book.result.now.trains = cc in
    let trains = c.book.ensures.trains ∙ ap (λ (s : SceneOnTrack). s.scene.trains) c.scene.ensures in
    ap (λ (none : List ℕ). none ++ map number_on c.into_iter-train-iterator.result) c.new-numbers.ensures.items
    ∙ ap (λ (shown : List TrainOnTrack). map number_on shown) items ∙ numbers_on track c.book.result.now.trains
    ∙ ap (λ (all : List Train). map (λ (train : Train). train.report.train) all) trains
