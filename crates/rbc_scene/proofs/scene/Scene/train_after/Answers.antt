-- The book's train of this number is the scene's.
use Rattle.std.proofs.Common.{◌≡◌, Bor, ◌∙◌, ap, subst}
use Rattle.std.specs.Prelude.{option_map}
use Rattle.std.specs.Arc.{arc_value}
use Rattle.rbc_model.specs.Answers.{AnswersAs}
use Rattle.rbc_model.specs.Placing.{reported}
use Rattle.rbc_model.specs.Scenes.{train_numbered}
use Rattle.rbc_search.specs.TrainsOnTracks.{TrainOnTrack}
use Rattle.rbc_search.specs.Books.{train_in}
use Rattle.rbc_scene.specs.ScenesOnTracks.{SceneOnTrack}
use Rattle.rbc_scene.proofs.KeepingLemmas.{known_as}
use Rattle.rbc_scene.proofs.scene.Scene.train_after.Goals as goal
use Rattle.rbc_scene.proofs.scene.Scene.train_after.Goals.{After-reported}

known_is : (c : After-reported) → option_map (λ (t : Bor TrainOnTrack). t.now.train) c.get-known.result ≡ train_numbered c.args.self.now.scene c.args.report.now.train
known_is c =
    known_as c.get-known.result c.self.inside.book.track (train_in c.self.inside.book c.train.result) c.get-known.ensures
    ∙ ap (train_in c.self.inside.book) c.train.ensures
    ∙ ap (λ (s : SceneOnTrack). train_numbered s.scene c.args.report.now.train) c.self.view_is

pub returns-clause-reported : goal.returns-clause-reported
returns-clause-reported c =
    let track : arc_value c.track.result.now ≡ c.args.self.now.track = c.track.ensures.track ∙ ap (λ (s : SceneOnTrack). s.track) c.self.view_is in
    let locks : c.self.inside.locks ≡ c.args.self.now.scene.locks = ap (λ (s : SceneOnTrack). s.scene.locks) c.self.view_is in
    subst (AnswersAs (λ (t : TrainOnTrack). t.train) c.reported.result) (λ j. reported (track j) (locks j) (known_is c j) c.args.report.now) c.reported.ensures.reported
