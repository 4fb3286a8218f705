-- A train that leaves: the scene stays good.
use Rattle.std.proofs.Common.{◌≡◌, ℕ, Bool, true, false, cond, Ok, Err, subst}
use Rattle.std.specs.Prelude.{is_some, not, ◌==◌, filter}
use Rattle.std.proofs.lemmas.List.Elements.{All-filter}
use Rattle.rbc_model.specs.declared.refusals.Refusal.{Refusal}
use Rattle.rbc_model.specs.declared.refusals.Refusal.TheVariants.{UnknownTrain}
use Rattle.rbc_model.specs.Tracks.{Track}
use Rattle.rbc_model.specs.Trains.{Train}
use Rattle.rbc_model.specs.Scenes.{Scene, train_numbered}
use Rattle.rbc_model.specs.Events.{after_leave, without_train}
use Rattle.rbc_scene_laws.specs.Good.{IsGoodScene, IsGoodTrain}
use Rattle.rbc_scene_laws.proofs.BasicLemmas.{AllPairs-from_recursion, recursion_from_AllPairs, pairs_filter}
use Rattle.rbc_scene_laws.proofs.TrainListLemmas.{Differ}
use Rattle.rbc_scene_laws.proofs.AuthorityLemmas.{Apart, IsHeldLocked}

pub good_without_train : (track : Track) (scene : Scene) (number : ℕ) → IsGoodScene track scene → IsGoodScene track (without_train scene number)
good_without_train track scene number good =
    let stays = λ (t : Train). not (t.report.train == number) in
    record {
      locks = good.locks;
      trains = All-filter stays (IsGoodTrain track) scene.trains good.trains;
      numbers_differ = AllPairs-from_recursion Differ (filter stays scene.trains) (pairs_filter Differ stays scene.trains (recursion_from_AllPairs Differ scene.trains good.numbers_differ));
      apart = AllPairs-from_recursion (Apart track) (filter stays scene.trains) (pairs_filter (Apart track) stays scene.trains (recursion_from_AllPairs (Apart track) scene.trains good.apart));
      locked = All-filter stays (IsHeldLocked track scene.locks) scene.trains good.locked;
    }

pub only_ok : (b : Bool) (x y : Scene) (e : Refusal) → cond b (Ok x) (Err e) ≡ Ok y → x ≡ y
only_ok true x y e h = cc
only_ok false x y e h = cc

pub good_after_leave : (track : Track) (scene after : Scene) (number : ℕ) → after_leave scene number ≡ Ok after → IsGoodScene track scene → IsGoodScene track after
good_after_leave track scene after number h good =
    subst (IsGoodScene track) (only_ok (is_some (train_numbered scene number)) (without_train scene number) after (UnknownTrain number) h) (good_without_train track scene number good)
