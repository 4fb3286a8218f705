-- A train whose authority stands within the one that it had, or is empty, keeps a scene good.
use Rattle.std.proofs.Common.{◌≡◌, ◌≤◌, false, List, [], ◌∷◌, Some, arith}
use Rattle.std.specs.Prelude.{◌==◌}
use Rattle.std.specs.List.{AllByRecursion}
use Rattle.std.proofs.lemmas.List.Elements.{recursion_from_All}
use Rattle.rbc_model.specs.Tracks.{Track}
use Rattle.rbc_model.specs.Trains.{Train}
use Rattle.rbc_model.specs.Scenes.{Scene, train_numbered}
use Rattle.rbc_model.specs.Events.{with_train}
use Rattle.rbc_model.specs.Histories.{AuthoritiesAreApart}
use Rattle.rbc_model.proofs.ExtentLemmas.{place-authority_has}
use Rattle.rbc_scene_laws.specs.Good.{IsGoodScene, IsGoodTrain, IsWithin}
use Rattle.rbc_scene_laws.proofs.BasicLemmas.{recursion_from_AllPairs, each_weaker}
use Rattle.rbc_scene_laws.proofs.TrainListLemmas.{find-holds, found_beside}
use Rattle.rbc_scene_laws.proofs.AuthorityLemmas.{Apart, IsHeldLocked, flip_apart, within_apart, within_locked, good_with_train}
use Rattle.rbc_scene_laws.proofs.OnLineLemmas.{OnLine-IsLine}

-- it is apart from the others then
pub apart_within : (track : Track) (scene : Scene) (train after : Train) → train_numbered scene after.report.train ≡ Some train → IsGoodTrain track train → AuthoritiesAreApart track scene → IsWithin track train after
    → AllByRecursion (λ (other : Train). (other.report.train == after.report.train) ≡ false → Apart track after other) scene.trains
apart_within track scene train after there was apart within =
    let line = OnLine-IsLine track train.line was.line in
    each_weaker (λ (other : Train). (other.report.train == after.report.train) ≡ false → Apart track train other) (λ (other : Train). (other.report.train == after.report.train) ≡ false → Apart track after other) scene.trains
    (λ other beside unlike. within_apart track train after other line.differ within (beside unlike))
    (found_beside (Apart track) after.report.train scene.trains train (flip_apart track) there (recursion_from_AllPairs (Apart track) scene.trains apart))

-- a good scene stays good with a train that has no metre more than the train of its number had
pub good_within : (track : Track) (scene : Scene) (train after : Train) → train_numbered scene after.report.train ≡ Some train → IsGoodScene track scene → IsGoodTrain track after → IsWithin track train after → IsGoodScene track (with_train scene after)
good_within track scene train after there good fine within =
    let is_it = λ (t : Train). t.report.train == after.report.train in
    let was = find-holds (IsGoodTrain track) is_it scene.trains train there (recursion_from_All (IsGoodTrain track) scene.trains good.trains) in
    let held = find-holds (IsHeldLocked track scene.locks) is_it scene.trains train there (recursion_from_All (IsHeldLocked track scene.locks) scene.trains good.locked) in
    good_with_train track scene after good fine (within_locked track scene.locks train after within held) (apart_within track scene train after there was good.apart within)

-- a train with an empty authority
empty_apart : (track : Track) (after other : Train) → after.to ≤ after.from → Apart track after other
empty_apart track after other none metre of_track has also =
    let found = place-authority_has track metre after of_track has in let low = found.1 in let high = found.2 in absurd (omega arith)

all_apart : (track : Track) (after : Train) (xs : List Train) → after.to ≤ after.from → AllByRecursion (λ (other : Train). (other.report.train == after.report.train) ≡ false → Apart track after other) xs
all_apart track after [] none = tt
all_apart track after (x ∷ xs) none = ((λ unlike. empty_apart track after x none), all_apart track after xs none)

pub good_empty : (track : Track) (scene : Scene) (after : Train) → IsGoodScene track scene → IsGoodTrain track after → after.to ≤ after.from → IsGoodScene track (with_train scene after)
good_empty track scene after good fine none = good_with_train track scene after good fine (λ i leg low high there. absurd (omega arith)) (all_apart track after scene.trains none)
