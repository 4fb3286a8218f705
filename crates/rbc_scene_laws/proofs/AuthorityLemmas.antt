-- Authorities: one within another is apart from what the other is apart from, and locked where the other is.
use Rattle.std.proofs.Common.{◌≡◌, ℕ, ◌<◌, ◌≤◌, true, false, Some, None, sym, ◌∙◌}
use Rattle.std.specs.Prelude.{◌==◌, IsTrue}
use Rattle.std.specs.List.{AllByRecursion}
use Rattle.std.proofs.lemmas.List.Elements.{All-from_recursion, recursion_from_All}
use Rattle.rbc_model.specs.declared.places.Metre.{Metre}
use Rattle.rbc_model.specs.declared.places.Leg.{Leg}
use Rattle.rbc_model.specs.Tracks.{Track, IsMetreOf}
use Rattle.rbc_model.specs.Lines.{leg_at}
use Rattle.rbc_model.specs.Locks.{Locks}
use Rattle.rbc_model.specs.Trains.{Train}
use Rattle.rbc_model.specs.Scenes.{Scene, authority_has}
use Rattle.rbc_model.specs.SoundTracks.{sections_differ}
use Rattle.rbc_model.specs.Obstacles.{is_locked}
use Rattle.rbc_model.specs.Events.{with_train}
use Rattle.rbc_model.proofs.ExtentLemmas.{place-authority_has, authority_has-place}
use Rattle.rbc_scene_laws.specs.Good.{IsGoodScene, IsGoodTrain, IsWithin}
use Rattle.rbc_scene_laws.proofs.BasicLemmas.{AllPairs-from_recursion, recursion_from_AllPairs, each_weaker}
use Rattle.rbc_scene_laws.proofs.SpotLemmas.{metre_at-spot, leg_at-spot}
use Rattle.rbc_scene_laws.proofs.TrainListLemmas.{Differ, Beside, each_with_train, pairs_with_train, differ_with_train}

-- no metre stands in both authorities
abbrev pub Apart : Track → Train → Train → Type 0
Apart track a b = (metre : Metre) → IsMetreOf track metre → IsTrue (authority_has track metre a) → IsTrue (authority_has track metre b) → ⊥

-- each metre of the authority is locked
abbrev pub IsHeldLocked : Track → Locks → Train → Type 0
IsHeldLocked track locks train = (i : ℕ) (leg : Leg) → train.from ≤ i → i < train.to → leg_at track train.line i ≡ Some leg → IsTrue (is_locked locks None leg)

pub flip_apart : (track : Track) (a b : Train) → Apart track a b → Apart track b a
flip_apart track a b h metre of_track in_b in_a = h metre of_track in_a in_b

pub within_apart : (track : Track) (before after other : Train) → sections_differ before.line ≡ true → IsWithin track before after → Apart track before other → Apart track after other
within_apart track before after other differ within apart metre of_track has also =
    let found = place-authority_has track metre after of_track has in
    let was = within found.0 found.1 found.2 in
    apart metre of_track
    (authority_has-place track metre before was.0 differ was.1 was.2 (sym (metre_at-spot track after.line before.line found.0 was.0 was.3) ∙ found.3))
    also

pub within_locked : (track : Track) (locks : Locks) (before after : Train) → IsWithin track before after → IsHeldLocked track locks before → IsHeldLocked track locks after
within_locked track locks before after within held i leg low high there =
    let was = within i low high in
    held was.0 leg was.1 was.2 (sym (leg_at-spot track after.line before.line i was.0 was.3) ∙ there)

-- ---- a scene with a train as it is now

pub good_with_train : (track : Track) (scene : Scene) (after : Train) → IsGoodScene track scene → IsGoodTrain track after → IsHeldLocked track scene.locks after
    → AllByRecursion (λ other. (other.report.train == after.report.train) ≡ false → Apart track after other) scene.trains → IsGoodScene track (with_train scene after)
good_with_train track scene after good train held apart =
    let differ = recursion_from_AllPairs Differ scene.trains good.numbers_differ in
    record {
      locks = good.locks;
      trains = All-from_recursion (IsGoodTrain track) (with_train scene after).trains (each_with_train (IsGoodTrain track) scene after (recursion_from_All (IsGoodTrain track) scene.trains good.trains) train);
      numbers_differ = AllPairs-from_recursion Differ (with_train scene after).trains (differ_with_train scene after differ);
      apart = AllPairs-from_recursion (Apart track) (with_train scene after).trains
          (pairs_with_train (Apart track) scene after (recursion_from_AllPairs (Apart track) scene.trains good.apart) differ
          (each_weaker (λ other. (other.report.train == after.report.train) ≡ false → Apart track after other) (Beside (Apart track) after) scene.trains
          (λ other h unlike. (h unlike, flip_apart track after other (h unlike))) apart));
      locked = All-from_recursion (IsHeldLocked track scene.locks) (with_train scene after).trains
          (each_with_train (IsHeldLocked track scene.locks) scene after (recursion_from_All (IsHeldLocked track scene.locks) scene.trains good.locked) held);
    }
