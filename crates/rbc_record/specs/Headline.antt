-- The parts of the promise over a whole history, each by itself.
use Rattle.std.specs.Prelude.{◌≡◌, ℕ, List, slice_get, Some}
use Rattle.rbc_model.specs.Tracks.{Track}
use Rattle.rbc_model.specs.Trains.{Train}
use Rattle.rbc_model.specs.Scenes.{Scene, train_numbered}
use Rattle.rbc_model.specs.Histories.{Beginning, Entry, Granted, Grants, EndsFarthest, HasBestProfiles, scene_at}

-- what holds of each grant of a history, for its train, in the scene at its moment
abbrev pub AtEachGrant : (Track → Scene → Grants → Train → Type 0) → Beginning → List Entry → Type 0
AtEachGrant Holds begin entries =
    (moment : ℕ) (grant : Grants) (train : Train)
    → slice_get entries moment ≡ Some (Granted grant)
    → train_numbered (scene_at begin entries moment) grant.train ≡ Some train
    → Holds begin.track (scene_at begin entries moment) grant train

-- each grant of the history ended at the farthest end
abbrev pub EachEndIsFarthest : Beginning → List Entry → Type 0
EachEndIsFarthest begin entries = AtEachGrant EndsFarthest begin entries

-- each grant of the history had the best profiles
abbrev pub EachProfileIsBest : Beginning → List Entry → Type 0
EachProfileIsBest begin entries = AtEachGrant HasBestProfiles begin entries
