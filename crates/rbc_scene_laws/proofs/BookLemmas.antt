-- What keeps authorities apart and locked, change by change, without the other facts of a good scene.
use Rattle.std.proofs.Common.{◌≡◌, ℕ, false}
use Rattle.std.specs.Prelude.{◌==◌, not, AllPairs, All}
use Rattle.std.proofs.lemmas.List.Elements.{recursion_from_All}
use Rattle.rbc_model.specs.Tracks.{Track}
use Rattle.rbc_model.specs.Trains.{Train}
use Rattle.rbc_model.specs.Scenes.{Scene}
use Rattle.rbc_model.specs.Events.{with_train, without_train}
use Rattle.rbc_model.specs.Histories.{AuthoritiesAreApart}
use Rattle.rbc_scene_laws.proofs.BasicLemmas.{AllPairs-from_recursion, recursion_from_AllPairs, each_weaker, pairs_filter}
use Rattle.rbc_scene_laws.proofs.TrainListLemmas.{Differ, Beside, pairs_with_train, differ_with_train}
use Rattle.rbc_scene_laws.proofs.AuthorityLemmas.{Apart, flip_apart}

-- each two trains of a scene have two numbers
abbrev pub NumbersDiffer : Scene → Type 0
NumbersDiffer scene = AllPairs Differ scene.trains

-- the train's authority is apart from all others'
abbrev pub IsApartFromOthers : Track → Scene → Train → Type 0
IsApartFromOthers track scene train = All (λ (other : Train). (other.report.train == train.report.train) ≡ false → Apart track train other) scene.trains

pub NumbersDiffer-with_train : (scene : Scene) (train : Train) → NumbersDiffer scene → NumbersDiffer (with_train scene train)
NumbersDiffer-with_train scene train differ = AllPairs-from_recursion Differ (with_train scene train).trains (differ_with_train scene train (recursion_from_AllPairs Differ scene.trains differ))

pub NumbersDiffer-without_train : (scene : Scene) (number : ℕ) → NumbersDiffer scene → NumbersDiffer (without_train scene number)
NumbersDiffer-without_train scene number differ =
    AllPairs-from_recursion Differ (without_train scene number).trains (pairs_filter Differ (λ (t : Train). not (t.report.train == number)) scene.trains (recursion_from_AllPairs Differ scene.trains differ))

pub AuthoritiesAreApart-with_train : (track : Track) (scene : Scene) (train : Train) → NumbersDiffer scene → AuthoritiesAreApart track scene → IsApartFromOthers track scene train → AuthoritiesAreApart track (with_train scene train)
AuthoritiesAreApart-with_train track scene train differ apart others =
    AllPairs-from_recursion (Apart track) (with_train scene train).trains
    (pairs_with_train (Apart track) scene train (recursion_from_AllPairs (Apart track) scene.trains apart) (recursion_from_AllPairs Differ scene.trains differ)
    (each_weaker (λ (other : Train). (other.report.train == train.report.train) ≡ false → Apart track train other) (Beside (Apart track) train) scene.trains
    (λ other h unlike. (h unlike, flip_apart track train other (h unlike)))
    (recursion_from_All (λ (other : Train). (other.report.train == train.report.train) ≡ false → Apart track train other) scene.trains others)))

pub AuthoritiesAreApart-without_train : (track : Track) (scene : Scene) (number : ℕ) → AuthoritiesAreApart track scene → AuthoritiesAreApart track (without_train scene number)
AuthoritiesAreApart-without_train track scene number apart =
    AllPairs-from_recursion (Apart track) (without_train scene number).trains (pairs_filter (Apart track) (λ (t : Train). not (t.report.train == number)) scene.trains (recursion_from_AllPairs (Apart track) scene.trains apart))

-- ---- at most one train holds a metre
