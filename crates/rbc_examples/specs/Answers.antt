-- What the worked examples compare: answers to asks and events.
use Rattle.std.specs.Prelude.{ℕ, ◌-◌, List, Option, Some, None, Result, Ok, Err, option_map, fold, ℤ, pos, ◌-ℤ◌}
use Rattle.std.specs.Result.{result_unwrap_or, result_err}
use Rattle.rbc_model.specs.Tracks.{Track}
use Rattle.rbc_model.specs.declared.refusals.Refusal.{Refusal}
use Rattle.rbc_model.specs.Trains.{Train}
use Rattle.rbc_model.specs.Scenes.{Scene, empty_scene, train_numbered}
use Rattle.rbc_model.specs.Views.{View, view}
use Rattle.rbc_model.specs.declared.refusals.Obstacle.{Obstacle}
use Rattle.rbc_model.specs.declared.refusals.ViewFault.{ViewFault}
use Rattle.rbc_model.specs.declared.refusals.ViewFault.TheVariants.{UnknownTrain, Blocked}
use Rattle.rbc_model.specs.declared.reports.Event.{Event}
use Rattle.rbc_model.specs.Events.{step}

-- the scene after these events
abbrev pub after : Track → List Event → Scene
after track events = fold (λ scene event. result_unwrap_or (step track scene event) scene) (empty_scene track) events

-- why the last of these events is refused, if it is
abbrev pub refusal : Track → List Event → Event → Option Refusal
refusal track events event = result_err (step track (after track events) event)

-- what a train that asks is answered: a grant from one distance to another with its obstacle, or the obstacle that blocks it
pub data Answer : Type 0 where
  Granted : ℤ → ℕ → Obstacle → Answer
  Halted : ℤ → Obstacle → Answer
  Unknown : Answer

abbrev pub answer_of : Result View ViewFault → Answer
answer_of (Ok v) = Granted (pos v.start -ℤ pos v.origin) (v.end - v.origin) v.obstacle
answer_of (Err UnknownTrain) = Unknown
answer_of (Err (Blocked obstacle at)) = Halted at obstacle

-- the answer to a train that asks after these events
abbrev pub ask : Track → List Event → ℕ → Answer
ask track events train = answer_of (view track (after track events) train)

-- rear, front and authority of a train, as places
abbrev pub places_of : Train → ℕ × ℕ × ℕ × ℕ
places_of train = (train.rear, train.front, train.from, train.to)

abbrev pub where_is : Track → List Event → ℕ → Option (ℕ × ℕ × ℕ × ℕ)
where_is track events train = option_map places_of (train_numbered (after track events) train)

-- the speeds and gradients shown to a train, and over how many metres from its group
abbrev pub shown : Result View ViewFault → Option (List (ℕ × ℕ) × List (ℕ × ℤ) × ℕ)
shown (Ok v) = Some (v.speeds, v.grades, v.end - v.origin)
shown (Err e) = None
