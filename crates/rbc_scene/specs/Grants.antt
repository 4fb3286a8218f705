-- Grants, train by train: the parts of the definition by their names.
use Rattle.std.specs.Prelude.{ℕ, ◌+◌, ◌&&◌, if◌then◌else◌, Result, Ok, Err}
use Rattle.rbc_model.specs.declared.refusals.Refusal.{Refusal}
use Rattle.rbc_model.specs.declared.refusals.Refusal.TheVariants.{NotSafe}
use Rattle.rbc_model.specs.Tracks.{Track}
use Rattle.rbc_model.specs.Trains.{Train}
use Rattle.rbc_model.specs.Scenes.{Scene}
use Rattle.rbc_model.specs.Views.{start_of, is_safe, is_expressible_end}
use Rattle.rbc_model.specs.Events.{with_authority, line_to}

-- the train once it is granted an authority up to `distance` metres from its group, if that is a safe end that a message can give
abbrev pub granted_train : Track → Scene → Train → ℕ → Result Train Refusal
granted_train track scene train distance =
    let to = train.origin + distance in
    if is_safe track scene train to && is_expressible_end track train to
    then Ok (with_authority train (line_to track scene train to) (start_of train) to)
    else Err NotSafe
