-- A train with what it holds, where that is found.
use Rattle.std.proofs.Common.{◌≡◌, ℕ, cond, Option, Some, None, ℤ, ap, ◌∙◌}
use Rattle.std.specs.Option.{option_and_then}
use Rattle.rbc_model.specs.Tracks.{Track}
use Rattle.rbc_model.specs.Trains.{Train}
use Rattle.rbc_model.specs.Events.{with_authority}
use Rattle.rbc_scene_laws.specs.Good.{IsGoodTrain}
use Rattle.rbc_good_laws.proofs.GoodLemmas.{train_is}
use Rattle.rbc_scene_reading.specs.Reading.{if_good, place_at, where_held}

pub held_is : (track : Track) (standing : Train) (from to : ℤ) (f t : ℕ) → place_at standing.origin from ≡ Some f → place_at standing.origin to ≡ Some t → IsGoodTrain track (with_authority standing standing.line f t)
    → where_held track standing from to ≡ Some (with_authority standing standing.line f t)
held_is track standing from to f t from_is to_is good =
    let held = with_authority standing standing.line f t in
    ap (λ (o : Option ℕ). option_and_then (λ from. option_and_then (λ to. if_good track (with_authority standing standing.line from to)) (place_at standing.origin to)) o) from_is
    ∙ ap (λ (o : Option ℕ). option_and_then (λ to. if_good track (with_authority standing standing.line f to)) o) to_is
    ∙ ap (λ b. cond b (Some held) None) ((train_is track held).1 good)
