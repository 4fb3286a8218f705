-- What a train would be granted next, as words.
use Rattle.std.proofs.Common.{◌≡◌, ℕ, ◌-◌, ◌<◌, ◌≤◌, ◌^◌, Bool, true, false, cond, List, [], ◌∷◌, length, Option, Some, None, refl, subst, arith, lit≤, lit<}
use Rattle.std.specs.Prelude.{filter, nat_lt}
use Rattle.std.specs.Option.{option_or}
use Rattle.std.specs.List.{AllByRecursion}
use Rattle.rbc_model.specs.declared.refusals.Obstacle.{Obstacle}
use Rattle.rbc_model.specs.declared.refusals.Obstacle.TheVariants.{NoLink, NotLocked, Own, Occupied, Held, Limit}
use Rattle.rbc_model.specs.declared.places.Format.{Format}
use Rattle.rbc_model.specs.declared.places.Format.TheVariants.{Near, Far}
use Rattle.rbc_model.specs.Scales.{farthest, is_expressible}
use Rattle.rbc_model.specs.SoundTracks.{IsInForm, IsSound}
use Rattle.rbc_model.specs.Tracks.{Track}
use Rattle.rbc_model.specs.TrackLines.{HasNames}
use Rattle.rbc_model.specs.Trains.{Train}
use Rattle.rbc_model.specs.Scenes.{Scene}
use Rattle.rbc_model.specs.Obstacles.{way}
use Rattle.rbc_model.specs.SessionReply.{obstacle_words}
use Rattle.rbc_model.specs.Views.{greatest_end, is_expressible_end, last_of, reach, safe_ends, stop}
use Rattle.rbc_model.specs.SceneLines.{end_word, next_line}
use Rattle.rbc_model.proofs.CountingLemmas.{both_of}
use Rattle.rbc_model.proofs.EndLemmas.{reach-le}
use Rattle.rbc_model.proofs.ScaleLemmas.{expressible_near_enough}
use Rattle.rbc_model.proofs.WordLemmas.{IsWord, number_is_word, signed_is_word}
use Rattle.rbc_scene_laws.specs.Good.{IsGoodScene, IsGoodTrain}
use Rattle.rbc_scene_laws.proofs.BoundLemmas.{line_length-small}
use Rattle.rbc_scene_laws.proofs.LengtheningLemmas.{ahead_fully}
use Rattle.rbc_scene_laws.proofs.NamedStopLemmas.{IsNameable, named_stop}
use Rattle.rbc_scene_laws.proofs.OnLineLemmas.{OnLine-IsLine, IsLine-OnLine}
use Rattle.rbc_text_laws.proofs.RowReadLemmas.{distance_small}
use Rattle.rbc_text_laws.proofs.SceneReadLemmas.{leg_word-is_word, section_word-is_word}

-- the last that passes a test passes it
last_passes : (test : ℕ → Bool) (xs : List ℕ) (x : ℕ) → last_of (filter test xs) ≡ Some x → test x ≡ true
last_passes test [] x e = absurd (let never : ⊥ = cc in never)
last_passes test (y ∷ xs) x e = by_test (test y) refl e (last_passes test xs x)
  where
    by_last : (o : Option ℕ) → last_of (filter test xs) ≡ o → test y ≡ true → option_or o (Some y) ≡ Some x → (last_of (filter test xs) ≡ Some x → test x ≡ true) → test x ≡ true
    by_last None e passes same rest = subst (λ z. test z ≡ true) (let is : y ≡ x = cc in is) passes
    by_last (Some z) e passes same rest = rest (let is : last_of (filter test xs) ≡ Some x = cc in is)

    by_test : (b : Bool) → test y ≡ b → last_of (cond b (y ∷ filter test xs) (filter test xs)) ≡ Some x → (last_of (filter test xs) ≡ Some x → test x ≡ true) → test x ≡ true
    by_test true passes e rest = by_last (last_of (filter test xs)) refl passes e rest
    by_test false passes e rest = rest e

near : (format : Format) → farthest format ≤ 80000
near Near = lit≤ tt
near Far = lit≤ tt

module _ (track : Track) (sound : IsSound track) (names : HasNames track) where
  -- a train's number is small
  abbrev pub IsSmall : ℕ → Type 0
  IsSmall n = n < 10 ^ 10

  obstacle_are_words : (obstacle : Obstacle) → IsNameable track IsSmall obstacle → AllByRecursion IsWord (obstacle_words track obstacle)
  obstacle_are_words (NoLink leg) named = (record { some = lit< tt; short = lit≤ tt; visible = refl }, (leg_word-is_word track sound names leg named, tt))
  obstacle_are_words (NotLocked section) named = (record { some = lit< tt; short = lit≤ tt; visible = refl }, (section_word-is_word track sound names section named, tt))
  obstacle_are_words Own named = (record { some = lit< tt; short = lit≤ tt; visible = refl }, tt)
  obstacle_are_words (Occupied train) named = (record { some = lit< tt; short = lit≤ tt; visible = refl }, (number_is_word train named, tt))
  obstacle_are_words (Held train) named = (record { some = lit< tt; short = lit≤ tt; visible = refl }, (number_is_word train named, tt))
  obstacle_are_words Limit named = (record { some = lit< tt; short = lit≤ tt; visible = refl }, tt)

  few_obstacle_words : (obstacle : Obstacle) → length (obstacle_words track obstacle) ≤ 2
  few_obstacle_words (NoLink leg) = lit≤ tt
  few_obstacle_words (NotLocked section) = lit≤ tt
  few_obstacle_words Own = lit≤ tt
  few_obstacle_words (Occupied train) = lit≤ tt
  few_obstacle_words (Held train) = lit≤ tt
  few_obstacle_words Limit = lit≤ tt

  module _ (form : IsInForm track) (scene : Scene) (train : Train) (good : IsGoodScene track scene) (well : IsGoodTrain track train)
      (small : train.report.train < 10 ^ 10) (known : AllByRecursion (λ (other : Train). IsSmall other.report.train) scene.trains) where
    origin_small : train.origin < 10 ^ 10
    origin_small =
        let long = line_length-small track train.line sound form well.line in
        let ahead = well.front in
        let behind = well.origin in
        omega arith

    reach_small : reach track scene train < 10 ^ 10
    reach_small =
        let ahead = ahead_fully track scene.locks good.locks (length track.sections) train.line (OnLine-IsLine track train.line well.line) in
        let long = line_length-small track (way track scene train) sound form (IsLine-OnLine track (way track scene train) ahead.on) in
        let up_to = reach-le track scene train in
        omega arith

    end_is_word : (end : Option ℕ) → greatest_end track scene train ≡ end → IsWord (end_word train end)
    end_is_word None e = record { some = lit< tt; short = lit≤ tt; visible = refl }
    end_is_word (Some end) e =
        let passes = last_passes (is_expressible_end track train) (safe_ends track scene train) end e in
        let far = expressible_near_enough track.format (end - train.origin) (both_of (nat_lt train.origin end) (is_expressible track.format (end - train.origin)) passes).1 in
        let most = near track.format in
        number_is_word (end - train.origin) (omega arith)

    -- the words of the line
    pub next_are_words : AllByRecursion IsWord (next_line track scene train)
    next_are_words = (
      record { some = lit< tt; short = lit≤ tt; visible = refl },
      (
        number_is_word train.report.train small,
        (
          end_is_word (greatest_end track scene train) refl,
          (
            signed_is_word _ (distance_small (reach track scene train) train.origin reach_small origin_small),
            obstacle_are_words (stop track scene train) (named_stop track IsSmall scene train good well known),
          ),
        ),
      ),
    )

    pub few_next_words : length (next_line track scene train) ≤ 100
    few_next_words = let few = few_obstacle_words (stop track scene train) in omega arith
