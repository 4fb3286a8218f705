-- A walk along legs that are looked up on the way comes to what the walk along the line comes to.
use Rattle.std.proofs.Common.{◌≡◌, ℕ, zero, suc, ◌+◌, ◌-◌, Bool, true, false, [], ◌∷◌, ◌++◌, length, Option, Some, None, refl, ap, sym, ◌∙◌, nat_lt}
use Rattle.std.specs.Prelude.{if◌then◌else◌, option_and_then}
use Rattle.std.specs.Option.{option_map_or}
use Rattle.std.proofs.lemmas.List.{append-nil, append_assoc}
use Rattle.rbc_model.specs.declared.places.Leg.{Leg}
use Rattle.rbc_model.specs.declared.refusals.Obstacle.{Obstacle}
use Rattle.rbc_model.specs.declared.refusals.Obstacle.TheVariants.{Own}
use Rattle.rbc_model.specs.Tracks.{Track, metres_of}
use Rattle.rbc_model.specs.Lines.{Line, has_section, last_leg}
use Rattle.rbc_model.specs.Locks.{Locks, next, longer_ahead, lengthened_fully}
use Rattle.rbc_model.specs.Trains.{Train}
use Rattle.rbc_model.specs.Scenes.{Scene}
use Rattle.rbc_model.specs.Obstacles.{way}
use Rattle.rbc_model.specs.Views.{reach, stop}
use Rattle.rbc_reach_laws.specs.Nearest.{leg_reach, leg_stop, end_obstacle, walk, walk_then, walk_on}
use Rattle.rbc_reach_laws.proofs.WalkLemmas.{reach-walk, stop-walk}
use Rattle.rbc_model.proofs.StopLemmas.{last_leg-push}

-- the legs that a line gains
abbrev pub gained : ℕ → Locks → Line → Line
gained zero locks line = []
gained (suc n) locks line = option_map_or (λ leg. if has_section line leg.section then [] else leg ∷ gained n locks (line ++ leg ∷ [])) (option_and_then (next locks) (last_leg line)) []

one_gained : (n : ℕ) (locks : Locks) (line : Line) (t : Bool) (leg : Leg) → lengthened_fully n (longer_ahead locks) (line ++ leg ∷ []) ≡ (line ++ leg ∷ []) ++ gained n locks (line ++ leg ∷ []) →
    option_map_or (lengthened_fully n (longer_ahead locks)) (if t then None else Some (line ++ leg ∷ [])) line ≡ line ++ (if t then [] else leg ∷ gained n locks (line ++ leg ∷ []))
one_gained n locks line true leg ih = sym (append-nil line)
one_gained n locks line false leg ih = ih ∙ append_assoc line (leg ∷ []) (gained n locks (line ++ leg ∷ []))

gained_by : (n : ℕ) (locks : Locks) (line : Line) (o : Option Leg) → ((leg : Leg) → lengthened_fully n (longer_ahead locks) (line ++ leg ∷ []) ≡ (line ++ leg ∷ []) ++ gained n locks (line ++ leg ∷ [])) →
    option_map_or (lengthened_fully n (longer_ahead locks)) (option_and_then (λ leg. if has_section line leg.section then None else Some (line ++ leg ∷ [])) o) line
    ≡ line ++ option_map_or (λ leg. if has_section line leg.section then [] else leg ∷ gained n locks (line ++ leg ∷ [])) o []
gained_by n locks line None ih = sym (append-nil line)
gained_by n locks line (Some leg) ih = one_gained n locks line (has_section line leg.section) leg (ih leg)

pub lengthened-gained : (n : ℕ) (locks : Locks) (line : Line) → lengthened_fully n (longer_ahead locks) line ≡ line ++ gained n locks line
lengthened-gained zero locks line = sym (append-nil line)
lengthened-gained (suc n) locks line = gained_by n locks line (option_and_then (next locks) (last_leg line)) (λ leg. lengthened-gained n locks (line ++ leg ∷ []))

-- the last leg of a line, or the one before it
abbrev last_or : Option Leg → Line → Option Leg
last_or before [] = before
last_or before (leg ∷ legs) = last_or (Some leg) legs

last_or-last_leg : (leg : Leg) (line : Line) → last_or (Some leg) line ≡ last_leg (leg ∷ line)
last_or-last_leg leg [] = refl
last_or-last_leg leg (next ∷ line) = last_or-last_leg next line

last_or-none : (line : Line) → last_or None line ≡ last_leg line
last_or-none [] = refl
last_or-none (leg ∷ line) = last_or-last_leg leg line

module _ (track : Track) (scene : Scene) (train : Train) where
  -- what the walk comes to on a leg, or goes on to
  abbrev on_leg : Option Leg → ℕ → Leg → ℕ × Obstacle → ℕ × Obstacle
  on_leg before p leg rest =
      if nat_lt (leg_reach track scene train before p leg) (p + metres_of track leg.section)
      then (leg_reach track scene train before p leg, leg_stop track scene train before leg (leg_reach track scene train before p leg - p))
      else rest

  walk-append : (finish : ℕ → ℕ × Obstacle) (before : Option Leg) (p : ℕ) (a b : Line) → ((q : ℕ) → walk track scene train (last_or before a) q b ≡ finish q) → walk track scene train before p (a ++ b) ≡ walk_then finish track scene train before p a
  walk-append finish before p [] b h = h p
  walk-append finish before p (leg ∷ a) b h = ap (on_leg before p leg) (walk-append finish (Some leg) (p + metres_of track leg.section) a b h)

  stopped : Option Leg → ℕ → ℕ × Obstacle
  stopped before p = (p, option_map_or (end_obstacle scene) before Own)

  by_test : (t : Bool) (before : Option Leg) (p : ℕ) (leg : Leg) (legs : Line) (rest : ℕ × Obstacle) → walk track scene train (Some leg) (p + metres_of track leg.section) legs ≡ rest →
      walk track scene train before p (if t then [] else leg ∷ legs) ≡ (if t then (p, option_map_or (end_obstacle scene) before Own) else on_leg before p leg rest)
  by_test true before p leg legs rest h = refl
  by_test false before p leg legs rest h = ap (on_leg before p leg) h

  walk_gained : (n : ℕ) (line : Line) (p : ℕ) → walk track scene train (last_leg line) p (gained n scene.locks line) ≡ walk_on track scene train n line p
  walk_gained zero line p = refl
  walk_gained (suc n) line p = by_next (option_and_then (next scene.locks) (last_leg line)) (λ leg q. walk_gained n (line ++ leg ∷ []) q)
    where
      by_next : (o : Option Leg) → ((leg : Leg) (q : ℕ) → walk track scene train (last_leg (line ++ leg ∷ [])) q (gained n scene.locks (line ++ leg ∷ [])) ≡ walk_on track scene train n (line ++ leg ∷ []) q) →
          walk track scene train (last_leg line) p (option_map_or (λ leg. if has_section line leg.section then [] else leg ∷ gained n scene.locks (line ++ leg ∷ [])) o [])
          ≡ option_map_or (λ leg. if has_section line leg.section then (p, option_map_or (end_obstacle scene) (last_leg line) Own) else on_leg (last_leg line) p leg (walk_on track scene train n (line ++ leg ∷ []) (p + metres_of track leg.section))) o (p, option_map_or (end_obstacle scene) (last_leg line) Own)
      by_next None ih = refl
      by_next (Some leg) ih =
          by_test (has_section line leg.section) (last_leg line) p leg (gained n scene.locks (line ++ leg ∷ [])) (walk_on track scene train n (line ++ leg ∷ []) (p + metres_of track leg.section))
          (ap (λ before. walk track scene train before (p + metres_of track leg.section) (gained n scene.locks (line ++ leg ∷ []))) (sym (last_leg-push line leg)) ∙ ih leg (p + metres_of track leg.section))

  -- the walk of the whole way: first the train's line, and then leg by leg, as the locks lead on
  pub walk-lazily : walk track scene train None 0 (way track scene train) ≡ walk_then (walk_on track scene train (length track.sections) train.line) track scene train None 0 train.line
  walk-lazily =
      ap (walk track scene train None 0) (lengthened-gained (length track.sections) scene.locks train.line)
      ∙ walk-append (walk_on track scene train (length track.sections) train.line) None 0 train.line (gained (length track.sections) scene.locks train.line)
      (λ q. ap (λ before. walk track scene train before q (gained (length track.sections) scene.locks train.line)) (last_or-none train.line) ∙ walk_gained (length track.sections) train.line q)

  -- so it tells the reach and what stands there
  pub reach-lazily : reach track scene train ≡ (walk_then (walk_on track scene train (length track.sections) train.line) track scene train None 0 train.line).0
  reach-lazily = sym (reach-walk track scene train) ∙ ap (λ (w : ℕ × Obstacle). w.0) walk-lazily

  pub stop-lazily : stop track scene train ≡ (walk_then (walk_on track scene train (length track.sections) train.line) track scene train None 0 train.line).1
  stop-lazily = sym (stop-walk track scene train) ∙ ap (λ (w : ℕ × Obstacle). w.1) walk-lazily
