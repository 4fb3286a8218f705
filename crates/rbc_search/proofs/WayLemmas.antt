-- The walk along a way: leg by leg on the line, and then leg by leg along the locks.
use Rattle.std.proofs.Common.{◌≡◌, ℕ, zero, suc, ◌+◌, ◌<◌, Bool, true, false, [], ◌∷◌, ◌++◌, length, take, Option, Some, None, Result, Ok, Err, refl, ap, sym, subst, ◌∙◌, arith, ◌⊎◌, inl, inr}
use Rattle.std.specs.Prelude.{IfOk, if◌then◌else◌, option_and_then}
use Rattle.std.specs.List.{AllByRecursion}
use Rattle.std.specs.Option.{option_map_or}
use Rattle.std.proofs.lemmas.List.Elements.{recursion_from_All}
use Rattle.std.proofs.lemmas.List.{take_at}
use Rattle.std.proofs.lemmas.Option.{same_Some}
use Rattle.rbc_model.proofs.StopLemmas.{last_leg-push}
use Rattle.rbc_model.specs.declared.places.Leg.{Leg}
use Rattle.rbc_model.specs.declared.refusals.Obstacle.{Obstacle}
use Rattle.rbc_model.specs.declared.refusals.Obstacle.TheVariants.{Own}
use Rattle.rbc_model.specs.Tracks.{Track, metres_of}
use Rattle.rbc_model.specs.Lines.{Line, IsLine, has_section, last_leg, line_length}
use Rattle.rbc_scene_laws.proofs.SpotLemmas.{line_length-append}
use Rattle.rbc_model.specs.Locks.{Locks, next, longer_ahead, lengthened_fully}
use Rattle.rbc_model.specs.Trains.{Train}
use Rattle.rbc_model.specs.Scenes.{Scene}
use Rattle.rbc_model.specs.Views.{reach, stop}
use Rattle.rbc_reach_laws.specs.Nearest.{end_obstacle, walk_on, walk_then}
use Rattle.rbc_reach_laws.proofs.LoopLemmas.{gained, lengthened-gained, reach-lazily, stop-lazily}
use Rattle.rbc_search.specs.OnLegs.{stop_or}

-- ---- what the whole walk comes to is the reach and what stands there

module _ (track : Track) (scene : Scene) (train : Train) (place : ℕ) (o : Obstacle) where
  abbrev along : (ℕ → ℕ × Obstacle) → ℕ × Obstacle
  along finish = walk_then finish track scene train None 0 train.line

  abbrev ahead : ℕ → ℕ × Obstacle
  ahead p = walk_on track scene train (length track.sections) train.line p

  pub walked_reach : along ahead ≡ (place, o) → place ≡ reach track scene train
  walked_reach h = sym (reach-lazily track scene train ∙ ap (λ (w : ℕ × Obstacle). w.0) h)

  pub walked_stop : along ahead ≡ (place, o) → o ≡ stop track scene train
  walked_stop h = sym (stop-lazily track scene train ∙ ap (λ (w : ℕ × Obstacle). w.1) h)

pub if_ok : {A E : Type 0} (P Q : A → Type 0) (r : Result A E) → ((x : A) → P x → Q x) → IfOk r P → IfOk r Q
if_ok P Q (Ok x) f h = f x h
if_ok P Q (Err e) f h = tt

-- ---- the last leg of a line is of the track

pub last-of_track : (track : Track) (line : Line) (leg : Leg) → IsLine track line → last_leg line ≡ Some leg → leg.section < length track.sections
last-of_track track line leg is last = of line (recursion_from_All (λ (one : Leg). one.section < length track.sections) line is.of_track) last
  where
    of : (line : Line) → AllByRecursion (λ (one : Leg). one.section < length track.sections) line → last_leg line ≡ Some leg → leg.section < length track.sections
    of [] each e = absurd (cc)
    of (one ∷ []) each e = subst (λ (l : Leg). l.section < length track.sections) (same_Some one leg e) each.0
    of (one ∷ next ∷ line) each e = of (next ∷ line) each.1 e

-- ---- the line that is lengthened begins the way

module _ (locks : Locks) where
  pub begins : (n : ℕ) (line way : Line) → lengthened_fully n (longer_ahead locks) line ≡ way → line ≡ take (length line) way
  begins n line way h = sym (ap (take (length line)) (sym h ∙ lengthened-gained n locks line) ∙ take_at line (gained n locks line) (length line) refl)

  -- ---- one leg more

  -- a line that the locks lead on by this leg
  pub record IsLonger (line longer : Line) (leg : Leg) : Type 0 where
    pub led : option_and_then (next locks) (last_leg line) ≡ Some leg
    pub absent : has_section line leg.section ≡ false
    pub is : longer ≡ line ++ leg ∷ []

  longer_by : (line longer : Line) (leg : Leg) (o : Option Leg) → option_and_then (next locks) (last_leg line) ≡ o → Some longer ≡ option_and_then (λ ahead. if has_section line ahead.section then None else Some (line ++ ahead ∷ [])) o → last_leg longer ≡ Some leg → IsLonger line longer leg
  longer_by line longer leg None led h last = cc
  longer_by line longer leg (Some ahead) led h last = by_test (has_section line ahead.section) refl h
    where
      by_test : (t : Bool) → has_section line ahead.section ≡ t → Some longer ≡ (if t then None else Some (line ++ ahead ∷ [])) → IsLonger line longer leg
      by_test true t h = cc
      by_test false t h =
          let is : longer ≡ line ++ ahead ∷ [] = same_Some longer (line ++ ahead ∷ []) h in
          let same : ahead ≡ leg = same_Some ahead leg (sym (last_leg-push line ahead) ∙ ap last_leg (sym is) ∙ last) in
          record { led = led ∙ ap Some same; absent = subst (λ (x : Leg). has_section line x.section ≡ false) same t; is = is ∙ ap (λ (x : Leg). line ++ x ∷ []) same }

  pub IsLonger-longer_ahead : (line longer : Line) (leg : Leg) → Some longer ≡ longer_ahead locks line → last_leg longer ≡ Some leg → IsLonger line longer leg
  IsLonger-longer_ahead line longer leg h last = longer_by line longer leg (option_and_then (next locks) (last_leg line)) refl h last

  pub fully_more : (n : ℕ) (line longer : Line) → Some longer ≡ longer_ahead locks line → lengthened_fully n (longer_ahead locks) longer ≡ lengthened_fully (suc n) (longer_ahead locks) line
  fully_more n line longer h = ap (λ (o : Option Line). option_map_or (lengthened_fully n (longer_ahead locks)) o line) h

module _ (track : Track) (scene : Scene) (train : Train) where
  abbrev at_end : Line → ℕ → ℕ × Obstacle
  at_end line p = (p, option_map_or (end_obstacle scene) (last_leg line) Own)

  abbrev on_leg : ℕ → Line → ℕ → Leg → ℕ × Obstacle
  on_leg n line p leg = if has_section line leg.section then at_end line p else stop_or track scene train (last_leg line) p leg (walk_on track scene train n (line ++ leg ∷ []) (p + metres_of track leg.section))

  ended_by : (n : ℕ) (line : Line) (p : ℕ) (o : Option Leg) → None ≡ option_and_then (λ ahead. if has_section line ahead.section then None else Some (line ++ ahead ∷ [])) o → option_map_or (on_leg n line p) o (at_end line p) ≡ at_end line p
  ended_by n line p None h = refl
  ended_by n line p (Some ahead) h = by_test (has_section line ahead.section) h
    where
      by_test : (t : Bool) → None ≡ (if t then None else Some (line ++ ahead ∷ [])) →
          (if t then at_end line p else stop_or track scene train (last_leg line) p ahead (walk_on track scene train n (line ++ ahead ∷ []) (p + metres_of track ahead.section))) ≡ at_end line p
      by_test true h = refl
      by_test false h = cc

  -- the locks lead no further, or as many legs were added as may be
  pub ends : (n : ℕ) (line : Line) (all : ℕ × Obstacle) (place : ℕ) (o : Obstacle) → walk_on track scene train n line (line_length track line) ≡ all → (n ≡ 0) ⊎ (None ≡ longer_ahead scene.locks line) → place ≡ line_length track line → o ≡ option_map_or (end_obstacle scene) (last_leg line) Own → all ≡ (place, o)
  ends n line all place o w end at_place at_obstacle =
      sym w ∙ at n end ∙ ap (λ (p : ℕ). (p, option_map_or (end_obstacle scene) (last_leg line) Own)) (sym at_place) ∙ ap (λ (x : Obstacle). (place, x)) (sym at_obstacle)
    where
      at : (n : ℕ) → (n ≡ 0) ⊎ (None ≡ longer_ahead scene.locks line) → walk_on track scene train n line (line_length track line) ≡ at_end line (line_length track line)
      at zero h = refl
      at (suc n) (inl h) = absurd (omega arith)
      at (suc n) (inr h) = ended_by n line (line_length track line) (option_and_then (next scene.locks) (last_leg line)) h

  pushed_length : (line : Line) (leg : Leg) → line_length track line + metres_of track leg.section ≡ line_length track (line ++ leg ∷ [])
  pushed_length line leg = let e = line_length-append track line (leg ∷ []) in omega arith

  -- one leg more: what the search finds on it, or the walk from its end on
  pub goes_on : (n : ℕ) (line longer : Line) (all : ℕ × Obstacle) (last leg : Leg) (place : ℕ) → walk_on track scene train (suc n) line (line_length track line) ≡ all → last_leg line ≡ Some last → IsLonger scene.locks line longer leg → place ≡ line_length track line →
      all ≡ stop_or track scene train (Some last) place leg (walk_on track scene train n longer (line_length track longer))
  goes_on n line longer all last leg place w e is pe =
      let p = line_length track line in
      sym w
      ∙ ap (λ (o : Option Leg). option_map_or (on_leg n line p) o (at_end line p)) is.led
      ∙ ap (λ (b : Bool). if b then at_end line p else stop_or track scene train (last_leg line) p leg (walk_on track scene train n (line ++ leg ∷ []) (p + metres_of track leg.section))) is.absent
      ∙ ap (λ (o : Option Leg). stop_or track scene train o p leg (walk_on track scene train n (line ++ leg ∷ []) (p + metres_of track leg.section))) e
      ∙ ap (λ (q : ℕ). stop_or track scene train (Some last) p leg (walk_on track scene train n (line ++ leg ∷ []) q)) (pushed_length line leg)
      ∙ ap (λ (l : Line). stop_or track scene train (Some last) p leg (walk_on track scene train n l (line_length track l))) (sym is.is)
      ∙ ap (λ (q : ℕ). stop_or track scene train (Some last) q leg (walk_on track scene train n longer (line_length track longer))) (sym pe)

  -- the length of the line with one leg more
  pub longer_length : (line longer : Line) (leg : Leg) → IsLonger scene.locks line longer leg → line_length track longer ≡ line_length track line + metres_of track leg.section
  longer_length line longer leg is = ap (line_length track) is.is ∙ sym (pushed_length line leg)
