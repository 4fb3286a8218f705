-- A section's leg on a line: where it is found, and what a train has of it.
use Rattle.std.proofs.Common.{◌≡◌, ℕ, ◌+◌, Bool, true, false, cond, [], ◌∷◌, ◌++◌, Option, Some, None, refl, sym, ap, ◌∙◌, subst, arith, zero-add}
use Rattle.std.specs.Prelude.{option_map, ◌==◌, ◌||◌, not}
use Rattle.rbc_model.specs.declared.places.Direction.{Direction}
use Rattle.rbc_model.specs.declared.places.Direction.TheVariants.{Rising, Falling}
use Rattle.rbc_model.specs.declared.places.Leg.{Leg}
use Rattle.rbc_model.specs.declared.places.Metre.{Metre}
use Rattle.rbc_model.specs.Tracks.{Track, metres_of}
use Rattle.rbc_model.specs.Lines.{Line, has_section, line_length, place_on, place_of_metre, metres_before}
use Rattle.rbc_model.specs.SoundTracks.{sections_differ}
use Rattle.rbc_model.specs.Trains.{Train}
use Rattle.rbc_model.specs.Events.{stands_on}
use Rattle.rbc_scene_laws.proofs.BasicLemmas.{the_some, and_left}
use Rattle.rbc_scene_laws.specs.Good.{IsGoodTrain}
use Rattle.rbc_scene_laws.proofs.OnLineLemmas.{OnLine-IsLine, differ_right}
use Rattle.rbc_scene_laws.proofs.LegLemmas.{meets, stands_on-leg, stands_on-lacks}
use Rattle.rbc_extent.specs.OnTracks.{LineOnTrack}
use Rattle.rbc_extent.specs.TrainsOnTracks.{TrainOnTrack}
use Rattle.rbc_book.specs.declared.places.LegPlace.{LegPlace}
use Rattle.rbc_book.specs.LegPlaces.{at_start, farther, leg_place, metres_until}
use Rattle.std.proofs.lemmas.Bool.{not-true, or_from}
use Rattle.rbc_model.proofs.MetreLemmas.{line_length-cons}

module _ (track : Track) (section : ℕ) where
  -- ---- found leg by leg

  -- ---- what the line is around it

  pub record IsThere (line : Line) (p : LegPlace) : Type 0 where
    pub ahead : Line
    pub after : Line
    pub is : line ≡ ahead ++ p.leg ∷ after
    pub lacks : has_section ahead section ≡ false
    pub same : p.leg.section ≡ section
    pub begins : p.begin ≡ line_length track ahead
    pub metres : p.metres ≡ metres_of track p.leg.section

  pub there : (line : Line) (p : LegPlace) → leg_place track line section ≡ Some p → IsThere line p
  there [] p h = cc
  there (leg ∷ legs) p h = by (leg.section == section) refl (leg_place track legs section) (λ q e. there legs q e) refl h
    where
      by : (t : Bool) → (leg.section == section) ≡ t → (o : Option LegPlace) → ((q : LegPlace) → leg_place track legs section ≡ Some q → IsThere legs q) → leg_place track legs section ≡ o
          → cond t (Some (at_start track leg)) (option_map (farther (metres_of track leg.section)) o) ≡ Some p → IsThere (leg ∷ legs) p
      by true e o later k h = subst (IsThere (leg ∷ legs)) (the_some (at_start track leg) p h) (record {
        ahead = [];
        after = legs;
        is = refl;
        lacks = refl;
        same = grind (arith, e);
        begins = refl;
        metres = refl;
      })
      by false e None later k h = cc
      by false e (Some q) later k h =
          let r = later q k in
          subst (IsThere (leg ∷ legs)) (the_some (farther (metres_of track leg.section) q) p h) (record {
            ahead = leg ∷ r.ahead;
            after = r.after;
            is = ap (λ l. leg ∷ l) r.is;
            lacks = or_from (leg.section == section) (has_section r.ahead section) e r.lacks;
            same = r.same;
            begins = ap (λ n. metres_of track leg.section + n) r.begins ∙ sym (line_length-cons track leg r.ahead);
            metres = r.metres;
          })

  pub lacking : (line : Line) → leg_place track line section ≡ None → has_section line section ≡ false
  lacking [] h = refl
  lacking (leg ∷ legs) h = by (leg.section == section) (leg_place track legs section) (λ e. lacking legs e) refl h
    where
      by : (t : Bool) (o : Option LegPlace) → (leg_place track legs section ≡ None → has_section legs section ≡ false) → leg_place track legs section ≡ o
          → cond t (Some (at_start track leg)) (option_map (farther (metres_of track leg.section)) o) ≡ None → (t || has_section legs section) ≡ false
      by true o later k h = cc
      by false None later k h = later k
      by false (Some q) later k h = cc

  -- ---- places

  place_by : (t : Bool) (far : Leg → ℕ) (leg : Leg) (metres : ℕ) (o : Option LegPlace) (p : Option ℕ) → p ≡ option_map (λ (q : LegPlace). q.begin + far q.leg) o
      → cond t (Some (far leg)) (option_map (λ place. metres + place) p) ≡ option_map (λ (q : LegPlace). q.begin + far q.leg) (cond t (Some (at_start track leg)) (option_map (farther metres) o))
  place_by true far leg metres o p e = ap Some (sym (zero-add (far leg)))
  place_by false far leg metres None p e = ap (option_map (λ place. metres + place)) e
  place_by false far leg metres (Some q) p e = ap (option_map (λ place. metres + place)) e ∙ ap Some (let s : metres + (q.begin + far q.leg) ≡ metres + q.begin + far q.leg = omega arith in s)

  place_on-leg_place : (far : Leg → ℕ) (line : Line) → place_on track line section far ≡ option_map (λ (q : LegPlace). q.begin + far q.leg) (leg_place track line section)
  place_on-leg_place far [] = refl
  place_on-leg_place far (leg ∷ legs) = place_by (leg.section == section) far leg (metres_of track leg.section) (leg_place track legs section) (place_on track legs section far) (place_on-leg_place far legs)

  -- ---- who stands on it

  -- whether the train's extent or its authority meets the leg
  abbrev meets_leg : Train → ℕ → ℕ → Bool
  meets_leg train begin end = meets train.rear train.front begin end || meets train.from train.to begin end

  stands_there : (train : Train) (p : LegPlace) → IsGoodTrain track train → leg_place track train.line section ≡ Some p → stands_on track section train ≡ meets_leg train p.begin (p.begin + p.metres)
  stands_there train p good h =
      let on = OnLine-IsLine track train.line good.line in
      let t = there train.line p h in
      let lacks : has_section t.ahead p.leg.section ≡ false = subst (λ s. has_section t.ahead s ≡ false) (sym t.same) t.lacks in
      let rest : sections_differ (p.leg ∷ t.after) ≡ true = differ_right t.ahead (p.leg ∷ t.after) (subst (λ l. sections_differ l ≡ true) t.is on.differ) in
      ap (λ s. stands_on track s train) (sym t.same)
      ∙ stands_on-leg track t.ahead t.after p.leg train t.is lacks (not-true (has_section t.after p.leg.section) (and_left (not (has_section t.after p.leg.section)) (sections_differ t.after) rest))
      ∙ sym (λ j. meets_leg train (t.begins j) (t.begins j + t.metres j))

-- ---- of the legs that a call finds

-- the place of a metre on the leg of its section
pub place_there : (track : Track) (line : Line) (metre : Metre) (p : LegPlace) → Some p ≡ leg_place track line metre.section
    → Some (p.begin + metres_until p.leg.direction p.metres metre.offset) ≡ place_of_metre track line metre
place_there track line metre p h =
    let t = there track metre.section line p (sym h) in
    sym (
    place_on-leg_place track metre.section (metres_before track metre) line ∙ ap (option_map (λ (q : LegPlace). q.begin + metres_before track metre q.leg)) (sym h)
    ∙ ap (λ n. Some (p.begin + n)) (until p.leg.direction ∙ ap (λ n. metres_until p.leg.direction n metre.offset) (sym t.metres))
    )
  where
    until : (d : Direction) → metres_before track metre (record { section = p.leg.section; direction = d }) ≡ metres_until d (metres_of track p.leg.section) metre.offset
    until Rising = refl
    until Falling = refl

pub place_nowhere : (track : Track) (line : Line) (metre : Metre) → None ≡ leg_place track line metre.section → None ≡ place_of_metre track line metre
place_nowhere track line metre h =
    sym (place_on-leg_place track metre.section (metres_before track metre) line ∙ ap (option_map (λ (q : LegPlace). q.begin + metres_before track metre q.leg)) (sym h))

-- the train on this line stands on the section, where it is found, or nowhere
module _ (line : LineOnTrack) (train : TrainOnTrack) (section : ℕ) (of_track : line.track ≡ train.track) (legs : line.legs ≡ train.train.line) where
  pub stands_by : (p : LegPlace) → IsGoodTrain train.track train.train → Some p ≡ leg_place line.track line.legs section
      → (meets train.train.rear train.train.front p.begin (p.begin + p.metres) || meets train.train.from train.train.to p.begin (p.begin + p.metres)) ≡ stands_on train.track section train.train
  stands_by p good h = sym (stands_there train.track section train.train p good (sym (h ∙ (λ j. leg_place (of_track j) (legs j) section))))

  pub stands_nowhere : None ≡ leg_place line.track line.legs section → false ≡ stands_on train.track section train.train
  stands_nowhere h = sym (stands_on-lacks train.track section train.train (lacking train.track section train.train.line (sym (h ∙ (λ j. leg_place (of_track j) (legs j) section)))))
