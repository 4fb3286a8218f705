-- A grant is the best in a scene exactly where it is one that its train's view allows.
use Rattle.std.proofs.Common.{◌≡◌, ℕ, zero, suc, ◌+◌, ◌-◌, ◌<◌, ◌≤◌, max, Bool, true, cond, ◌&&◌, List, [], ◌∷◌, length, take, Option, Some, None, Result, Ok, Err, refl, ap, sym, ◌∙◌, subst, arith, ◌⊎◌, inl, inr, nat_lt}
use Rattle.std.specs.Prelude.{◌==◌, is_ok, is_some, IsTrue, unwrap_or}
use Rattle.std.specs.Option.{option_map_or}
use Rattle.std.proofs.lemmas.Bool.{lt-ltb, eqb-true, and_from}
use Rattle.rbc_model.specs.declared.refusals.Obstacle.{Obstacle}
use Rattle.rbc_model.specs.declared.refusals.Obstacle.TheVariants.{Own}
use Rattle.rbc_model.specs.declared.refusals.Refusal.{Refusal}
use Rattle.rbc_model.specs.declared.refusals.Refusal.TheVariants.{UnknownTrain, NotSafe}
use Rattle.rbc_model.specs.declared.refusals.ViewFault.{ViewFault}
use Rattle.rbc_model.specs.declared.refusals.ViewFault.TheVariants.{UnknownTrain as NoTrain}
use Rattle.rbc_model.specs.declared.places.Leg.{Leg}
use Rattle.rbc_model.specs.Scales.{is_expressible, unit_of}
use Rattle.rbc_model.specs.Levels.{speed_levels, grade_levels}
use Rattle.rbc_model.specs.Profiles.{value_at, runs_over}
use Rattle.rbc_model.specs.Tracks.{Track}
use Rattle.rbc_model.specs.SoundTracks.{IsInForm}
use Rattle.rbc_model.specs.Lines.{Line, line_length, last_leg, legs_begun_before, speeds_from, grades_from, speeds, grades}
use Rattle.rbc_model.specs.Locks.{Locks, longer_ahead, lengthened_fully, continued}
use Rattle.rbc_model.specs.Trains.{Train}
use Rattle.rbc_model.specs.Scenes.{Scene, train_numbered}
use Rattle.rbc_model.specs.Obstacles.{obstacle, way}
use Rattle.rbc_model.specs.Views.{View, view, view_to, shown_up_to, view_of, start_of, IsSafe, is_safe, is_expressible_end, way_end, reach, stop, greatest_end}
use Rattle.rbc_model.specs.Events.{step, with_train, with_authority, line_to}
use Rattle.rbc_model.specs.declared.reports.Event.TheVariants.{Grant}
use Rattle.rbc_model.specs.Histories.{Beginning, Entry, Granted, Grants, Stops, IsBestFor, IsBest, MayFollow, replay}
use Rattle.rbc_model.proofs.ScanLemmas.{IsLast, filter-numbers, le_or_lt}
use Rattle.rbc_model.proofs.EndLemmas.{IsStopped, IsGreatestEnd, IsGreatestEnd-greatest_end, none_safe-greatest_end, is_safe-IsSafe, le_reach-IsSafe, reach-le, reach-EndsFarthest, obstacle-before_reach}
use Rattle.rbc_model.proofs.StopLemmas.{IsStopped-reach}
use Rattle.rbc_model.proofs.RunLemmas.{value_at-runs_over}
use Rattle.rbc_model.proofs.LevelLemmas.{speed_lawful, grade_lawful}
use Rattle.rbc_grant_laws.specs.Candidates.{IsCandidateOf}
use Rattle.rbc_grant_laws.proofs.CoveredLemmas.{speeds_are_covered, grades_are_covered, IsBestProfile-agree}
use Rattle.std.specs.Cmp.{second_so}
use Rattle.std.proofs.lemmas.Option.{same_Some}
use Rattle.rbc_model.proofs.BasicLemmas.{find-passes}
use Rattle.rbc_model.proofs.ScaleLemmas.{expressible_some}

-- ---- distances that a message can give

expressible_at : (track : Track) (train : Train) (farther : ℕ) → is_expressible track.format farther ≡ true → is_expressible_end track train (train.origin + farther) ≡ true
expressible_at track train farther h =
    and_from (nat_lt train.origin (train.origin + farther)) (is_expressible track.format (train.origin + farther - train.origin))
    (let some = expressible_some track.format farther h in lt-ltb train.origin (train.origin + farther) (omega arith))
    (subst (λ k. is_expressible track.format k ≡ true) (let e : farther ≡ train.origin + farther - train.origin = omega arith in e) h)

expressible_from : (track : Track) (train : Train) (end : ℕ) → is_expressible_end track train (train.origin + end) ≡ true → is_expressible track.format end ≡ true
expressible_from track train end h =
    subst (λ k. is_expressible track.format k ≡ true) (let e : train.origin + end - train.origin ≡ end = omega arith in e)
    (second_so (nat_lt train.origin (train.origin + end)) (is_expressible track.format (train.origin + end - train.origin)) h)

-- ---- a train that has a greatest end stands before its reach, and is stopped there

continued-empty : (n : ℕ) (locks : Locks) → lengthened_fully n (longer_ahead locks) [] ≡ []
continued-empty zero locks = refl
continued-empty (suc n) locks = refl

leg_or_none : (line : Line) → ((leg : Leg) × (last_leg line ≡ Some leg)) ⊎ (line ≡ [])
leg_or_none [] = inr refl
leg_or_none (leg ∷ []) = inl (leg, refl)
leg_or_none (leg ∷ next ∷ line) = elim (leg_or_none (next ∷ line)) [ inl e ↦ inl e | inr e ↦ absurd (let c : ⊥ = cc in c) ]

-- where the continued line has a metre, the line has a leg
some_leg : (track : Track) (scene : Scene) (train : Train) → 0 < way_end track scene train → (leg : Leg) × (last_leg train.line ≡ Some leg)
some_leg track scene train h = elim (leg_or_none train.line) [
  | inl e ↦ e
  | inr e ↦
      let none : way_end track scene train ≡ 0 = ap (λ (line : Line). line_length track (continued track scene.locks line)) e ∙ ap (line_length track) (continued-empty (length track.sections) scene.locks) in
      absurd (let c : ⊥ = omega arith in c)
]

pub record IsPlacedWell (track : Track) (scene : Scene) (train : Train) : Type 0 where
  pub begins : start_of train ≤ reach track scene train
  pub stopped : IsStopped track scene train

pub placed_well : (track : Track) (scene : Scene) (train : Train) (end : ℕ) → greatest_end track scene train ≡ Some end → IsPlacedWell track scene train
placed_well track scene train end h =
    from_last (filter-numbers (is_expressible_end track train) (max (train.front + 1) train.to) (reach track scene train + 1 - max (train.front + 1) train.to) end h)
  where
    from_last : IsLast (is_expressible_end track train) (max (train.front + 1) train.to) (reach track scene train + 1 - max (train.front + 1) train.to) end → IsPlacedWell track scene train
    from_last l =
        let low = l.low in
        let high = l.high in
        let front : train.front < reach track scene train = omega arith in
        let far = reach-le track scene train in
        let leg = some_leg track scene train (let some : 0 < way_end track scene train = omega arith in some) in
        record { begins = omega arith; stopped = IsStopped-reach track scene train leg.0 leg.1 }

-- ---- what a view tells

pub record IsSeen (track : Track) (scene : Scene) (train : Train) (v : View) : Type 0 where
  pub end : ℕ
  pub greatest : greatest_end track scene train ≡ Some end
  pub is : view_to track scene train end ≡ v

seen_by : (track : Track) (scene : Scene) (train : Train) (v : View) (o : Option ℕ) → greatest_end track scene train ≡ o → shown_up_to track scene train o ≡ Ok v → IsSeen track scene train v
seen_by track scene train v None e h = cc
seen_by track scene train v (Some end) e h = record { end = end; greatest = e; is = cc }

pub is_seen : (track : Track) (scene : Scene) (train : Train) (v : View) → view_of track scene train ≡ Ok v → IsSeen track scene train v
is_seen track scene train v h = seen_by track scene train v (greatest_end track scene train) refl h

view_of-greatest : (track : Track) (scene : Scene) (train : Train) (end : ℕ) → greatest_end track scene train ≡ Some end → view_of track scene train ≡ Ok (view_to track scene train end)
view_of-greatest track scene train end h = ap (shown_up_to track scene train) h

-- ---- the profiles for the view's runs are those for the track

module _ (track : Track) (line : Line) (origin end : ℕ) (form : IsInForm track) (on_line : origin + end ≤ line_length track line) where
  speeds_agree : (x : ℕ) → x < end → value_at (speeds track line origin (origin + end)) x ≡ speeds_from track line origin x
  speeds_agree x low =
      ap (λ k. value_at (runs_over speed_levels k (speeds_from track line origin)) x) (let e : origin + end - origin ≡ end = omega arith in e)
      ∙ value_at-runs_over speed_levels speed_lawful end (speeds_from track line origin) (speeds_are_covered track line origin end form on_line) x low

  grades_agree : (x : ℕ) → x < end → value_at (grades track line origin (origin + end)) x ≡ grades_from track line origin x
  grades_agree x low =
      ap (λ k. value_at (runs_over grade_levels k (grades_from track line origin)) x) (let e : origin + end - origin ≡ end = omega arith in e)
      ∙ value_at-runs_over grade_levels grade_lawful end (grades_from track line origin) (grades_are_covered track line origin end form on_line) x low

-- ---- what a view allows is the best

named_there : (o : Option Obstacle) → (o ≡ None → ⊥) → o ≡ Some (unwrap_or o Own)
named_there None h = absurd (h refl)
named_there (Some x) h = refl

module _ (track : Track) (scene : Scene) (train : Train) (grant : Grants) (form : IsInForm track) (greatest : greatest_end track scene train ≡ Some (train.origin + grant.authority.end)) where
  placed : IsPlacedWell track scene train
  placed = placed_well track scene train (train.origin + grant.authority.end) greatest

  end_is : IsGreatestEnd track scene train (train.origin + grant.authority.end)
  end_is = let p = placed in IsGreatestEnd-greatest_end track scene train (train.origin + grant.authority.end) p.begins p.stopped greatest

  at_reach : train.origin + grant.authority.end ≤ reach track scene train
  at_reach = let p = placed in let g = end_is in le_reach-IsSafe track scene train (train.origin + grant.authority.end) p.begins p.stopped g.safe

  on_way : train.origin + grant.authority.end ≤ line_length track (way track scene train)
  on_way = let far = reach-le track scene train in let near = at_reach in omega arith

  none_farther : (farther : ℕ) → is_expressible track.format farther ≡ true → grant.authority.end < farther → IsSafe track scene train (train.origin + farther) → ⊥
  none_farther farther h beyond safe =
      let g = end_is in
      g.greatest (train.origin + farther) (let e : train.origin + grant.authority.end < train.origin + farther = omega arith in e) (expressible_at track train farther h) safe

  stops : grant.obstacle ≡ stop track scene train → Stops track scene train grant.authority.end grant.obstacle (reach track scene train)
  stops named = record {
    beyond = at_reach;
    on_way = reach-le track scene train;
    real = let p = placed in named_there (obstacle track scene train (reach track scene train)) p.stopped ∙ ap Some (sym named);
    first = λ i low high. obstacle-before_reach track scene train i low high;
  }

  best_of_candidate : IsCandidateOf (view_to track scene train (train.origin + grant.authority.end)) grant → IsBestFor track scene grant train
  best_of_candidate c = record {
    time = c.time;
    group = c.group;
    direction = c.direction;
    from = c.from;
    ends = record {
      expressible = let g = end_is in expressible_from track train grant.authority.end g.expressible;
      safe = let g = end_is in g.safe;
      farthest = none_farther;
      place = reach track scene train;
      stopped = stops c.obstacle;
    };
    profiles = record {
      speeds = IsBestProfile-agree speed_levels (unit_of grant.authority.end) track.speed_steps grant.authority.end (value_at (speeds track (way track scene train) train.origin (train.origin + grant.authority.end))) (speeds_from track (way track scene train) train.origin) grant.authority.speeds
          (speeds_agree track (way track scene train) train.origin grant.authority.end form on_way) c.speeds;
      grades = IsBestProfile-agree grade_levels (unit_of grant.authority.end) track.grade_steps grant.authority.end (value_at (grades track (way track scene train) train.origin (train.origin + grant.authority.end))) (grades_from track (way track scene train) train.origin) grant.authority.grades
          (grades_agree track (way track scene train) train.origin grant.authority.end form on_way) c.grades;
    };
  }

  candidate_of_best : grant.train ≡ train.report.train → IsBestFor track scene grant train → IsCandidateOf (view_to track scene train (train.origin + grant.authority.end)) grant
  candidate_of_best number best = record {
    train = number;
    from = best.from;
    obstacle = let s = best.ends.stopped in sym (ap (λ o. unwrap_or o Own) (ap (obstacle track scene train) (reach-EndsFarthest track scene grant train best.ends) ∙ s.real));
    time = best.time;
    group = best.group;
    direction = best.direction;
    ahead = let some = expressible_some track.format grant.authority.end best.ends.expressible in omega arith;
    end = omega arith;
    speeds = IsBestProfile-agree speed_levels (unit_of grant.authority.end) track.speed_steps grant.authority.end (speeds_from track (way track scene train) train.origin) (value_at (speeds track (way track scene train) train.origin (train.origin + grant.authority.end))) grant.authority.speeds
        (λ x low. sym (speeds_agree track (way track scene train) train.origin grant.authority.end form on_way x low)) best.profiles.speeds;
    grades = IsBestProfile-agree grade_levels (unit_of grant.authority.end) track.grade_steps grant.authority.end (grades_from track (way track scene train) train.origin) (value_at (grades track (way track scene train) train.origin (train.origin + grant.authority.end))) grant.authority.grades
        (λ x low. sym (grades_agree track (way track scene train) train.origin grant.authority.end form on_way x low)) best.profiles.grades;
  }

-- every grant that the train's view allows is the best for the train
pub IsBestFor-candidate : (track : Track) (scene : Scene) (train : Train) (v : View) (grant : Grants) → IsInForm track → view_of track scene train ≡ Ok v → IsCandidateOf v grant → IsBestFor track scene grant train
IsBestFor-candidate track scene train v grant form h c =
    let s = is_seen track scene train v h in
    let c' : IsCandidateOf (view_to track scene train s.end) grant = subst (λ (w : View). IsCandidateOf w grant) (sym s.is) c in
    let e : s.end ≡ train.origin + grant.authority.end = let there = c'.end in omega arith in
    best_of_candidate track scene train grant form (s.greatest ∙ ap Some e) (subst (λ k. IsCandidateOf (view_to track scene train k) grant) e c')

-- ---- what is best for a train ends at the greatest end, so the train has a view, which allows it

module _ (track : Track) (scene : Scene) (train : Train) (grant : Grants) (best : IsBestFor track scene grant train) where
  best_stopped : IsStopped track scene train
  best_stopped none =
      let s = best.ends.stopped in
      let e = ap (obstacle track scene train) (reach-EndsFarthest track scene grant train best.ends) ∙ s.real in
      cc

  best_begins : start_of train ≤ reach track scene train
  best_begins =
      let s = best.ends.stopped in
      let near = s.beyond in
      let safe = best.ends.safe in
      let front = safe.beyond_front in
      let there = reach-EndsFarthest track scene grant train best.ends in
      omega arith

  best_told : is_expressible_end track train (train.origin + grant.authority.end) ≡ true
  best_told = expressible_at track train grant.authority.end best.ends.expressible

  the_greatest : (end : ℕ) → IsGreatestEnd track scene train end → (end ≤ train.origin + grant.authority.end) ⊎ (train.origin + grant.authority.end < end) → train.origin + grant.authority.end ≤ end → end ≡ train.origin + grant.authority.end
  the_greatest end g (inl near) far = omega arith
  the_greatest end g (inr past) far =
      let e : train.origin + (end - train.origin) ≡ end = omega arith in
      absurd (best.ends.farthest (end - train.origin)
      (expressible_from track train (end - train.origin) (subst (λ k. is_expressible_end track train k ≡ true) (sym e) g.expressible))
      (omega arith)
      (subst (IsSafe track scene train) (sym e) g.safe))

  not_nearer : (end : ℕ) → IsGreatestEnd track scene train end → (train.origin + grant.authority.end ≤ end) ⊎ (end < train.origin + grant.authority.end) → train.origin + grant.authority.end ≤ end
  not_nearer end g (inl far) = far
  not_nearer end g (inr near) = absurd (g.greatest (train.origin + grant.authority.end) near best_told best.ends.safe)

  greatest_by : (o : Option ℕ) → greatest_end track scene train ≡ o → o ≡ Some (train.origin + grant.authority.end)
  greatest_by None e = absurd (none_safe-greatest_end track scene train best_begins best_stopped e (train.origin + grant.authority.end) best_told best.ends.safe)
  greatest_by (Some end) e =
      let g = IsGreatestEnd-greatest_end track scene train end best_begins best_stopped e in
      ap Some (the_greatest end g (le_or_lt end (train.origin + grant.authority.end)) (not_nearer end g (le_or_lt (train.origin + grant.authority.end) end)))

  best_greatest : greatest_end track scene train ≡ Some (train.origin + grant.authority.end)
  best_greatest = greatest_by (greatest_end track scene train) refl

  -- between its end and the obstacle that it names there is none that a message can give
  pub none_between-IsBestFor : (farther : ℕ) → IsTrue (is_expressible track.format farther) → grant.authority.end < farther → train.origin + farther ≤ reach track scene train → ⊥
  none_between-IsBestFor farther told beyond near =
      let safe = best.ends.safe in
      let front = safe.beyond_front in
      let keeps = safe.takes_none_back in
      let there = reach-EndsFarthest track scene grant train best.ends in
      best.ends.farthest farther told beyond (record {
        beyond_front = omega arith;
        takes_none_back = omega arith;
        clear = λ i low high. best.ends.stopped.first i low (omega arith);
      })

pub candidate-IsBestFor : (track : Track) (scene : Scene) (train : Train) (grant : Grants) → IsInForm track → grant.train ≡ train.report.train → IsBestFor track scene grant train → (v : View) × (view_of track scene train ≡ Ok v) × IsCandidateOf v grant
candidate-IsBestFor track scene train grant form number best =
    let greatest = best_greatest track scene train grant best in (
      view_to track scene train (train.origin + grant.authority.end),
      view_of-greatest track scene train (train.origin + grant.authority.end) greatest,
      candidate_of_best track scene train grant form greatest number best,
    )

-- ---- in a scene

number_there : (scene : Scene) (number : ℕ) (train : Train) → train_numbered scene number ≡ Some train → train.report.train ≡ number
number_there scene number train h = eqb-true train.report.train number (find-passes (λ (t : Train). t.report.train == number) scene.trains train h)

pub record IsThere (track : Track) (scene : Scene) (number : ℕ) (v : View) : Type 0 where
  pub train : Train
  pub there : train_numbered scene number ≡ Some train
  pub view : view_of track scene train ≡ Ok v

there_by : (track : Track) (scene : Scene) (number : ℕ) (v : View) (o : Option Train) → train_numbered scene number ≡ o → option_map_or (view_of track scene) o (Err NoTrain) ≡ Ok v → IsThere track scene number v
there_by track scene number v None e h = cc
there_by track scene number v (Some train) e h = record { train = train; there = e; view = h }

pub is_there : (track : Track) (scene : Scene) (number : ℕ) (v : View) → view track scene number ≡ Ok v → IsThere track scene number v
is_there track scene number v h = there_by track scene number v (train_numbered scene number) refl h

-- the view of a number is that of the train of this number
pub view-train : (track : Track) (scene : Scene) (number : ℕ) (v : View) → view track scene number ≡ Ok v → v.train ≡ number
view-train track scene number v h =
    let t = is_there track scene number v h in
    let s = is_seen track scene t.train v t.view in
    ap (λ (w : View). w.train) (sym s.is) ∙ number_there scene number t.train t.there

-- every grant that a view allows is the best in the scene
pub IsBest-candidate : (track : Track) (scene : Scene) (number : ℕ) (v : View) (grant : Grants) → IsInForm track → view track scene number ≡ Ok v → IsCandidateOf v grant → IsBest track scene grant
IsBest-candidate track scene number v grant form h c =
    let t = is_there track scene number v h in
    let same : number ≡ grant.train = sym (c.train ∙ view-train track scene number v h) in
    let there : train_numbered scene grant.train ≡ Some t.train = subst (λ k. train_numbered scene k ≡ Some t.train) same t.there in
    record {
      train_is_there = ap is_some there;
      best = λ train also. subst (IsBestFor track scene grant) (same_Some t.train train (sym there ∙ also)) (IsBestFor-candidate track scene t.train v grant form t.view c);
    }

some_there : {X : Type 0} (o : Option X) → is_some o ≡ true → (x : X) × (o ≡ Some x)
some_there None h = cc
some_there (Some x) h = (x, refl)

-- and no other grant is
pub candidate-IsBest : (track : Track) (scene : Scene) (grant : Grants) → IsInForm track → IsBest track scene grant → (v : View) × (view track scene grant.train ≡ Ok v) × IsCandidateOf v grant
candidate-IsBest track scene grant form best =
    let t = some_there (train_numbered scene grant.train) best.train_is_there in
    let s = candidate-IsBestFor track scene t.0 grant form (sym (number_there scene grant.train t.0 t.1)) (best.best t.0 t.1) in
    (s.0, ap (λ o. option_map_or (view_of track scene) o (Err NoTrain)) t.1 ∙ s.1, s.2)

-- so two scenes with the same view of a train have the same best grants for it
pub IsBest-same_view : (track : Track) (before after : Scene) (grant : Grants) → IsInForm track → view track before grant.train ≡ view track after grant.train → IsBest track before grant → IsBest track after grant
IsBest-same_view track before after grant form same best =
    let s = candidate-IsBest track before grant form best in
    IsBest-candidate track after grant.train s.0 grant form (sym same ∙ s.1) s.2

pub the_ok : (a b : View) → (let r : Result View ViewFault = Ok a in r) ≡ Ok b → a ≡ b
the_ok a b h = cc

-- ---- what is best is accepted, so it may follow

accepted_by : (o : Option Train) (train : Train) (answer : Train → Result Scene Refusal) (e : Refusal) → o ≡ Some train → is_ok (answer train) ≡ true → is_ok (option_map_or answer o (Err e)) ≡ true
accepted_by None train answer e h k = cc
accepted_by (Some t) train answer e h k = subst (λ z. is_ok (answer z) ≡ true) (sym (same_Some t train h)) k

ok_if : (b : Bool) (x : Scene) → b ≡ true → is_ok (cond b (Ok x) (Err NotSafe)) ≡ true
ok_if b x h = rw h refl

pub is_ok-best : (track : Track) (scene : Scene) (grant : Grants) → IsBest track scene grant → IsTrue (is_ok (step track scene (Grant grant.train grant.authority.end)))
is_ok-best track scene grant best =
    let t = some_there (train_numbered scene grant.train) best.train_is_there in
    let b = best.best t.0 t.1 in
    let to = t.0.origin + grant.authority.end in
    accepted_by (train_numbered scene grant.train) t.0
    (λ (train : Train). cond (is_safe track scene train (train.origin + grant.authority.end) && is_expressible_end track train (train.origin + grant.authority.end))
    (Ok (with_train scene (with_authority train (take (max (length train.line) (legs_begun_before track (train.origin + grant.authority.end) (way track scene train))) (way track scene train)) (start_of train) (train.origin + grant.authority.end)))) (Err NotSafe))
    (UnknownTrain grant.train) t.1
    (ok_if (is_safe track scene t.0 to && is_expressible_end track t.0 to)
    (with_train scene (with_authority t.0 (line_to track scene t.0 to) (start_of t.0) to))
    (and_from (is_safe track scene t.0 to) (is_expressible_end track t.0 to) (is_safe-IsSafe track scene t.0 to b.ends.safe) (expressible_at track t.0 grant.authority.end b.ends.expressible)))

pub MayFollow-best : (begin : Beginning) (before : List Entry) (grant : Grants) → IsBest begin.track (replay begin before) grant → MayFollow begin before (Granted grant)
MayFollow-best begin before grant best = record {
  accepted = is_ok-best begin.track (replay begin before) grant best;
  best = λ other same. subst (IsBest begin.track (replay begin before)) (let e : grant ≡ other = cc in e) best;
}

-- a grant that a view allows is accepted
pub is_ok-candidate : (track : Track) (scene : Scene) (number : ℕ) (v : View) (grant : Grants) → IsInForm track → view track scene number ≡ Ok v → IsCandidateOf v grant → IsTrue (is_ok (step track scene (Grant grant.train grant.authority.end)))
is_ok-candidate track scene number v grant form h c = is_ok-best track scene grant (IsBest-candidate track scene number v grant form h c)

-- and it may follow in each history whose replay is a scene with this view
pub MayFollow-candidate : (begin : Beginning) (before : List Entry) (scene : Scene) (number : ℕ) (v : View) (grant : Grants) → IsInForm begin.track → replay begin before ≡ scene → view begin.track scene number ≡ Ok v → IsCandidateOf v grant → MayFollow begin before (Granted grant)
MayFollow-candidate begin before scene number v grant form same h c =
    MayFollow-best begin before grant (IsBest-candidate begin.track (replay begin before) number v grant form (ap (λ s. view begin.track s number) same ∙ h) c)

-- ---- where the obstacle stands

pub stops_at_reach : (track : Track) (scene : Scene) (train : Train) (grant : Grants) → IsBestFor track scene grant train
    → Stops track scene train grant.authority.end grant.obstacle (reach track scene train)
stops_at_reach track scene train grant best =
    subst (Stops track scene train grant.authority.end grant.obstacle) (sym (reach-EndsFarthest track scene grant train best.ends)) best.ends.stopped
