-- Reports judged by walks: what a walk keeps while it is lengthened or loses legs, and what it comes to.
use Rattle.std.proofs.Common.{◌≡◌, ℕ, suc, ◌+◌, ◌-◌, ◌<◌, ◌≤◌, Bool, true, false, cond, ◌||◌, not, min, [], ◌∷◌, ◌++◌, length, drop, take, Option, Some, None, Result, Ok, Err, refl, ap, sym, ◌∙◌, subst, arith, nat_le, nat_lt, length-drop}
use Rattle.std.specs.Prelude.{◌==◌, is_some, option_map, unwrap_or}
use Rattle.std.specs.List.{position_or_len}
use Rattle.std.specs.Result.{result_err}
use Rattle.std.proofs.lemmas.List.{take-append-drop}
use Rattle.rbc_model.specs.declared.places.Leg.{Leg}
use Rattle.rbc_model.specs.declared.refusals.Refusal.{Refusal}
use Rattle.rbc_model.specs.declared.refusals.Refusal.TheVariants.{Offline, Unplaced, TooFar}
use Rattle.rbc_model.specs.declared.tracks.BaliseGroup.{BaliseGroup}
use Rattle.rbc_model.specs.Reports.{Report}
use Rattle.rbc_model.specs.Scales.{farthest}
use Rattle.rbc_model.specs.Tracks.{Track, leg_eq, metres_of}
use Rattle.rbc_model.specs.SoundTracks.{IsSound, sections_differ}
use Rattle.rbc_model.specs.Lines.{Line, IsLine, has_leg, first_leg, last_leg, legs_ending_by, line_length, metres_to_group, place_of}
use Rattle.rbc_model.specs.Locks.{Locks, longer_ahead, longer_back, lengthened}
use Rattle.rbc_model.specs.Placing.{Placed, leg_told, running_leg, origin_on, front_on, rear_on, has_rear, has_front, placed_on, without_legs_behind, located}
use Rattle.rbc_model.specs.Results.{◌>>=◌}
use Rattle.rbc_scene_laws.specs.Good.{IsGoodLocks}
use Rattle.rbc_scene_laws.proofs.BasicLemmas.{the_some}
use Rattle.rbc_scene_laws.proofs.SpotLemmas.{line_length-append}
use Rattle.rbc_scene_laws.proofs.OnLineLemmas.{OnLine-IsLine}
use Rattle.rbc_model.proofs.SamenessLemmas.{leg_eq-itself}
use Rattle.rbc_scene_laws.proofs.BoundLemmas.{length-line}
use Rattle.rbc_scene_laws.proofs.OriginLemmas.{some_with_leg, has_leg-drop, has_leg-right, origin-append_right}
use Rattle.rbc_extent.specs.PlacingSteps.{Finding, found_or, covering_step, rear_step, front_step, locating_step, finding_from, refusal_from, refusal_beyond}
use Rattle.rbc_extent.specs.Walks.{Walked, IsSameWay}
use Rattle.rbc_extent.proofs.CoveringLemmas.{IsLengthening, one_ahead, one_back, front-longer, told-longer}
use Rattle.rbc_extent.proofs.LengthenedLemmas.{rest-more}
use Rattle.rbc_extent.proofs.WalkLemmas.{but_last}
use Rattle.rbc_model.proofs.BasicLemmas.{same_number}
use Rattle.rbc_model.proofs.MetreLemmas.{line_length-cons}

pub same_way : (start : Walked) → IsSameWay start start
same_way start = record { track = refl; locks = refl }

pub same_way-on : (start now next : Walked) → IsSameWay start now → IsSameWay now next → IsSameWay start next
same_way-on start now next a b = record { track = b.track ∙ a.track; locks = b.locks ∙ a.locks }

-- ---- while a walk goes on to a leg

pub record IsGoingTo (leg : Leg) (start : Walked) (sections added : ℕ) (now : Walked) : Type 0 where
  pub lengthening : IsLengthening (longer_ahead start.locks) (λ l. has_leg l leg) start.line sections added now.line
  pub way : IsSameWay start now
  pub behind : now.behind ≡ start.behind

-- ---- while legs are dropped

-- what is left of these legs
abbrev pub left_of : Track → Leg → ℕ → Line → Line
left_of track told left line = drop (min (position_or_len (leg_eq told) line) (legs_ending_by track left line)) line

pub record IsDropping (told : Leg) (start : Walked) (rear sections dropped left : ℕ) (now : Walked) : Type 0 where
  pub rest : left_of start.line.track told left now.line.legs ≡ left_of start.line.track told rear start.line.legs
  pub way : IsSameWay start now
  pub none_behind : now.behind ≡ 0
  pub has : has_leg now.line.legs told ≡ true
  pub few : dropped + length now.line.legs ≤ sections

pub dropping-begin : (told : Leg) (start : Walked) (rear sections : ℕ) → start.behind ≡ 0 → has_leg start.line.legs told ≡ true → IsLine start.line.track start.line.legs → sections ≡ length start.line.track.sections → IsDropping told start rear sections 0 rear start
dropping-begin told start rear sections none has is all = record {
  rest = refl;
  way = same_way start;
  none_behind = none;
  has = has;
  few = omega (arith, length-line start.line.track start.line.legs is);
}

pub lt_test : (a b : ℕ) → a < b → nat_lt a b ≡ true
lt_test a b h = grind arith

pub ge_test : (a b : ℕ) → b ≤ a → nat_lt a b ≡ false
ge_test a b h = grind arith

-- it goes
goes_by : (t u : Bool) (n m : ℕ) → t ≡ false → u ≡ false → min (cond (not t) (1 + n) 0) (cond u 0 (1 + m)) ≡ suc (min n m)
goes_by true u n m h k = cc
goes_by false true n m h k = cc
goes_by false false n m h k = omega arith

left-goes : (track : Track) (told : Leg) (left : ℕ) (line : Line) (first : Leg) → first_leg line ≡ Some first → leg_eq told first ≡ false → metres_of track first.section ≤ left
    → left_of track told (left - metres_of track first.section) (drop 1 line) ≡ left_of track told left line
left-goes track told left [] first e h k = cc
left-goes track told left (leg ∷ line) first e h k =
    let same = the_some leg first e in
    let m : metres_of track leg.section ≡ metres_of track first.section = ap (λ (l : Leg). metres_of track l.section) same in
    ap (λ (j : ℕ). left_of track told (left - j) line) (sym m)
    ∙ sym
    (ap (λ j. drop j (leg ∷ line))
    (goes_by (leg_eq told leg) (nat_lt left (metres_of track leg.section)) (position_or_len (leg_eq told) line) (legs_ending_by track (left - metres_of track leg.section) line)
    (ap (leg_eq told) same ∙ h) (ge_test left (metres_of track leg.section) (omega arith))))

told-goes : (told : Leg) (line : Line) (first : Leg) → first_leg line ≡ Some first → leg_eq told first ≡ false → has_leg line told ≡ true → has_leg (drop 1 line) told ≡ true
told-goes told [] first e h has = cc
told-goes told (leg ∷ line) first e h has = by_first (leg_eq told leg) (has_leg line told) (ap (leg_eq told) (the_some leg first e) ∙ h) has
  where
    by_first : (t u : Bool) → t ≡ false → (t || u) ≡ true → u ≡ true
    by_first true u f g = cc
    by_first false u f g = g

-- several legs, where the first one is not the leg told
pub several-told : (told : Leg) (line : Line) (first : Leg) → first_leg line ≡ Some first → leg_eq told first ≡ false → has_leg line told ≡ true → 1 < length line
several-told told [] first e h has = cc
several-told told (leg ∷ line) first e h has = let k = some_with_leg line told (told-goes told (leg ∷ line) first e h has) in omega arith

module _ (told : Leg) (start : Walked) (rear sections : ℕ) where
  pub dropping-more : (dropped left metres : ℕ) (now next : Walked) (first : Leg) → IsDropping told start rear sections dropped left now → first_leg now.line.legs ≡ Some first → leg_eq told first ≡ false → metres ≡ metres_of now.line.track first.section → metres ≤ left
      → IsSameWay now next → next.behind ≡ 0 → next.line.legs ≡ drop 1 now.line.legs → IsDropping told start rear sections (dropped + 1) (left - metres) next
  dropping-more dropped left metres now next first d e h m low way none is =
      let s : metres ≡ metres_of start.line.track first.section = m ∙ ap (λ (t : Track). metres_of t first.section) d.way.track in
      let several = several-told told now.line.legs first e h d.has in
      record {
        rest =
            ap (left_of start.line.track told (left - metres)) is
            ∙ ap (λ j. left_of start.line.track told (left - j) (drop 1 now.line.legs)) s
            ∙ left-goes start.line.track told left now.line.legs first e h (omega arith)
            ∙ d.rest;
        way = same_way-on start now next d.way way;
        none_behind = none;
        has = ap (λ l. has_leg l told) is ∙ told-goes told now.line.legs first e h d.has;
        few = let f = d.few in let n : length next.line.legs ≡ length (drop 1 now.line.legs) = ap length is in omega (arith, length-drop 1 now.line.legs);
      }

-- ---- while a walk goes back to the rear

pub record IsBackFrom (group : BaliseGroup) (report : Report) (start : Walked) (beyond sections added : ℕ) (now : Walked) : Type 0 where
  pub rest : lengthened (sections - added) (longer_back start.locks) (has_rear start.line.track group report) now.line.legs
      ≡ lengthened (length start.line.track.sections) (longer_back start.locks) (has_rear start.line.track group report) start.line.legs
  pub way : IsSameWay start now
  pub told : has_leg now.line.legs (leg_told group report) ≡ true
  pub beyond_is : origin_on start.line.track group report now.line.legs + beyond ≡ line_length start.line.track now.line.legs

module _ (group : BaliseGroup) (report : Report) (start : Walked) (beyond sections : ℕ) where
  pub back-length : (added metres : ℕ) (now : Walked) → IsBackFrom group report start beyond sections added now → metres ≡ line_length now.line.track now.line.legs → metres ≡ origin_on start.line.track group report now.line.legs + beyond
  back-length added metres now b m = m ∙ ap (λ (t : Track). line_length t now.line.legs) b.way.track ∙ sym b.beyond_is

  pub back-test : (added metres : ℕ) (now : Walked) (t : Bool) → IsBackFrom group report start beyond sections added now → metres ≡ line_length now.line.track now.line.legs → t ≡ nat_le (report.over + report.length) (metres - beyond + report.distance)
      → t ≡ has_rear start.line.track group report now.line.legs
  back-test added metres now t b m e =
      let l = back-length added metres now b m in
      e ∙ ap (λ o. nat_le (report.over + report.length) (o + report.distance)) (let s : metres - beyond ≡ origin_on start.line.track group report now.line.legs = omega arith in s)

  pub back-longer : (added : ℕ) (now : Walked) (o : Option Line) → IsBackFrom group report start beyond sections added now → o ≡ longer_back now.locks now.line.legs → o ≡ longer_back start.locks now.line.legs
  back-longer added now o b e = e ∙ ap (λ k. longer_back k now.line.legs) b.way.locks

  pub back-more : (added : ℕ) (now next : Walked) → IsSound start.line.track → IsGoodLocks start.line.track start.locks → IsBackFrom group report start beyond sections added now → added < sections → has_rear start.line.track group report now.line.legs ≡ false
      → IsLine now.line.track now.line.legs → IsSameWay now next → Some next.line.legs ≡ longer_back now.locks now.line.legs → IsBackFrom group report start beyond sections (added + 1) next
  back-more added now next sound good b low h is way e =
      let longer = back-longer added now (Some next.line.legs) b e in
      let line : IsLine start.line.track now.line.legs = subst (λ (t : Track). IsLine t now.line.legs) b.way.track is in
      let back = one_back start.line.track start.locks group report now.line.legs next.line.legs sound good line b.told longer in
      record {
        rest = rest-more (longer_back start.locks) (has_rear start.line.track group report) sections added now.line.legs next.line.legs low h longer ∙ b.rest;
        way = same_way-on start now next b.way way;
        told = back.told;
        beyond_is = let o = back.origin in let m = back.more in let was = b.beyond_is in omega arith;
      }

-- ---- while a walk goes on to the front

pub record IsOnFrom (group : BaliseGroup) (report : Report) (start : Walked) (front sections added : ℕ) (now : Walked) : Type 0 where
  pub rest : lengthened (sections - added) (longer_ahead start.locks) (has_front start.line.track group report) now.line.legs
      ≡ lengthened (length start.line.track.sections) (longer_ahead start.locks) (has_front start.line.track group report) start.line.legs
  pub way : IsSameWay start now
  pub told : has_leg now.line.legs (leg_told group report) ≡ true
  pub front_is : front ≡ front_on start.line.track group report now.line.legs

module _ (group : BaliseGroup) (report : Report) (start : Walked) (front sections : ℕ) where
  pub on-test : (added metres : ℕ) (now : Walked) → IsOnFrom group report start front sections added now → metres ≡ line_length now.line.track now.line.legs → nat_le front metres ≡ has_front start.line.track group report now.line.legs
  on-test added metres now b m =
      ap (λ f. nat_le f metres) b.front_is ∙ ap (nat_le (front_on start.line.track group report now.line.legs)) (m ∙ ap (λ (t : Track). line_length t now.line.legs) b.way.track)

  pub on-longer : (added : ℕ) (now : Walked) (o : Option Line) → IsOnFrom group report start front sections added now → o ≡ longer_ahead now.locks now.line.legs → o ≡ longer_ahead start.locks now.line.legs
  on-longer added now o b e = e ∙ ap (λ k. longer_ahead k now.line.legs) b.way.locks

  pub on-more : (added : ℕ) (now next : Walked) → IsOnFrom group report start front sections added now → added < sections → has_front start.line.track group report now.line.legs ≡ false
      → IsSameWay now next → Some next.line.legs ≡ longer_ahead now.locks now.line.legs → IsOnFrom group report start front sections (added + 1) next
  on-more added now next b low h way e =
      let longer = on-longer added now (Some next.line.legs) b e in
      let one = one_ahead start.locks now.line.legs next.line.legs longer in
      record {
        rest = rest-more (longer_ahead start.locks) (has_front start.line.track group report) sections added now.line.legs next.line.legs low h longer ∙ b.rest;
        way = same_way-on start now next b.way way;
        told = told-longer now.line.legs next.line.legs (leg_told group report) one b.told;
        front_is = b.front_is ∙ sym (front-longer start.line.track group report now.line.legs next.line.legs one b.told);
      }

-- ---- where the group stands, counted from the line's end

module _ (track : Track) (group : BaliseGroup) (report : Report) (beyond : ℕ) where
  -- legs that are dropped don't move it
  pub beyond-drop : (k : ℕ) (line : Line) → IsLine track line → has_leg (drop k line) (leg_told group report) ≡ true → origin_on track group report line + beyond ≡ line_length track line
      → origin_on track group report (drop k line) + beyond ≡ line_length track (drop k line)
  beyond-drop k line is has e =
      let whole : take k line ++ drop k line ≡ line = take-append-drop k line in
      let on = OnLine-IsLine track line is in
      let moved = origin-append_right track group report (take k line) (drop k line) (ap sections_differ whole ∙ on.differ) has in
      let metres = line_length-append track (take k line) (drop k line) in
      let o : origin_on track group report (take k line ++ drop k line) ≡ origin_on track group report line = ap (origin_on track group report) whole in
      let l : line_length track (take k line ++ drop k line) ≡ line_length track line = ap (line_length track) whole in
      omega arith

  one_by : (t u : Bool) (far : ℕ) (rest : Option ℕ) → t ≡ true → u ≡ true → unwrap_or (cond (t || false) (cond u (Some far) rest) None) 0 ≡ far
  one_by t u far rest h k = rw (h, k) refl

  one_told : (b : Bool) → unwrap_or (place_of track (running_leg group b ∷ []) group (running_leg group b).direction) 0 ≡ metres_to_group track group (running_leg group b)
  one_told true = one_by (leg_eq (running_leg group true) (running_leg group true)) (group.section == group.section) (metres_to_group track group (running_leg group true)) (option_map (λ place. metres_of track group.section + place) None) (leg_eq-itself (running_leg group true)) (same_number group.section)
  one_told false = one_by (leg_eq (running_leg group false) (running_leg group false)) (group.section == group.section) (metres_to_group track group (running_leg group false)) (option_map (λ place. metres_of track group.section + place) None) (leg_eq-itself (running_leg group false)) (same_number group.section)

  pub has_itself : (leg : Leg) → has_leg (leg ∷ []) leg ≡ true
  has_itself leg = ap (λ (t : Bool). t || false) (leg_eq-itself leg)

  pub beyond-one : (leg : Leg) → leg ≡ leg_told group report → metres_to_group track group leg + beyond ≡ metres_of track leg.section → origin_on track group report (leg ∷ []) + beyond ≡ line_length track (leg ∷ [])
  beyond-one leg same e =
      let o : origin_on track group report (leg ∷ []) ≡ metres_to_group track group leg =
      ap (λ (l : Leg). origin_on track group report (l ∷ [])) same ∙ one_told report.nominal ∙ ap (metres_to_group track group) (sym same) in
      omega (arith, line_length-cons track leg [])

  -- the leg told is the last one
  pub has-last : (line : Line) (last : Leg) → last_leg line ≡ Some last → has_leg line last ≡ true
  has-last line last e = subst (λ l. has_leg l last ≡ true) (but_last line last e) (has_leg-right (take (length line - 1) line) (last ∷ []) last (has_itself last))

  pub beyond-last : (line : Line) (leg : Leg) → leg ≡ leg_told group report → last_leg line ≡ Some leg → IsLine track line → metres_to_group track group leg + beyond ≡ metres_of track leg.section → origin_on track group report line + beyond ≡ line_length track line
  beyond-last line leg same e is far =
      let front = take (length line - 1) line in
      let whole : front ++ leg ∷ [] ≡ line = but_last line leg e in
      let on = OnLine-IsLine track line is in
      let one = beyond-one leg same far in
      let moved = origin-append_right track group report front (leg ∷ []) (ap sections_differ whole ∙ on.differ) (subst (λ (l : Leg). has_leg (leg ∷ []) l ≡ true) same (has_itself leg)) in
      let metres = line_length-append track front (leg ∷ []) in
      let o : origin_on track group report (front ++ leg ∷ []) ≡ origin_on track group report line = ap (origin_on track group report) whole in
      let l : line_length track (front ++ leg ∷ []) ≡ line_length track line = ap (line_length track) whole in
      omega arith

-- ---- what a walk comes to

module _ (track : Track) (locks : Locks) (group : BaliseGroup) (report : Report) where
  pub dropped-legs : (line : Line) (told : Leg) (rear metres beyond : ℕ) → told ≡ leg_told group report → metres ≡ line_length track line → origin_on track group report line + beyond ≡ line_length track line
      → rear ≡ metres - beyond + report.distance - (report.over + report.length) → left_of track told rear line ≡ without_legs_behind track group report line
  dropped-legs line told rear metres beyond same m e r =
      ap (λ (l : Leg). left_of track l rear line) same
      ∙ ap (λ k. left_of track (leg_told group report) k line) (let s : rear ≡ rear_on track group report line = omega arith in s)

  pub told-dropped : (line : Line) → has_leg line (leg_told group report) ≡ true → has_leg (without_legs_behind track group report line) (leg_told group report) ≡ true
  told-dropped line has =
      let told = leg_told group report in
      has_leg-drop (min (position_or_len (leg_eq told) line) (legs_ending_by track (rear_on track group report line) line)) line told (omega arith) has

  pub beyond-dropped : (beyond : ℕ) (line : Line) → IsLine track line → has_leg line (leg_told group report) ≡ true → origin_on track group report line + beyond ≡ line_length track line
      → origin_on track group report (without_legs_behind track group report line) + beyond ≡ line_length track (without_legs_behind track group report line)
  beyond-dropped beyond line is has e =
      beyond-drop track group report beyond (min (position_or_len (leg_eq (leg_told group report)) line) (legs_ending_by track (rear_on track group report line) line)) line is (told-dropped line has) e

  abbrev back_to_rear : Line → Option Line
  back_to_rear line = lengthened (length track.sections) (longer_back locks) (has_rear track group report) line

  abbrev on_to_front : Line → Option Line
  on_to_front line = lengthened (length track.sections) (longer_ahead locks) (has_front track group report) line

  abbrev comes_to : Option Line → Option Refusal
  comes_to o = result_err ((found_or Unplaced o >>= (λ (line : Line). found_or Unplaced (on_to_front line))) >>= placed_on track group report)

  front_by : (o : Option Line) (t : Bool) → t ≡ is_some o → (far : Bool) → far ≡ nat_lt (farthest track.format) (report.distance + report.under) → cond t (cond far (Some TooFar) None) (Some Unplaced) ≡ result_err (found_or Unplaced o >>= placed_on track group report)
  front_by None t e far f = ap (λ (b : Bool). cond b (cond far (Some TooFar) None) (Some Unplaced)) e
  front_by (Some line) t e far f =
      ap (λ (b : Bool). cond b (cond far (Some TooFar) None) (Some Unplaced)) e
      ∙ end_by far (nat_lt (farthest track.format) (report.distance + report.under)) (record { line = line; origin = origin_on track group report line; rear = rear_on track group report line; front = front_on track group report line }) f
    where
      end_by : (a b : Bool) (p : Placed) → a ≡ b → cond a (Some TooFar) None ≡ result_err (cond b (Err TooFar) (Ok p))
      end_by a true p h = ap (λ (t : Bool). cond t (Some TooFar) None) h
      end_by a false p h = ap (λ (t : Bool). cond t (Some TooFar) None) h

  pub judged-no_rear : (line : Line) → None ≡ back_to_rear (without_legs_behind track group report line) → Some Unplaced ≡ refusal_from track locks group report line
  unfolding covering_step rear_step front_step
  judged-no_rear line e = ap comes_to e

  pub judged-front : (line longer : Line) (t far : Bool) → Some longer ≡ back_to_rear (without_legs_behind track group report line) → t ≡ is_some (on_to_front longer) → far ≡ nat_lt (farthest track.format) (report.distance + report.under)
      → cond t (cond far (Some TooFar) None) (Some Unplaced) ≡ refusal_from track locks group report line
  unfolding covering_step rear_step front_step
  judged-front line longer t far e h f = front_by (on_to_front longer) t h far f ∙ ap comes_to e

-- ---- from the group on

module _ (track : Track) (locks : Locks) (known : Option Line) (report : Report) (group : BaliseGroup) where
  abbrev finding_of : ℕ → Placed → Finding
  finding_of old placed = record { old_origin = old; placed = placed }

  placed_by : (old : ℕ) (r : Result Placed Refusal) → result_err r ≡ result_err (r >>= (λ (placed : Placed). Ok (finding_of old placed)))
  placed_by old (Ok placed) = refl
  placed_by old (Err refusal) = refl

  line_by : (old : ℕ) (r : Result Line Refusal)
      → result_err (r >>= placed_on track group report) ≡ result_err (r >>= (λ (line : Line). placed_on track group report line >>= (λ (placed : Placed). Ok (finding_of old placed))))
  line_by old (Ok line) = placed_by old (placed_on track group report line)
  line_by old (Err refusal) = refl

  abbrev start_by : Option Line → Option Refusal
  start_by o = result_err (found_or Offline o >>= (λ (start : Line). covering_step track locks group report start >>= (λ (line : Line). placed_on track group report line >>= (λ (placed : Placed). Ok (finding_of (origin_on track group report start) placed)))))

  pub beyond-start : (start : Line) → located track locks (leg_told group report) known ≡ Some start → refusal_from track locks group report start ≡ refusal_beyond track locks known report group
  unfolding finding_from locating_step
  beyond-start start e = line_by (origin_on track group report start) (covering_step track locks group report start) ∙ ap start_by (sym e)

  pub beyond-lost : None ≡ located track locks (leg_told group report) known → Some Offline ≡ refusal_beyond track locks known report group
  unfolding finding_from locating_step
  beyond-lost e = ap start_by e
