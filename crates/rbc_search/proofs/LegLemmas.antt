-- The search on one leg: what the trains of a table have of its section is what the reach of the leg looks at.
use Rattle.std.proofs.Common.{◌≡◌, ℕ, ◌+◌, ◌-◌, max, Bool, true, false, not, List, [], ◌∷◌, ◌++◌, Option, Some, None, refl, ap, sym, subst, ◌∙◌, arith, ◌⊎◌, inl, inr, nat_lt}
use Rattle.std.specs.Prelude.{fold, find, ◌==◌, if◌then◌else◌, option_map}
use Rattle.std.specs.List.{AllByRecursion}
use Rattle.std.proofs.lemmas.Bool.{eqb-true, false_from_ne_true, or_parts, not-true}
use Rattle.rbc_model.specs.declared.places.Leg.{Leg}
use Rattle.rbc_model.specs.Tracks.{Track, metres_of, direction_eq}
use Rattle.rbc_model.specs.Lines.{Line, has_section}
use Rattle.rbc_model.specs.SoundTracks.{sections_differ}
use Rattle.rbc_model.specs.Trains.{Train}
use Rattle.rbc_reach_laws.specs.Spans.{lies_in, span_met, leg_span, first_in, extent_span, authority_span}
use Rattle.rbc_reach_laws.specs.Nearest.{nearer, nearest_on, first_having}
use Rattle.rbc_reach_laws.proofs.BasicLemmas.{and_left, and_right, below}
use Rattle.std.proofs.lemmas.Bool.{lt-ltb, ltb-true}
use Rattle.rbc_search.specs.declared.stretches.Span.{Span}
use Rattle.rbc_search.specs.declared.stretches.Stretch.{Stretch}
use Rattle.rbc_search.specs.Stretches.{span_on, span_met_on, span_has, stretch_of, stretches_along, stretches_of}
use Rattle.rbc_search.specs.OnLegs.{first_from, extent_met, authority_met, nearest_in, first_train}
use Rattle.std.specs.Cmp.Derive.{one_truth}
use Rattle.rbc_model.proofs.BasicLemmas.{if_past}
use Rattle.std.proofs.lemmas.List.Sums.{fold-append}

-- ---- places and metres of the leg

lt_moved : (p a b : ℕ) → nat_lt (p + a) (p + b) ≡ nat_lt a b
lt_moved p a b =
    one_truth (nat_lt (p + a) (p + b)) (nat_lt a b)
    (λ h. let l = ltb-true (p + a) (p + b) h in lt-ltb a b (omega arith))
    (λ h. let l = ltb-true a b h in lt-ltb (p + a) (p + b) (omega arith))

moved_if : (b : Bool) (p n m : ℕ) → nearer (p + n) (if b then Some (p + m) else None) ≡ p + nearer n (if b then Some m else None)
moved_if true p n m = omega arith
moved_if false p n m = refl

-- the nearest counted from the line's start, and counted on the leg
pub nearer_moved : (start p n : ℕ) (span : Span) → nearer (p + n) (first_in start p (span.low, span.high)) ≡ p + nearer n (first_from (start - p) span)
nearer_moved start p n span =
    let low = span.low in
    let m = max (start - p) low in
    let far : max start (p + low) ≡ p + m = omega arith in
    ap (λ (z : ℕ). nearer (p + n) (if nat_lt z (p + span.high) then Some z else None)) far
    ∙ ap (λ (b : Bool). nearer (p + n) (if b then Some (p + m) else None)) (lt_moved p m span.high)
    ∙ moved_if (nat_lt m span.high) p n m

nothing_nearer : (place start p : ℕ) → nearer place (first_in start p (0, 0)) ≡ place
nothing_nearer place start p = ap (nearer place) (if_past (Some (max start (p + 0))) None (max start (p + 0)) (p + 0) (omega arith))

-- ---- one other train

abbrev pair_of : Span → ℕ × ℕ
pair_of span = (span.low, span.high)

span_is : (b : Bool) (metres q from to : ℕ) → span_met b metres q from to ≡ pair_of (span_met_on b metres (span_on metres q from to))
span_is true metres q from to = refl
span_is false metres q from to = refl

pub none_along : (track : Track) (train : Train) (section q : ℕ) (line : Line) → has_section line section ≡ false → stretches_along track train section q line ≡ []
none_along track train section q [] h = refl
none_along track train section q (leg ∷ line) h =
    ap (λ (b : Bool). if b then stretch_of track train q leg ∷ stretches_along track train section (q + metres_of track leg.section) line else stretches_along track train section (q + metres_of track leg.section) line)
    ((or_parts (leg.section == section) (has_section line section) h).0)
    ∙ none_along track train section (q + metres_of track leg.section) line ((or_parts (leg.section == section) (has_section line section) h).1)

-- a train has one stretch of the leg's section, with these spans, or none
record HasOne (track : Track) (leg : Leg) (other : Train) (list : List Stretch) (extent authority : ℕ × ℕ) : Type 0 where
  one : Stretch
  is : list ≡ one ∷ []
  number : one.train ≡ other.report.train
  extent_is : extent ≡ pair_of (extent_met leg.direction (metres_of track leg.section) one)
  authority_is : authority ≡ pair_of (authority_met leg.direction (metres_of track leg.section) one)

record HasNone (list : List Stretch) (extent authority : ℕ × ℕ) : Type 0 where
  is : list ≡ []
  extent_is : extent ≡ (0, 0)
  authority_is : authority ≡ (0, 0)

module _ (track : Track) (leg : Leg) (other : Train) where
  abbrev Has : List Stretch → ℕ × ℕ → ℕ × ℕ → Type 0
  Has list extent authority = HasNone list extent authority ⊎ HasOne track leg other list extent authority

  by_section : (b : Bool) (q : ℕ) (own : Leg) (rest : List Stretch) (extent authority : ℕ × ℕ) → (own.section == leg.section) ≡ b → (b ≡ true → rest ≡ []) → Has rest extent authority →
      Has (if b then stretch_of track other q own ∷ rest else rest)
      (if b then span_met (direction_eq own.direction leg.direction) (metres_of track leg.section) q other.rear other.front else extent)
      (if b then span_met (direction_eq own.direction leg.direction) (metres_of track leg.section) q other.from other.to else authority)
  by_section true q own rest extent authority e alone has =
      let same : metres_of track own.section ≡ metres_of track leg.section = ap (metres_of track) (eqb-true own.section leg.section e) in
      inr
      (record {
        one = stretch_of track other q own;
        is = ap (λ (l : List Stretch). stretch_of track other q own ∷ l) (alone refl);
        number = refl;
        extent_is =
            span_is (direction_eq own.direction leg.direction) (metres_of track leg.section) q other.rear other.front
            ∙ ap (λ (m : ℕ). pair_of (span_met_on (direction_eq own.direction leg.direction) (metres_of track leg.section) (span_on m q other.rear other.front))) (sym same);
        authority_is =
            span_is (direction_eq own.direction leg.direction) (metres_of track leg.section) q other.from other.to
            ∙ ap (λ (m : ℕ). pair_of (span_met_on (direction_eq own.direction leg.direction) (metres_of track leg.section) (span_on m q other.from other.to))) (sym same);
      })
  by_section false q own rest extent authority e alone has = has

  has_along : (q : ℕ) (line : Line) → sections_differ line ≡ true →
      Has (stretches_along track other leg.section q line) (leg_span track leg q other.rear other.front line) (leg_span track leg q other.from other.to line)
  has_along q [] d = inl (record { is = refl; extent_is = refl; authority_is = refl })
  has_along q (own ∷ line) d =
      let n = q + metres_of track own.section in
      by_section (own.section == leg.section) q own (stretches_along track other leg.section n line) (leg_span track leg n other.rear other.front line) (leg_span track leg n other.from other.to line) refl
      (λ e. none_along track other leg.section n line
      (subst (λ (s : ℕ). has_section line s ≡ false) (eqb-true own.section leg.section e) (not-true (has_section line own.section) (and_left (not (has_section line own.section)) (sections_differ line) d))))
      (has_along n line (and_right (not (has_section line own.section)) (sections_differ line) d))

  -- the nearest that it has
  near_one : (start p n : ℕ) (list : List Stretch) (extent authority : ℕ × ℕ) → Has list extent authority →
      p + fold (nearest_in leg.direction (metres_of track leg.section) (start - p)) n list ≡ nearer (nearer (p + n) (first_in start p extent)) (first_in start p authority)
  near_one start p n list extent authority (inl h) =
      ap (λ (l : List Stretch). p + fold (nearest_in leg.direction (metres_of track leg.section) (start - p)) n l) h.is
      ∙ sym
      (ap (λ (s : ℕ × ℕ). nearer (nearer (p + n) (first_in start p extent)) (first_in start p s)) h.authority_is
      ∙ nothing_nearer (nearer (p + n) (first_in start p extent)) start p
      ∙ ap (λ (s : ℕ × ℕ). nearer (p + n) (first_in start p s)) h.extent_is
      ∙ nothing_nearer (p + n) start p)
  near_one start p n list extent authority (inr h) =
      let e = extent_met leg.direction (metres_of track leg.section) h.one in
      let a = authority_met leg.direction (metres_of track leg.section) h.one in
      ap (λ (l : List Stretch). p + fold (nearest_in leg.direction (metres_of track leg.section) (start - p)) n l) h.is
      ∙ sym
      (ap (λ (s : ℕ × ℕ). nearer (nearer (p + n) (first_in start p extent)) (first_in start p s)) h.authority_is
      ∙ ap (λ (s : ℕ × ℕ). nearer (nearer (p + n) (first_in start p s)) (first_in start p (pair_of a))) h.extent_is
      ∙ ap (λ (z : ℕ). nearer z (first_in start p (pair_of a))) (nearer_moved start p n e)
      ∙ nearer_moved start p (nearer n (first_from (start - p) e)) a)

  -- whether it is the first that has a metre
  lies_nowhere : (k : ℕ) (x y : Option ℕ) → (if lies_in (0, 0) k then x else y) ≡ y
  lies_nowhere k x y = ap (λ (b : Bool). if b then x else y) (false_from_ne_true (lies_in (0, 0) k) (λ h. let b = below 0 0 k h in let low = b.1 in omega arith))

  first_if : (b : Bool) (s : Stretch) (o : Option Stretch) → option_map (λ (t : Stretch). t.train) (if b then Some s else o) ≡ (if b then Some s.train else option_map (λ (t : Stretch). t.train) o)
  first_if true s o = refl
  first_if false s o = refl

  first_by_extent : (k : ℕ) (list rest : List Stretch) (extent authority : ℕ × ℕ) → Has list extent authority →
      first_train (extent_met leg.direction (metres_of track leg.section)) k (list ++ rest)
      ≡ (if lies_in extent k then Some other.report.train else first_train (extent_met leg.direction (metres_of track leg.section)) k rest)
  first_by_extent k list rest extent authority (inl h) =
      let m = metres_of track leg.section in
      let after = first_train (extent_met leg.direction m) k rest in
      ap (λ (l : List Stretch). first_train (extent_met leg.direction m) k (l ++ rest)) h.is
      ∙ sym (ap (λ (s : ℕ × ℕ). if lies_in s k then Some other.report.train else after) h.extent_is ∙ lies_nowhere k (Some other.report.train) after)
  first_by_extent k list rest extent authority (inr h) =
      let m = metres_of track leg.section in
      let after = first_train (extent_met leg.direction m) k rest in
      let e = extent_met leg.direction m h.one in
      ap (λ (l : List Stretch). first_train (extent_met leg.direction m) k (l ++ rest)) h.is
      ∙ first_if (span_has e k) h.one (find (λ stretch. span_has (extent_met leg.direction m stretch) k) rest)
      ∙ ap (λ (n : ℕ). if span_has e k then Some n else after) h.number
      ∙ sym (ap (λ (s : ℕ × ℕ). if lies_in s k then Some other.report.train else after) h.extent_is)

  first_by_authority : (k : ℕ) (list rest : List Stretch) (extent authority : ℕ × ℕ) → Has list extent authority →
      first_train (authority_met leg.direction (metres_of track leg.section)) k (list ++ rest)
      ≡ (if lies_in authority k then Some other.report.train else first_train (authority_met leg.direction (metres_of track leg.section)) k rest)
  first_by_authority k list rest extent authority (inl h) =
      let m = metres_of track leg.section in
      let after = first_train (authority_met leg.direction m) k rest in
      ap (λ (l : List Stretch). first_train (authority_met leg.direction m) k (l ++ rest)) h.is
      ∙ sym (ap (λ (s : ℕ × ℕ). if lies_in s k then Some other.report.train else after) h.authority_is ∙ lies_nowhere k (Some other.report.train) after)
  first_by_authority k list rest extent authority (inr h) =
      let m = metres_of track leg.section in
      let after = first_train (authority_met leg.direction m) k rest in
      let e = authority_met leg.direction m h.one in
      ap (λ (l : List Stretch). first_train (authority_met leg.direction m) k (l ++ rest)) h.is
      ∙ first_if (span_has e k) h.one (find (λ stretch. span_has (authority_met leg.direction m stretch) k) rest)
      ∙ ap (λ (n : ℕ). if span_has e k then Some n else after) h.number
      ∙ sym (ap (λ (s : ℕ × ℕ). if lies_in s k then Some other.report.train else after) h.authority_is)

-- ---- all other trains

having_if : (b : Bool) (x : Train) (o : Option Train) → option_map (λ (t : Train). t.report.train) (if b then Some x else o) ≡ (if b then Some x.report.train else option_map (λ (t : Train). t.report.train) o)
having_if true x o = refl
having_if false x o = refl

abbrev pub LinesDiffer : List Train → Type 0
LinesDiffer trains = AllByRecursion (λ (other : Train). sections_differ other.line ≡ true) trains

module _ (track : Track) (leg : Leg) where
  pub near_all : (start p n : ℕ) (trains : List Train) → LinesDiffer trains →
      p + fold (nearest_in leg.direction (metres_of track leg.section) (start - p)) n (stretches_of track trains leg.section) ≡ fold (nearest_on track start p leg) (p + n) trains
  near_all start p n [] d = refl
  near_all start p n (other ∷ trains) d =
      let f = nearest_in leg.direction (metres_of track leg.section) (start - p) in
      let own = stretches_along track other leg.section 0 other.line in
      ap (λ (z : ℕ). p + z) (fold-append f n own (stretches_of track trains leg.section))
      ∙ near_all start p (fold f n own) trains d.1
      ∙ ap (λ (z : ℕ). fold (nearest_on track start p leg) z trains)
      (near_one track leg other start p n own (extent_span track other leg) (authority_span track other leg) (has_along track leg other 0 other.line d.0))

  pub first_occupied : (k : ℕ) (trains : List Train) → LinesDiffer trains →
      first_train (extent_met leg.direction (metres_of track leg.section)) k (stretches_of track trains leg.section) ≡ first_having (λ other. extent_span track other leg) k trains
  first_occupied k [] d = refl
  first_occupied k (other ∷ trains) d =
      first_by_extent track leg other k (stretches_along track other leg.section 0 other.line) (stretches_of track trains leg.section) (extent_span track other leg) (authority_span track other leg) (has_along track leg other 0 other.line d.0)
      ∙ ap (λ (o : Option ℕ). if lies_in (extent_span track other leg) k then Some other.report.train else o) (first_occupied k trains d.1)
      ∙ sym (having_if (lies_in (extent_span track other leg) k) other (find (λ o. lies_in (extent_span track o leg) k) trains))

  pub first_held : (k : ℕ) (trains : List Train) → LinesDiffer trains →
      first_train (authority_met leg.direction (metres_of track leg.section)) k (stretches_of track trains leg.section) ≡ first_having (λ other. authority_span track other leg) k trains
  first_held k [] d = refl
  first_held k (other ∷ trains) d =
      first_by_authority track leg other k (stretches_along track other leg.section 0 other.line) (stretches_of track trains leg.section) (extent_span track other leg) (authority_span track other leg) (has_along track leg other 0 other.line d.0)
      ∙ ap (λ (o : Option ℕ). if lies_in (authority_span track other leg) k then Some other.report.train else o) (first_held k trains d.1)
      ∙ sym (having_if (lies_in (authority_span track other leg) k) other (find (λ o. lies_in (authority_span track o leg) k) trains))
