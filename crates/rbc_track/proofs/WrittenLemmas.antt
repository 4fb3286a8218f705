-- What is written of links and routes is good exactly where it is good by numbers.
use Rattle.std.proofs.Common.{◌≡◌, ℕ, zero, suc, ◌+◌, ◌≤◌, Bool, true, false, not, ◌||◌, ◌&&◌, ◌==◌, cond, nat_lt, nat_le, bytes_eq, List, [], ◌∷◌, ◌++◌, length, map, take, Ok, Option, Some, None, refl, sym, ap, ap₂, ◌∙◌, arith, Decides}
use Rattle.std.specs.List.{list_all, list_any, position_or_len}
use Rattle.std.specs.Option.{option_map_or, unwrap_or}
use Rattle.std.specs.Prelude.{option_map}
use Rattle.std.proofs.lemmas.List.{length-map}
use Rattle.std.proofs.lemmas.List.Folds.{list_all-append}
use Rattle.std.proofs.lemmas.Slice.Eq.{bytes_eq-Decides}
use Rattle.std.proofs.lemmas.Bool.Decides.{nat_tests, same_from_decides}
use Rattle.rbc_model.specs.declared.limits.TheConstants.{MOST_LEGS}
use Rattle.rbc_model.specs.declared.places.Leg.{Leg}
use Rattle.rbc_model.specs.declared.tracks.Link.{Link}
use Rattle.rbc_model.specs.declared.tracks.TrackRefusal.{TrackRefusal}
use Rattle.rbc_model.specs.declared.tracks.TrackRefusal.TheVariants.{BadLink}
use Rattle.rbc_model.specs.Names.{LegName}
use Rattle.rbc_model.specs.Results.{unless, demand}
use Rattle.rbc_model.specs.Tracks.{Section, direction_eq, leg_eq, joins}
use Rattle.rbc_model.specs.TrackParts.{LinkPart, RoutePart, section_number, leg_of, link_of, route_of}
use Rattle.rbc_model.specs.SoundTracks.{link_refusal, is_leg_of, is_good_link, sections_differ, are_linked, but_last, is_good_entry, is_good_route}
use Rattle.rbc_model.proofs.CountingLemmas.{both_of}
use Rattle.rbc_model.proofs.BasicLemmas.{number_turned}
use Rattle.rbc_track.specs.Tables.{with_links}
use Rattle.rbc_track.proofs.JudgingLemmas.{by_refusal}
use Rattle.rbc_track.specs.Written.{written_eq, written_reverse, writes, written_joins, are_joined, is_on, lies_on, is_good_written_link, names_differ, are_all_joined, is_good_written_entry, is_good_written_route}

-- ---- texts

pub bytes_turned : (a b : List ℕ) → bytes_eq a b ≡ bytes_eq b a
bytes_turned a b = same_from_decides (bytes_eq a b) (bytes_eq b a) (bytes_eq-Decides a b) (turned (bytes_eq b a) (bytes_eq-Decides b a))
  where
    turned : (t : Bool) → Decides t (b ≡ a) → Decides t (a ≡ b)
    turned t d = (λ e. sym (d.0 e), λ e. d.1 (sym e))

bytes_same : (a b : List ℕ) → bytes_eq a b ≡ true → a ≡ b
bytes_same a b = (bytes_eq-Decides a b).0

-- ---- the place of a name

abbrev named : List ℕ → Section → Bool
named name section = bytes_eq section.name name

abbrev place : List Section → List ℕ → ℕ
place sections name = position_or_len (named name) sections

one_more : (t : Bool) (p n : ℕ) → p ≤ n → cond (not t) (1 + p) 0 ≤ suc n
one_more true p n h = omega arith
one_more false p n h = omega arith

place_most : (sections : List Section) (name : List ℕ) → place sections name ≤ length sections
place_most [] name = omega arith
place_most (s ∷ sections) name = one_more (named name s) (place sections name) (length sections) (place_most sections name)

by_place : (p n : ℕ) (below : Bool) → nat_lt p n ≡ below → p ≤ n → unwrap_or (cond below (Some p) None) n ≡ p
by_place p n true e h = refl
by_place p n false e h = grind (arith, nat_tests)

number_place : (sections : List Section) (name : List ℕ) → section_number sections name ≡ place sections name
number_place sections name = by_place (place sections name) (length sections) (nat_lt (place sections name) (length sections)) refl (place_most sections name)

below_next : (t any : Bool) (p n : ℕ) → any ≡ nat_lt p n → (t || any) ≡ nat_lt (cond (not t) (1 + p) 0) (suc n)
below_next true any p n e = grind (arith, nat_tests)
below_next false any p n e = e ∙ (grind (arith, nat_tests))

place_within : (sections : List Section) (name : List ℕ) → list_any (named name) sections ≡ nat_lt (place sections name) (length sections)
place_within [] name = refl
place_within (s ∷ sections) name = below_next (named name s) (list_any (named name) sections) (place sections name) (length sections) (place_within sections name)

both_later : (m n : ℕ) → (1 + m == 1 + n) ≡ (m == n)
both_later m n = grind arith

first_later : (n : ℕ) → (0 == 1 + n) ≡ false
first_later n = grind arith

later_first : (n : ℕ) → (1 + n == 0) ≡ false
later_first n = grind arith

two_places : (ta tb : Bool) (pa pb : ℕ) (rest same : Bool) → (ta ≡ true → tb ≡ same) → (tb ≡ true → ta ≡ same) → (rest ≡ true → (pb == pa) ≡ same) → (ta || rest) ≡ true
    → (cond (not tb) (1 + pb) 0 == cond (not ta) (1 + pa) 0) ≡ same
two_places true true pa pb rest same a b later h = a refl
two_places true false pa pb rest same a b later h = later_first pb ∙ a refl
two_places false true pa pb rest same a b later h = first_later pa ∙ b refl
two_places false false pa pb rest same a b later h = both_later pb pa ∙ later h

place_same : (sections : List Section) (a b : List ℕ) → list_any (named a) sections ≡ true → (place sections b == place sections a) ≡ bytes_eq b a
place_same [] a b h = cc
place_same (s ∷ sections) a b h =
    two_places (named a s) (named b s) (place sections a) (place sections b) (list_any (named a) sections) (bytes_eq b a)
    (λ e. ap (λ n. bytes_eq n b) (bytes_same s.name a e) ∙ bytes_turned a b)
    (λ e. ap (λ n. bytes_eq n a) (bytes_same s.name b e))
    (place_same sections a b) h

-- ---- legs and links

module _ (sections : List Section) where
  -- a leg is on the sections where its number is one of theirs
  leg_within : (leg : LegName) → is_on sections leg ≡ nat_lt (section_number sections leg.section) (length sections)
  leg_within leg = place_within sections leg.section ∙ ap (λ p. nat_lt p (length sections)) (sym (number_place sections leg.section))

  -- its section is another leg's where their names are the same
  section_same : (a b : LegName) → is_on sections a ≡ true → (section_number sections b.section == section_number sections a.section) ≡ bytes_eq b.section a.section
  section_same a b on = ap₂ (λ m n. m == n) (number_place sections b.section) (number_place sections a.section) ∙ place_same sections a.section b.section on

  section_back : (a b : LegName) → is_on sections a ≡ true → (section_number sections a.section == section_number sections b.section) ≡ bytes_eq a.section b.section
  section_back a b on =
      number_turned (section_number sections a.section) (section_number sections b.section) ∙ section_same a b on ∙ bytes_turned b.section a.section

  leg_same : (a b : LegName) → is_on sections a ≡ true → leg_eq (leg_of sections b) (leg_of sections a) ≡ written_eq b a
  leg_same a b on = ap (λ t. t && direction_eq b.direction a.direction) (section_same a b on)

  leg_back : (a b : LegName) → is_on sections a ≡ true → leg_eq (leg_of sections a) (leg_of sections b) ≡ written_eq a b
  leg_back a b on = ap (λ t. t && direction_eq a.direction b.direction) (section_back a b on)

  abbrev names_both : Leg → Leg → Link → Bool
  names_both from to link = leg_eq link.from from && leg_eq link.to to

  writes_same : (link : LinkPart) (from to : LegName) → is_on sections link.from ≡ true → is_on sections link.to ≡ true
      → names_both (leg_of sections from) (leg_of sections to) (link_of sections link) ≡ writes from to link
  writes_same link from to first second = ap₂ (λ s t. s && t) (leg_back link.from from first) (leg_back link.to to second)

  joins_same : (link : LinkPart) (from to : LegName) → lies_on sections link ≡ true → joins (leg_of sections from) (leg_of sections to) (link_of sections link) ≡ written_joins from to link
  joins_same link from to on =
      let both = both_of (is_on sections link.from) (is_on sections link.to) on in
      ap₂ (λ s t. s || t) (writes_same link from to both.0 both.1) (writes_same link (written_reverse to) (written_reverse from) both.0 both.1)

  joined : (links : List LinkPart) (from to : LegName) → list_all (lies_on sections) links ≡ true
      → list_any (joins (leg_of sections from) (leg_of sections to)) (map (link_of sections) links) ≡ are_joined links from to
  joined [] from to on = refl
  joined (link ∷ links) from to on =
      let both = both_of (lies_on sections link) (list_all (lies_on sections) links) on in
      ap₂ (λ s t. s || t) (joins_same link from to both.0) (joined links from to both.1)

  alike_to_last : (a b c d a' b' c' d' : Bool) → a ≡ a' → b ≡ b' → (a ≡ true → c ≡ c') → d ≡ d' → (a && b && c && d) ≡ (a' && b' && c' && d')
  alike_to_last true b c d a' b' c' d' e f g h = sym (rw (← e, ← f, ← g refl, ← h) refl)
  alike_to_last false b c d a' b' c' d' e f g h = sym (rw (← e) refl)

  -- a link is good where it is by its numbers
  pub good_link : (earlier : List LinkPart) (link : LinkPart) → list_all (lies_on sections) earlier ≡ true
      → is_good_written_link sections earlier link ≡ is_good_link (with_links sections []) (map (link_of sections) earlier) (link_of sections link)
  good_link earlier link on =
      alike_to_last _ _ _ _ _ _ _ _ (leg_within link.from) (leg_within link.to) (λ first. ap not (sym (section_back link.from link.to first))) (ap not (sym (joined earlier link.from link.to on)))

  -- and is judged so
  pub link_judged : (earlier : List LinkPart) (link : LinkPart) → list_all (lies_on sections) earlier ≡ true
      → demand (is_good_written_link sections earlier link) (BadLink (length earlier + 1))
      ≡ unless (link_refusal (with_links sections []) (map (link_of sections) earlier) (link_of sections link)) (Ok tt)
  link_judged earlier link on =
      ap₂ (λ b n. demand b (BadLink (n + 1))) (good_link earlier link on) (sym (length-map earlier (link_of sections)))
      ∙ by_refusal (is_good_link (with_links sections []) (map (link_of sections) earlier) (link_of sections link)) (BadLink (length (map (link_of sections) earlier) + 1))

  demanded : (b : Bool) (refusal : TrackRefusal) → demand b refusal ≡ Ok tt → b ≡ true
  demanded true refusal e = refl
  demanded false refusal e = cc

  both_first : (a b c d : Bool) → (a && b && c && d) ≡ true → (a && b) ≡ true
  both_first true true c d e = refl
  both_first true false c d e = cc
  both_first false b c d e = cc

  both_hold : (a b : Bool) → a ≡ true → b ≡ true → (a && (b && true)) ≡ true
  both_hold a b e f = rw (e, f) refl

  -- its legs are on the sections then
  pub link_lies : (earlier more : List LinkPart) (link : LinkPart) → list_all (lies_on sections) earlier ≡ true
      → demand (is_good_written_link sections earlier link) (BadLink (length earlier + 1)) ≡ Ok tt → more ≡ earlier ++ link ∷ [] → list_all (lies_on sections) more ≡ true
  link_lies earlier more link on good grown =
      ap (list_all (lies_on sections)) grown ∙ list_all-append (lies_on sections) earlier (link ∷ [])
      ∙ both_hold (list_all (lies_on sections) earlier) (lies_on sections link) on
      (both_first (is_on sections link.from) (is_on sections link.to) _ _ (demanded (is_good_written_link sections earlier link) (BadLink (length earlier + 1)) good))

  -- ---- routes

  all_within : (legs : List LegName) → list_all (is_on sections) legs ≡ list_all (is_leg_of (with_links sections [])) (map (leg_of sections) legs)
  all_within [] = refl
  all_within (leg ∷ legs) = ap₂ (λ s t. s && t) (leg_within leg) (all_within legs)

  any_section : (leg : LegName) (legs : List LegName) → is_on sections leg ≡ true
      → list_any (λ other. other.section == section_number sections leg.section) (map (leg_of sections) legs) ≡ list_any (λ other. bytes_eq other.section leg.section) legs
  any_section leg [] on = refl
  any_section leg (other ∷ legs) on = ap₂ (λ s t. s || t) (section_same leg other on) (any_section leg legs on)

  differ_same : (legs : List LegName) → list_all (is_on sections) legs ≡ true → sections_differ (map (leg_of sections) legs) ≡ names_differ legs
  differ_same [] on = refl
  differ_same (leg ∷ legs) on =
      let both = both_of (is_on sections leg) (list_all (is_on sections) legs) on in
      ap₂ (λ s t. not s && t) (any_section leg legs both.0) (differ_same legs both.1)

  any_leg : (after : LegName) (legs : List LegName) → list_all (is_on sections) legs ≡ true
      → list_any (leg_eq (leg_of sections after)) (map (leg_of sections) legs) ≡ list_any (written_eq after) legs
  any_leg after [] on = refl
  any_leg after (leg ∷ legs) on =
      let both = both_of (is_on sections leg) (list_all (is_on sections) legs) on in
      ap₂ (λ s t. s || t) (leg_same leg after both.0) (any_leg after legs both.1)

  front_on : (n : ℕ) (legs : List LegName) → list_all (is_on sections) legs ≡ true → list_all (is_on sections) (take n legs) ≡ true
  front_on zero legs on = refl
  front_on (suc n) [] on = refl
  front_on (suc n) (leg ∷ legs) on =
      let both = both_of (is_on sections leg) (list_all (is_on sections) legs) on in
      ap₂ (λ s t. s && t) both.0 (front_on n legs both.1)

  but_last_same : (first : LegName) (legs : List LegName) → but_last (map (leg_of sections) (first ∷ legs)) ≡ map (leg_of sections) (take (length legs) (first ∷ legs))
  but_last_same first [] = refl
  but_last_same first (next ∷ legs) = ap (λ rest. leg_of sections first ∷ rest) (but_last_same next legs)

  module _ (links : List LinkPart) (on : list_all (lies_on sections) links ≡ true) where
    linked_same : (legs : List LegName) → are_linked (with_links sections (map (link_of sections) links)) (map (leg_of sections) legs) ≡ are_all_joined links legs
    linked_same [] = refl
    linked_same (leg ∷ []) = refl
    linked_same (leg ∷ next ∷ legs) = ap₂ (λ s t. s && t) (joined links leg next on) (linked_same (next ∷ legs))

    entry_same : (legs : List LegName) (after : LegName) → list_all (is_on sections) legs ≡ true
        → is_good_entry (with_links sections (map (link_of sections) links)) (map (leg_of sections) legs) (leg_of sections after) ≡ is_good_written_entry links legs after
    entry_same [] after legs_on = refl
    entry_same (first ∷ legs) after legs_on =
        ap₂ (λ s t. s && not t) (joined links after first on)
        (ap (list_any (leg_eq (leg_of sections after))) (but_last_same first legs) ∙ any_leg after (take (length legs) (first ∷ legs)) (front_on (length legs) (first ∷ legs) legs_on))

    entry_if_any : (legs : List LegName) (after : Option LegName) → list_all (is_on sections) legs ≡ true
        → option_map_or (is_good_entry (with_links sections (map (link_of sections) links)) (map (leg_of sections) legs)) (option_map (leg_of sections) after) true
        ≡ option_map_or (is_good_written_entry links legs) after true
    entry_if_any legs None legs_on = refl
    entry_if_any legs (Some after) legs_on = entry_same legs after legs_on

    all_alike : (a b c d e f a' b' c' d' e' f' : Bool) → a ≡ a' → b ≡ b' → c ≡ c' → (c ≡ true → d ≡ d') → e ≡ e' → (c ≡ true → f ≡ f')
        → (a && b && c && d && e && f) ≡ (a' && b' && c' && d' && e' && f')
    all_alike true true true d e f a' b' c' d' e' f' p q r s t u = sym (rw (← p, ← q, ← r, ← s refl, ← t, ← u refl) refl)
    all_alike true true false d e f a' b' c' d' e' f' p q r s t u = sym (rw (← p, ← q, ← r) refl)
    all_alike true false c d e f a' b' c' d' e' f' p q r s t u = sym (rw (← p, ← q) refl)
    all_alike false b c d e f a' b' c' d' e' f' p q r s t u = sym (rw (← p) refl)

    -- a route is good where it is by its numbers
    pub good_route : (route : RoutePart) → is_good_written_route sections links route ≡ is_good_route (with_links sections (map (link_of sections) links)) (route_of sections route)
    good_route route =
        all_alike _ _ _ _ _ _ _ _ _ _ _ _ (ap (nat_le 1) (sym (length-map route.legs (leg_of sections)))) (ap (λ n. nat_le n MOST_LEGS) (sym (length-map route.legs (leg_of sections))))
        (all_within route.legs) (λ legs_on. sym (differ_same route.legs legs_on)) (sym (linked_same route.legs)) (λ legs_on. sym (entry_if_any route.legs route.after legs_on))
