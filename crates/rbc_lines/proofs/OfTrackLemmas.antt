-- The legs of a sound track's links, groups and routes are of its sections.
use Rattle.std.proofs.Common.{◌≡◌, ℕ, ◌+◌, ◌<◌, ◌≤◌, true, not, ◌&&◌, List, [], ◌∷◌, ◌++◌, length, drop, get_or, drop-cons, add-one, Option, Some, None, nat_le, nat_lt, subst, sym}
use Rattle.std.specs.Prelude.{◌==◌, All}
use Rattle.std.specs.List.{AllByRecursion, list_any, list_all}
use Rattle.std.specs.Option.{option_map_or}
use Rattle.std.proofs.lemmas.Bool.{ltb-true, leb-true}
use Rattle.std.proofs.lemmas.List.{at_drop_all}
use Rattle.std.proofs.lemmas.List.Elements.{All-from_recursion}
use Rattle.rbc_model.specs.declared.limits.TheConstants.{MOST_LEGS}
use Rattle.rbc_model.specs.declared.places.Leg.{Leg}
use Rattle.rbc_model.specs.declared.tracks.BaliseGroup.{BaliseGroup}
use Rattle.rbc_model.specs.declared.tracks.Link.{Link}
use Rattle.rbc_model.specs.SoundTracks.{IsSound, is_leg_of, is_good_link, is_good_group, is_good_route, is_good_entry, sections_differ, are_linked, but_last, each_passes}
use Rattle.rbc_model.specs.Tracks.{Route, Track, joins, metres_of, is_linked, leg_eq}
use Rattle.rbc_model.proofs.BasicLemmas.{each_of}
use Rattle.rbc_model.proofs.CountingLemmas.{both_of}
use Rattle.rbc_model.proofs.PartRowLemmas.{each_so}
use Rattle.rbc_scene_laws.proofs.LengtheningLemmas.{linked_from_below}
use Rattle.rbc_lines.specs.TrackText.{IsLegOf, LinkIsOfTrack, EntryIsOfTrack, RouteIsOfTrack}

-- what holds of the first that is left, and of those behind it
pub all-next : {X : Type 0} (P : X → Type 0) (xs : List X) (index : ℕ) (x : X) → index < length xs → x ≡ get_or xs index x → P x
    → AllByRecursion P (drop (index + 1) xs) → AllByRecursion P (drop index xs)
all-next P xs index x inside same here rest =
    subst (AllByRecursion P) (sym (drop-cons xs index x inside)) (subst P same here, subst (λ i. AllByRecursion P (drop i xs)) (add-one index) rest)

-- none is left
pub all-end : {X : Type 0} (P : X → Type 0) (xs : List X) (index : ℕ) → length xs ≤ index → AllByRecursion P (drop index xs)
all-end P xs index past = subst (AllByRecursion P) (sym (at_drop_all (λ ys. ys) xs index past)) tt

module _ (track : Track) (sound : IsSound track) where
  good_links : (earlier links : List Link) → each_passes (is_good_link track) earlier links ≡ true → AllByRecursion (LinkIsOfTrack track) links
  good_links earlier [] h = tt
  good_links earlier (link ∷ links) h =
      let p = is_leg_of track link.from in
      let q = is_leg_of track link.to in
      let r = not (link.from.section == link.to.section) in
      let s = not (list_any (joins link.from link.to) earlier) in
      let b = both_of (is_good_link track earlier link) (each_passes (is_good_link track) (earlier ++ link ∷ []) links) h in
      let pq = both_of p q (both_of (p && q) r (both_of (p && q && r) s b.0).0).0 in
      let n = length track.sections in
      (record { from = ltb-true link.from.section n pq.0; to = ltb-true link.to.section n pq.1 }, good_links (earlier ++ link ∷ []) links b.1)

  pub links_of_track : AllByRecursion (LinkIsOfTrack track) track.links
  links_of_track = good_links [] track.links sound.links

  pub each_link : All (LinkIsOfTrack track) track.links
  each_link = All-from_recursion (LinkIsOfTrack track) track.links links_of_track

  -- a group stands on a section, and not beyond its end
  pub record GroupStands (group : BaliseGroup) : Type 0 where
    pub section : group.section < length track.sections
    pub offset : group.offset ≤ metres_of track group.section

  group_stands : (group : BaliseGroup) → is_good_group track group ≡ true → GroupStands group
  group_stands group good =
      let b = both_of (nat_lt group.section (length track.sections)) (nat_le group.offset (metres_of track group.section)) good in
      record { section = ltb-true group.section (length track.sections) b.0; offset = leb-true group.offset (metres_of track group.section) b.1 }

  pub groups_stand : AllByRecursion GroupStands track.groups
  groups_stand = each_so group_stands track.groups (each_of (is_good_group track) track.groups sound.groups)

  pub each_group : All (λ group. group.section < length track.sections) track.groups
  each_group = All-from_recursion (λ (group : BaliseGroup). group.section < length track.sections) track.groups (each_so (λ group stands. stands.section) track.groups groups_stand)

  entry_of_track : (legs : List Leg) (entry : Option Leg) → option_map_or (is_good_entry track legs) entry true ≡ true → EntryIsOfTrack track entry
  entry_of_track legs None good = tt
  entry_of_track [] (Some leg) good = absurd (let never : ⊥ = cc in never)
  entry_of_track (first ∷ legs) (Some leg) good =
      linked_from_below track leg first sound (both_of (is_linked track leg first) (not (list_any (leg_eq leg) (but_last (first ∷ legs)))) good).0

  pub legs_of_track : (legs : List Leg) → list_all (is_leg_of track) legs ≡ true → AllByRecursion (IsLegOf track) legs
  legs_of_track legs h = each_so (λ leg is. ltb-true leg.section (length track.sections) is) legs (each_of (is_leg_of track) legs h)

  route_of_track : (route : Route) → is_good_route track route ≡ true → RouteIsOfTrack track route
  route_of_track route good =
      let a = nat_le 1 (length route.legs) in
      let b = nat_le (length route.legs) MOST_LEGS in
      let c = list_all (is_leg_of track) route.legs in
      let d = sections_differ route.legs in
      let e = are_linked track route.legs in
      let f = option_map_or (is_good_entry track route.legs) route.after true in
      let last = both_of (a && b && c && d && e) f good in
      let legs = both_of (a && b) c (both_of (a && b && c) d (both_of (a && b && c && d) e last.0).0).0 in
      record { entry = entry_of_track route.legs route.after last.1; legs = All-from_recursion (IsLegOf track) route.legs (legs_of_track route.legs legs.1) }

  pub routes_of_track : AllByRecursion (RouteIsOfTrack track) track.routes
  routes_of_track = each_so route_of_track track.routes (each_of (is_good_route track) track.routes sound.routes)

  pub each_route : All (RouteIsOfTrack track) track.routes
  each_route = All-from_recursion (RouteIsOfTrack track) track.routes routes_of_track
