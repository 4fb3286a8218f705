-- The lines of a sound track are read back as that track, and no other text is read as a track.
use Rattle.std.proofs.Common.{◌≡◌, ℕ, zero, suc, ◌<◌, ◌≤◌, Bool, true, false, cond, List, [], ◌∷◌, length, map, Option, Some, None, Ok, refl, ap, ap₂, subst, ◌∙◌, arith, nat_le, nat_lt}
use Rattle.std.specs.Prelude.{IsTrue, bytes_eq, slice_get, option_map}
use Rattle.std.specs.List.{AllByRecursion, list_all}
use Rattle.std.specs.Option.{option_map_or, option_and_then, unwrap_or}
use Rattle.std.specs.Result.{result_ok}
use Rattle.std.proofs.lemmas.Bool.{leb-true, ltb-true}
use Rattle.std.proofs.lemmas.List.Elements.{recursion_from_All}
use Rattle.std.proofs.lemmas.Option.{same_Some}
use Rattle.std.proofs.lemmas.Slice.Eq.{bytes_eq-Decides}
use Rattle.rbc_model.specs.declared.limits.TheConstants.{LONGEST_TRACK}
use Rattle.rbc_model.specs.declared.places.Leg.{Leg}
use Rattle.rbc_model.specs.declared.tracks.BaliseGroup.{BaliseGroup}
use Rattle.rbc_model.specs.declared.tracks.Link.{Link}
use Rattle.rbc_model.specs.declared.tracks.TrackRefusal.{TrackRefusal}
use Rattle.rbc_model.specs.GroupNames.{IsGroupName}
use Rattle.rbc_model.specs.Kinds.{Kind, speed_kind, grade_kind}
use Rattle.rbc_model.specs.Levels.{speed_levels, grade_levels}
use Rattle.rbc_model.specs.Names.{LegName, is_name}
use Rattle.rbc_model.specs.Profiles.{starts_of, IsTrackFunction}
use Rattle.rbc_model.specs.Results.{unless}
use Rattle.rbc_model.specs.Rows.{rows_of}
use Rattle.rbc_model.specs.SessionReply.{section_word}
use Rattle.rbc_model.specs.SoundTracks.{IsInForm, IsSound, track_refusal}
use Rattle.rbc_model.specs.TrackLines.{named_leg, named_link, named_group, named_route, named_parts, part_rows, parts_in, track_lines, if_lines_of, read_track_lines, HasNames}
use Rattle.rbc_model.specs.TrackParts.{Parts, leg_of, link_of, group_of, route_of, resolved, track_of}
use Rattle.rbc_model.specs.Tracks.{Section, Route, Track}
use Rattle.rbc_model.proofs.BasicLemmas.{each_of}
use Rattle.rbc_model.proofs.CountingLemmas.{both_of}
use Rattle.rbc_model.proofs.NamedLemmas.{named_again}
use Rattle.rbc_model.proofs.PartRowLemmas.{IsToldSection, IsToldLink, IsToldGroup, IsToldRoute, AreTold, each_so, parts_read, parts_are_rows}
use Rattle.rbc_model.proofs.RowLemmas.{IsNamedIfAny, IsRun, rows_read}
use Rattle.rbc_model.proofs.SoundTrackLemmas.{IsSound-track_refusal, track_refusal-IsSound}
use Rattle.rbc_lines.specs.TrackLaws.{TrackLinesAreReadBack, IsLinesOf, ReadLinesAreOfTracks}
use Rattle.rbc_lines.specs.TrackText.{IsLegOf, LinkIsOfTrack, EntryIsOfTrack, RouteIsOfTrack}
use Rattle.rbc_lines.proofs.OfTrackLemmas.{links_of_track, GroupStands, groups_stand, routes_of_track}

-- ---- lists

-- what is led there and back is as before
map_back : {X Y : Type 0} (back : Y → X) (there : X → Y) (xs : List X) → AllByRecursion (λ x. back (there x) ≡ x) xs → map back (map there xs) ≡ xs
map_back back there [] all = refl
map_back {X} back there (x ∷ xs) all = ap₂ (λ (y : X) (ys : List X). y ∷ ys) all.0 (map_back back there xs all.1)

all_led : {X Y : Type 0} (P : Y → Type 0) (f : X → Y) (xs : List X) → AllByRecursion (λ x. P (f x)) xs → AllByRecursion P (map f xs)
all_led P f [] all = tt
all_led P f (x ∷ xs) all = (all.0, all_led P f xs all.1)

all_both : {X : Type 0} {P Q R : X → Type 0} → ((x : X) → P x → Q x → R x) → (xs : List X) → AllByRecursion P xs → AllByRecursion Q xs → AllByRecursion R xs
all_both so [] p q = tt
all_both so (x ∷ xs) p q = (so x p.0 q.0, all_both so xs p.1 q.1)

-- ---- names

word_is_name : (sections : List Section) → AllByRecursion (λ section. is_name section.name ≡ true) sections → (k : ℕ) → k < length sections
    → is_name (option_map_or (λ section. section.name) (slice_get sections k) []) ≡ true
word_is_name [] named k inside = absurd (omega arith)
word_is_name (section ∷ sections) named zero inside = named.0
word_is_name (section ∷ sections) named (suc k) inside = word_is_name sections named.1 k (omega arith)

metres_small : (sections : List Section) → AllByRecursion (λ section. nat_le section.metres LONGEST_TRACK ≡ true) sections → (k : ℕ)
    → option_map_or (λ section. section.metres) (slice_get sections k) 0 ≤ LONGEST_TRACK
metres_small [] few k = omega arith
metres_small (section ∷ sections) few zero = leb-true section.metres LONGEST_TRACK few.0
metres_small (section ∷ sections) few (suc k) = metres_small sections few.1 k

-- ---- runs

runs_told : {V : Type 0} (kind : Kind V) (n : ℕ) → n ≤ LONGEST_TRACK → (runs : List (ℕ × V)) → list_all (λ start. nat_lt start n) (starts_of runs) ≡ true → list_all (λ run. kind.levels.in_range run.1) runs ≡ true
    → AllByRecursion (IsRun kind) runs
runs_told kind n short [] inside values = tt
runs_told kind n short (run ∷ runs) inside values =
    let i = both_of (nat_lt run.0 n) (list_all (λ start. nat_lt start n) (starts_of runs)) inside in
    let v = both_of (kind.levels.in_range run.1) (list_all (λ run. kind.levels.in_range run.1) runs) values in
    let below = ltb-true run.0 n i.0 in
    (record { start = omega arith; value = v.0 }, runs_told kind n short runs i.1 v.1)

-- ---- a track

module _ (track : Track) (form : IsInForm track) (sound : IsSound track) (names : HasNames track) where
  section_names : AllByRecursion (λ section. is_name section.name ≡ true) track.sections
  section_names = recursion_from_All (λ (section : Section). IsTrue (is_name section.name)) track.sections names.sections

  leg_is_named : (leg : Leg) → IsLegOf track leg → is_name (section_word track leg.section) ≡ true
  leg_is_named leg inside = word_is_name track.sections section_names leg.section inside

  -- a leg's section is found by its name
  leg_back : (leg : Leg) → IsLegOf track leg → leg_of track.sections (named_leg track leg) ≡ leg
  leg_back leg inside =
      ap (λ found. let l : Leg = record { section = unwrap_or found (length track.sections); direction = leg.direction } in l)
      (named_again (λ (section : Section). section.name) track.sections leg.section sound.section_names (leg_is_named leg inside))

  link_back : (link : Link) → LinkIsOfTrack track link → link_of track.sections (named_link track link) ≡ link
  link_back link of =
      ap₂ (λ from to. let l : Link = record { from = from; to = to } in l) (leg_back link.from of.from) (leg_back link.to of.to)

  group_back : (group : BaliseGroup) → GroupStands track sound group → group_of track.sections (named_group track group) ≡ group
  group_back group stands =
      ap (λ (leg : Leg). let g : BaliseGroup = record { name = group.name; section = leg.section; offset = group.offset; nominal = group.nominal } in g)
      (leg_back (record { section = group.section; direction = group.nominal }) stands.section)

  entry_back : (entry : Option Leg) → EntryIsOfTrack track entry → option_map (leg_of track.sections) (option_map (named_leg track) entry) ≡ entry
  entry_back None of = refl
  entry_back (Some leg) of = ap (λ (l : Leg). Some l) (leg_back leg of)

  legs_back : (legs : List Leg) → AllByRecursion (IsLegOf track) legs → map (leg_of track.sections) (map (named_leg track) legs) ≡ legs
  legs_back legs of = map_back (leg_of track.sections) (named_leg track) legs (each_so leg_back legs of)

  legs_of : (route : Route) → RouteIsOfTrack track route → AllByRecursion (IsLegOf track) route.legs
  legs_of route of = recursion_from_All (IsLegOf track) route.legs of.legs

  route_back : (route : Route) → RouteIsOfTrack track route → route_of track.sections (named_route track route) ≡ route
  route_back route of =
      ap₂ (λ after legs. let r : Route = record { name = route.name; after = after; legs = legs } in r) (entry_back route.after of.entry) (legs_back route.legs (legs_of route of))

  made : List Link → List BaliseGroup → List Route → Track
  made links groups routes = record {
    format = track.format;
    speed_steps = track.speed_steps;
    grade_steps = track.grade_steps;
    sections = track.sections;
    links = links;
    groups = groups;
    routes = routes;
  }

  -- the parts make the track again
  parts_back : resolved (named_parts track) ≡ track
  unfolding made
  parts_back =
      let links = map (link_of track.sections) (map (named_link track) track.links) in
      let groups = map (group_of track.sections) (map (named_group track) track.groups) in
      let routes = map (route_of track.sections) (map (named_route track) track.routes) in
      ap (λ ls. made ls groups routes) (map_back (link_of track.sections) (named_link track) track.links (each_so link_back track.links (links_of_track track sound)))
      ∙ ap (λ gs. made track.links gs routes) (map_back (group_of track.sections) (named_group track) track.groups (each_so group_back track.groups (groups_stand track sound)))
      ∙ ap (λ rs. made track.links track.groups rs) (map_back (route_of track.sections) (named_route track) track.routes (each_so route_back track.routes (routes_of_track track sound)))

  -- ---- and can be told

  few_metres : AllByRecursion (λ section. nat_le section.metres LONGEST_TRACK ≡ true) track.sections
  few_metres = each_of (λ (section : Section). nat_le section.metres LONGEST_TRACK) track.sections form.few_metres

  speeds_are : AllByRecursion (λ section. IsTrackFunction speed_levels section.metres section.speeds) track.sections
  speeds_are = recursion_from_All (λ (section : Section). IsTrackFunction speed_levels section.metres section.speeds) track.sections form.speeds

  grades_are : AllByRecursion (λ section. IsTrackFunction grade_levels section.metres section.grades) track.sections
  grades_are = recursion_from_All (λ (section : Section). IsTrackFunction grade_levels section.metres section.grades) track.sections form.grades

  sections_told : (sections : List Section) → AllByRecursion (λ section. is_name section.name ≡ true) sections → AllByRecursion (λ section. nat_le section.metres LONGEST_TRACK ≡ true) sections
      → AllByRecursion (λ section. IsTrackFunction speed_levels section.metres section.speeds) sections → AllByRecursion (λ section. IsTrackFunction grade_levels section.metres section.grades) sections
      → AllByRecursion IsToldSection sections
  sections_told [] named few speeds grades = tt
  sections_told (section ∷ sections) named few speeds grades =
      let short = leb-true section.metres LONGEST_TRACK few.0 in (
        record {
          name = named.0;
          metres = short;
          speeds = runs_told speed_kind section.metres short section.speeds speeds.0.starts.inside speeds.0.values;
          grades = runs_told grade_kind section.metres short section.grades grades.0.starts.inside grades.0.values;
        },
        sections_told sections named.1 few.1 speeds.1 grades.1,
      )

  link_told : (link : Link) → LinkIsOfTrack track link → IsToldLink (named_link track link)
  link_told link of = record { from = leg_is_named link.from of.from; to = leg_is_named link.to of.to }

  group_told : (group : BaliseGroup) → IsGroupName group.name → GroupStands track sound group → IsToldGroup (named_group track group)
  group_told group named stands =
      let at_most = stands.offset in
      let short = metres_small track.sections few_metres group.section in
      record { name = named; section = word_is_name track.sections section_names group.section stands.section; offset = omega arith }

  entry_told : (entry : Option Leg) → EntryIsOfTrack track entry → IsNamedIfAny (option_map (named_leg track) entry)
  entry_told None of = tt
  entry_told (Some leg) of = leg_is_named leg of

  route_told : (route : Route) → is_name route.name ≡ true → RouteIsOfTrack track route → IsToldRoute (named_route track route)
  route_told route named of = record {
    name = named;
    after = entry_told route.after of.entry;
    legs = all_led (λ (leg : LegName). is_name leg.section ≡ true) (named_leg track) route.legs (each_so leg_is_named route.legs (legs_of route of));
  }

  are_told : AreTold (named_parts track)
  are_told = record {
    some_speed_steps = form.some_speed_steps;
    few_speed_steps = form.few_speed_steps;
    some_grade_steps = form.some_grade_steps;
    few_grade_steps = form.few_grade_steps;
    sections = sections_told track.sections section_names few_metres speeds_are grades_are;
    links = all_led IsToldLink (named_link track) track.links (each_so link_told track.links (links_of_track track sound));
    groups = all_led IsToldGroup (named_group track) track.groups
        (all_both group_told track.groups (recursion_from_All (λ (group : BaliseGroup). IsGroupName group.name) track.groups names.groups) (groups_stand track sound));
    routes = all_led IsToldRoute (named_route track) track.routes
        (all_both route_told track.routes (recursion_from_All (λ (route : Route). IsTrue (is_name route.name)) track.routes names.routes) (routes_of_track track sound));
  }

  -- ---- so it is read back

  parts_make : track_of (named_parts track) ≡ Ok track
  parts_make =
      ap (λ (made : Track). unless (track_refusal made) (Ok made)) parts_back ∙ ap (λ refusal. unless refusal (Ok track)) (track_refusal-IsSound track sound)

  read_back : read_track_lines (track_lines track) ≡ Some track
  read_back =
      let text = track_lines track in
      let parts = named_parts track in
      ap (λ rows. option_and_then (if_lines_of text) (option_and_then (λ parts. result_ok (track_of parts)) (result_ok (parts_in rows)))) (rows_read (part_rows parts) (parts_are_rows parts are_told))
      ∙ ap (λ read. option_and_then (if_lines_of text) (option_and_then (λ parts. result_ok (track_of parts)) (result_ok read))) (parts_read parts are_told)
      ∙ ap (λ made. option_and_then (if_lines_of text) (result_ok made)) parts_make
      ∙ ap (λ same. cond same (Some track) None) ((bytes_eq-Decides text text).1 refl)

pub track_lines_are_read_back : TrackLinesAreReadBack
track_lines_are_read_back track form sound names = read_back track form sound names

-- ---- and nothing else is read

no_track : (track : Track) → (let o : Option Track = None in o) ≡ Some track → ⊥
no_track track h = cc

module _ (text : List ℕ) (track : Track) where
  lines_of_made : (made : Track) → IsSound made → (same : Bool) → bytes_eq (track_lines made) text ≡ same → cond same (Some made) None ≡ Some track → IsLinesOf text track
  lines_of_made made sound false e h = absurd (no_track track h)
  lines_of_made made sound true e h =
      subst (IsLinesOf text) (same_Some made track h) (record { sound = sound; lines = (bytes_eq-Decides (track_lines made) text).0 e })

  lines_of_parts : (parts : Parts) (refusal : Option TrackRefusal) → track_refusal (resolved parts) ≡ refusal
      → option_and_then (if_lines_of text) (result_ok (unless refusal (Ok (resolved parts)))) ≡ Some track → IsLinesOf text track
  lines_of_parts parts (Some refusal) e h = absurd (no_track track h)
  lines_of_parts parts None e h =
      lines_of_made (resolved parts) (IsSound-track_refusal (resolved parts) e) (bytes_eq (track_lines (resolved parts)) text) refl h

  lines_of_read : (parts : Option Parts) → option_and_then (if_lines_of text) (option_and_then (λ parts. result_ok (track_of parts)) parts) ≡ Some track → IsLinesOf text track
  lines_of_read None h = absurd (no_track track h)
  lines_of_read (Some parts) h = lines_of_parts parts (track_refusal (resolved parts)) refl h

pub read_lines_are_of_tracks : ReadLinesAreOfTracks
read_lines_are_of_tracks text track h = lines_of_read text track (result_ok (parts_in (rows_of text))) h
