-- What is told of a track: its counts, and where it may be other than was meant.
use Rattle.std.specs.Prelude.{ℕ, suc, ◌+◌, ◌-◌, ◌==◌, ◌&&◌, ◌||◌, not, Bool, true, false, List, [], ◌∷◌, ◌++◌, length, Option, Some, None, codes, decimal, bytes_eq, find, nat_lt, slice_get, if◌then◌else◌}
use Rattle.std.specs.List.{list_any, flat_map}
use Rattle.std.specs.Option.{option_map_or}
use Rattle.rbc_model.specs.declared.places.Direction.{Direction}
use Rattle.rbc_model.specs.declared.places.Direction.TheVariants.{Rising, Falling}
use Rattle.rbc_model.specs.declared.places.Leg.{Leg}
use Rattle.rbc_model.specs.declared.tracks.BaliseGroup.{BaliseGroup}
use Rattle.rbc_model.specs.declared.tracks.Link.{Link}
use Rattle.rbc_model.specs.Names.{leg_text}
use Rattle.rbc_model.specs.SessionReply.{leg_word}
use Rattle.rbc_model.specs.SessionText.{group_word}
use Rattle.rbc_model.specs.Tracks.{Section, Route, Track, leg_eq, reverse_leg}
use Rattle.rbc_model.specs.Words.{line_of}

-- ---- what is looked for

-- a leg of the section with this number
abbrev pub leg_along : ℕ → Direction → Leg
leg_along section direction = record { section = section; direction = direction }

-- whether one of the routes has a leg of the section
abbrev pub has_section : ℕ → Route → Bool
has_section section route = list_any (λ leg. leg.section == section) route.legs

abbrev pub is_on_route : List Route → ℕ → Bool
is_on_route routes section = list_any (has_section section) routes

-- whether the route has the leg
abbrev pub has_leg : Leg → Route → Bool
has_leg leg route = list_any (leg_eq leg) route.legs

-- whether a train may run from the leg's end by the link, or back by it
abbrev pub leads_from : Leg → Link → Bool
leads_from leg link = leg_eq link.from leg || leg_eq link.to (reverse_leg leg)

abbrev pub leads_on : List Link → Leg → Bool
leads_on links leg = list_any (leads_from leg) links

-- whether the leg is the last one of the route
abbrev pub ends_with : Leg → Route → Bool
ends_with leg route = option_map_or (λ last. leg_eq last leg) (slice_get route.legs (length route.legs - 1)) false

-- whether a route of another name ends with the leg
abbrev pub is_reached : List Route → Route → Leg → Bool
is_reached routes route leg = list_any (λ other. not (bytes_eq other.name route.name) && ends_with leg other) routes

-- the leg as a word, where the track has its section
abbrev pub entry_word : Track → Leg → List ℕ
entry_word track leg = if nat_lt leg.section (length track.sections) then leg_word track leg else []

-- ---- the lines

-- how many metres the sections have
abbrev pub metres_in : List Section → ℕ
metres_in [] = 0
metres_in (section ∷ sections) = section.metres + metres_in sections

abbrev pub counts_line : Track → List ℕ
counts_line track = line_of (codes "sections" ∷ decimal (length track.sections) ∷ codes "metres" ∷ decimal (metres_in track.sections)
    ∷ codes "links" ∷ decimal (length track.links) ∷ codes "groups" ∷ decimal (length track.groups) ∷ codes "routes" ∷ decimal (length track.routes) ∷ [])

-- a line, where it is to be told
abbrev pub told_if : Bool → List ℕ → List ℕ
told_if true line = line
told_if false line = []

-- a section that no route has
abbrev pub unused_text : Track → ℕ → Section → List ℕ
unused_text track number section =
    told_if (not (is_on_route track.routes number)) (line_of (codes "warning section" ∷ section.name ∷ codes "is on no route" ∷ []))

-- a balise group that no route passes
abbrev pub unpassed_text : Track → BaliseGroup → List ℕ
unpassed_text track group =
    told_if (not (is_on_route track.routes group.section)) (line_of (codes "warning group" ∷ group_word group.name ∷ codes "is passed by no route" ∷ []))

-- an end of a section from which no link leads
abbrev pub end_text : Track → List ℕ → Leg → List ℕ
end_text track name leg =
    told_if (not (leads_on track.links leg))
    (line_of (codes "warning leg" ∷ leg_text (record { section = name; direction = leg.direction }) ∷ codes "has no link at its end" ∷ []))

abbrev pub ends_text : Track → ℕ → Section → List ℕ
ends_text track number section =
    end_text track section.name (leg_along number Rising) ++ end_text track section.name (leg_along number Falling)

-- a route that is entered from a leg with which no other route ends
abbrev pub entered_text : Track → Route → Option Leg → List ℕ
entered_text track route None = []
entered_text track route (Some leg) =
    told_if (not (is_reached track.routes route leg)) (line_of (codes "warning route" ∷ route.name ∷ codes "is entered from" ∷ entry_word track leg ∷ codes "and no other route ends there" ∷ []))

abbrev pub entry_text : Track → Route → List ℕ
entry_text track route = entered_text track route route.after

-- a section that two routes lock in both directions: the first route of each
abbrev pub both_line : List ℕ → Option Route → Option Route → List ℕ
both_line name (Some up) (Some down) =
    line_of (codes "warning section" ∷ name ∷ codes "is locked both ways, by" ∷ up.name ∷ codes "and" ∷ down.name ∷ [])
both_line name _ _ = []

abbrev pub both_text : Track → ℕ → Section → List ℕ
both_text track number section =
    both_line section.name (find (has_leg (leg_along number Rising)) track.routes) (find (has_leg (leg_along number Falling)) track.routes)

-- ---- all of it

-- the texts of these entries, of which the first has this number
abbrev pub each_text : {X : Type 0} → (ℕ → X → List ℕ) → ℕ → List X → List ℕ
each_text text number [] = []
each_text text number (x ∷ xs) = text number x ++ each_text text (suc number) xs

abbrev pub warnings : Track → List ℕ
warnings track =
    each_text (unused_text track) 0 track.sections
    ++ (flat_map (unpassed_text track) track.groups
    ++ (each_text (ends_text track) 0 track.sections
    ++ (flat_map (entry_text track) track.routes
    ++ each_text (both_text track) 0 track.sections)))

unfoldable pub report : Track → List ℕ
report track = counts_line track ++ warnings track
