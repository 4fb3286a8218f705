-- Legs, links and routes as they are written: compared by the names of their sections.
use Rattle.std.specs.Prelude.{bytes_eq, Bool, true, false, not, ◌&&◌, ◌||◌, nat_le, List, [], ◌∷◌, length, take}
use Rattle.std.specs.Option.{option_map_or}
use Rattle.std.specs.List.{list_any, list_all}
use Rattle.rbc_model.specs.declared.limits.TheConstants.{MOST_LEGS}
use Rattle.rbc_model.specs.Names.{LegName}
use Rattle.rbc_model.specs.Tracks.{Section, direction_eq, opposite}
use Rattle.rbc_model.specs.TrackParts.{LinkPart, RoutePart}

-- whether two legs are written alike
abbrev pub written_eq : LegName → LegName → Bool
written_eq a b = bytes_eq a.section b.section && direction_eq a.direction b.direction

-- the leg's section, run the other way
abbrev pub written_reverse : LegName → LegName
written_reverse leg = record { section = leg.section; direction = opposite leg.direction }

-- whether the link names the two legs in this order
abbrev pub writes : LegName → LegName → LinkPart → Bool
writes from to link = written_eq link.from from && written_eq link.to to

-- whether the link names the two legs, or leads back from one to the other
abbrev pub written_joins : LegName → LegName → LinkPart → Bool
written_joins from to link = writes from to link || writes (written_reverse to) (written_reverse from) link

-- whether one of the links does
abbrev pub are_joined : List LinkPart → LegName → LegName → Bool
are_joined links from to = list_any (written_joins from to) links

-- whether the leg's section is one of these
abbrev pub is_on : List Section → LegName → Bool
is_on sections leg = list_any (λ section. bytes_eq section.name leg.section) sections

-- whether both legs of the link are on the sections
abbrev pub lies_on : List Section → LinkPart → Bool
lies_on sections link = is_on sections link.from && is_on sections link.to

-- whether the link may stand behind the earlier ones
abbrev pub is_good_written_link : List Section → List LinkPart → LinkPart → Bool
is_good_written_link sections earlier link =
    is_on sections link.from && is_on sections link.to && not (bytes_eq link.from.section link.to.section)
    && not (are_joined earlier link.from link.to)

-- whether no section is written twice
abbrev pub names_differ : List LegName → Bool
names_differ [] = true
names_differ (leg ∷ legs) = not (list_any (λ other. bytes_eq other.section leg.section) legs) && names_differ legs

-- whether each leg is joined to the next
abbrev pub are_all_joined : List LinkPart → List LegName → Bool
are_all_joined links [] = true
are_all_joined links (leg ∷ []) = true
are_all_joined links (leg ∷ next ∷ legs) = are_joined links leg next && are_all_joined links (next ∷ legs)

-- whether the leg is joined to the first leg, and is none of the legs but perhaps the last
abbrev pub is_good_written_entry : List LinkPart → List LegName → LegName → Bool
is_good_written_entry links [] after = false
is_good_written_entry links (first ∷ legs) after =
    are_joined links after first && not (list_any (written_eq after) (take (length legs) (first ∷ legs)))

-- whether the route has 1 to 64 legs on the sections, none twice, each joined to the next, and a good entry if it has one
abbrev pub is_good_written_route : List Section → List LinkPart → RoutePart → Bool
is_good_written_route sections links route =
    nat_le 1 (length route.legs) && nat_le (length route.legs) MOST_LEGS && list_all (is_on sections) route.legs
    && names_differ route.legs && are_all_joined links route.legs
    && option_map_or (is_good_written_entry links route.legs) route.after true
