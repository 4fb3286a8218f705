-- The parts of a track that are written as rows are read back.
use Rattle.std.proofs.Common.{◌≡◌, ℕ, ◌<◌, ◌≤◌, ◌^◌, true, cond, List, [], ◌∷◌, ◌++◌, map, Result, Ok, Err, refl, ap, ◌∙◌, arith, codes, lit≤, lit<, append_assoc}
use Rattle.std.specs.Prelude.{decimal, bytes_eq}
use Rattle.std.specs.List.{AllByRecursion, flat_map}
use Rattle.std.proofs.lemmas.Slice.Eq.{bytes_eq-Decides}
use Rattle.rbc_model.specs.declared.limits.TheConstants.{LONGEST_TRACK, MOST_STEPS}
use Rattle.rbc_model.specs.declared.places.Format.{Format}
use Rattle.rbc_model.specs.declared.places.Format.TheVariants.{Near, Far}
use Rattle.rbc_model.specs.declared.refusals.LineFault.{LineFault}
use Rattle.rbc_model.specs.declared.refusals.LineFault.TheVariants.{Command, Words, Number, Name}
use Rattle.rbc_model.specs.Results.{demand, ◌>>=◌, ◌>>◌}
use Rattle.rbc_model.specs.GroupNames.{IsGroupName}
use Rattle.rbc_model.specs.Kinds.{Kind, speed_kind, grade_kind}
use Rattle.rbc_model.specs.Names.{LegName, is_name, leg_text}
use Rattle.rbc_model.specs.RequestText.{number_at}
use Rattle.rbc_model.specs.Rows.{Row, leg_or_none, leg_at, leg_or_none_at, each_word, told_by}
use Rattle.rbc_model.specs.SessionText.{name_at, group_word}
use Rattle.rbc_model.specs.StepsReply.{run_words}
use Rattle.rbc_model.specs.StepsText.{run_in_word}
use Rattle.rbc_model.specs.TrackFile.{format_numbered}
use Rattle.rbc_model.specs.TrackParts.{LinkPart, GroupPart, RoutePart, Parts}
use Rattle.rbc_model.specs.Tracks.{Section}
use Rattle.rbc_model.specs.TrackLines.{format_number, section_rows, link_row, group_row, route_row, part_rows, runs_in, section_in, sections_in, link_in, group_in, route_in, is_end, parts_in}
use Rattle.rbc_model.proofs.RowLemmas.{IsRow, leg_is_word, leg_at-read, IsNamedIfAny, leg_or_none-read, leg_or_none-is_word, IsReadBack, speeds_read, grades_read, run_word, IsRun, run_is_word, run_read, each_word-read, words_are, told_by-read, rows_are, rows_behind}
use Rattle.rbc_model.proofs.SaidLineLemmas.{name_is_word, group_is_word, group_read}
use Rattle.rbc_model.proofs.WordLemmas.{IsWord, number_is_word, allowed-decimal}

-- ---- what rows can tell

-- a section whose name is a name, and whose metres and runs are in range
pub record IsToldSection (section : Section) : Type 0 where
  pub name : is_name section.name ≡ true
  pub metres : section.metres ≤ LONGEST_TRACK
  pub speeds : AllByRecursion (IsRun speed_kind) section.speeds
  pub grades : AllByRecursion (IsRun grade_kind) section.grades

pub record IsToldLink (link : LinkPart) : Type 0 where
  pub from : is_name link.from.section ≡ true
  pub to : is_name link.to.section ≡ true

pub record IsToldGroup (group : GroupPart) : Type 0 where
  pub name : IsGroupName group.name
  pub section : is_name group.section ≡ true
  pub offset : group.offset ≤ LONGEST_TRACK

pub record IsToldRoute (route : RoutePart) : Type 0 where
  pub name : is_name route.name ≡ true
  pub after : IsNamedIfAny route.after
  pub legs : AllByRecursion (λ leg. is_name leg.section ≡ true) route.legs

pub record AreTold (parts : Parts) : Type 0 where
  pub some_speed_steps : 1 ≤ parts.speed_steps
  pub few_speed_steps : parts.speed_steps ≤ MOST_STEPS
  pub some_grade_steps : 1 ≤ parts.grade_steps
  pub few_grade_steps : parts.grade_steps ≤ MOST_STEPS
  pub sections : AllByRecursion IsToldSection parts.sections
  pub links : AllByRecursion IsToldLink parts.links
  pub groups : AllByRecursion IsToldGroup parts.groups
  pub routes : AllByRecursion IsToldRoute parts.routes

-- what holds of each holds of each in another way
pub each_so : {X : Type 0} {P Q : X → Type 0} → ((x : X) → P x → Q x) → (xs : List X) → AllByRecursion P xs → AllByRecursion Q xs
each_so so [] all = tt
each_so so (x ∷ xs) all = (so x all.0, each_so so xs all.1)

short : (n : ℕ) → n ≤ LONGEST_TRACK → n < 10 ^ 10
short n h = omega arith

same : (text : List ℕ) → bytes_eq text text ≡ true
same text = (bytes_eq-Decides text text).1 refl

name_read : (i : ℕ) (name : List ℕ) → is_name name ≡ true → name_at i name ≡ Ok name
name_read i name named = ap (λ is. cond is (Ok name) (Err (Name i))) named

-- ---- sections

module _ {V : Type 0} (kind : Kind V) (back : IsReadBack kind) (command name : List ℕ) (runs : List (ℕ × V)) (are : AllByRecursion (IsRun kind) runs) where
  runs_back : runs_in kind command name (command ∷ name ∷ run_words kind runs) ≡ Ok runs
  runs_back =
      ap (λ b. demand b Command >> (demand (bytes_eq name name) (Name 2) >> each_word (run_in_word kind) 3 (run_words kind runs))) (same command)
      ∙ ap (λ b. demand b (Name 2) >> each_word (run_in_word kind) 3 (run_words kind runs)) (same name)
      ∙ each_word-read (run_in_word kind) (run_word kind) 3 runs (each_so (λ run is i. run_read kind back run is i) runs are)

  runs_are_row : IsWord command → IsWord name → IsRow (command ∷ name ∷ run_words kind runs)
  runs_are_row first second = (first, (second, words_are (run_word kind) runs (each_so (λ run is. run_is_word kind back run is) runs are)))

module _ (section : Section) (is : IsToldSection section) where
  abbrev speeds_row : Section → Row
  speeds_row s = codes "speeds" ∷ s.name ∷ run_words speed_kind s.speeds

  abbrev grades_row : Section → Row
  grades_row s = codes "grades" ∷ s.name ∷ run_words grade_kind s.grades

  section_back : section_in (section.name ∷ decimal section.metres ∷ []) (speeds_row section) (grades_row section) ≡ Ok section
  section_back =
      let speeds = runs_in speed_kind (codes "speeds") section.name (speeds_row section) in
      let grades = runs_in grade_kind (codes "grades") section.name (grades_row section) in
      let made : ℕ → List (ℕ × ℕ) → List (ℕ × _) → Section = λ m s g. record { name = section.name; metres = m; speeds = s; grades = g } in
      ap (λ read. read >>= (λ name. number_at 3 0 LONGEST_TRACK (decimal section.metres) >>= (λ metres. runs_in speed_kind (codes "speeds") name (speeds_row section) >>= (λ speeds. runs_in grade_kind (codes "grades") name (grades_row section) >>= (λ grades. let r : Result Section LineFault = Ok (record { name = name; metres = metres; speeds = speeds; grades = grades }) in r))))) (name_read 2 section.name is.name)
      ∙ ap (λ read. read >>= (λ metres. speeds >>= (λ speeds. grades >>= (λ grades. let r : Result Section LineFault = Ok (record { name = section.name; metres = metres; speeds = speeds; grades = grades }) in r)))) (allowed-decimal 0 LONGEST_TRACK section.metres (Number 3) (omega arith) is.metres (lit< tt))
      ∙ ap (λ read. read >>= (λ speeds. grades >>= (λ grades. let r : Result Section LineFault = Ok (record { name = section.name; metres = section.metres; speeds = speeds; grades = grades }) in r))) (runs_back speed_kind speeds_read (codes "speeds") section.name section.speeds is.speeds)
      ∙ ap (λ read. read >>= (λ grades. let r : Result Section LineFault = Ok (record { name = section.name; metres = section.metres; speeds = section.speeds; grades = grades }) in r)) (runs_back grade_kind grades_read (codes "grades") section.name section.grades is.grades)

  section_are_rows : AllByRecursion IsRow (section_rows section)
  section_are_rows =
      let name = name_is_word section.name is.name in (
        (record { some = lit< tt; short = lit≤ tt; visible = refl }, (name, (number_is_word section.metres (short section.metres is.metres), tt))),
        (
          runs_are_row speed_kind speeds_read (codes "speeds") section.name section.speeds is.speeds (record { some = lit< tt; short = lit≤ tt; visible = refl }) name,
          (runs_are_row grade_kind grades_read (codes "grades") section.name section.grades is.grades (record { some = lit< tt; short = lit≤ tt; visible = refl }) name, tt),
        ),
      )

sections_back : (rest : List Row) → sections_in rest ≡ Ok ([], rest) → (sections : List Section) → AllByRecursion IsToldSection sections
    → sections_in (flat_map section_rows sections ++ rest) ≡ Ok (sections, rest)
sections_back rest ends [] are = ends
sections_back rest ends (section ∷ sections) are =
    let later = sections_in (flat_map section_rows sections ++ rest) in
    ap (λ read. read >>= (λ section. later >>= (λ rest. let r : Result (List Section × List Row) LineFault = Ok (section ∷ rest.0, rest.1) in r))) (section_back section are.0)
    ∙ ap (λ read. read >>= (λ rest. let r : Result (List Section × List Row) LineFault = Ok (section ∷ rest.0, rest.1) in r)) (sections_back rest ends sections are.1)

sections_are_rows : (sections : List Section) → AllByRecursion IsToldSection sections → AllByRecursion IsRow (flat_map section_rows sections)
sections_are_rows [] are = tt
sections_are_rows (section ∷ sections) are = rows_behind (section_rows section) (flat_map section_rows sections) (section_are_rows section are.0) (sections_are_rows sections are.1)

-- ---- links, groups and routes

abbrev behind_link : LinkPart → List (List ℕ)
behind_link link = leg_text link.from ∷ leg_text link.to ∷ []

link_back : (link : LinkPart) → IsToldLink link → link_in (behind_link link) ≡ Ok link
link_back link is =
    ap (λ read. read >>= (λ from. leg_at 3 (leg_text link.to) >>= (λ to. let r : Result LinkPart LineFault = Ok (record { from = from; to = to }) in r))) (leg_at-read 2 link.from is.from)
    ∙ ap (λ read. read >>= (λ to. let r : Result LinkPart LineFault = Ok (record { from = link.from; to = to }) in r)) (leg_at-read 3 link.to is.to)

link_is_row : (link : LinkPart) → IsToldLink link → IsRow (link_row link)
link_is_row link is = (record { some = lit< tt; short = lit≤ tt; visible = refl }, (leg_is_word link.from is.from, (leg_is_word link.to is.to, tt)))

abbrev nominal_leg : GroupPart → LegName
nominal_leg group = record { section = group.section; direction = group.nominal }

abbrev behind_group : GroupPart → List (List ℕ)
behind_group group = group_word group.name ∷ leg_text (nominal_leg group) ∷ decimal group.offset ∷ []

group_back : (group : GroupPart) → IsToldGroup group → group_in (behind_group group) ≡ Ok group
group_back group is =
    ap (λ read. read >>= (λ name. leg_at 3 (leg_text (nominal_leg group)) >>= (λ leg. number_at 4 0 LONGEST_TRACK (decimal group.offset) >>= (λ offset. let r : Result GroupPart LineFault = Ok (record { name = name; section = leg.section; offset = offset; nominal = leg.direction }) in r)))) (group_read group.name is.name 2)
    ∙ ap (λ read. read >>= (λ leg. number_at 4 0 LONGEST_TRACK (decimal group.offset) >>= (λ offset. let r : Result GroupPart LineFault = Ok (record { name = group.name; section = leg.section; offset = offset; nominal = leg.direction }) in r))) (leg_at-read 3 (nominal_leg group) is.section)
    ∙ ap (λ read. read >>= (λ offset. let r : Result GroupPart LineFault = Ok (record { name = group.name; section = group.section; offset = offset; nominal = group.nominal }) in r)) (allowed-decimal 0 LONGEST_TRACK group.offset (Number 4) (omega arith) is.offset (lit< tt))

group_is_row : (group : GroupPart) → IsToldGroup group → IsRow (group_row group)
group_is_row group is =
    (record { some = lit< tt; short = lit≤ tt; visible = refl }, (group_is_word group.name is.name, (leg_is_word (nominal_leg group) is.section, (number_is_word group.offset (short group.offset is.offset), tt))))

abbrev behind_route : RoutePart → List (List ℕ)
behind_route route = route.name ∷ leg_or_none route.after ∷ map leg_text route.legs

route_back : (route : RoutePart) → IsToldRoute route → route_in (behind_route route) ≡ Ok route
route_back route is =
    ap (λ read. read >>= (λ name. leg_or_none_at 3 (leg_or_none route.after) >>= (λ after. each_word leg_at 4 (map leg_text route.legs) >>= (λ legs. let r : Result RoutePart LineFault = Ok (record { name = name; after = after; legs = legs }) in r)))) (name_read 2 route.name is.name)
    ∙ ap (λ read. read >>= (λ after. each_word leg_at 4 (map leg_text route.legs) >>= (λ legs. let r : Result RoutePart LineFault = Ok (record { name = route.name; after = after; legs = legs }) in r))) (leg_or_none-read 3 route.after is.after)
    ∙ ap (λ read. read >>= (λ legs. let r : Result RoutePart LineFault = Ok (record { name = route.name; after = route.after; legs = legs }) in r)) (each_word-read leg_at leg_text 4 route.legs (each_so (λ leg named i. leg_at-read i leg named) route.legs is.legs))

route_is_row : (route : RoutePart) → IsToldRoute route → IsRow (route_row route)
route_is_row route is =
    (record { some = lit< tt; short = lit≤ tt; visible = refl }, (name_is_word route.name is.name, (leg_or_none-is_word route.after is.after, words_are leg_text route.legs (each_so leg_is_word route.legs is.legs))))

-- ---- all rows

abbrev end_rows : List Row
end_rows = (codes "done" ∷ []) ∷ []

-- the routes and what is behind, the groups and what is behind, and the links and what is behind
abbrev from_routes : List RoutePart → List Row
from_routes routes = map route_row routes ++ end_rows

abbrev from_groups : List GroupPart → List RoutePart → List Row
from_groups groups routes = map group_row groups ++ from_routes routes

abbrev from_links : List LinkPart → List GroupPart → List RoutePart → List Row
from_links links groups routes = map link_row links ++ from_groups groups routes

-- no section is told where links are, and so on
no_section : (links : List LinkPart) (groups : List GroupPart) (routes : List RoutePart) → sections_in (from_links links groups routes) ≡ Ok ([], from_links links groups routes)
no_section (a ∷ b ∷ c ∷ links) groups routes = refl
no_section (a ∷ b ∷ []) (c ∷ groups) routes = refl
no_section (a ∷ b ∷ []) [] (c ∷ routes) = refl
no_section (a ∷ b ∷ []) [] [] = refl
no_section (a ∷ []) (b ∷ c ∷ groups) routes = refl
no_section (a ∷ []) (b ∷ []) (c ∷ routes) = refl
no_section (a ∷ []) (b ∷ []) [] = refl
no_section (a ∷ []) [] (b ∷ c ∷ routes) = refl
no_section (a ∷ []) [] (b ∷ []) = refl
no_section (a ∷ []) [] [] = refl
no_section [] (a ∷ b ∷ c ∷ groups) routes = refl
no_section [] (a ∷ b ∷ []) (c ∷ routes) = refl
no_section [] (a ∷ b ∷ []) [] = refl
no_section [] (a ∷ []) (b ∷ c ∷ routes) = refl
no_section [] (a ∷ []) (b ∷ []) = refl
no_section [] (a ∷ []) [] = refl
no_section [] [] (a ∷ b ∷ c ∷ routes) = refl
no_section [] [] (a ∷ b ∷ []) = refl
no_section [] [] (a ∷ []) = refl
no_section [] [] [] = refl

no_link : (groups : List GroupPart) (routes : List RoutePart) → told_by (codes "link") link_in (from_groups groups routes) ≡ Ok ([], from_groups groups routes)
no_link (group ∷ groups) routes = refl
no_link [] (route ∷ routes) = refl
no_link [] [] = refl

no_group : (routes : List RoutePart) → told_by (codes "group") group_in (from_routes routes) ≡ Ok ([], from_routes routes)
no_group (route ∷ routes) = refl
no_group [] = refl

-- the number of a format tells the format
format_back : (format : Format) → format_numbered (format_number format) ≡ format
format_back Near = refl
format_back Far = refl

format_read : (format : Format) → number_at 2 1 2 (decimal (format_number format)) ≡ Ok (format_number format)
format_read Near = allowed-decimal 1 2 1 (Number 2) (lit≤ tt) (lit≤ tt) (lit< tt)
format_read Far = allowed-decimal 1 2 2 (Number 2) (lit≤ tt) (lit≤ tt) (lit< tt)

format_is_word : (format : Format) → IsWord (decimal (format_number format))
format_is_word Near = number_is_word 1 (lit< tt)
format_is_word Far = number_is_word 2 (lit< tt)

abbrev made_parts : Format → ℕ → ℕ → List Section → List LinkPart → List GroupPart → List RoutePart → Parts
made_parts format speed_steps grade_steps sections links groups routes = record {
  format = format;
  speed_steps = speed_steps;
  grade_steps = grade_steps;
  sections = sections;
  links = links;
  groups = groups;
  routes = routes;
}

-- what the rows behind the first come to
abbrev tables_from : Result ℕ LineFault → Result ℕ LineFault → Result ℕ LineFault → List Row → Result Parts LineFault
tables_from format speed_steps grade_steps rows = do
  format ← format
  speed_steps ← speed_steps
  grade_steps ← grade_steps
  sections ← sections_in rows
  links ← told_by (codes "link") link_in sections.1
  groups ← told_by (codes "group") group_in links.1
  routes ← told_by (codes "route") route_in groups.1
  demand (is_end routes.1) Words
  Ok (record { format = format_numbered format; speed_steps = speed_steps; grade_steps = grade_steps; sections = sections.0; links = links.0; groups = groups.0; routes = routes.0 })

abbrev tables_after : Format → ℕ → ℕ → Result (List Section × List Row) LineFault → Result Parts LineFault
tables_after format speed_steps grade_steps sections = do
  sections ← sections
  links ← told_by (codes "link") link_in sections.1
  groups ← told_by (codes "group") group_in links.1
  routes ← told_by (codes "route") route_in groups.1
  demand (is_end routes.1) Words
  Ok (made_parts format speed_steps grade_steps sections.0 links.0 groups.0 routes.0)

module _ (parts : Parts) (are : AreTold parts) where
  steps_read : (i n : ℕ) → 1 ≤ n → n ≤ MOST_STEPS → number_at i 1 MOST_STEPS (decimal n) ≡ Ok n
  steps_read i n some few = allowed-decimal 1 MOST_STEPS n (Number i) some few (lit< tt)

  -- the rows behind the first, joined the other way
  in_order : (sections links groups routes : List Row) → (((sections ++ links) ++ groups) ++ routes) ++ end_rows ≡ sections ++ (links ++ (groups ++ (routes ++ end_rows)))
  in_order sections links groups routes =
      append_assoc ((sections ++ links) ++ groups) routes end_rows ∙ append_assoc (sections ++ links) groups (routes ++ end_rows) ∙ append_assoc sections links (groups ++ (routes ++ end_rows))

  pub parts_read : parts_in (part_rows parts) ≡ Ok parts
  parts_read =
      let f = decimal (format_number parts.format) in
      let s = decimal parts.speed_steps in
      let g = decimal parts.grade_steps in
      ap (λ rows. tables_from (number_at 2 1 2 f) (number_at 3 1 MOST_STEPS s) (number_at 4 1 MOST_STEPS g) rows)
      (in_order (flat_map section_rows parts.sections) (map link_row parts.links) (map group_row parts.groups) (map route_row parts.routes))
      ∙ ap (λ read. tables_from read (number_at 3 1 MOST_STEPS s) (number_at 4 1 MOST_STEPS g) all) (format_read parts.format)
      ∙ ap (λ read. tables_from (Ok (format_number parts.format)) read (number_at 4 1 MOST_STEPS g) all) (steps_read 3 parts.speed_steps are.some_speed_steps are.few_speed_steps)
      ∙ ap (λ read. tables_from (Ok (format_number parts.format)) (Ok parts.speed_steps) read all) (steps_read 4 parts.grade_steps are.some_grade_steps are.few_grade_steps)
      ∙ ap (λ format. tables_after format parts.speed_steps parts.grade_steps (sections_in all)) (format_back parts.format)
      ∙ ap (tables_after parts.format parts.speed_steps parts.grade_steps) (sections_back (from_links parts.links parts.groups parts.routes) (no_section parts.links parts.groups parts.routes) parts.sections are.sections)
      ∙ links_read
    where
      all : List Row
      all = flat_map section_rows parts.sections ++ from_links parts.links parts.groups parts.routes

      after_routes : List LinkPart → List GroupPart → Result (List RoutePart × List Row) LineFault → Result Parts LineFault
      after_routes links groups read = do
        routes ← read
        demand (is_end routes.1) Words
        Ok (made_parts parts.format parts.speed_steps parts.grade_steps parts.sections links groups routes.0)

      after_groups : List LinkPart → Result (List GroupPart × List Row) LineFault → Result Parts LineFault
      after_groups links read = do
        groups ← read
        after_routes links groups.0 (told_by (codes "route") route_in groups.1)

      after_links : Result (List LinkPart × List Row) LineFault → Result Parts LineFault
      after_links read = do
        links ← read
        after_groups links.0 (told_by (codes "group") group_in links.1)

      links_read : after_links (told_by (codes "link") link_in (from_links parts.links parts.groups parts.routes)) ≡ Ok parts
      links_read =
          ap after_links (told_by-read (codes "link") link_in behind_link (from_groups parts.groups parts.routes) (no_link parts.groups parts.routes) parts.links (each_so link_back parts.links are.links))
          ∙ ap (after_groups parts.links) (told_by-read (codes "group") group_in behind_group (from_routes parts.routes) (no_group parts.routes) parts.groups (each_so group_back parts.groups are.groups))
          ∙ ap (after_routes parts.links parts.groups) (told_by-read (codes "route") route_in behind_route end_rows refl parts.routes (each_so route_back parts.routes are.routes))

  -- and they are rows
  pub parts_are_rows : AllByRecursion IsRow (part_rows parts)
  parts_are_rows =
      let sections = flat_map section_rows parts.sections in
      let links = map link_row parts.links in
      let groups = map group_row parts.groups in
      let routes = map route_row parts.routes in
      let steps : (n : ℕ) → n ≤ MOST_STEPS → IsWord (decimal n) = λ n few. number_is_word n (omega arith) in (
        (record { some = lit< tt; short = lit≤ tt; visible = refl }, (format_is_word parts.format, (steps parts.speed_steps are.few_speed_steps, (steps parts.grade_steps are.few_grade_steps, tt)))),
        rows_behind (((sections ++ links) ++ groups) ++ routes) end_rows
            (rows_behind ((sections ++ links) ++ groups) routes
            (rows_behind (sections ++ links) groups
            (rows_behind sections links (sections_are_rows parts.sections are.sections) (rows_are link_row parts.links (each_so link_is_row parts.links are.links)))
            (rows_are group_row parts.groups (each_so group_is_row parts.groups are.groups)))
            (rows_are route_row parts.routes (each_so route_is_row parts.routes are.routes)))
            (((record { some = lit< tt; short = lit≤ tt; visible = refl }, tt)), tt),
      )
