-- A track as lines: the text that tells all that a track file says, and the track that such a text tells.
use Rattle.std.specs.Prelude.{ℕ, List, [], ◌∷◌, ◌++◌, map, Option, Some, None, option_map, Result, Ok, Err, if◌then◌else◌, codes, decimal, bytes_eq, Bool, false, All, IsTrue}
use Rattle.std.specs.List.{flat_map}
use Rattle.std.specs.Option.{option_and_then}
use Rattle.std.specs.Result.{result_ok}
use Rattle.rbc_model.specs.declared.limits.TheConstants.{LONGEST_TRACK, MOST_STEPS}
use Rattle.rbc_model.specs.declared.places.Format.{Format}
use Rattle.rbc_model.specs.declared.places.Format.TheVariants.{Near, Far}
use Rattle.rbc_model.specs.declared.places.Leg.{Leg}
use Rattle.rbc_model.specs.declared.refusals.LineFault.{LineFault}
use Rattle.rbc_model.specs.declared.refusals.LineFault.TheVariants.{Command, Words, Name}
use Rattle.rbc_model.specs.declared.tracks.BaliseGroup.{BaliseGroup}
use Rattle.rbc_model.specs.declared.tracks.Link.{Link}
use Rattle.rbc_model.specs.Results.{demand, ◌>>=◌, ◌>>◌}
use Rattle.rbc_model.specs.GroupNames.{IsGroupName}
use Rattle.rbc_model.specs.Kinds.{Kind, speed_kind, grade_kind}
use Rattle.rbc_model.specs.Names.{LegName, is_name, leg_text}
use Rattle.rbc_model.specs.RequestText.{number_at}
use Rattle.rbc_model.specs.Rows.{Row, rows_text, rows_of, leg_or_none, leg_at, leg_or_none_at, each_word, told_by}
use Rattle.rbc_model.specs.SessionReply.{section_word}
use Rattle.rbc_model.specs.SessionText.{name_at, group_at, group_word}
use Rattle.rbc_model.specs.StepsReply.{run_words}
use Rattle.rbc_model.specs.StepsText.{run_in_word}
use Rattle.rbc_model.specs.TrackFile.{format_numbered}
use Rattle.rbc_model.specs.TrackParts.{LinkPart, GroupPart, RoutePart, Parts, track_of}
use Rattle.rbc_model.specs.Tracks.{Section, Route, Track}

-- ---- a track's parts, with their sections by name

-- a leg by its section's name
abbrev pub named_leg : Track → Leg → LegName
named_leg track leg = record { section = section_word track leg.section; direction = leg.direction }

abbrev pub named_link : Track → Link → LinkPart
named_link track link = record { from = named_leg track link.from; to = named_leg track link.to }

abbrev pub named_group : Track → BaliseGroup → GroupPart
named_group track group = record { name = group.name; section = section_word track group.section; offset = group.offset; nominal = group.nominal }

abbrev pub named_route : Track → Route → RoutePart
named_route track route = record { name = route.name; after = option_map (named_leg track) route.after; legs = map (named_leg track) route.legs }

abbrev pub named_parts : Track → Parts
named_parts track = record {
  format = track.format;
  speed_steps = track.speed_steps;
  grade_steps = track.grade_steps;
  sections = track.sections;
  links = map (named_link track) track.links;
  groups = map (named_group track) track.groups;
  routes = map (named_route track) track.routes;
}

-- ---- written

-- the number of a format
abbrev pub format_number : Format → ℕ
format_number Near = 1
format_number Far = 2

-- the format, and how many steps a profile of speeds and one of gradients may have
abbrev pub track_row : Format → ℕ → ℕ → Row
track_row format speed_steps grade_steps = codes "track" ∷ decimal (format_number format) ∷ decimal speed_steps ∷ decimal grade_steps ∷ []

-- a section: its name and its metres; its speeds, each from a metre on; and its gradients
abbrev pub section_rows : Section → List Row
section_rows section =
    (codes "section" ∷ section.name ∷ decimal section.metres ∷ [])
    ∷ (codes "speeds" ∷ section.name ∷ run_words speed_kind section.speeds)
    ∷ (codes "grades" ∷ section.name ∷ run_words grade_kind section.grades)
    ∷ []

-- a link: the second leg may follow the first
abbrev pub link_row : LinkPart → Row
link_row link = codes "link" ∷ leg_text link.from ∷ leg_text link.to ∷ []

-- a balise group: its identity, the leg along which a train passes it in its nominal direction, and its metres from the section's start
abbrev pub group_row : GroupPart → Row
group_row group = codes "group" ∷ group_word group.name ∷ leg_text (record { section = group.section; direction = group.nominal }) ∷ decimal group.offset ∷ []

-- a route: its name, the leg that it is entered from or none, and its legs
abbrev pub route_row : RoutePart → Row
route_row route = codes "route" ∷ route.name ∷ leg_or_none route.after ∷ map leg_text route.legs

-- the rows of all parts, in the order of the track file
abbrev pub part_rows : Parts → List Row
part_rows parts =
    track_row parts.format parts.speed_steps parts.grade_steps
    ∷ flat_map section_rows parts.sections
    ++ map link_row parts.links
    ++ map group_row parts.groups
    ++ map route_row parts.routes
    ++ (codes "done" ∷ []) ∷ []

-- the lines of a track
abbrev pub track_lines : Track → List ℕ
track_lines track = rows_text (part_rows (named_parts track))

-- ---- read

-- the row with the runs of the section of this name, behind this word
abbrev pub runs_in : {V : Type 0} → Kind V → List ℕ → List ℕ → Row → Result (List (ℕ × V)) LineFault
runs_in kind command name (first ∷ second ∷ runs) = do
  demand (bytes_eq first command) Command
  demand (bytes_eq second name) (Name 2)
  each_word (run_in_word kind) 3 runs
runs_in kind command name _ = Err Words

-- a section: the words behind `section`, the row of its speeds, and that of its gradients
abbrev pub section_in : List (List ℕ) → Row → Row → Result Section LineFault
section_in (name ∷ metres ∷ []) speeds grades = do
  name ← name_at 2 name
  metres ← number_at 3 0 LONGEST_TRACK metres
  speeds ← runs_in speed_kind (codes "speeds") name speeds
  grades ← runs_in grade_kind (codes "grades") name grades
  Ok (record { name = name; metres = metres; speeds = speeds; grades = grades })
section_in _ speeds grades = Err Words

-- the sections from the first row on, three rows each, and the rows behind them
abbrev pub sections_in : List Row → Result (List Section × List Row) LineFault
sections_in ((first ∷ words) ∷ speeds ∷ grades ∷ rows) =
    if bytes_eq first (codes "section") then section_in words speeds grades >>= (λ section. sections_in rows >>= (λ rest. Ok (section ∷ rest.0, rest.1)))
    else Ok ([], (first ∷ words) ∷ speeds ∷ grades ∷ rows)
sections_in rows = Ok ([], rows)

-- the words behind `link`
abbrev pub link_in : List (List ℕ) → Result LinkPart LineFault
link_in (from ∷ to ∷ []) = do
  from ← leg_at 2 from
  to ← leg_at 3 to
  Ok (record { from = from; to = to })
link_in _ = Err Words

-- the words behind `group`
abbrev pub group_in : List (List ℕ) → Result GroupPart LineFault
group_in (name ∷ leg ∷ offset ∷ []) = do
  name ← group_at 2 name
  leg ← leg_at 3 leg
  offset ← number_at 4 0 LONGEST_TRACK offset
  Ok (record { name = name; section = leg.section; offset = offset; nominal = leg.direction })
group_in _ = Err Words

-- the words behind `route`
abbrev pub route_in : List (List ℕ) → Result RoutePart LineFault
route_in (name ∷ after ∷ legs) = do
  name ← name_at 2 name
  after ← leg_or_none_at 3 after
  legs ← each_word leg_at 4 legs
  Ok (record { name = name; after = after; legs = legs })
route_in _ = Err Words

-- the row `done`, and no other
abbrev pub is_end : List Row → Bool
is_end ((first ∷ []) ∷ []) = bytes_eq first (codes "done")
is_end _ = false

-- the parts that rows tell
abbrev pub parts_in : List Row → Result Parts LineFault
parts_in ((first ∷ format ∷ speed_steps ∷ grade_steps ∷ []) ∷ rows) = do
  demand (bytes_eq first (codes "track")) Command
  format ← number_at 2 1 2 format
  speed_steps ← number_at 3 1 MOST_STEPS speed_steps
  grade_steps ← number_at 4 1 MOST_STEPS grade_steps
  sections ← sections_in rows
  links ← told_by (codes "link") link_in sections.1
  groups ← told_by (codes "group") group_in links.1
  routes ← told_by (codes "route") route_in groups.1
  demand (is_end routes.1) Words
  Ok (record { format = format_numbered format; speed_steps = speed_steps; grade_steps = grade_steps; sections = sections.0; links = links.0; groups = groups.0; routes = routes.0 })
parts_in _ = Err Words

-- the track, if these are its lines
abbrev pub if_lines_of : List ℕ → Track → Option Track
if_lines_of text track = if bytes_eq (track_lines track) text then Some track else None

-- the sound track that a text tells, if the text is its lines to the letter
abbrev pub read_track_lines : List ℕ → Option Track
read_track_lines text =
    option_and_then (if_lines_of text) (option_and_then (λ parts. result_ok (track_of parts)) (result_ok (parts_in (rows_of text))))

-- ---- which tracks can be told

-- the names of the track's sections and routes are names, and a message can name its balise groups
pub record HasNames (track : Track) : Type 0 where
  pub sections : All (λ section. IsTrue (is_name section.name)) track.sections
  pub routes : All (λ route. IsTrue (is_name route.name)) track.routes
  pub groups : All (λ group. IsGroupName group.name) track.groups
