-- What is answered of a track file in TOML: the definition of `TrackFile`, cut into the steps that are taken here.
use Rattle.std.specs.Prelude.{◌≡◌, ℕ, ℤ, List, [], ◌∷◌, Option, Some, None, option_map, Result, Ok, Err, Bool, is_some, if◌then◌else◌}
use Rattle.std.specs.List.{list_all}
use Rattle.std.specs.Result.{result_map_both}
use Rattle.std.specs.Str.{is_utf8}
use Rattle.toml.specs.Parse.{parse_document}
use Rattle.toml.specs.Data.{Data, Members, as_integer, as_str}
use Rattle.rbc_model.specs.declared.limits.TheConstants.{MOST_STEPS, SHORTEST_RUN, LONGEST_TRACK, LAST_COUNTRY, LAST_GROUP}
use Rattle.rbc_model.specs.declared.files.FileFault.{FileFault}
use Rattle.rbc_model.specs.declared.files.FileFault.TheVariants.{Toml, Missing, Wrong, Range, Runs, Track as BadTrack}
use Rattle.rbc_model.specs.declared.files.FileTable.{FileTable}
use Rattle.rbc_model.specs.declared.files.FileTable.TheVariants.{Top, Section as SectionTable, Link as LinkTable, Group as GroupTable, Route as RouteTable}
use Rattle.rbc_model.specs.declared.files.Key.{Key}
use Rattle.rbc_model.specs.declared.files.Key.TheVariants.{Format as FormatKey, SpeedSteps, GradeSteps, Section as SectionKey, Link as LinkKey, Group as GroupKey, Route as RouteKey, Name, Length, Speeds, Grades, From, To, Country, Number, Offset, Nominal, After, Legs}
use Rattle.rbc_model.specs.Results.{demand, ◌>>=◌, ◌>>◌}
use Rattle.rbc_model.specs.TrackFile.{FileEntry, TopKeys, or_fault, or_absent, pair_in, each_at, value_at_key, number_from_to, format_numbered, run_of_pair, speed_in, grade_in, only_keys, parts_at, track_in_file}
use Rattle.rbc_model.specs.Levels.{Levels, speed_levels, grade_levels}
use Rattle.rbc_model.specs.Names.{LegName, name_in, leg_in, direction_in}
use Rattle.rbc_model.specs.Profiles.{StepFunction, runs_of}
use Rattle.rbc_model.specs.Tracks.{Section, Track}
use Rattle.rbc_model.specs.TrackParts.{LinkPart, GroupPart, RoutePart, Parts, track_of}
use Rattle.rbc_trackfile.specs.declared.values.Sort.{Sort}
use Rattle.rbc_trackfile.specs.declared.values.Sort.TheVariants.{Text, Pair, Table}
use Rattle.rbc_trackfile.specs.TomlFile.{toml_document, member_list}

-- what is answered is what the definition says; the value is seen by the function given first
abbrev pub Tells : {X Y : Type 0} → (X → Y) → Result X FileFault → Result Y FileFault → Type 0
Tells view (Ok x) answer = answer ≡ Ok (view x)
Tells view (Err fault) answer = answer ≡ Err fault

-- ---- values at keys

unfoldable pub value_told : FileEntry Data → Key → Option Data
value_told = value_at_key toml_document

-- a value that must be there
unfoldable pub there_told : FileEntry Data → Key → Result Data FileFault
there_told entry key = or_fault (Missing entry.table entry.number key) (value_told entry key)

-- a value of a sort and in a form, at a key that must be there, and at one that may be absent
unfoldable pub in_form_told : {A B : Type 0} → (Data → Option A) → (A → Option B) → FileEntry Data → Key → Data → Result B FileFault
in_form_told sort form entry key value = do
  found ← or_fault (Wrong entry.table entry.number key) (sort value)
  or_fault (Range entry.table entry.number key) (form found)

unfoldable pub required_told : {A B : Type 0} → (Data → Option A) → (A → Option B) → FileEntry Data → Key → Result B FileFault
required_told sort form entry key = do
  value ← there_told entry key
  in_form_told sort form entry key value

unfoldable pub optional_told : {A B : Type 0} → (Data → Option A) → (A → Option B) → B → FileEntry Data → Key → Result B FileFault
optional_told sort form absent entry key = or_absent toml_document (in_form_told sort form entry key) absent (value_told entry key)

-- a leg, if its key is there
unfoldable pub leg_if_any_told : FileEntry Data → Key → Result (Option LegName) FileFault
leg_if_any_told entry key =
    or_absent toml_document (λ value. in_form_told as_str leg_in entry key value >>= λ leg. Ok (Some leg)) None (value_told entry key)

-- no keys but these
unfoldable pub only_told : List Key → FileEntry Data → Result (Unit {0}) FileFault
only_told = only_keys toml_document

-- ---- lists, whose values are all of one sort before one of them is out of its form

unfoldable pub list_sort : Data → Option (List Data)
list_sort = toml_document.as_list

unfoldable pub pair_sort : Data → Option (ℤ × ℤ)
pair_sort = pair_in toml_document

unfoldable pub table_sort : Data → Option (List (List ℕ × Data))
table_sort = toml_document.as_table

-- whether a value is of the sort
abbrev pub is_of_sort : Sort → Data → Bool
is_of_sort Text value = is_some (as_str value)
is_of_sort Pair value = is_some (pair_sort value)
is_of_sort Table value = is_some (table_sort value)

-- the values of a list, if all are of the sort
unfoldable pub values_told : Sort → FileEntry Data → Key → Data → Result (List Data) FileFault
values_told sort entry key value = do
  values ← or_fault (Wrong entry.table entry.number key) (list_sort value)
  demand (list_all (is_of_sort sort) values) (Wrong entry.table entry.number key)
  Ok values

-- the tables of the list at a key, none where the key is absent
unfoldable pub tables_told : FileEntry Data → Key → Result (List Data) FileFault
tables_told entry key = or_absent toml_document (values_told Table entry key) [] (value_told entry key)

-- each value, read with its number, counted from a number on
unfoldable pub each_told : {A : Type 0} → (ℕ → Data → Result A FileFault) → ℕ → List Data → Result (List A) FileFault
each_told = each_at toml_document

-- the list at a key that must be there
unfoldable pub list_told : {A : Type 0} → Sort → (FileEntry Data → Key → ℕ → Data → Result A FileFault) → FileEntry Data → Key → Result (List A) FileFault
list_told sort read entry key = do
  value ← there_told entry key
  values ← values_told sort entry key value
  each_told (read entry key) 1 values

-- a value in its form, whatever its number
unfoldable pub item_told : {A B : Type 0} → (Data → Option A) → (A → Option B) → FileEntry Data → Key → ℕ → Data → Result B FileFault
item_told sort form entry key number value = in_form_told sort form entry key value

-- the entry that a value of a list of tables is
unfoldable pub inner_told : FileTable → FileEntry Data → Key → ℕ → Data → Result (FileEntry Data) FileFault
inner_told table entry key number value = do
  members ← or_fault (Wrong entry.table entry.number key) (table_sort value)
  Ok (record { table = table; number = number; members = members })

unfoldable pub entry_told : {A : Type 0} → (FileEntry Data → Result A FileFault) → FileTable → FileEntry Data → Key → ℕ → Data → Result A FileFault
entry_told read table entry key number value = do
  inner ← inner_told table entry key number value
  read inner

-- ---- entries of the lists of tables

-- speeds or gradients over this many metres
unfoldable pub runs_told : {V : Type 0} → Levels V → (ℤ → Option V) → FileEntry Data → ℕ → Key → Result (StepFunction V) FileFault
runs_told levels level_in entry metres key = do
  rows ← list_told Pair (item_told pair_sort (run_of_pair level_in)) entry key
  result_map_both (λ track. track) (λ _. Runs entry.number key) (runs_of levels metres rows)

-- the entries of each table
unfoldable pub section_told : FileEntry Data → Result Section FileFault
section_told entry = do
  name ← required_told as_str name_in entry Name
  metres ← required_told as_integer (number_from_to SHORTEST_RUN LONGEST_TRACK) entry Length
  speeds ← runs_told speed_levels speed_in entry metres Speeds
  grades ← runs_told grade_levels grade_in entry metres Grades
  only_told (Name ∷ Length ∷ Speeds ∷ Grades ∷ []) entry
  Ok (record { name = name; metres = metres; speeds = speeds.steps; grades = grades.steps })

unfoldable pub link_told : FileEntry Data → Result LinkPart FileFault
link_told entry = do
  from ← required_told as_str leg_in entry From
  to ← required_told as_str leg_in entry To
  only_told (From ∷ To ∷ []) entry
  Ok (record { from = from; to = to })

unfoldable pub group_told : FileEntry Data → Result GroupPart FileFault
group_told entry = do
  country ← required_told as_integer (number_from_to 0 LAST_COUNTRY) entry Country
  number ← required_told as_integer (number_from_to 0 LAST_GROUP) entry Number
  section ← required_told as_str name_in entry SectionKey
  offset ← required_told as_integer (number_from_to 0 LONGEST_TRACK) entry Offset
  nominal ← required_told as_str direction_in entry Nominal
  only_told (Country ∷ Number ∷ SectionKey ∷ Offset ∷ Nominal ∷ []) entry
  Ok (record { name = record { country = country; number = number }; section = section; offset = offset; nominal = nominal })

unfoldable pub route_told : FileEntry Data → Result RoutePart FileFault
route_told entry = do
  name ← required_told as_str name_in entry Name
  after ← leg_if_any_told entry After
  legs ← list_told Text (item_told as_str leg_in) entry Legs
  only_told (Name ∷ After ∷ Legs ∷ []) entry
  Ok (record { name = name; after = after; legs = legs })

-- ---- the file

-- what the top table's own keys tell
unfoldable pub keys_told : FileEntry Data → Result (TopKeys Data) FileFault
keys_told top = do
  format ← required_told as_integer (number_from_to 1 2) top FormatKey
  speed_steps ← optional_told as_integer (number_from_to 1 MOST_STEPS) MOST_STEPS top SpeedSteps
  grade_steps ← optional_told as_integer (number_from_to 1 MOST_STEPS) MOST_STEPS top GradeSteps
  sections ← tables_told top SectionKey
  links ← tables_told top LinkKey
  groups ← tables_told top GroupKey
  routes ← tables_told top RouteKey
  Ok (record { format = format_numbered format; speed_steps = speed_steps; grade_steps = grade_steps; sections = sections; links = links; groups = groups; routes = routes })

-- the parts that the top table tells
unfoldable pub top_told : FileEntry Data → Result Parts FileFault
top_told top = do
  keys ← keys_told top
  only_told (FormatKey ∷ SpeedSteps ∷ GradeSteps ∷ SectionKey ∷ LinkKey ∷ GroupKey ∷ RouteKey ∷ []) top
  sections ← each_told (entry_told section_told SectionTable top SectionKey) 1 keys.sections
  links ← each_told (entry_told link_told LinkTable top LinkKey) 1 keys.links
  groups ← each_told (entry_told group_told GroupTable top GroupKey) 1 keys.groups
  routes ← each_told (entry_told route_told RouteTable top RouteKey) 1 keys.routes
  Ok (record { format = keys.format; speed_steps = keys.speed_steps; grade_steps = keys.grade_steps; sections = sections; links = links; groups = groups; routes = routes })

-- the entry that a whole table of TOML is
abbrev pub top_of : Members → FileEntry Data
top_of members = record { table = Top; number = 1; members = member_list members }

-- the table that a text is in TOML, if it is UTF-8 and TOML
unfoldable pub toml_table : List ℕ → Option Members
toml_table text = if is_utf8 text then parse_document text else None

-- the track that a text tells
unfoldable pub file_told : List ℕ → Result Track FileFault
file_told text = do
  members ← or_fault Toml (toml_table text)
  parts ← parts_at toml_document (top_of members)
  result_map_both (λ track. track) BadTrack (track_of parts)

-- the track that a text tells, by the definition
abbrev pub track_told : List ℕ → Result Track FileFault
track_told text = track_in_file toml_document (option_map member_list (toml_table text))
