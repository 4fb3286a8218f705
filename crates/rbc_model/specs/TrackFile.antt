-- A track file, as the tables, texts, numbers and lists that it holds: the track that it tells, or its first fault.
use Rattle.std.specs.Prelude.{◌≡◌, bytes_eq, codes, ℕ, suc, not, Bool, is_some, List, [], ◌∷◌, find, Option, Some, None, option_map, ℤ, pos, negsuc, int_le, Result, Ok, Err, ◌&&◌, ◌==◌, if◌then◌else◌}
use Rattle.std.specs.List.{AllByRecursion, list_all, list_any}
use Rattle.std.specs.Cmp.Lexicographic.{slice_cmp}
use Rattle.std.specs.Ordering.{nat_cmp}
use Rattle.std.proofs.Common.{Less}
use Rattle.std.specs.Option.{option_and_then}
use Rattle.std.specs.Result.{result_map_both}
use Rattle.rbc_model.specs.declared.limits.TheConstants.{SLOWEST, FASTEST, LONGEST_TRACK, SHORTEST_RUN, LAST_COUNTRY, LAST_GROUP, MOST_STEPS}
use Rattle.rbc_model.specs.declared.places.Format.{Format}
use Rattle.rbc_model.specs.declared.places.Format.TheVariants.{Near, Far}
use Rattle.rbc_model.specs.declared.files.FileTable.{FileTable}
use Rattle.rbc_model.specs.declared.files.FileTable.TheVariants.{Top, Section as SectionTable, Link as LinkTable, Group as GroupTable, Route as RouteTable}
use Rattle.rbc_model.specs.declared.files.FileFault.{FileFault}
use Rattle.rbc_model.specs.declared.files.FileFault.TheVariants.{Toml, Missing, Wrong, Unknown, Range, Runs, Track as BadTrack}
use Rattle.rbc_model.specs.declared.files.Key.{Key}
use Rattle.rbc_model.specs.declared.files.Key.TheVariants.{Format as FormatKey, SpeedSteps, GradeSteps, Section as SectionKey, Link as LinkKey, Group as GroupKey, Route as RouteKey, Name, Length, Speeds, Grades, From, To, Country, Number, Offset, Nominal, After, Legs}
use Rattle.rbc_model.specs.Results.{demand, ◌>>=◌, ◌>>◌}
use Rattle.rbc_model.specs.Levels.{Levels, speed_levels, grade_levels}
use Rattle.rbc_model.specs.Profiles.{StepFunction, runs_of}
use Rattle.rbc_model.specs.Names.{LegName, name_in, leg_in, direction_in}
use Rattle.rbc_model.specs.Tracks.{Section, Track}
use Rattle.rbc_model.specs.TrackParts.{LinkPart, GroupPart, RoutePart, Parts, track_of}

-- ---- what a file holds

-- A kind of document: what its values are, each as a whole number, a text, a list, or a table of keys with their values in order of the keys' bytes.
pub record Document (D : Type 0) : Type 0 where
  pub as_number : D → Option ℤ
  pub as_text : D → Option (List ℕ)
  pub as_list : D → Option (List D)
  pub as_table : D → Option (List (List ℕ × D))

-- how a file spells its keys
abbrev pub key_text : Key → List ℕ
key_text FormatKey = codes "format"
key_text SpeedSteps = codes "speed_steps"
key_text GradeSteps = codes "grade_steps"
key_text SectionKey = codes "section"
key_text LinkKey = codes "link"
key_text GroupKey = codes "group"
key_text RouteKey = codes "route"
key_text Name = codes "name"
key_text Length = codes "length"
key_text Speeds = codes "speeds"
key_text Grades = codes "grades"
key_text From = codes "from"
key_text To = codes "to"
key_text Country = codes "country"
key_text Number = codes "number"
key_text Offset = codes "offset"
key_text Nominal = codes "nominal"
key_text After = codes "after"
key_text Legs = codes "legs"

-- the keys ascend, byte by byte
abbrev pub AreInKeyOrder : {D : Type 0} → List (List ℕ × D) → Type 0
AreInKeyOrder [] = Unit {0}
AreInKeyOrder (member ∷ later) = AllByRecursion (λ other. slice_cmp nat_cmp member.0 other.0 ≡ Less) later × AreInKeyOrder later

-- An entry: its table, its number there, and its keys with their values.
pub record FileEntry (D : Type 0) : Type 0 where
  pub table : FileTable
  pub number : ℕ
  pub members : List (List ℕ × D)

-- What the top table's own keys tell: the format, the step limits, and the values of the lists of tables.
pub record TopKeys (D : Type 0) : Type 0 where
  pub format : Format
  pub speed_steps : ℕ
  pub grade_steps : ℕ
  pub sections : List D
  pub links : List D
  pub groups : List D
  pub routes : List D

-- ---- values in their forms

-- a number from the first to the second
abbrev pub number_from_to : ℕ → ℕ → ℤ → Option ℕ
number_from_to low high (negsuc n) = None
number_from_to low high (pos n) = if int_le (pos low) (pos n) && int_le (pos n) (pos high) then Some n else None

-- the format of a number, 1 or 2
abbrev pub format_numbered : ℕ → Format
format_numbered number = if number == 1 then Near else Far

-- a speed, and a gradient
abbrev pub speed_in : ℤ → Option ℕ
speed_in = number_from_to SLOWEST FASTEST

abbrev pub grade_in : ℤ → Option ℤ
grade_in value = if grade_levels.in_range value then Some value else None

-- a start, 0 to 100,000 m, with a level
abbrev pub run_with : {V : Type 0} → Option ℕ → Option V → Option (ℕ × V)
run_with (Some start) (Some value) = Some (start, value)
run_with _ _ = None

abbrev pub run_of_pair : {V : Type 0} → (ℤ → Option V) → ℤ × ℤ → Option (ℕ × V)
run_of_pair level_in pair = run_with (number_from_to 0 LONGEST_TRACK pair.0) (level_in pair.1)

-- ---- the first fault of an entry, key by key

-- no fault, where there is a value in its form
abbrev pub or_fault : {A : Type 0} → FileFault → Option A → Result A FileFault
or_fault fault None = Err fault
or_fault fault (Some x) = Ok x

module _ {D : Type 0} (document : Document D) where
  -- two whole numbers
  abbrev pub pair_of : List D → Option (ℤ × ℤ)
  pair_of (a ∷ b ∷ []) = option_and_then (λ x. option_map (λ y. (x, y)) (document.as_number b)) (document.as_number a)
  pair_of _ = None

  abbrev pub pair_in : D → Option (ℤ × ℤ)
  pair_in value = option_and_then pair_of (document.as_list value)

  -- the value at a key
  abbrev pub value_at_key : FileEntry D → Key → Option D
  value_at_key entry key = option_map (λ member. member.1) (find (λ member. bytes_eq member.0 (key_text key)) entry.members)

  -- the value at a key, if it is of the sort asked for, and then in its form
  abbrev pub in_form : {A B : Type 0} → (D → Option A) → (A → Option B) → FileEntry D → Key → D → Result B FileFault
  in_form sort form entry key value = do
    found ← or_fault (Wrong entry.table entry.number key) (sort value)
    or_fault (Range entry.table entry.number key) (form found)

  -- a key that must be there
  abbrev pub required : {A B : Type 0} → (D → Option A) → (A → Option B) → FileEntry D → Key → Result B FileFault
  required sort form entry key = do
    value ← or_fault (Missing entry.table entry.number key) (value_at_key entry key)
    in_form sort form entry key value

  -- a key that may be absent, with what it stands for then
  abbrev pub or_absent : {A : Type 0} → (D → Result A FileFault) → A → Option D → Result A FileFault
  or_absent read absent None = Ok absent
  or_absent read absent (Some value) = read value

  abbrev pub optional : {A B : Type 0} → (D → Option A) → (A → Option B) → B → FileEntry D → Key → Result B FileFault
  optional sort form absent entry key = or_absent (in_form sort form entry key) absent (value_at_key entry key)

  -- a leg, if its key is there
  abbrev pub leg_if_any : FileEntry D → Key → Result (Option LegName) FileFault
  leg_if_any entry key =
      or_absent (λ value. in_form document.as_text leg_in entry key value >>= λ leg. Ok (Some leg)) None
      (value_at_key entry key)

  -- no keys but these
  abbrev pub no_unknown : FileEntry D → Option (List ℕ × D) → Result (Unit {0}) FileFault
  no_unknown entry None = Ok tt
  no_unknown entry (Some member) = Err (Unknown entry.table entry.number member.0)

  abbrev pub only_keys : List Key → FileEntry D → Result (Unit {0}) FileFault
  only_keys keys entry = no_unknown entry (find (λ member. not (list_any (λ key. bytes_eq member.0 (key_text key)) keys)) entry.members)

  -- ---- lists: their values are all of one sort before one of them is out of its form

  -- the values of a list, if all pass the test of a sort
  abbrev pub values_of : (D → Bool) → FileEntry D → Key → D → Result (List D) FileFault
  values_of is_of_sort entry key value = do
    values ← or_fault (Wrong entry.table entry.number key) (document.as_list value)
    demand (list_all is_of_sort values) (Wrong entry.table entry.number key)
    Ok values

  -- each value, read with its number, which counts from a number on
  abbrev pub each_at : {A : Type 0} → (ℕ → D → Result A FileFault) → ℕ → List D → Result (List A) FileFault
  each_at read number [] = Ok []
  each_at read number (value ∷ later) = do
    first ← read number value
    rest ← each_at read (suc number) later
    Ok (first ∷ rest)

  -- a list of values of a sort in a form, at a key that must be there
  abbrev pub required_list : {A B : Type 0} → (D → Option A) → (A → Option B) → FileEntry D → Key → Result (List B) FileFault
  required_list sort form entry key = do
    value ← or_fault (Missing entry.table entry.number key) (value_at_key entry key)
    values ← values_of (λ value. is_some (sort value)) entry key value
    each_at (λ number value. in_form sort form entry key value) 1 values

  -- a list of tables, which may be absent
  abbrev pub list_at : FileEntry D → Key → Result (List D) FileFault
  list_at entry key = or_absent (values_of (λ value. is_some (document.as_table value)) entry key) [] (value_at_key entry key)

  -- the entries of a list of tables
  abbrev pub inner_at : FileTable → FileEntry D → Key → ℕ → D → Result (FileEntry D) FileFault
  inner_at table entry key number value = do
    members ← or_fault (Wrong entry.table entry.number key) (document.as_table value)
    Ok (record { table = table; number = number; members = members })

  abbrev pub entries_at : {A : Type 0} → (FileEntry D → Result A FileFault) → FileTable → FileEntry D → Key → List D → Result (List A) FileFault
  entries_at entry_at table entry key values = each_at (λ number value. inner_at table entry key number value >>= entry_at) 1 values

  -- ---- entries of the lists of tables

  -- runs that make a function of a section's metres
  abbrev pub runs_at : {V : Type 0} → Levels V → (ℤ → Option V) → FileEntry D → ℕ → Key → Result (StepFunction V) FileFault
  runs_at levels level_in entry metres key = do
    rows ← required_list pair_in (run_of_pair level_in) entry key
    result_map_both (λ track. track) (λ _. Runs entry.number key) (runs_of levels metres rows)

  abbrev pub section_at : FileEntry D → Result Section FileFault
  section_at entry = do
    name ← required document.as_text name_in entry Name
    metres ← required document.as_number (number_from_to SHORTEST_RUN LONGEST_TRACK) entry Length
    speeds ← runs_at speed_levels speed_in entry metres Speeds
    grades ← runs_at grade_levels grade_in entry metres Grades
    only_keys (Name ∷ Length ∷ Speeds ∷ Grades ∷ []) entry
    Ok (record { name = name; metres = metres; speeds = speeds.steps; grades = grades.steps })

  abbrev pub link_at : FileEntry D → Result LinkPart FileFault
  link_at entry = do
    from ← required document.as_text leg_in entry From
    to ← required document.as_text leg_in entry To
    only_keys (From ∷ To ∷ []) entry
    Ok (record { from = from; to = to })

  abbrev pub group_at : FileEntry D → Result GroupPart FileFault
  group_at entry = do
    country ← required document.as_number (number_from_to 0 LAST_COUNTRY) entry Country
    number ← required document.as_number (number_from_to 0 LAST_GROUP) entry Number
    section ← required document.as_text name_in entry SectionKey
    offset ← required document.as_number (number_from_to 0 LONGEST_TRACK) entry Offset
    nominal ← required document.as_text direction_in entry Nominal
    only_keys (Country ∷ Number ∷ SectionKey ∷ Offset ∷ Nominal ∷ []) entry
    Ok (record { name = record { country = country; number = number }; section = section; offset = offset; nominal = nominal })

  abbrev pub route_at : FileEntry D → Result RoutePart FileFault
  route_at entry = do
    name ← required document.as_text name_in entry Name
    after ← leg_if_any entry After
    legs ← required_list document.as_text leg_in entry Legs
    only_keys (Name ∷ After ∷ Legs ∷ []) entry
    Ok (record { name = name; after = after; legs = legs })

  -- ---- the file

  -- what the top table's own keys tell
  abbrev pub keys_at : FileEntry D → Result (TopKeys D) FileFault
  keys_at top = do
    format ← required document.as_number (number_from_to 1 2) top FormatKey
    speed_steps ← optional document.as_number (number_from_to 1 MOST_STEPS) MOST_STEPS top SpeedSteps
    grade_steps ← optional document.as_number (number_from_to 1 MOST_STEPS) MOST_STEPS top GradeSteps
    sections ← list_at top SectionKey
    links ← list_at top LinkKey
    groups ← list_at top GroupKey
    routes ← list_at top RouteKey
    Ok (record { format = format_numbered format; speed_steps = speed_steps; grade_steps = grade_steps; sections = sections; links = links; groups = groups; routes = routes })

  -- the parts that the top table tells: its own keys first, then the tables in order
  abbrev pub parts_at : FileEntry D → Result Parts FileFault
  parts_at top = do
    keys ← keys_at top
    only_keys (FormatKey ∷ SpeedSteps ∷ GradeSteps ∷ SectionKey ∷ LinkKey ∷ GroupKey ∷ RouteKey ∷ []) top
    sections ← entries_at section_at SectionTable top SectionKey keys.sections
    links ← entries_at link_at LinkTable top LinkKey keys.links
    groups ← entries_at group_at GroupTable top GroupKey keys.groups
    routes ← entries_at route_at RouteTable top RouteKey keys.routes
    Ok (record { format = keys.format; speed_steps = keys.speed_steps; grade_steps = keys.grade_steps; sections = sections; links = links; groups = groups; routes = routes })

  -- the track that a file tells, or its first fault: of its tables, and then of the track
  abbrev pub track_at : List (List ℕ × D) → Result Track FileFault
  track_at members = do
    parts ← parts_at (record { table = Top; number = 1; members = members })
    result_map_both (λ track. track) BadTrack (track_of parts)

  -- the track that a text tells, or its first fault: first of all that it is none of the file's language
  abbrev pub track_in_file : Option (List (List ℕ × D)) → Result Track FileFault
  track_in_file None = Err Toml
  track_in_file (Some members) = track_at members
