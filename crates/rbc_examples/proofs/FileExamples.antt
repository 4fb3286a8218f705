-- Files: one that tells a track, and the first fault of others.
use Rattle.std.specs.Prelude.{◌≡◌, List, [], ◌∷◌, ◌++◌, None, Ok, Err, Result, refl, pos, negsuc, codes}
use Rattle.rbc_model.specs.declared.places.Format.TheVariants.{Far}
use Rattle.rbc_model.specs.declared.files.FileTable.TheVariants.{Top, Section, Link, Group, Route}
use Rattle.rbc_model.specs.declared.files.FileFault.{FileFault}
use Rattle.rbc_model.specs.declared.files.FileFault.TheVariants.{Toml, Missing, Wrong, Unknown, Range, Runs, Track as BadTrack}
use Rattle.rbc_model.specs.declared.files.Key.TheVariants.{Format, SpeedSteps, Section as SectionKey, Length, Speeds, Grades, To, Country, Nominal, After, Legs, Name}
use Rattle.rbc_model.specs.declared.tracks.TrackRefusal.TheVariants.{NoSection, BadRoute}
use Rattle.rbc_model.specs.Tracks.{Track}
use Rattle.rbc_model.specs.TrackFile.{track_at, track_in_file}
use Rattle.rbc_examples.specs.SmallDocuments.{Number, Text, Entry, small_document, items, tables, run, section, link, group, route, route_from_none}
use Rattle.rbc_examples.specs.Places.{single, double}

-- the track that a file with these keys and values tells
abbrev track_told : Entry → Result Track FileFault
track_told members = track_at small_document members

abbrev format : Entry
format = (codes "format", Number (pos 1)) ∷ []

-- a file with these tables
abbrev file : List Entry → List Entry → List Entry → List Entry → Entry
file sections links groups routes =
    format
    ++ (codes "group", tables groups)
    ∷ (codes "link", tables links)
    ∷ (codes "route", tables routes)
    ∷ (codes "section", tables sections)
    ∷ []

-- ---- files that tell tracks

abbrev s1 : Entry
s1 = section (codes "S1") (pos 1000) (run (pos 0) (pos 100) ∷ []) (run (pos 0) (negsuc 4) ∷ [])

abbrev onto_s2 : Entry
onto_s2 = link (codes "S1+") (codes "S2+")

abbrev group_17 : Entry
group_17 = group (pos 5) (pos 17) (codes "S1") (pos 0) (codes "+")

abbrev along : Entry
along = route_from_none (codes "Along") (Text (codes "S1+") ∷ [])

-- one section, and a group and a route on it; a list of tables may be absent
abbrev single_tables : Entry
single_tables =
    (codes "group", tables (group_17 ∷ [])) ∷ (codes "route", tables (along ∷ [])) ∷ (codes "section", tables (s1 ∷ [])) ∷ []

tells_single : track_told (format ++ single_tables) ≡ Ok single
tells_single = refl

-- a file may ask for fewer steps than a packet has room for
abbrev single_in_few_steps : Entry
single_in_few_steps =
    format ++ (codes "grade_steps", Number (pos 7)) ∷ single_tables ++ (codes "speed_steps", Number (pos 4)) ∷ []

tells_its_steps : track_told single_in_few_steps ≡ Ok (record single { speed_steps = 4; grade_steps = 7 })
tells_its_steps = refl

abbrev double_file : Entry
double_file =
    file
    (s1
    ∷ section (codes "S2") (pos 500) (run (pos 0) (pos 120) ∷ run (pos 200) (pos 160) ∷ []) (run (pos 0) (pos 3) ∷ [])
    ∷ section (codes "S3") (pos 300) (run (pos 0) (pos 40) ∷ []) (run (pos 0) (pos 0) ∷ [])
    ∷ [])
    (onto_s2 ∷ [])
    (group_17 ∷ group (pos 5) (pos 18) (codes "S2") (pos 100) (codes "-") ∷ [])
    (along
    ∷ route (codes "Onward") (codes "S1+") (Text (codes "S2+") ∷ [])
    ∷ route_from_none (codes "Back") (Text (codes "S2-") ∷ Text (codes "S1-") ∷ [])
    ∷ route_from_none (codes "Apart") (Text (codes "S3+") ∷ [])
    ∷ [])

tells_double : track_told double_file ≡ Ok double
tells_double = refl

-- ---- faults of the top table

no_toml : track_in_file small_document None ≡ Err Toml
no_toml = refl

no_format : track_told [] ≡ Err (Missing Top 1 Format)
no_format = refl

format_as_text : track_told ((codes "format", Text (codes "1")) ∷ []) ≡ Err (Wrong Top 1 Format)
format_as_text = refl

another_format : track_told ((codes "format", Number (pos 3)) ∷ []) ≡ Err (Range Top 1 Format)
another_format = refl

-- the second format is told with the track
tells_far : track_told ((codes "format", Number (pos 2)) ∷ single_tables) ≡ Ok (record single { format = Far })
tells_far = refl

too_many_steps : track_told (format ++ (codes "speed_steps", Number (pos 32)) ∷ []) ≡ Err (Range Top 1 SpeedSteps)
too_many_steps = refl

-- a list of numbers is none of tables
no_tables : track_told (format ++ (codes "section", items (Number (pos 1) ∷ [])) ∷ []) ≡ Err (Wrong Top 1 SectionKey)
no_tables = refl

-- the top table's own keys are told before any other table, and the tables in order
other_key_first : track_told ((codes "areas", Number (pos 3)) ∷ file ([] ∷ []) [] [] [])
    ≡ Err (Unknown Top 1 (codes "areas"))
other_key_first = refl

sections_first : track_told (file (s1 ∷ [] ∷ []) ([] ∷ []) [] []) ≡ Err (Missing Section 2 Name)
sections_first = refl

-- ---- faults of the other tables

abbrev section_told : Entry → Result Track FileFault
section_told entry = track_told (file (entry ∷ []) [] [] [])

short_section : section_told (section (codes "S1") (pos 24) [] []) ≡ Err (Range Section 1 Length)
short_section = refl

negative_length : section_told (section (codes "S1") (negsuc 999) [] []) ≡ Err (Range Section 1 Length)
negative_length = refl

-- a speed of 601 km/h, and one in a list of three
fast_run : section_told (section (codes "S1") (pos 1000) (run (pos 0) (pos 601) ∷ []) []) ≡ Err (Range Section 1 Speeds)
fast_run = refl

three_numbers :
    section_told
    (section (codes "S1") (pos 1000) (items (Number (pos 0) ∷ Number (pos 5) ∷ Number (pos 5) ∷ []) ∷ []) [])
    ≡ Err (Wrong Section 1 Speeds)
three_numbers = refl

-- gradients that do not begin at the section's start
late_grades : section_told (section (codes "S1") (pos 1000) (run (pos 0) (pos 100) ∷ []) (run (pos 1) (pos 0) ∷ []))
    ≡ Err (Runs 1 Grades)
late_grades = refl

-- a leg with no direction
no_direction : track_told (file (s1 ∷ []) (onto_s2 ∷ link (codes "S1+") (codes "S2") ∷ []) [] [])
    ≡ Err (Range Link 2 To)
no_direction = refl

no_nominal : track_told (file (s1 ∷ []) [] (group (pos 5) (pos 17) (codes "S1") (pos 0) (codes "up") ∷ []) [])
    ≡ Err (Range Group 1 Nominal)
no_nominal = refl

country_out_of_range :
    track_told
    (file (s1 ∷ []) [] (group (pos 1024) (pos 17) (codes "S1") (pos 0) (codes "+") ∷ []) [])
    ≡ Err (Range Group 1 Country)
country_out_of_range = refl

-- a route may be entered from no leg, but not from a number
entered_from_a_number : track_told (file (s1 ∷ []) [] [] (((codes "after", Number (pos 1)) ∷ along) ∷ []))
    ≡ Err (Wrong Route 1 After)
entered_from_a_number = refl

no_legs : track_told (file (s1 ∷ []) [] [] (((codes "name", Text (codes "Along")) ∷ []) ∷ []))
    ≡ Err (Missing Route 1 Legs)
no_legs = refl

other_key_of_a_link : track_told (file (s1 ∷ []) (((codes "by", Text (codes "S3+")) ∷ onto_s2) ∷ []) [] [])
    ≡ Err (Unknown Link 1 (codes "by"))
other_key_of_a_link = refl

-- ---- tables that make no track

no_section : track_told format ≡ Err (BadTrack NoSection)
no_section = refl

-- a route over a section that is not there
leg_of_no_section :
    track_told
    (file (s1 ∷ []) [] [] (along ∷ route_from_none (codes "Onward") (Text (codes "S2+") ∷ []) ∷ []))
    ≡ Err (BadTrack (BadRoute 2))
leg_of_no_section = refl
