-- How a fault is told in a line of text.
use Rattle.std.specs.Prelude.{codes, ℕ, List, ◌∷◌, ◌++◌, decimal}
use Rattle.rbc_model.specs.declared.files.FileTable.{FileTable}
use Rattle.rbc_model.specs.declared.files.FileTable.TheVariants.{Top, Section, Link, Group, Route}
use Rattle.rbc_model.specs.declared.tracks.Table.{Table}
use Rattle.rbc_model.specs.declared.tracks.Table.TheVariants.{Sections, Links, Groups, Routes}
use Rattle.rbc_model.specs.declared.tracks.TrackRefusal.{TrackRefusal}
use Rattle.rbc_model.specs.declared.tracks.TrackRefusal.TheVariants.{NoSection, TooMany, TwiceNamed, ShortRun, BadLink, BadGroup, BadRoute}
use Rattle.rbc_model.specs.TrackFile.{key_text}
use Rattle.rbc_model.specs.declared.files.FileFault.{FileFault}
use Rattle.rbc_model.specs.declared.files.FileFault.TheVariants.{Toml, Missing, Wrong, Unknown, Range, Runs, Track}

-- the tables, as keys of the top table, and this itself
abbrev pub table_text : FileTable → List ℕ
table_text Top = codes "top"
table_text Section = codes "section"
table_text Link = codes "link"
table_text Group = codes "group"
table_text Route = codes "route"

abbrev pub list_text : Table → List ℕ
list_text Sections = codes "section"
list_text Links = codes "link"
list_text Groups = codes "group"
list_text Routes = codes "route"

-- words with a space (32) between them
abbrev pub at_entry : List ℕ → List ℕ → ℕ → List ℕ
at_entry name table number = name ++ 32 ∷ (table ++ 32 ∷ decimal number)

abbrev pub refusal_text : TrackRefusal → List ℕ
refusal_text NoSection = codes "NoSection"
refusal_text (TooMany table) = codes "TooMany " ++ list_text table
refusal_text (TwiceNamed table number) = at_entry (codes "TwiceNamed") (list_text table) number
refusal_text (ShortRun number) = at_entry (codes "ShortRun") (codes "section") number
refusal_text (BadLink number) = at_entry (codes "Link") (codes "link") number
refusal_text (BadGroup number) = at_entry (codes "Group") (codes "group") number
refusal_text (BadRoute number) = at_entry (codes "Route") (codes "route") number

abbrev pub fault_text : FileFault → List ℕ
fault_text Toml = codes "Toml"
fault_text (Missing table number key) = at_entry (codes "Missing") (table_text table) number ++ 32 ∷ key_text key
fault_text (Wrong table number key) = at_entry (codes "Wrong") (table_text table) number ++ 32 ∷ key_text key
fault_text (Unknown table number key) = at_entry (codes "Unknown") (table_text table) number ++ 32 ∷ key
fault_text (Range table number key) = at_entry (codes "Range") (table_text table) number ++ 32 ∷ key_text key
fault_text (Runs number key) = at_entry (codes "Runs") (codes "section") number ++ 32 ∷ key_text key
fault_text (Track refusal) = refusal_text refusal
