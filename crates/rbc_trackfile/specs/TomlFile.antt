-- A TOML document as what a track file is read from.
use Rattle.std.specs.Prelude.{ℕ, List, [], ◌∷◌, option_map}
use Rattle.toml.specs.Data.{Data, Items, no_items, item, Members, no_members, member, as_integer, as_str, as_array, as_table}
use Rattle.toml.specs.View.{table_view}
use Rattle.rbc_model.specs.TrackFile.{Document, FileEntry}
use Rattle.rbc_trackfile.specs.declared.entry.FileEntry.{FileEntry as ReadEntry}

-- the items of an array in order
abbrev pub item_list : Items → List Data
item_list no_items = []
item_list (item value rest) = value ∷ item_list rest

-- the keys of a table with their values, in the order of the keys' bytes
abbrev pub member_list : Members → List (List ℕ × Data)
member_list no_members = []
member_list (member key value rest) = (key, value) ∷ member_list rest

-- whole numbers, texts, arrays and tables; other values are none of these
abbrev pub toml_document : Document Data
toml_document = record {
  as_number = as_integer;
  as_text = as_str;
  as_list = λ value. option_map item_list (as_array value);
  as_table = λ value. option_map member_list (as_table value);
}

-- an entry as the definition has it
abbrev pub entry_view : ReadEntry → FileEntry Data
entry_view entry = record { table = entry.table; number = entry.number; members = member_list (table_view entry.members.now) }
