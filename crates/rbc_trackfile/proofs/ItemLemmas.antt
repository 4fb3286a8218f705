-- Lists and tables of TOML, as the definition sees them.
use Rattle.std.proofs.Common.{◌≡◌, ℕ, Bool, true, false, ◌&&◌, List, [], ◌∷◌, map, Option, Some, None, option_map, Result, Ok, Err, cond, refl, ap, sym, ◌∙◌}
use Rattle.std.specs.List.{list_all}
use Rattle.toml.specs.Data.{Data, as_array, Members, as_table}
use Rattle.toml.specs.View.{view, items_view}
use Rattle.toml.specs.declared.value.Value.{Value}
use Rattle.rbc_model.specs.declared.files.FileFault.{FileFault}
use Rattle.rbc_model.specs.declared.files.FileFault.TheVariants.{Wrong, Range}
use Rattle.rbc_model.specs.declared.files.FileTable.{FileTable}
use Rattle.rbc_model.specs.declared.files.Key.{Key}
use Rattle.rbc_model.specs.Results.{demand, ◌>>=◌, ◌>>◌}
use Rattle.rbc_model.specs.TrackFile.{FileEntry, or_fault}
use Rattle.rbc_trackfile.specs.declared.values.Sort.{Sort}
use Rattle.rbc_trackfile.specs.TomlFile.{item_list, member_list}
use Rattle.rbc_trackfile.specs.Told.{list_sort, table_sort, is_of_sort, values_told, inner_told, in_form_told, item_told}

pub items_are : (values : List Value) → item_list (items_view values) ≡ map view values
items_are [] = refl
items_are (value ∷ values) = ap (λ rest. view value ∷ rest) (items_are values)

pub is_list : (value : Data) (values : List Value) → Some (items_view values) ≡ as_array value → Some (map view values) ≡ list_sort value
unfolding list_sort
is_list value values e = ap Some (sym (items_are values)) ∙ ap (option_map item_list) e

pub is_no_list : (value : Data) → None ≡ as_array value → None ≡ list_sort value
unfolding list_sort
is_no_list value e = ap (option_map item_list) e

pub is_table : (value : Data) (table : Members) → Some table ≡ as_table value → Some (member_list table) ≡ table_sort value
unfolding table_sort
is_table value table e = ap (option_map member_list) e

pub is_no_table : (value : Data) → None ≡ as_table value → None ≡ table_sort value
unfolding table_sort
is_no_table value e = ap (option_map member_list) e

-- the values of a list are of a sort where its items are
pub all_of_sort : (test : Data → Bool) (values : List Value) → list_all test (map view values) ≡ list_all (λ value. test (view value)) values
all_of_sort test [] = refl
all_of_sort test (value ∷ values) = ap (λ b. test (view value) && b) (all_of_sort test values)

module _ (sort : Sort) (entry : FileEntry Data) (key : Key) where
  pub values_of_list : (value : Data) (values : List Value) (all : Bool) → Some (items_view values) ≡ as_array value → all ≡ list_all (λ value. is_of_sort sort (view value)) values
      → values_told sort entry key value ≡ cond all (Ok (map view values)) (Err (Wrong entry.table entry.number key))
  unfolding values_told
  values_of_list value values all e h =
      ap (λ found. or_fault (Wrong entry.table entry.number key) found >>= λ values. demand (list_all (is_of_sort sort) values) (Wrong entry.table entry.number key) >> Ok values) (sym (is_list value values e))
      ∙ ap (λ b. demand b (Wrong entry.table entry.number key) >> Ok (map view values)) (all_of_sort (is_of_sort sort) values ∙ sym h)
      ∙ decided all
    where
      decided : (b : Bool) → (demand b (Wrong entry.table entry.number key) >> Ok (map view values)) ≡ cond b (Ok (map view values)) (Err (Wrong entry.table entry.number key))
      decided true = refl
      decided false = refl

  pub values_of_none : (value : Data) → None ≡ as_array value → values_told sort entry key value ≡ Err (Wrong entry.table entry.number key)
  unfolding values_told
  values_of_none value e =
      ap (λ found. or_fault (Wrong entry.table entry.number key) found >>= λ values. demand (list_all (is_of_sort sort) values) (Wrong entry.table entry.number key) >> Ok values) (sym (is_no_list value e))

-- the entry that a value is
module _ (table : FileTable) (entry : FileEntry Data) (key : Key) (number : ℕ) where
  unfoldable entry_of : Option (List (List ℕ × Data)) → Result (FileEntry Data) FileFault
  entry_of found = or_fault (Wrong entry.table entry.number key) found >>= λ members. Ok (record { table = table; number = number; members = members })

  pub inner_of_table : (value : Data) (members : Members) → Some members ≡ as_table value → inner_told table entry key number value ≡ Ok (record { table = table; number = number; members = member_list members })
  unfolding inner_told entry_of
  inner_of_table value members e = ap entry_of (sym (is_table value members e))

  pub inner_of_none : (value : Data) → None ≡ as_table value → inner_told table entry key number value ≡ Err (Wrong entry.table entry.number key)
  unfolding inner_told entry_of
  inner_of_none value e = ap entry_of (sym (is_no_table value e))

-- a value of a sort in its form, and one of another sort
module _ {A B : Type 0} (sort : Data → Option A) (form : A → Option B) (entry : FileEntry Data) (key : Key) (number : ℕ) (value : Data) where
  pub sorted : (found : A) → Some found ≡ sort value → item_told sort form entry key number value ≡ or_fault (Range entry.table entry.number key) (form found)
  unfolding item_told in_form_told
  sorted found e = ap (λ found. or_fault (Wrong entry.table entry.number key) found >>= λ found. or_fault (Range entry.table entry.number key) (form found)) (sym e)

  pub unsorted : None ≡ sort value → item_told sort form entry key number value ≡ Err (Wrong entry.table entry.number key)
  unfolding item_told in_form_told
  unsorted e = ap (λ found. or_fault (Wrong entry.table entry.number key) found >>= λ found. or_fault (Range entry.table entry.number key) (form found)) (sym e)
