-- The keys of a table, as TOML and as the definition look them up.
use Rattle.std.proofs.Common.{not, None, [], ◌∷◌, ap, Ok, Err, ◌≡◌, ℕ, Bool, true, false, List, Option, Some, option_map, Ordering, Less, Equal, Greater, nat_cmp, is_eq, bytes_eq, find, cond, refl, sym, ◌∙◌}
use Rattle.std.specs.Ordering.{match_ordering}
use Rattle.std.specs.Cmp.Lexicographic.{slice_cmp}
use Rattle.std.proofs.lemmas.Map.Text.{is_eq-slice_cmp}
use Rattle.toml.specs.Data.{Data, Members, no_members, member, get_member}
use Rattle.std.specs.List.{AllByRecursion, list_any}
use Rattle.std.specs.List.Sorted.{IsStrictlySortedBy}
use Rattle.std.specs.Map.{keys_of}
use Rattle.std.specs.String.{string_cmp, string_bytes}
use Rattle.std.specs.Prelude.{String}
use Rattle.std.specs.declared.alloc.Global.{Global}
use Rattle.toml.specs.View.{members_view}
use Rattle.toml.proofs.Views.{Entry}
use Rattle.rbc_model.specs.declared.files.Key.{Key}
use Rattle.rbc_model.specs.declared.files.FileFault.TheVariants.{Unknown}
use Rattle.rbc_model.specs.TrackFile.{AreInKeyOrder, FileEntry, key_text, no_unknown}
use Rattle.rbc_trackfile.specs.TomlFile.{member_list, toml_document}
use Rattle.rbc_trackfile.specs.Told.{only_told}
use Rattle.rbc_track.proofs.WrittenLemmas.{bytes_turned}

found_here : (o : Ordering) (b : Bool) (key : List ℕ) (value : Data) (rest : Option Data) (found : Option (List ℕ × Data)) → is_eq o ≡ b → rest ≡ option_map (λ m. m.1) found
    → match_ordering o rest (Some value) rest ≡ option_map (λ m. m.1) (cond b (Some (key, value)) found)
found_here Less false key value rest found h g = g
found_here Less true key value rest found h g = absurd (cc)
found_here Equal true key value rest found h g = refl
found_here Equal false key value rest found h g = absurd (cc)
found_here Greater false key value rest found h g = g
found_here Greater true key value rest found h g = absurd (cc)

-- both find the first key of these bytes
pub member_found : (k : List ℕ) (ms : Members) → get_member k ms ≡ option_map (λ m. m.1) (find (λ m. bytes_eq m.0 k) (member_list ms))
member_found k no_members = refl
member_found k (member l value ms) = found_here (slice_cmp nat_cmp k l) (bytes_eq l k) l value (get_member k ms) (find (λ m. bytes_eq m.0 k) (member_list ms)) (is_eq-slice_cmp k l ∙ bytes_turned k l) (member_found k ms)

-- a key that is not among these
abbrev pub is_unknown : List Key → List ℕ × Data → Bool
is_unknown keys m = not (list_any (λ key. bytes_eq m.0 (key_text key)) keys)

module _ (keys : List Key) (text : List ℕ) (value : Data) (rest : List (List ℕ × Data)) (listed : Bool) where
  first_unknown : (b : Bool) → b ≡ listed → find (is_unknown keys) ((text, value) ∷ rest) ≡ cond (not listed) (Some (text, value)) (find (is_unknown keys) rest)
      → (listed ≡ true → find (is_unknown keys) ((text, value) ∷ rest) ≡ find (is_unknown keys) rest)
      × (listed ≡ false → find (is_unknown keys) ((text, value) ∷ rest) ≡ Some (text, value))
  first_unknown true e h = (λ is. h ∙ ap (λ b. cond (not b) (Some (text, value)) (find (is_unknown keys) rest)) (sym e), λ is. absurd (cc))
  first_unknown false e h = (λ is. absurd (cc), λ is. h ∙ ap (λ b. cond (not b) (Some (text, value)) (find (is_unknown keys) rest)) (sym e))

  found_next : listed ≡ list_any (λ key. bytes_eq text (key_text key)) keys → find (is_unknown keys) ((text, value) ∷ rest) ≡ cond (not listed) (Some (text, value)) (find (is_unknown keys) rest)
  found_next e = ap (λ b. cond (not b) (Some (text, value)) (find (is_unknown keys) rest)) (sym e)

  -- a key that is among them is passed over
  pub known : listed ≡ list_any (λ key. bytes_eq text (key_text key)) keys → listed ≡ true → find (is_unknown keys) ((text, value) ∷ rest) ≡ find (is_unknown keys) rest
  known e is = (first_unknown listed refl (found_next e)).0 is

  -- one that is not is found
  pub unknown : listed ≡ list_any (λ key. bytes_eq text (key_text key)) keys → listed ≡ false → find (is_unknown keys) ((text, value) ∷ rest) ≡ Some (text, value)
  unknown e is = (first_unknown listed refl (found_next e)).1 is

module _ (keys : List Key) (entry : FileEntry Data) where
  pub only_unknown : (m : List ℕ × Data) → find (is_unknown keys) entry.members ≡ Some m → only_told keys entry ≡ Err (Unknown entry.table entry.number m.0)
  unfolding only_told
  only_unknown m e = ap (no_unknown toml_document entry) e

  pub only_known : find (is_unknown keys) entry.members ≡ None → only_told keys entry ≡ Ok tt
  unfolding only_told
  only_known e = ap (no_unknown toml_document entry) e

-- the keys of a table ascend
before : (k : String Global) (es : List Entry) → AllByRecursion (λ y. string_cmp k y ≡ Less) (keys_of es)
    → AllByRecursion (λ other. slice_cmp nat_cmp (string_bytes k) other.0 ≡ Less) (member_list (members_view es))
before k [] h = tt
before k (e ∷ es) h = (h.0, before k es h.1)

pub in_key_order : (es : List Entry) → IsStrictlySortedBy string_cmp (keys_of es) → AreInKeyOrder (member_list (members_view es))
unfolding IsStrictlySortedBy
in_key_order [] h = tt
in_key_order (e ∷ es) h = (before e.0 es h.0, in_key_order es h.1)
