-- An entry of a table in which no name stands twice is found by its name.
use Rattle.std.proofs.Common.{◌≡◌, ℕ, zero, suc, ◌+◌, Bool, true, false, not, cond, List, [], ◌∷◌, ◌++◌, length, Option, Some, None, refl, ap, sym, ◌∙◌, subst, arith, nat_lt}
use Rattle.std.specs.Prelude.{bytes_eq, slice_get}
use Rattle.std.specs.List.{list_any, position, position_or_len}
use Rattle.std.specs.Option.{option_map_or}
use Rattle.std.proofs.lemmas.Bool.{lt-ltb, not-true, or_parts}
use Rattle.std.proofs.lemmas.List.Folds.{list_any-append}
use Rattle.std.proofs.lemmas.Option.{slice_get_within}
use Rattle.std.proofs.lemmas.Slice.Eq.{bytes_eq-Decides}
use Rattle.rbc_model.specs.Names.{is_name}
use Rattle.rbc_model.specs.SoundTracks.{each_passes, is_new}
use Rattle.rbc_model.proofs.CountingLemmas.{both_of}

module _ {X : Type 0} (name_of : X → List ℕ) where
  abbrev pub has_name : X → X → Bool
  has_name x other = bytes_eq (name_of other) (name_of x)

  record IsFirst (earlier xs : List X) (place : ℕ) (x : X) : Type 0 where
    none : list_any (has_name x) earlier ≡ false
    place_is : position_or_len (has_name x) xs ≡ place

  the_item : (a b : X) → (let o : Option X = Some a in o) ≡ Some b → a ≡ b
  the_item a b e = cc

  no_item : (b : X) → (let o : Option X = None in o) ≡ Some b → ⊥
  no_item b e = cc

  same_name : (x : X) → has_name x x ≡ true
  same_name x = (bytes_eq-Decides (name_of x) (name_of x)).1 refl

  first_named : (earlier xs : List X) (place : ℕ) (x : X) → each_passes (is_new bytes_eq name_of) earlier xs ≡ true → slice_get xs place ≡ Some x → IsFirst earlier xs place x
  first_named earlier [] place x new here = absurd (no_item x here)
  first_named earlier (y ∷ xs) zero x new here =
      let is = the_item y x here in
      let b = both_of (is_new bytes_eq name_of earlier y) (each_passes (is_new bytes_eq name_of) (earlier ++ y ∷ []) xs) new in
      subst (λ z. IsFirst earlier (y ∷ xs) zero z) is
      (record { none = not-true (list_any (has_name y) earlier) b.0; place_is = ap (λ m. cond (not m) (1 + position_or_len (has_name y) xs) 0) (same_name y) })
  first_named earlier (y ∷ xs) (suc place) x new here =
      let b = both_of (is_new bytes_eq name_of earlier y) (each_passes (is_new bytes_eq name_of) (earlier ++ y ∷ []) xs) new in
      let rest = first_named (earlier ++ y ∷ []) xs place x b.1 here in
      let n = or_parts (list_any (has_name x) earlier) (list_any (has_name x) (y ∷ [])) (sym (list_any-append (has_name x) earlier (y ∷ [])) ∙ rest.none) in
      let other = or_parts (has_name x y) false n.1 in
      let next = rest.place_is in
      record { none = n.0; place_is = ap (λ m. cond (not m) (1 + position_or_len (has_name x) xs) 0) other.0 ∙ omega arith }

  pub found_again : (xs : List X) (place : ℕ) (x : X) → each_passes (is_new bytes_eq name_of) [] xs ≡ true → slice_get xs place ≡ Some x → position (has_name x) xs ≡ Some place
  found_again xs place x new here =
      let f = first_named [] xs place x new here in
      ap (λ p. cond (nat_lt p (length xs)) (Some p) None) f.place_is ∙ ap (λ b. cond b (Some place) None) (lt-ltb place (length xs) (slice_get_within xs place x here))

  -- an entry of a table whose name is a name is found by it
  pub named_again : (xs : List X) (place : ℕ) → each_passes (is_new bytes_eq name_of) [] xs ≡ true → is_name (option_map_or name_of (slice_get xs place) []) ≡ true
      → position (λ x. bytes_eq (name_of x) (option_map_or name_of (slice_get xs place) [])) xs ≡ Some place
  named_again xs place new named = by_item (slice_get xs place) refl named
    where
      by_item : (o : Option X) → slice_get xs place ≡ o → is_name (option_map_or name_of o []) ≡ true → position (λ x. bytes_eq (name_of x) (option_map_or name_of o [])) xs ≡ Some place
      by_item None e named = absurd (let never : ⊥ = cc in never)
      by_item (Some x) e named = found_again xs place x new e
