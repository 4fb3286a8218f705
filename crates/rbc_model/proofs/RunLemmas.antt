-- The runs of a track's first metres have its values there.
use Rattle.std.proofs.Common.{zero, suc, Bool, subst, inl, inr, true, ◌≡◌, ℕ, ◌<◌, false, List, [], ◌∷◌, ◌++◌, Option, Some, None, refl, arith, ap, sym, ◌∙◌, nat_le, if◌then◌else◌}
use Rattle.std.specs.Option.{option_or, option_map_or}
use Rattle.std.proofs.lemmas.Bool.{le-leb, lt-leb}
use Rattle.rbc_model.specs.Levels.{Levels, is_same, IsInRange, IsLawful}
use Rattle.rbc_model.specs.Profiles.{value_at, runs_over}
use Rattle.rbc_model.proofs.CountingLemmas.{both_of, last_or_below}

pub option_or_assoc : {V : Type 0} (a b c : Option V) → option_or a (option_or b c) ≡ option_or (option_or a b) c
option_or_assoc None b c = refl
option_or_assoc (Some x) b c = refl

pub option_or_none : {V : Type 0} (a : Option V) → option_or a None ≡ a
option_or_none None = refl
option_or_none (Some x) = refl

-- one run more behind the others
value_at-push : {V : Type 0} (runs : List (ℕ × V)) (n : ℕ) (v : V) (x : ℕ) → value_at (runs ++ (n, v) ∷ []) x ≡ option_or (if nat_le n x then Some v else None) (value_at runs x)
value_at-push [] n v x = sym (option_or_none (if nat_le n x then Some v else None))
value_at-push (run ∷ runs) n v x = ap (λ o. option_or o (if nat_le run.0 x then Some run.1 else None)) (value_at-push runs n v x) ∙ sym (option_or_assoc (if nat_le n x then Some v else None) (value_at runs x) (if nat_le run.0 x then Some run.1 else None))

value_at-push_before : {V : Type 0} (runs : List (ℕ × V)) (n : ℕ) (v : V) (x : ℕ) → x < n → value_at (runs ++ (n, v) ∷ []) x ≡ value_at runs x
value_at-push_before runs n v x h = value_at-push runs n v x ∙ rw (lt-leb n x h) refl

value_at-push_there : {V : Type 0} (runs : List (ℕ × V)) (n : ℕ) (v : V) → value_at (runs ++ (n, v) ∷ []) n ≡ Some v
value_at-push_there runs n v = value_at-push runs n v n ∙ rw (le-leb n n (omega arith)) refl

module _ {V : Type 0} (levels : Levels V) (lawful : IsLawful levels) where
  pub one_value : (a b : V) → IsInRange levels a → IsInRange levels b → is_same levels a b ≡ true → a ≡ b
  one_value a b ra rb same =
      let both = both_of (levels.at_most a b) (levels.at_most b a) same in
      lawful.ordered.antisymmetric a b ra rb both.0 both.1

  -- the value there is the new one already
  same_there : (v : V) (o : Option V) → IsInRange levels v → ((w : V) → o ≡ Some w → IsInRange levels w) → option_map_or (is_same levels v) o false ≡ true → o ≡ Some v
  same_there v None r h e = cc
  same_there v (Some w) r h e = ap Some (sym (one_value v w r (h w refl) e))

  -- the values that a list of runs has are in range
  abbrev AreInRange : List (ℕ × V) → Type 0
  AreInRange runs = (x : ℕ) (w : V) → value_at runs x ≡ Some w → IsInRange levels w

  -- and so they are with one run more
  in_range_or : (t : Bool) (v w : V) (o : Option V) → IsInRange levels v → (o ≡ Some w → IsInRange levels w) → option_or (if t then Some v else None) o ≡ Some w → IsInRange levels w
  in_range_or true v w o r h e = let same : v ≡ w = cc in subst (λ u. IsInRange levels u) same r
  in_range_or false v w o r h e = h e

  AreInRange-push : (b : Bool) (runs : List (ℕ × V)) (n : ℕ) (v : V) → IsInRange levels v → AreInRange runs → AreInRange (if b then runs else runs ++ (n, v) ∷ [])
  AreInRange-push true runs n v r h x w e = h x w e
  AreInRange-push false runs n v r h x w e = in_range_or (nat_le n x) v w (value_at runs x) r (h x w) (sym (value_at-push runs n v x) ∙ e)

  -- each of the first n metres of the track has a value in range
  abbrev pub IsCovered : ℕ → (ℕ → Option V) → Type 0
  IsCovered n track = (x : ℕ) → x < n → (v : V) × (track x ≡ Some v) × IsInRange levels v

  none_in_range : (w : V) → None ≡ Some w → IsInRange levels w
  none_in_range w e = cc

  runs_over-in_range : (n : ℕ) (track : ℕ → Option V) → IsCovered n track → AreInRange (runs_over levels n track)
  runs_over-in_range zero track covered = λ x w e. none_in_range w e
  runs_over-in_range (suc n) track covered =
      let here = covered n (omega arith) in
      let runs = runs_over levels n track in
      let before : AreInRange runs = runs_over-in_range n track (λ x h. covered x (omega arith)) in
      rw here.1 (AreInRange-push (option_map_or (is_same levels here.0) (value_at runs n) false) runs n here.0 here.2 before)

  -- at the new metre, and at those before it
  new_value : (b : Bool) (runs : List (ℕ × V)) (n : ℕ) (v : V) → IsInRange levels v → AreInRange runs → option_map_or (is_same levels v) (value_at runs n) false ≡ b → value_at (if b then runs else runs ++ (n, v) ∷ []) n ≡ Some v
  new_value true runs n v r h e = same_there v (value_at runs n) r (h n) e
  new_value false runs n v r h e = value_at-push_there runs n v

  old_value : (b : Bool) (runs : List (ℕ × V)) (n : ℕ) (v : V) (x : ℕ) → x < n → value_at (if b then runs else runs ++ (n, v) ∷ []) x ≡ value_at runs x
  old_value true runs n v x h = refl
  old_value false runs n v x h = value_at-push_before runs n v x h

  -- the runs have the track's value at each of its metres
  pub value_at-runs_over : (n : ℕ) (track : ℕ → Option V) → IsCovered n track → (x : ℕ) → x < n → value_at (runs_over levels n track) x ≡ track x
  value_at-runs_over zero track covered x h = absurd (omega arith)
  value_at-runs_over (suc n) track covered x h =
      let here = covered n (omega arith) in
      let runs = runs_over levels n track in
      let test = option_map_or (is_same levels here.0) (value_at runs n) false in
      elim (last_or_below n x h) [
        | inl e ↦ rw (e, here.1) (new_value test runs n here.0 here.2 (runs_over-in_range n track (λ y l. covered y (omega arith))) refl)
        | inr e ↦ rw here.1 (old_value test runs n here.0 x e ∙ value_at-runs_over n track (λ y l. covered y (omega arith)) x e)
      ]
