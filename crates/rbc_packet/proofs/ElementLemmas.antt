-- The elements of a profile's packet, one after the other.
use Rattle.std.proofs.Common.{◌≡◌, ℕ, suc, ◌+◌, ◌-◌, ◌*◌, ◌^◌, ◌<◌, ◌≤◌, ◌⊎◌, Bool, true, List, [], ◌∷◌, ◌++◌, Result, Ok, Err, refl, ap, sym, ◌∙◌, subst, arith, append_assoc, nat_le}
use Rattle.std.proofs.lemmas.Bool.{leb-true}
use Rattle.rbc_model.specs.declared.messages.Fault.{Fault}
use Rattle.rbc_model.specs.Levels.{Levels}
use Rattle.rbc_model.specs.Messages.{width_of}
use Rattle.rbc_model.specs.Readers.{answer, rest_of_reading, field}
use Rattle.rbc_model.proofs.BitLemmas.{field-read}
use Rattle.rbc_model.proofs.SpellingLemmas.{go_on}
use Rattle.rbc_packet.specs.Layouts.{Layout, elements_at, steps_at}
use Rattle.rbc_packet.proofs.ReadingLemmas.{reads_fault}
use Rattle.rbc_packet.proofs.EndLemmas.{farther}
use Rattle.rbc_packet.proofs.RisingLemmas.{HaveRisen, first_risen, step_risen}

-- what a reader of a list made, with these in front
abbrev pub in_front : {A : Type 0} → List A → Result (List A × List Bool) Fault → Result (List A × List Bool) Fault
in_front front (Ok (later, rest)) = Ok (front ++ later, rest)
in_front front (Err fault) = Err fault

one_in_front : {A : Type 0} (x : A) (read : Result (List A × List Bool) Fault) → rest_of_reading read (λ later. answer (x ∷ later)) ≡ in_front (x ∷ []) read
one_in_front x (Ok (later, rest)) = refl
one_in_front x (Err fault) = refl

in_front-twice : {A : Type 0} (first second : List A) (read : Result (List A × List Bool) Fault) → in_front first (in_front second read) ≡ in_front (first ++ second) read
in_front-twice first second (Ok (later, rest)) = ap (λ xs. Ok (xs, rest)) (sym (append_assoc first second later))
in_front-twice first second (Err fault) = refl

module _ {V : Type 0} (layout : Layout V) (levels : Levels V) (unit end : ℕ) where
  -- The steps so far are the first ones of a profile of `count`, and they are read from all bits where the elements left are read from the bits left.
  pub record AreRead (first : V) (count index last : ℕ) (all bits : List Bool) (steps : List (ℕ × V)) : Type 0 where
    pub reads : steps_at layout unit end first (count - 1) all ≡ in_front steps (elements_at layout unit end last (count - index) bits)
    pub risen : HaveRisen levels (unit * last) steps
    pub near : last ≤ 32767 * index

  pub first_read : (first : V) (count : ℕ) (bits : List Bool) → levels.is_expressible first ≡ true → AreRead first count 1 0 bits bits ((0, first) ∷ [])
  first_read first count bits e = record {
    reads = one_in_front (0, first) (elements_at layout unit end 0 (count - 1) bits);
    risen = first_risen levels (unit * 0) first e;
    near = omega arith;
  }

  one_element : (from n distance : ℕ) (value : V) (bits mid later : List Bool) → field layout.distance (nat_le 1) bits ≡ Ok (distance, mid) → layout.value_at mid ≡ Ok (value, later)
      → elements_at layout unit end from (suc n) bits ≡ in_front ((unit * (from + distance), value) ∷ []) (elements_at layout unit end (from + distance) n later)
  one_element from n distance value bits mid later far told =
      go_on _ far (go_on _ told (one_in_front (unit * (from + distance), value) (elements_at layout unit end (from + distance) n later)))

  one_left : (count index : ℕ) → index < count → count - index ≡ suc (count - (index + 1))
  one_left count index h = omega arith

  -- one step more
  pub one_more : (first : V) (count index from distance : ℕ) (value : V) (all bits mid later : List Bool) (steps : List (ℕ × V)) → (unit ≡ 1) ⊎ (unit ≡ 10) → index < count
      → field layout.distance (nat_le 1) bits ≡ Ok (distance, mid) → layout.value_at mid ≡ Ok (value, later) → width_of layout.distance ≡ 15 → levels.is_expressible value ≡ true
      → AreRead first count index from all bits steps → AreRead first count (index + 1) (from + distance) all later (steps ++ (unit * (from + distance), value) ∷ [])
  one_more first count index from distance value all bits mid later steps ones more far told width e so_far =
      let n = count - (index + 1) in
      let fact = field-read layout.distance (nat_le 1) bits distance mid far in
      let apart : 1 ≤ distance = leb-true 1 distance fact.2 in
      let below : distance < 2 ^ 15 = subst (λ w. distance < 2 ^ w) width fact.1 in
      record {
        reads =
            so_far.reads
            ∙ ap (λ k. in_front steps (elements_at layout unit end from k bits)) (one_left count index more)
            ∙ ap (in_front steps) (one_element from n distance value bits mid later far told)
            ∙ in_front-twice steps ((unit * (from + distance), value) ∷ []) (elements_at layout unit end (from + distance) n later);
        risen = step_risen levels (unit * from) (unit * (from + distance)) value steps so_far.risen (farther unit from distance ones apart) e;
        near = let h = so_far.near in omega arith;
      }

  -- no distance, or no value
  pub no_distance : (first : V) (count index from : ℕ) (all bits : List Bool) (steps : List (ℕ × V)) (fault : Fault) → index < count → field layout.distance (nat_le 1) bits ≡ Err fault
      → AreRead first count index from all bits steps → steps_at layout unit end first (count - 1) all ≡ Err fault
  no_distance first count index from all bits steps fault more far so_far =
      so_far.reads ∙ ap (λ k. in_front steps (elements_at layout unit end from k bits)) (one_left count index more) ∙ ap (in_front steps) (reads_fault _ far)

  pub no_value : (first : V) (count index from distance : ℕ) (all bits mid : List Bool) (steps : List (ℕ × V)) (fault : Fault) → index < count
      → field layout.distance (nat_le 1) bits ≡ Ok (distance, mid) → layout.value_at mid ≡ Err fault
      → AreRead first count index from all bits steps → steps_at layout unit end first (count - 1) all ≡ Err fault
  no_value first count index from distance all bits mid steps fault more far told so_far =
      so_far.reads ∙ ap (λ k. in_front steps (elements_at layout unit end from k bits)) (one_left count index more) ∙ ap (in_front steps) (go_on _ far (reads_fault _ told))
