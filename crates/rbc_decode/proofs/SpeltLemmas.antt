-- How a proof goes from field to field, over the walk and the fields that the bits spell.
use Rattle.std.proofs.Common.{◌≡◌, ℕ, zero, suc, ◌+◌, ◌<◌, ◌≤◌, ◌^◌, Bool, true, false, List, [], ◌∷◌, ◌++◌, length, take, drop, Option, Some, None, Result, Ok, Err, refl, ap, ◌∙◌, subst, arith, nat_lt, if◌then◌else◌, append_assoc, length-drop}
use Rattle.rbc_model.specs.declared.messages.Fault.{Fault}
use Rattle.rbc_model.specs.declared.messages.Fault.TheVariants.{Short}
use Rattle.rbc_model.specs.declared.messages.FieldName.{FieldName}
use Rattle.rbc_model.specs.Bits.{bits_of, number_of}
use Rattle.rbc_model.specs.Messages.{width_of}
use Rattle.rbc_model.specs.Readers.{field}
use Rattle.rbc_model.proofs.BitLemmas.{field-wrote}
use Rattle.rbc_model.proofs.FieldRowLemmas.{Row, spelled, the_answer}
use Rattle.rbc_decode.specs.declared.row.Row.{Row as WalkRow}
use Rattle.rbc_decode.specs.declared.walk.FieldWalk.{FieldWalk}
use Rattle.rbc_decode.specs.declared.fields.FieldPlace.TheVariants.{Missing}
use Rattle.rbc_decode.specs.Walks.{field_of, behind, is_allowed, length_fault, told, moved}
use Rattle.rbc_decode.specs.declared.said.Said.{Said}
use Rattle.rbc_decode.specs.Said.{said_by, with_said, all_said}
use Rattle.rbc_decode.specs.Readings.{Reading, reading, beyond, field_read, with_next, stopped}
use Rattle.rbc_decode.specs.Laws.{fields_read}
use Rattle.rbc_decode.proofs.AgreementLemmas.{some_bits}

-- the fields that are read, and what they say
abbrev pub told_of : Reading → List (FieldName × ℕ) × List Said
told_of reading = (fields_read reading, all_said reading.items)

-- from this walk on these are the fields that are read of the bits, and what they say
pub record Tells (walk : FieldWalk) (bits : List Bool) (fields : List (FieldName × ℕ)) (said : List Said) : Type 0 where
  pub tells : (most : ℕ) (bit : ℕ) → length bits < most → told_of (reading most walk bits bit) ≡ (fields, said)

record IsCut (name : FieldName) (value : ℕ) (bits mid : List Bool) : Type 0 where
  enough : nat_lt (length bits) (width_of name) ≡ false
  value_is : number_of (take (width_of name) bits) ≡ value
  rest_is : drop (width_of name) bits ≡ mid

cut_by : (short : Bool) (n : ℕ) (rest : List Bool) {value : ℕ} {mid : List Bool} → (let r : Result (ℕ × List Bool) Fault = if short then Err Short else Ok (n, rest) in r) ≡ Ok (value, mid)
    → (short ≡ false) × (n ≡ value) × (rest ≡ mid)
cut_by true n rest h = absurd cc
cut_by false n rest h = let same = the_answer h in (refl, same.0, same.1)

cut : {name : FieldName} {value : ℕ} {fields : List (FieldName × ℕ)} {bits later : List Bool} → Row ((name, value) ∷ fields) bits later → value < 2 ^ width_of name → IsCut name value bits (spelled fields ++ later)
unfolding spelled
cut {name} {value} {fields} {bits} {later} begins fits =
    let mid = spelled fields ++ later in
    let parts : bits ≡ bits_of (width_of name) value ++ mid = begins.is ∙ append_assoc (bits_of (width_of name) value) (spelled fields) later in
    let said = cut_by (nat_lt (length bits) (width_of name)) (number_of (take (width_of name) bits)) (drop (width_of name) bits)
    (ap (field name (λ v. true)) parts ∙ field-wrote name (λ v. true) value mid fits refl) in
    record { enough = said.0; value_is = said.1; rest_is = said.2 }

module _ (walk : FieldWalk) (row : WalkRow) (name : FieldName) (value : ℕ) (fields : List (FieldName × ℕ)) (said : List Said) (mid : List Bool) where
  -- what is told with the field
  abbrev Both : Type 0
  Both = List (FieldName × ℕ) × List Said

  abbrev told_next : Both
  told_next = ((name, value) ∷ fields, with_said (said_by name walk row value) said)

  behind_ok : is_allowed walk row name value ≡ true → length_fault walk row name value ≡ None → behind walk row name value ≡ Ok (moved (told walk row name value) row)
  behind_ok allowed none = rw (allowed, none) refl

  item_told : (most bit later : ℕ) → is_allowed walk row name value ≡ true → length_fault walk row name value ≡ None → Tells (moved (told walk row name value) row) mid fields said → length mid < most
      → told_of (with_next (record { walk = walk; row = row; name = name; value = value; bit = bit; is_late = false }) (behind walk row name value) (λ next. beyond most next mid later) (λ next. reading most next mid later)) ≡ told_next
  item_told most bit later allowed none h few =
      ap (λ (r : Result FieldWalk Fault). told_of (with_next (record { walk = walk; row = row; name = name; value = value; bit = bit; is_late = false }) r (λ next. beyond most next mid later) (λ next. reading most next mid later))) (behind_ok allowed none)
      ∙ ap (λ (l : Both). ((name, value) ∷ l.0, with_said (said_by name walk row value) l.1)) (h.tells most later few)

  field_told : (most bit : ℕ) (bits : List Bool) (short : Bool) (n : ℕ) (rest : List Bool) → short ≡ false → n ≡ value → rest ≡ mid
      → is_allowed walk row name value ≡ true → length_fault walk row name value ≡ None → Tells (moved (told walk row name value) row) mid fields said → length mid < most
      → told_of
      (if short
      then stopped (Some (record { fault = Short; place = Missing name; bit = bit; value = length bits }))
      else with_next (record { walk = walk; row = row; name = name; value = n; bit = bit; is_late = false }) (behind walk row name n) (λ next. beyond most next rest (bit + width_of name)) (λ next. reading most next rest (bit + width_of name)))
      ≡ told_next
  field_told most bit bits short n rest long same behind_it allowed none h few =
      rw (long, same, behind_it) (item_told most bit (bit + width_of name) allowed none h few)

  from_field : (most bit : ℕ) (bits : List Bool) → length bits < most → field_of walk ≡ Some (row, name) → IsCut name value bits mid
      → is_allowed walk row name value ≡ true → length_fault walk row name value ≡ None → Tells (moved (told walk row name value) row) mid fields said
      → told_of (reading most walk bits bit) ≡ told_next
  unfolding reading
  from_field zero bit bits few next is allowed none h = absurd (omega arith)
  from_field (suc most) bit bits few next is allowed none h =
      let some = some_bits name in
      let room : width_of name ≤ length bits = grind (arith, is.enough) in
      let shorter : length mid < most = omega (arith, some, room, few, length-drop (width_of name) bits, ap length is.rest_is) in
      ap (λ (f : Option (WalkRow × FieldName)). told_of (field_read f walk bits bit (beyond most) (reading most))) next
      ∙ field_told most bit bits (nat_lt (length bits) (width_of name)) (number_of (take (width_of name) bits)) (drop (width_of name) bits)
      is.enough is.value_is is.rest_is allowed none h shorter

-- a field, and those behind it
pub tell : {walk : FieldWalk} {row : WalkRow} (name : FieldName) {value : ℕ} {fields more : List (FieldName × ℕ)} {said : List Said} {bits later : List Bool}
    → field_of walk ≡ Some (row, name) → Row ((name, value) ∷ fields) bits later → value < 2 ^ width_of name → is_allowed walk row name value ≡ true → length_fault walk row name value ≡ None
    → ((mid : List Bool) → Row fields mid later → Tells (moved (told walk row name value) row) mid more said)
    → Tells walk bits ((name, value) ∷ more) (with_said (said_by name walk row value) said)
tell {walk} {row} name {value} {fields} {more} {said} {bits} {later} next r fits allowed none h =
    let mid = spelled fields ++ later in
    let is = cut r fits in
    record { tells = λ most bit few. from_field walk row name value more said mid most bit bits few next is allowed none (h mid (record { is = refl })) }

-- no field is left
last_told : (walk : FieldWalk) → field_of walk ≡ None → (most bit : ℕ) (bits : List Bool) → length bits < most → told_of (reading most walk bits bit) ≡ ([], [])
unfolding reading
last_told walk over zero bit bits few = absurd (omega arith)
last_told walk over (suc most) bit bits few = ap (λ (f : Option (WalkRow × FieldName)). told_of (field_read f walk bits bit (beyond most) (reading most))) over

pub told_all : (walk : FieldWalk) (bits : List Bool) → field_of walk ≡ None → Tells walk bits [] []
told_all walk bits over = record { tells = λ most bit few. last_told walk over most bit bits few }

pub as_fields : {walk : FieldWalk} {bits : List Bool} {fields more : List (FieldName × ℕ)} {said : List Said} → fields ≡ more → Tells walk bits fields said → Tells walk bits more said
as_fields {walk} {bits} {said = said} same h = subst (λ l. Tells walk bits l said) same h

pub as_said : {walk : FieldWalk} {bits : List Bool} {fields : List (FieldName × ℕ)} {said also : List Said} → said ≡ also → Tells walk bits fields said → Tells walk bits fields also
as_said {walk} {bits} {fields} same h = subst (λ l. Tells walk bits fields l) same h
