-- Fields in a row: each is written and read before the ones behind it. How a proof goes from field to field, both ways.
use Rattle.std.proofs.Common.{◌≡◌, ℕ, ◌+◌, ◌<◌, ◌^◌, Bool, true, false, List, [], ◌∷◌, ◌++◌, length, refl, sym, ap, ap₂, ◌∙◌, append_assoc, length-append, Result, Ok, Err, ◌==◌, subst}
use Rattle.std.proofs.lemmas.Bool.{eqb-true}
use Rattle.std.proofs.lemmas.List.{map-append}
use Rattle.std.proofs.lemmas.Grind.{flat_map-append}
use Rattle.rbc_model.specs.Bits.{bits_of, field_bits}
use Rattle.rbc_model.specs.declared.messages.FieldName.{FieldName}
use Rattle.rbc_model.specs.declared.messages.Fault.{Fault}
use Rattle.rbc_model.specs.Messages.{width_of, sized_fields}
use Rattle.rbc_model.specs.Readers.{Reader, answer, expect, field, any_field, fixed_field, rest_of_reading}
use Rattle.rbc_model.proofs.BitLemmas.{length-bits_of, field-wrote, field-read}
use Rattle.rbc_model.proofs.BasicLemmas.{same_number}

-- ---- the bits of some fields

unfoldable pub spelled : List (FieldName × ℕ) → List Bool
spelled fields = field_bits (sized_fields fields)

pub spelled-append : (xs ys : List (FieldName × ℕ)) → spelled (xs ++ ys) ≡ spelled xs ++ spelled ys
unfolding spelled
spelled-append xs ys =
    ap field_bits (map-append (λ (field : FieldName × ℕ). (width_of field.0, field.1)) xs ys) ∙ flat_map-append (λ (field : ℕ × ℕ). bits_of field.0 field.1) (sized_fields xs) (sized_fields ys)

-- how many bits some fields have
abbrev pub row_size : List (FieldName × ℕ) → ℕ
row_size [] = 0
row_size (field ∷ fields) = width_of field.0 + row_size fields

pub length-spelled : (fields : List (FieldName × ℕ)) → length (spelled fields) ≡ row_size fields
unfolding spelled
length-spelled [] = refl
length-spelled (field ∷ fields) =
    length-append (bits_of (width_of field.0) field.1) (field_bits (sized_fields fields)) ∙ ap₂ (λ m n. m + n) (length-bits_of (width_of field.0) field.1) (length-spelled fields)

-- ---- bits that begin with a field, and with a row of fields

pub record Begins (name : FieldName) (value : ℕ) (bits later : List Bool) : Type 0 where
  pub is : bits ≡ bits_of (width_of name) value ++ later
  pub fits : value < 2 ^ width_of name

pub record Row (fields : List (FieldName × ℕ)) (bits later : List Bool) : Type 0 where
  pub is : bits ≡ spelled fields ++ later

pub as_value : {name : FieldName} {v w : ℕ} {bits later : List Bool} → v ≡ w → Begins name v bits later → Begins name w bits later
as_value {name} {v} {w} {bits} {later} e begins = subst (λ value. Begins name value bits later) e begins

pub no_row : {bits later : List Bool} → bits ≡ later → Row [] bits later
unfolding spelled
no_row e = record { is = e }

pub row : {name : FieldName} {value : ℕ} {fields : List (FieldName × ℕ)} {bits mid later : List Bool} → Begins name value bits mid → Row fields mid later → Row ((name, value) ∷ fields) bits later
unfolding spelled
row {name} {value} {fields} {bits} {mid} {later} begins go =
    record { is = begins.is ∙ ap (λ xs. bits_of (width_of name) value ++ xs) go.is ∙ sym (append_assoc (bits_of (width_of name) value) (spelled fields) later) }

pub rows : {xs ys : List (FieldName × ℕ)} {bits mid later : List Bool} → Row xs bits mid → Row ys mid later → Row (xs ++ ys) bits later
rows {xs} {ys} {bits} {mid} {later} first go =
    record { is = first.is ∙ ap (λ zs. spelled xs ++ zs) go.is ∙ sym (append_assoc (spelled xs) (spelled ys) later) ∙ ap (λ zs. zs ++ later) (sym (spelled-append xs ys)) }

-- ---- what was written is read

-- a field, and the fields behind it
pub write : {B : Type 0} (name : FieldName) (allowed : ℕ → Bool) {value : ℕ} {fields : List (FieldName × ℕ)} {bits later : List Bool} (next : ℕ → Reader B) {z : Result (B × List Bool) Fault}
    → Row ((name, value) ∷ fields) bits later → value < 2 ^ width_of name → allowed value ≡ true → ((mid : List Bool) → Row fields mid later → next value mid ≡ z) → rest_of_reading (field name allowed bits) next ≡ z
unfolding spelled
write name allowed {value} {fields} {bits} {later} next {z} begins fits ok go =
    let mid = spelled fields ++ later in
    let parts : bits ≡ bits_of (width_of name) value ++ mid = begins.is ∙ append_assoc (bits_of (width_of name) value) (spelled fields) later in
    ap (λ u. rest_of_reading u next) (ap (field name allowed) parts ∙ field-wrote name allowed value mid fits ok) ∙ go mid (record { is = refl })

pub write_fixed : {B : Type 0} (name : FieldName) (value : ℕ) {fields : List (FieldName × ℕ)} {bits later : List Bool} (next : ℕ → Reader B) {z : Result (B × List Bool) Fault}
    → Row ((name, value) ∷ fields) bits later → value < 2 ^ width_of name → ((mid : List Bool) → Row fields mid later → next value mid ≡ z) → rest_of_reading (fixed_field name value bits) next ≡ z
write_fixed name value next begins fits go = write name (λ v. v == value) next begins fits (same_number value) go

pub write_any : {B : Type 0} (name : FieldName) {value : ℕ} {fields : List (FieldName × ℕ)} {bits later : List Bool} (next : ℕ → Reader B) {z : Result (B × List Bool) Fault}
    → Row ((name, value) ∷ fields) bits later → value < 2 ^ width_of name → ((mid : List Bool) → Row fields mid later → next value mid ≡ z) → rest_of_reading (any_field name bits) next ≡ z
write_any name next begins fits go = write name (λ v. true) next begins fits refl go

-- a test that holds
pub passed : {B : Type 0} (holds : Bool) (fault : Fault) (bits : List Bool) (next : Unit {0} → Reader B) {z : Result (B × List Bool) Fault} → holds ≡ true → next tt bits ≡ z → rest_of_reading (expect holds fault bits) next ≡ z
passed holds fault bits next h on = rw h on

-- no more fields
pub done : {A : Type 0} {x : A} {fields : List (FieldName × ℕ)} {bits later : List Bool} → Row fields bits later → answer x bits ≡ Ok (x, spelled fields ++ later)
done {x = x} ends = ap (λ bits. Ok (x, bits)) ends.is

pub spelled_row : (fields : List (FieldName × ℕ)) (later : List Bool) → Row fields (spelled fields ++ later) later
spelled_row fields later = record { is = refl }

pub regroup : (xs ys zs : List (FieldName × ℕ)) {bits later : List Bool} → Row ((xs ++ ys) ++ zs) bits later → Row (xs ++ (ys ++ zs)) bits later
regroup xs ys zs {bits} {later} r = subst (λ fields. Row fields bits later) (append_assoc xs ys zs) r

-- ---- what is read was written

-- a reader's answer, and the reader behind it
pub came_by : {A B C : Type 0} (t : Result (A × List Bool) Fault) (next : A → Reader B) {z : B} {later : List Bool} → rest_of_reading t next ≡ Ok (z, later) → ((x : A) (mid : List Bool) → t ≡ Ok (x, mid) → next x mid ≡ Ok (z, later) → C) → C
came_by (Ok (x, mid)) next h go = go x mid refl h
came_by (Err fault) next h go = absurd cc

pub read : {B C : Type 0} (name : FieldName) (allowed : ℕ → Bool) (bits : List Bool) (next : ℕ → Reader B) {z : B} {later : List Bool} → rest_of_reading (field name allowed bits) next ≡ Ok (z, later) → ((value : ℕ) (mid : List Bool) → Begins name value bits mid → allowed value ≡ true → next value mid ≡ Ok (z, later) → C) → C
read name allowed bits next h go =
    came_by (field name allowed bits) next h (λ value mid e on.
    let told = field-read name allowed bits value mid e in
    go value mid (record { is = told.0; fits = told.1 }) told.2 on)

pub read_fixed : {B C : Type 0} (name : FieldName) (value : ℕ) (bits : List Bool) (next : ℕ → Reader B) {z : B} {later : List Bool} → rest_of_reading (fixed_field name value bits) next ≡ Ok (z, later) → ((mid : List Bool) → Begins name value bits mid → next value mid ≡ Ok (z, later) → C) → C
read_fixed {B} {C} name value bits next {z} {later} h go =
    read name (λ v. v == value) bits next h (λ said mid begins ok on.
    let same : said ≡ value = eqb-true said value ok in
    go mid (as_value same begins) (subst (λ v. next v mid ≡ Ok (z, later)) same on))

pub read_any : {B C : Type 0} (name : FieldName) (bits : List Bool) (next : ℕ → Reader B) {z : B} {later : List Bool} → rest_of_reading (any_field name bits) next ≡ Ok (z, later) → ((value : ℕ) (mid : List Bool) → Begins name value bits mid → next value mid ≡ Ok (z, later) → C) → C
read_any name bits next h go = read name (λ v. true) bits next h (λ value mid begins ok on. go value mid begins on)

-- a test
pub tested : {B C : Type 0} (holds : Bool) (fault : Fault) (bits : List Bool) (next : Unit {0} → Reader B) {z : B} {later : List Bool} → rest_of_reading (expect holds fault bits) next ≡ Ok (z, later) → (holds ≡ true → next tt bits ≡ Ok (z, later) → C) → C
tested true fault bits next h go = go refl h
tested false fault bits next h go = absurd cc

-- the answer itself
the_pair : {A : Type 0} {p q : A × List Bool} → (let r : Result (A × List Bool) Fault = Ok p in r) ≡ Ok q → p ≡ q
the_pair h = cc

pub the_answer : {A : Type 0} {x z : A} {bits later : List Bool} → answer x bits ≡ Ok (z, later) → (x ≡ z) × (bits ≡ later)
the_answer {A} {x} {z} {bits} {later} h =
    let same : (x, bits) ≡ (z, later) = the_pair h in
    (ap (λ (p : A × List Bool). p.0) same, ap (λ (p : A × List Bool). p.1) same)
