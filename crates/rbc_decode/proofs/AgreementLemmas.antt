-- How a proof goes from field to field, over the walk and the reading at once.
use Rattle.std.proofs.Common.{◌≡◌, ℕ, zero, suc, ◌+◌, ◌<◌, ◌≤◌, Bool, true, false, not, List, [], length, take, drop, length-drop, Option, Some, None, Result, Ok, Err, refl, sym, ap, ◌∙◌, subst, arith, lit≤, nat_lt, nat_le, if◌then◌else◌, ◌==◌}
use Rattle.std.proofs.lemmas.Bool.{eqb-true}
use Rattle.rbc_model.specs.declared.messages.Fault.{Fault}
use Rattle.rbc_model.specs.declared.messages.Fault.TheVariants.{Short, Length, Extra, Padding}
use Rattle.rbc_model.specs.declared.messages.FieldName.{FieldName}
use Rattle.rbc_model.specs.declared.messages.FieldName.TheVariants.{NID_MESSAGE, L_MESSAGE, T_TRAIN, M_ACK, NID_C, NID_BG, NID_PACKET, Q_DIR, L_PACKET, Q_SCALE, V_LOA, T_LOA, N_ITER, L_ENDSECTION, Q_SECTIONTIMER, Q_ENDTIMER, Q_DANGERPOINT, Q_OVERLAP, D_GRADIENT, Q_GDIR, G_A, D_STATIC, V_STATIC, Q_FRONT}
use Rattle.rbc_model.specs.Bits.{number_of}
use Rattle.rbc_model.specs.Messages.{width_of}
use Rattle.rbc_model.specs.Readers.{Reader, rest_of_reading, fault_of, field, expect}
use Rattle.rbc_model.specs.Reading.{filling_at}
use Rattle.rbc_model.specs.Results.{unless}
use Rattle.rbc_decode.specs.declared.row.Row.{Row}
use Rattle.rbc_decode.specs.declared.walk.FieldWalk.{FieldWalk}
use Rattle.rbc_decode.specs.declared.fields.Item.{Item}
use Rattle.rbc_decode.specs.declared.fields.FieldPlace.TheVariants.{Missing, Filling, Behind}
use Rattle.rbc_decode.specs.Walks.{field_of, behind, is_allowed, length_fault, told, moved}
use Rattle.rbc_decode.specs.Readings.{reading, beyond, field_read, item_at, with_next, stopped}
use Rattle.rbc_decode.specs.Laws.{fault_found}

-- each field has a bit
pub some_bits : (name : FieldName) → 1 ≤ width_of name
some_bits NID_MESSAGE = lit≤ tt
some_bits L_MESSAGE = lit≤ tt
some_bits T_TRAIN = lit≤ tt
some_bits M_ACK = lit≤ tt
some_bits NID_C = lit≤ tt
some_bits NID_BG = lit≤ tt
some_bits NID_PACKET = lit≤ tt
some_bits Q_DIR = lit≤ tt
some_bits L_PACKET = lit≤ tt
some_bits Q_SCALE = lit≤ tt
some_bits V_LOA = lit≤ tt
some_bits T_LOA = lit≤ tt
some_bits N_ITER = lit≤ tt
some_bits L_ENDSECTION = lit≤ tt
some_bits Q_SECTIONTIMER = lit≤ tt
some_bits Q_ENDTIMER = lit≤ tt
some_bits Q_DANGERPOINT = lit≤ tt
some_bits Q_OVERLAP = lit≤ tt
some_bits D_GRADIENT = lit≤ tt
some_bits Q_GDIR = lit≤ tt
some_bits G_A = lit≤ tt
some_bits D_STATIC = lit≤ tt
some_bits V_STATIC = lit≤ tt
some_bits Q_FRONT = lit≤ tt

-- the fault of what is read, and then of what comes behind it
abbrev pub then_fault : {A : Type 0} → Result (A × List Bool) Fault → (A → List Bool → Option Fault) → Option Fault
then_fault (Ok (x, rest)) next = next x rest
then_fault (Err fault) next = Some fault

pub then_fault-rest : {A B : Type 0} (first : Result (A × List Bool) Fault) (k : A → Reader B) (c : B → List Bool → Option Fault)
    → then_fault first (λ x rest. then_fault (k x rest) c) ≡ then_fault (rest_of_reading first k) c
then_fault-rest (Ok (x, rest)) k c = refl
then_fault-rest (Err fault) k c = refl

-- from this walk on the fault found is the one that is expected
pub record Agree (walk : FieldWalk) (expected : List Bool → Option Fault) : Type 0 where
  pub agrees : (most : ℕ) (bits : List Bool) (bit : ℕ) → length bits < most → fault_found (reading most walk bits bit) ≡ expected bits

-- behind a value of a field the fault found from the next walk on is the one that is expected; or the value's own fault is
abbrev pub Follows : Result FieldWalk Fault → (List Bool → Option Fault) → Type 0
Follows (Ok next) expected = Agree next expected
Follows (Err fault) expected = (bits : List Bool) → Some fault ≡ expected bits

follows_on : (item : Item) (r : Result FieldWalk Fault) (expected : List Bool → Option Fault) (most : ℕ) (bits : List Bool) (later : ℕ) → Follows r expected → length bits < most
    → fault_found (with_next item r (λ next. beyond most next bits later) (λ next. reading most next bits later)) ≡ expected bits
follows_on item (Ok next) expected most bits later h few = h.agrees most bits later few
follows_on item (Err fault) expected most bits later h few = h bits

-- one reader inside another
pub under : {A B : Type 0} {walk : FieldWalk} (m : Reader A) (k : A → Reader B) (c : B → List Bool → Option Fault) → Agree walk (λ bits. then_fault (m bits) (λ x rest. then_fault (k x rest) c))
    → Agree walk (λ bits. then_fault (rest_of_reading (m bits) k) c)
under m k c h = record { agrees = λ most bits bit few. h.agrees most bits bit few ∙ then_fault-rest (m bits) k c }

module _ {A : Type 0} (walk : FieldWalk) (row : Row) (name : FieldName) (allowed : ℕ → Bool) (k : ℕ → Reader A) (c : A → List Bool → Option Fault) where
  -- what is expected behind a value
  abbrev Expected : ℕ → List Bool → Option Fault
  Expected value bits = then_fault (rest_of_reading (if allowed value then Ok (value, bits) else Err (fault_of name)) k) c

  module _ (h : (value : ℕ) → Follows (behind walk row name value) (Expected value)) where
    tested : (most : ℕ) (bits : List Bool) (bit : ℕ) → length bits < suc most → (short : Bool) → nat_lt (length bits) (width_of name) ≡ short
        → fault_found
        (if short
        then stopped (Some (record { fault = Short; place = Missing name; bit = bit; value = length bits }))
        else with_next (item_at false walk row name bits bit)
        (behind walk row name (number_of (take (width_of name) bits)))
        (λ next. beyond most next (drop (width_of name) bits) (bit + width_of name))
        (λ next. reading most next (drop (width_of name) bits) (bit + width_of name)))
        ≡ then_fault
        (rest_of_reading
        (if short then Err Short
        else if allowed (number_of (take (width_of name) bits)) then Ok (number_of (take (width_of name) bits), drop (width_of name) bits)
        else Err (fault_of name)) k) c
    tested most bits bit few true e = refl
    tested most bits bit few false e =
        let some = some_bits name in
        let room : width_of name ≤ length bits = grind (arith, e) in
        follows_on _ (behind walk row name (number_of (take (width_of name) bits))) (Expected (number_of (take (width_of name) bits))) most (drop (width_of name) bits) _
        (h (number_of (take (width_of name) bits)))
        (omega (arith, some, room, few, length-drop (width_of name) bits))

    at_field : field_of walk ≡ Some (row, name) → (most : ℕ) (bits : List Bool) (bit : ℕ) → length bits < most
        → fault_found (reading most walk bits bit) ≡ then_fault (rest_of_reading (field name allowed bits) k) c
    unfolding reading
    at_field next zero bits bit few = absurd (omega arith)
    at_field next (suc most) bits bit few =
        ap (λ (f : Option (Row × FieldName)). fault_found (field_read f walk bits bit (beyond most) (reading most))) next
        ∙ tested most bits bit few (nat_lt (length bits) (width_of name)) refl

    -- a field
    pub go : field_of walk ≡ Some (row, name) → Agree walk (λ bits. then_fault (rest_of_reading (field name allowed bits) k) c)
    go next = record { agrees = at_field next }

  follows_if : (value : ℕ) (next : FieldWalk) (right : Bool) → (right ≡ true → Agree next (λ bits. then_fault (k value bits) c))
      → Follows (if right then Ok next else Err (fault_of name)) (λ bits. then_fault (rest_of_reading (if right then Ok (value, bits) else Err (fault_of name)) k) c)
  follows_if value next true h = h refl
  follows_if value next false h = λ bits. refl

  behind_is : (value : ℕ) → is_allowed walk row name value ≡ allowed value → length_fault walk row name value ≡ None
      → behind walk row name value ≡ (if allowed value then Ok (moved (told walk row name value) row) else Err (fault_of name))
  behind_is value same none = rw (same, none) refl

  -- a field that tells no length
  pub step : field_of walk ≡ Some (row, name) → ((value : ℕ) → is_allowed walk row name value ≡ allowed value) → ((value : ℕ) → length_fault walk row name value ≡ None)
      → ((value : ℕ) → allowed value ≡ true → Agree (moved (told walk row name value) row) (λ bits. then_fault (k value bits) c))
      → Agree walk (λ bits. then_fault (rest_of_reading (field name allowed bits) k) c)
  step next same none h =
      go (λ value. subst (λ r. Follows r (Expected value)) (sym (behind_is value (same value) (none value))) (follows_if value (moved (told walk row name value) row) (allowed value) (h value)))
      next

-- a field with one value
pub fixed : {A : Type 0} (walk : FieldWalk) (row : Row) (name : FieldName) (value : ℕ) (k : ℕ → Reader A) (c : A → List Bool → Option Fault)
    → field_of walk ≡ Some (row, name) → ((v : ℕ) → is_allowed walk row name v ≡ (v == value)) → ((v : ℕ) → length_fault walk row name v ≡ None)
    → Agree (moved (told walk row name value) row) (λ bits. then_fault (k value bits) c)
    → Agree walk (λ bits. then_fault (rest_of_reading (field name (λ v. v == value) bits) k) c)
fixed walk row name value k c next same none h =
    step walk row name (λ v. v == value) k c next same none
    (λ v ok. subst (λ x. Agree (moved (told walk row name x) row) (λ bits. then_fault (k x bits) c)) (sym (eqb-true v value ok)) h)

-- ---- lengths

at_most : (said bytes : ℕ) (more : Bool) → nat_lt bytes said ≡ more → nat_le said bytes ≡ not more
at_most said bytes true e = grind (arith, e)
at_most said bytes false e = grind (arith, e)

pub not_more : (said bytes : ℕ) → nat_le said bytes ≡ not (nat_lt bytes said)
not_more said bytes = at_most said bytes (nat_lt bytes said) refl

-- the message's length
pub follows_bytes : {A : Type 0} (next : FieldWalk) (more less : Bool) (k : Reader A) (c : A → List Bool → Option Fault) → (more ≡ false → less ≡ false → Agree next (λ bits. then_fault (k bits) c))
    → Follows (unless (if more then Some Short else if less then Some Extra else None) (Ok next))
    (λ bits. then_fault (rest_of_reading (expect (not more) Short bits) (λ x bits. rest_of_reading (expect (not less) Extra bits) (λ x. k))) c)
follows_bytes next true less k c h = λ bits. refl
follows_bytes next false true k c h = λ bits. refl
follows_bytes next false false k c h = h refl refl

-- the message's length, by the reader's tests
pub follows_said : {A : Type 0} (next : FieldWalk) (said bytes : ℕ) (k : Reader A) (c : A → List Bool → Option Fault) → Agree next (λ bits. then_fault (k bits) c)
    → Follows (unless (if nat_lt bytes said then Some Short else if nat_lt said bytes then Some Extra else None) (Ok next))
    (λ bits. then_fault (rest_of_reading (expect (nat_le said bytes) Short bits) (λ x bits. rest_of_reading (expect (nat_le bytes said) Extra bits) (λ x. k))) c)
follows_said next said bytes k c h =
    let found : Result FieldWalk Fault = unless (if nat_lt bytes said then Some Short else if nat_lt said bytes then Some Extra else None) (Ok next) in
    subst (λ a. Follows found (λ bits. then_fault (rest_of_reading (expect a Short bits) (λ x bits. rest_of_reading (expect (nat_le bytes said) Extra bits) (λ x. k))) c)) (sym (not_more said bytes))
    (subst (λ b. Follows found (λ bits. then_fault (rest_of_reading (expect (not (nat_lt bytes said)) Short bits) (λ x bits. rest_of_reading (expect b Extra bits) (λ x. k))) c)) (sym (not_more bytes said))
    (follows_bytes next (nat_lt bytes said) (nat_lt said bytes) k c (λ less more. h)))

-- a packet's length
pub follows_length : {A : Type 0} (next : FieldWalk) (right fits : Bool) (fault : Fault) (value : ℕ) (behind_it : ℕ → Reader A) (k : Reader A) (c : A → List Bool → Option Fault)
    → behind_it value ≡ (λ bits. rest_of_reading (expect fits Length bits) (λ x. k))
    → (right ≡ true → fits ≡ true → Agree next (λ bits. then_fault (k bits) c))
    → Follows (if right then unless (if fits then None else Some Length) (Ok next) else Err fault)
    (λ bits. then_fault (rest_of_reading (if right then Ok (value, bits) else Err fault) behind_it) c)
follows_length next false fits fault value behind_it k c e h = λ bits. refl
follows_length {A} next true false fault value behind_it k c e h = λ bits. ap (λ (f : Reader A). then_fault (f bits) c) (sym e)
follows_length next true true fault value behind_it k c e h = subst (λ f. Agree next (λ bits. then_fault (f bits) c)) (sym e) (h refl refl)

-- a packet's length, where any value is allowed
pub follows_fixed_length : {A : Type 0} (next : FieldWalk) (fits : Bool) (k : Reader A) (c : A → List Bool → Option Fault) → Agree next (λ bits. then_fault (k bits) c)
    → Follows (unless (if fits then None else Some Length) (Ok next)) (λ bits. then_fault (rest_of_reading (expect fits Length bits) (λ x. k)) c)
follows_fixed_length next true k c h = h
follows_fixed_length next false k c h = λ bits. refl

-- ---- the filling

filled : (bits : List Bool) (bit : ℕ) (few none : Bool)
    → fault_found (stopped (if few then (if none then None else Some (record { fault = Padding; place = Filling; bit = bit; value = number_of bits })) else Some (record { fault = Length; place = Behind; bit = bit; value = length bits })))
    ≡ then_fault {A = Unit {0}} (if not few then Err Length else if none then Ok (tt, []) else Err Padding) (λ x rest. None)
filled bits bit true true = refl
filled bits bit true false = refl
filled bits bit false none = refl

at_end : (walk : FieldWalk) → field_of walk ≡ None → (most : ℕ) (bits : List Bool) (bit : ℕ) → length bits < most
    → fault_found (reading most walk bits bit) ≡ then_fault (filling_at bits) (λ x rest. None)
unfolding reading
at_end walk last zero bits bit few = absurd (omega arith)
at_end walk last (suc most) bits bit few =
    ap (λ (f : Option (Row × FieldName)). fault_found (field_read f walk bits bit (beyond most) (reading most))) last
    ∙ rw (not_more 8 (length bits)) (filled bits bit (nat_lt (length bits) 8) (number_of bits == 0))

pub ends : (walk : FieldWalk) → field_of walk ≡ None → Agree walk (λ bits. then_fault (filling_at bits) (λ x rest. None))
ends walk last = record { agrees = at_end walk last }
