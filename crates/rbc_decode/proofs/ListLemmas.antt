-- How many fields there are at most, and the fields in a list.
use Rattle.std.proofs.Common.{◌≡◌, ◌⊎◌, inl, inr, ℕ, zero, suc, ◌+◌, ◌*◌, ◌-◌, ◌^◌, ◌<◌, ◌≤◌, Bool, true, false, List, [], ◌∷◌, ◌++◌, length, take, drop, Option, Some, None, Result, Ok, Err, refl, sym, ap, ◌∙◌, subst, arith, nat_lt, if◌then◌else◌, append_assoc, append-nil, length-append, lit≤, set, add-one}
use Rattle.std.proofs.Math.Seq.{take-suc-set}
use Rattle.std.specs.List.{slice_get}
use Rattle.std.specs.Option.{option_and_then}
use Rattle.std.specs.Prelude.{option_map}
use Rattle.std.proofs.lemmas.Option.{slice_get_within}
use Rattle.std.proofs.lemmas.List.{length-take, length-take-le}
use Rattle.std.proofs.Math.Pow.{pow_mono}
use Rattle.std.proofs.lemmas.Bool.{eq-eqb, eqb-true}
use Rattle.rbc_model.specs.Bits.{number_of, byte_bits}
use Rattle.rbc_model.proofs.BitLemmas.{number_of-below}
use Rattle.rbc_model.specs.Messages.{width_of}
use Rattle.rbc_model.specs.Results.{unless}
use Rattle.rbc_model.specs.declared.messages.Fault.{Fault}
use Rattle.rbc_model.specs.declared.messages.FieldName.{FieldName}
use Rattle.rbc_model.specs.declared.messages.FieldName.TheVariants.{NID_MESSAGE, L_MESSAGE, T_TRAIN, M_ACK, NID_C, NID_BG, NID_PACKET, Q_DIR, L_PACKET, Q_SCALE, V_LOA, T_LOA, N_ITER, L_ENDSECTION, Q_SECTIONTIMER, Q_ENDTIMER, Q_DANGERPOINT, Q_OVERLAP, D_GRADIENT, Q_GDIR, G_A, D_STATIC, V_STATIC, Q_FRONT}
use Rattle.rbc_decode.specs.declared.row.Row.{Row}
use Rattle.rbc_decode.specs.declared.row.Row.TheVariants.{Header, Authority, GradientHead, GradientStep, GradientEnd, SpeedHead, SpeedStep, SpeedEnd}
use Rattle.rbc_decode.specs.declared.walk.FieldWalk.{FieldWalk}
use Rattle.rbc_decode.specs.declared.fields.Fields.{Fields}
use Rattle.rbc_decode.specs.declared.fields.Found.{Found}
use Rattle.rbc_decode.specs.declared.fields.Item.{Item}
use Rattle.rbc_decode.specs.Rows.{names_in}
use Rattle.rbc_decode.specs.Walks.{at_row, first_row, field_in, behind, is_allowed, length_fault, told, later_told, counts_steps, moved, entered, row_behind, is_known, past}
use Rattle.rbc_decode.specs.Readings.{Reading, stopped, left_to_read, reading, reading_of, with_item, with_next, field_read, item_at, if_known, field_beyond, beyond}
use Rattle.rbc_decode.specs.DecodeText.{start_of, reading_kind, reading_at}
use Rattle.rbc_decode.proofs.RestLemmas.{Rest, rest_to}

-- ---- how many fields are left at most

-- from this place of a row on, with `later` steps left
abbrev pub left_from : Row → ℕ → ℕ → ℕ
left_from Header index later = (6 - index) + 246
left_from Authority index later = (12 - index) + 234
left_from GradientHead index later = (8 - index) + 226
left_from GradientStep index later = (3 - index) + (3 * later + 136)
left_from GradientEnd index later = (3 - index) + 133
left_from SpeedHead index later = (9 - index) + 124
left_from SpeedStep index later = (4 - index) + (4 * later + 4)
left_from SpeedEnd index later = 4 - index

abbrev pub left_of : Option Row → ℕ → ℕ → ℕ
left_of None index later = 0
left_of (Some row) index later = left_from row index later

abbrev pub fields_left : FieldWalk → ℕ
fields_left walk = left_of walk.row walk.index walk.later

some_is : {X : Type 0} {x y : X} → Some x ≡ Some y → x ≡ y
some_is e = cc

-- ---- what a value tells keeps the place

told_keeps : (walk : FieldWalk) (row : Row) (name : FieldName) (value : ℕ)
    → ((told walk row name value).row ≡ walk.row) × ((told walk row name value).index ≡ walk.index) × ((name ≡ N_ITER) ⊎ ((told walk row name value).later ≡ walk.later))
told_keeps walk row NID_MESSAGE value = (refl, refl, inr refl)
told_keeps walk row L_MESSAGE value = (refl, refl, inr refl)
told_keeps walk row T_TRAIN value = (refl, refl, inr refl)
told_keeps walk row M_ACK value = (refl, refl, inr refl)
told_keeps walk row NID_C value = (refl, refl, inr refl)
told_keeps walk row NID_BG value = (refl, refl, inr refl)
told_keeps walk row NID_PACKET value = (refl, refl, inr refl)
told_keeps walk row Q_DIR value = (refl, refl, inr refl)
told_keeps walk row L_PACKET value = (refl, refl, inr refl)
told_keeps walk row Q_SCALE value = (refl, refl, inr refl)
told_keeps walk row V_LOA value = (refl, refl, inr refl)
told_keeps walk row T_LOA value = (refl, refl, inr refl)
told_keeps walk row N_ITER value = (refl, refl, inl refl)
told_keeps walk row L_ENDSECTION value = (refl, refl, inr refl)
told_keeps walk row Q_SECTIONTIMER value = (refl, refl, inr refl)
told_keeps walk row Q_ENDTIMER value = (refl, refl, inr refl)
told_keeps walk row Q_DANGERPOINT value = (refl, refl, inr refl)
told_keeps walk row Q_OVERLAP value = (refl, refl, inr refl)
told_keeps walk row D_GRADIENT value = (refl, refl, inr refl)
told_keeps walk row Q_GDIR value = (refl, refl, inr refl)
told_keeps walk row G_A value = (refl, refl, inr refl)
told_keeps walk row D_STATIC value = (refl, refl, inr refl)
told_keeps walk row V_STATIC value = (refl, refl, inr refl)
told_keeps walk row Q_FRONT value = (refl, refl, inr refl)

-- the steps are counted by this field alone
counts_named : (row : Row) (index : ℕ) (name : FieldName) → slice_get (names_in row) index ≡ Some name → counts_steps row index ≡ true → name ≡ N_ITER
counts_named GradientHead index name is counts = let at : index ≡ 7 = eqb-true index 7 counts in some_is (sym is ∙ ap (slice_get (names_in GradientHead)) at)
counts_named SpeedHead index name is counts = let at : index ≡ 8 = eqb-true index 8 counts in some_is (sym is ∙ ap (slice_get (names_in SpeedHead)) at)
counts_named Header index name is counts = absurd cc
counts_named Authority index name is counts = absurd cc
counts_named GradientStep index name is counts = absurd cc
counts_named GradientEnd index name is counts = absurd cc
counts_named SpeedStep index name is counts = absurd cc
counts_named SpeedEnd index name is counts = absurd cc

-- the steps that are left behind a value of this field
module _ (walk : FieldWalk) (row : Row) (value : ℕ) (few : value < 32) where
  later_few : counts_steps row walk.index ≡ true → later_told walk row value ≤ 30
  later_few counts = rw counts (omega arith)

  later_same : counts_steps row walk.index ≡ false → later_told walk row value ≡ walk.later
  later_same counts = rw counts refl

-- ---- a field is behind

if_both : (b : Bool) (x y : FieldWalk) (n : ℕ) → (b ≡ true → fields_left x < n) → (b ≡ false → fields_left y < n) → fields_left (if b then x else y) < n
if_both true x y n h k = h refl
if_both false x y n h k = k refl

if_entered : (b : Bool) (w : FieldWalk) (x y : Row) (n : ℕ) → (b ≡ true → fields_left (entered w (Some x)) < n) → (b ≡ false → fields_left (entered w (Some y)) < n)
    → fields_left (entered w (if b then Some x else Some y)) < n
if_entered true w x y n h k = h refl
if_entered false w x y n h k = k refl

if_over : (b : Bool) (w : FieldWalk) (y : Row) (n : ℕ) → 0 < n → fields_left (entered w (Some y)) < n → fields_left (entered w (if b then None else Some y)) < n
if_over true w y n h k = h
if_over false w y n h k = k

-- the number of the last field
at_last : (index last : ℕ) → index < suc last → nat_lt index last ≡ false → index ≡ last
at_last index last inside past = let beyond : last ≤ index = grind (arith, past) in omega arith

-- one field fewer is left behind a field, in front of which `before` steps were left
moved_fewer : (row : Row) (w : FieldWalk) (before : ℕ) → w.row ≡ Some row → w.index < length (names_in row)
    → (counts_steps row w.index ≡ true → w.later ≤ 30) → (counts_steps row w.index ≡ false → w.later ≡ before)
    → fields_left (moved w row) < left_from row w.index before
moved_fewer Header w before is inside few same =
    let i = w.index in
    let later = w.later in
    if_both (nat_lt i 5) (record w { index = i + 1 }) (entered w (Some Authority)) _
    (λ b. subst (λ r. left_of r (i + 1) later < left_from Header i before) (sym is) (omega arith))
    (λ b. omega arith)
moved_fewer Authority w before is inside few same =
    let i = w.index in
    let later = w.later in
    if_both (nat_lt i 11) (record w { index = i + 1 }) (entered w (row_behind w Authority)) _
    (λ b. subst (λ r. left_of r (i + 1) later < left_from Authority i before) (sym is) (omega arith))
    (λ b. if_over w.is_alone w GradientHead (left_from Authority i before) (omega arith) (omega arith))
moved_fewer GradientHead w before is inside few same =
    let i = w.index in
    let later = w.later in
    if_both (nat_lt i 7) (record w { index = i + 1 }) (entered w (row_behind w GradientHead)) _
    (λ b. subst (λ r. left_of r (i + 1) later < left_from GradientHead i before) (sym is) (omega arith))
    (λ b. let most : later ≤ 30 = few (eq-eqb i 7 (at_last i 7 inside b)) in
    if_entered (nat_lt 0 later) w GradientStep GradientEnd (left_from GradientHead i before)
    (λ some. let one : 1 ≤ later = grind (arith, some) in omega arith)
    (λ none. omega arith))
moved_fewer GradientStep w before is inside few same =
    let i = w.index in
    let later = w.later in
    let kept : later ≡ before = same refl in
    if_both (nat_lt i 2) (record w { index = i + 1 }) (entered w (row_behind w GradientStep)) _
    (λ b. subst (λ r. left_of r (i + 1) later < left_from GradientStep i before) (sym is) (omega arith))
    (λ b. if_entered (nat_lt 0 later) w GradientStep GradientEnd (left_from GradientStep i before)
    (λ some. let one : 1 ≤ later = grind (arith, some) in omega arith)
    (λ none. omega arith))
moved_fewer GradientEnd w before is inside few same =
    let i = w.index in
    let later = w.later in
    if_both (nat_lt i 2) (record w { index = i + 1 }) (entered w (row_behind w GradientEnd)) _
    (λ b. subst (λ r. left_of r (i + 1) later < left_from GradientEnd i before) (sym is) (omega arith))
    (λ b. if_over w.is_alone w SpeedHead (left_from GradientEnd i before) (omega arith) (omega arith))
moved_fewer SpeedHead w before is inside few same =
    let i = w.index in
    let later = w.later in
    if_both (nat_lt i 8) (record w { index = i + 1 }) (entered w (row_behind w SpeedHead)) _
    (λ b. subst (λ r. left_of r (i + 1) later < left_from SpeedHead i before) (sym is) (omega arith))
    (λ b. let most : later ≤ 30 = few (eq-eqb i 8 (at_last i 8 inside b)) in
    if_entered (nat_lt 0 later) w SpeedStep SpeedEnd (left_from SpeedHead i before)
    (λ some. let one : 1 ≤ later = grind (arith, some) in omega arith)
    (λ none. omega arith))
moved_fewer SpeedStep w before is inside few same =
    let i = w.index in
    let later = w.later in
    let kept : later ≡ before = same refl in
    if_both (nat_lt i 3) (record w { index = i + 1 }) (entered w (row_behind w SpeedStep)) _
    (λ b. subst (λ r. left_of r (i + 1) later < left_from SpeedStep i before) (sym is) (omega arith))
    (λ b. if_entered (nat_lt 0 later) w SpeedStep SpeedEnd (left_from SpeedStep i before)
    (λ some. let one : 1 ≤ later = grind (arith, some) in omega arith)
    (λ none. omega arith))
moved_fewer SpeedEnd w before is inside few same =
    let i = w.index in
    let later = w.later in
    if_both (nat_lt i 3) (record w { index = i + 1 }) (entered w None) _
    (λ b. subst (λ r. left_of r (i + 1) later < left_from SpeedEnd i before) (sym is) (omega arith))
    (λ b. omega arith)

-- a walk behind a field
behind_is : (allowed : Bool) (fault : Option Fault) (wrong : Fault) (w next : FieldWalk) → (if allowed then unless fault (Ok w) else Err wrong) ≡ Ok next → w ≡ next
behind_is true None wrong w next is = cc
behind_is true (Some fault) wrong w next is = absurd cc
behind_is false fault wrong w next is = absurd cc

below_32 : (name : FieldName) (value : ℕ) → value < 2 ^ width_of name → name ≡ N_ITER → value < 32
below_32 name value below is = subst (λ n. value < 2 ^ width_of n) is below

past_fewer : (walk : FieldWalk) (row : Row) (name : FieldName) (value : ℕ) → walk.row ≡ Some row → slice_get (names_in row) walk.index ≡ Some name → value < 2 ^ width_of name
    → fields_left (past walk row name value) < left_from row walk.index walk.later
past_fewer walk row name value at named below =
    let w = told walk row name value in
    let keeps = told_keeps walk row name value in
    let index_is : w.index ≡ walk.index = keeps.1 in
    let inside : walk.index < length (names_in row) = slice_get_within (names_in row) walk.index name named in
    let few : counts_steps row walk.index ≡ true → w.later ≤ 30 = λ counts.
    let iter = counts_named row walk.index name named counts in
    subst (λ n. (told walk row n value).later ≤ 30) (sym iter) (later_few walk row value (below_32 name value below iter) counts) in
    let same : counts_steps row walk.index ≡ false → w.later ≡ walk.later = λ counts. elim keeps.2 [
      | inl iter ↦ subst (λ n. (told walk row n value).later ≡ walk.later) (sym iter) (later_same walk row value (below_32 name value below iter) counts)
      | inr kept ↦ kept
    ] in
    let moves : fields_left (moved w row) < left_from row w.index walk.later =
    moved_fewer row w walk.later (keeps.0 ∙ at) (subst (λ i. i < length (names_in row)) (sym index_is) inside)
    (subst (λ i. counts_steps row i ≡ true → w.later ≤ 30) (sym index_is) few)
    (subst (λ i. counts_steps row i ≡ false → w.later ≡ walk.later) (sym index_is) same) in
    subst (λ i. fields_left (moved w row) < left_from row i walk.later) index_is moves

behind_fewer : (walk next : FieldWalk) (row : Row) (name : FieldName) (value : ℕ) → walk.row ≡ Some row → slice_get (names_in row) walk.index ≡ Some name → value < 2 ^ width_of name
    → behind walk row name value ≡ Ok next → fields_left next < left_from row walk.index walk.later
behind_fewer walk next row name value at named below is =
    subst (λ x. fields_left x < left_from row walk.index walk.later) (behind_is (is_allowed walk row name value) (length_fault walk row name value) _ (past walk row name value) next is)
    (past_fewer walk row name value at named below)

-- ---- a reading has at most `fields_left` fields

some_left : (row : Row) (index later : ℕ) → index < length (names_in row) → 1 ≤ left_from row index later
some_left Header index later inside = omega arith
some_left Authority index later inside = omega arith
some_left GradientHead index later inside = omega arith
some_left GradientStep index later inside = omega arith
some_left GradientEnd index later inside = omega arith
some_left SpeedHead index later inside = omega arith
some_left SpeedStep index later inside = omega arith
some_left SpeedEnd index later inside = omega arith

list_few : (known : Bool) (late : List Item) (n : ℕ) → 1 ≤ n → length late < n → suc (length (if known then late else [])) ≤ n
list_few true late n one fewer = omega arith
list_few false late n one fewer = one

next_few : (item : Item) (n : ℕ) (r : Result FieldWalk Fault) (late : FieldWalk → List Item) (later : FieldWalk → Reading) → 1 ≤ n → length (late (past item.walk item.row item.name item.value)) < n
    → ((next : FieldWalk) → r ≡ Ok next → length (later next).items < n) → length (with_next item r late later).items ≤ n
next_few item n (Ok next) late later one fewer_late fewer = let h = fewer next refl in omega arith
next_few item n (Err fault) late later one fewer_late fewer =
    list_few (is_known item.walk item.row item.name item.value) (late (past item.walk item.row item.name item.value)) n one fewer_late

read_few : (short : Bool) (stop go : Reading) (n : ℕ) → length stop.items ≤ n → length go.items ≤ n → length (if short then stop else go).items ≤ n
read_few true stop go n h k = h
read_few false stop go n h k = k

value_below : (width : ℕ) (bits : List Bool) → number_of (take width bits) < 2 ^ width
value_below width bits =
    let below = number_of-below (take width bits) in
    let long = length-take width bits in
    let most : length (take width bits) ≤ width = omega arith in
    let more : 2 ^ length (take width bits) ≤ 2 ^ width = pow_mono most in
    omega arith

late_few : (short : Bool) (item : Item) (late : FieldWalk → List Item) (n : ℕ) → 1 ≤ n → length (late (past item.walk item.row item.name item.value)) < n
    → length (if short then [] else item ∷ if_known item late) ≤ n
late_few true item late n one fewer = omega arith
late_few false item late n one fewer =
    list_few (is_known item.walk item.row item.name item.value) (late (past item.walk item.row item.name item.value)) n one fewer

module _ (bits : List Bool) (bit : ℕ) (walk : FieldWalk) (late : FieldWalk → List Bool → ℕ → List Item) (few_late : (next : FieldWalk) (b : List Bool) (n : ℕ) → length (late next b n) ≤ fields_left next) where
  -- the field that comes next, and those behind it
  late_fewer : (row : Row) (name : FieldName) → walk.row ≡ Some row → slice_get (names_in row) walk.index ≡ Some name
      → length (late (past walk row name (number_of (take (width_of name) bits))) (drop (width_of name) bits) (bit + width_of name)) < left_from row walk.index walk.later
  late_fewer row name at named =
      let value = number_of (take (width_of name) bits) in
      let fewer = past_fewer walk row name value at named (value_below (width_of name) bits) in
      let rest = few_late (past walk row name value) (drop (width_of name) bits) (bit + width_of name) in
      omega arith

  named_late : (row : Row) (o : Option FieldName) → walk.row ≡ Some row → slice_get (names_in row) walk.index ≡ o
      → length (field_beyond (option_map (λ name. (row, name)) o) walk bits bit late) ≤ left_from row walk.index walk.later
  named_late row None at named = omega arith
  named_late row (Some name) at named =
      let one = some_left row walk.index walk.later (slice_get_within (names_in row) walk.index name named) in
      late_few (nat_lt (length bits) (width_of name)) (item_at true walk row name bits bit) (λ next. late next (drop (width_of name) bits) (bit + width_of name))
      (left_from row walk.index walk.later) one (late_fewer row name at named)

  fields_late : (o : Option Row) → walk.row ≡ o → length (field_beyond (option_and_then (field_in walk.index) o) walk bits bit late) ≤ left_of o walk.index walk.later
  fields_late None at = omega arith
  fields_late (Some row) at = named_late row (slice_get (names_in row) walk.index) at refl

  module _ (later : FieldWalk → List Bool → ℕ → Reading) (few : (next : FieldWalk) (b : List Bool) (n : ℕ) → length (later next b n).items ≤ fields_left next) where
    named_few : (row : Row) (o : Option FieldName) → walk.row ≡ Some row → slice_get (names_in row) walk.index ≡ o
        → length (field_read (option_map (λ name. (row, name)) o) walk bits bit late later).items ≤ left_from row walk.index walk.later
    named_few row None at named = omega arith
    named_few row (Some name) at named =
        let value = number_of (take (width_of name) bits) in
        let one = some_left row walk.index walk.later (slice_get_within (names_in row) walk.index name named) in
        read_few (nat_lt (length bits) (width_of name)) _ _ (left_from row walk.index walk.later) (omega arith)
        (next_few (item_at false walk row name bits bit) _ (behind walk row name value)
        (λ next. late next (drop (width_of name) bits) (bit + width_of name)) (λ next. later next (drop (width_of name) bits) (bit + width_of name))
        one (late_fewer row name at named)
        (λ next is. let fewer = behind_fewer walk next row name value at named (value_below (width_of name) bits) is in
        let rest = few next (drop (width_of name) bits) (bit + width_of name) in
        omega arith))

    fields_few : (o : Option Row) → walk.row ≡ o → length (field_read (option_and_then (field_in walk.index) o) walk bits bit late later).items ≤ left_of o walk.index walk.later
    fields_few None at = omega arith
    fields_few (Some row) at = named_few row (slice_get (names_in row) walk.index) at refl

beyond_few : (most : ℕ) (walk : FieldWalk) (bits : List Bool) (bit : ℕ) → length (beyond most walk bits bit) ≤ fields_left walk
unfolding beyond
beyond_few zero walk bits bit = omega arith
beyond_few (suc most) walk bits bit = fields_late bits bit walk (beyond most) (beyond_few most) walk.row refl

pub reading_few : (most : ℕ) (walk : FieldWalk) (bits : List Bool) (bit : ℕ) → length (reading most walk bits bit).items ≤ fields_left walk
unfolding reading
reading_few zero walk bits bit = omega arith
reading_few (suc most) walk bits bit = fields_few bits bit walk (beyond most) (beyond_few most) (reading most) (reading_few most) walk.row refl

-- ---- the fields in a list

start_few : (row : Row) (alone : Bool) (bytes : ℕ) → fields_left (at_row row alone bytes) ≤ 252
start_few Header alone bytes = lit≤ tt
start_few Authority alone bytes = lit≤ tt
start_few GradientHead alone bytes = lit≤ tt
start_few GradientStep alone bytes = lit≤ tt
start_few GradientEnd alone bytes = lit≤ tt
start_few SpeedHead alone bytes = lit≤ tt
start_few SpeedStep alone bytes = lit≤ tt
start_few SpeedEnd alone bytes = lit≤ tt

kind_few : (packet : Bool) (bytes : List ℕ) → length (reading_kind packet bytes).items ≤ 252
unfolding reading_of
kind_few true bytes =
    let few = reading_few (suc (length (byte_bits bytes))) (at_row (first_row bytes) true (length bytes)) (byte_bits bytes) 0 in
    let start = start_few (first_row bytes) true (length bytes) in
    omega arith
kind_few false bytes =
    let few = reading_few (suc (length (byte_bits bytes))) (at_row Header false (length bytes)) (byte_bits bytes) 0 in
    omega arith

-- the reading of these fields from the first one on
pub kind_start : (packet : Bool) (bytes : List ℕ) → reading_at packet bytes ≡ reading_kind packet bytes
kind_start true bytes = refl
kind_start false bytes = refl

-- these fields in front of the fields of a reading are all, and it is found what was
pub record IsRest (front : List Item) (whole later : Reading) : Type 0 where
  pub items : front ++ later.items ≡ whole.items
  pub found : later.found ≡ whole.found

-- there is room for one more
some_room : (packet : Bool) (bytes : List ℕ) (front : List Item) (item : Item) (later : Reading) → IsRest front (reading_kind packet bytes) (with_item (Some item) later)
    → length front < 252
some_room packet bytes front item later rest =
    let few = kind_few packet bytes in
    let all = ap length rest.items in
    let parts = length-append front (item ∷ later.items) in
    omega arith

-- a field was put into the list
pub rest_put : (items : List Item) (count : ℕ) (item : Item) (whole later : Reading) → count < length items → IsRest (take count items) whole (with_item (Some item) later)
    → IsRest (take (count + 1) (set items count item)) whole later
rest_put items count item whole later inside rest = record {
  items = ap (λ n. take n (set items count item) ++ later.items) (add-one count)
      ∙ ap (λ front. front ++ later.items) (take-suc-set items count item inside)
      ∙ append_assoc (take count items) (item ∷ []) later.items ∙ rest.items;
  found = rest.found;
}

-- a field was read, and there is room for it
pub room_next : (packet : Bool) (bytes : List ℕ) (items : List Item) (count : ℕ) (item : Item) (new : Fields) → length items ≡ 253 → count ≤ 252
    → Rest new (λ later. IsRest (take count items) (reading_kind packet bytes) (with_item (Some item) later)) → count < 252
room_next packet bytes items count item new long within rest =
    let room = some_room packet bytes (take count items) item (left_to_read rest.most new) rest.holds in
    let front = length-take-le count items (omega arith) in
    omega arith

-- and it was put into the list
pub put_next : (items : List Item) (count : ℕ) (item : Item) (whole : Reading) (new : Fields) → count < length items
    → Rest new (λ later. IsRest (take count items) whole (with_item (Some item) later)) → Rest new (IsRest (take (count + 1) (set items count item)) whole)
put_next items count item whole new inside rest =
    rest_to new (λ later. IsRest (take count items) whole (with_item (Some item) later)) (IsRest (take (count + 1) (set items count item)) whole)
    (λ later h. rest_put items count item whole later inside h) rest

-- none was read yet
pub start_rest : (packet : Bool) (bytes : List ℕ) (start : FieldWalk) (fields : Fields) (front : List Item) → start ≡ start_of packet bytes → fields.bits ≡ byte_bits bytes
    → ((most : ℕ) → left_to_read most fields ≡ reading most start (byte_bits bytes) 0) → front ≡ [] → Rest fields (IsRest front (reading_kind packet bytes))
unfolding reading_of
start_rest packet bytes start fields front is all reads none =
    let most = suc (length (byte_bits bytes)) in
    let bits = ap length all in
    let same : left_to_read most fields ≡ reading_kind packet bytes = reads most ∙ ap (λ s. reading most s (byte_bits bytes) 0) is ∙ kind_start packet bytes in
    record {
      most = most;
      enough = omega arith;
      holds = record {
        items = ap (λ f. f ++ (left_to_read most fields).items) none ∙ ap (λ (r : Reading). r.items) same;
        found = ap (λ (r : Reading). r.found) same;
      };
    }

-- none is left
pub all_listed : (front : List Item) (whole : Reading) (found : Option Found) → IsRest front whole (stopped found) → front ≡ whole.items
all_listed front whole found rest = sym (append-nil front) ∙ rest.items
