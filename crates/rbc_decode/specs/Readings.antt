-- What is read of the bits of a message, or of a packet alone: its fields in order, and the first fault that is found. Behind it the fields are read on, as
-- far as it is known which ones come.
use Rattle.std.specs.Prelude.{◌≡◌, ℕ, suc, zero, ◌+◌, ◌^◌, ◌≤◌, Bool, true, false, List, [], ◌∷◌, length, take, drop, Option, Some, None, is_some, Result, Ok, Err, nat_lt, ◌==◌, if◌then◌else◌}
use Rattle.rbc_model.specs.declared.messages.FieldName.{FieldName}
use Rattle.rbc_model.specs.declared.messages.Fault.{Fault}
use Rattle.rbc_model.specs.declared.messages.Fault.TheVariants.{Short, Length, Padding}
use Rattle.rbc_model.specs.Bits.{number_of, byte_bits}
use Rattle.rbc_model.specs.Messages.{width_of}
use Rattle.rbc_decode.specs.declared.row.Row.{Row}
use Rattle.rbc_decode.specs.declared.row.Row.TheVariants.{Header}
use Rattle.rbc_decode.specs.declared.walk.FieldWalk.{FieldWalk}
use Rattle.rbc_decode.specs.declared.fields.Found.{Found}
use Rattle.rbc_decode.specs.declared.fields.FieldPlace.TheVariants.{Field, Missing, Filling, Behind}
use Rattle.rbc_decode.specs.declared.fields.Item.{Item}
use Rattle.rbc_decode.specs.declared.fields.Fields.{Fields}
use Rattle.rbc_decode.specs.Walks.{at_row, first_row, field_of, behind, is_known, past}

-- the fields that are read, and the first fault that is found
pub record Reading : Type 0 where
  pub items : List Item
  pub found : Option Found

-- these fields were read, and this was found
abbrev pub read_as : List Item → Option Found → Reading
read_as items found = record { items = items; found = found }

-- nothing more is read
abbrev pub stopped : Option Found → Reading
stopped found = record { items = []; found = found }

-- a field in front of those behind it
abbrev pub with_item : Option Item → Reading → Reading
with_item None later = later
with_item (Some item) later = record { items = item ∷ later.items; found = later.found }

-- behind the last field there are fewer than eight bits, and none is set
abbrev pub filling_found : List Bool → ℕ → Option Found
filling_found bits bit =
    if nat_lt (length bits) 8
    then if number_of bits == 0 then None else Some (record { fault = Padding; place = Filling; bit = bit; value = number_of bits })
    else Some (record { fault = Length; place = Behind; bit = bit; value = length bits })

-- the field whose bits come next
abbrev pub item_at : Bool → FieldWalk → Row → FieldName → List Bool → ℕ → Item
item_at late walk row name bits bit =
    record { walk = walk; row = row; name = name; value = number_of (take (width_of name) bits); bit = bit; is_late = late }

-- ---- behind a fault

-- on from a field, if it is known which ones come behind it
abbrev pub if_known : Item → (FieldWalk → List Item) → List Item
if_known item later = if is_known item.walk item.row item.name item.value then later (past item.walk item.row item.name item.value) else []

-- the next field, if it is there, and those behind it
abbrev pub field_beyond : Option (Row × FieldName) → FieldWalk → List Bool → ℕ → (FieldWalk → List Bool → ℕ → List Item) → List Item
field_beyond None walk bits bit later = []
field_beyond (Some (row, name)) walk bits bit later =
    if nat_lt (length bits) (width_of name) then []
    else item_at true walk row name bits bit ∷ if_known (item_at true walk row name bits bit) (λ next. later next (drop (width_of name) bits) (bit + width_of name))

-- at most this many fields behind a fault, from this one on, which begins at this bit
unfoldable pub beyond : ℕ → FieldWalk → List Bool → ℕ → List Item
beyond zero walk bits bit = []
beyond (suc most) walk bits bit = field_beyond (field_of walk) walk bits bit (beyond most)

-- ---- from the first field on

-- what is found at a field
abbrev pub found_at : Item → Fault → Found
found_at item fault = record { fault = fault; place = Field item.name; bit = item.bit; value = item.value }

-- on from a field, or from its fault
abbrev pub with_next : Item → Result FieldWalk Fault → (FieldWalk → List Item) → (FieldWalk → Reading) → Reading
with_next item (Ok next) late later = with_item (Some item) (later next)
with_next item (Err fault) late later = with_item (Some item) (read_as (if_known item late) (Some (found_at item fault)))

-- the next field, if there is one, and those behind it
abbrev pub field_read : Option (Row × FieldName) → FieldWalk → List Bool → ℕ → (FieldWalk → List Bool → ℕ → List Item) → (FieldWalk → List Bool → ℕ → Reading) → Reading
field_read None walk bits bit late later = stopped (filling_found bits bit)
field_read (Some (row, name)) walk bits bit late later =
    if nat_lt (length bits) (width_of name)
    then stopped (Some (record { fault = Short; place = Missing name; bit = bit; value = length bits }))
    else with_next (item_at false walk row name bits bit)
    (behind walk row name (number_of (take (width_of name) bits)))
    (λ next. late next (drop (width_of name) bits) (bit + width_of name))
    (λ next. later next (drop (width_of name) bits) (bit + width_of name))

-- at most this many fields from this one on, which begins at this bit
unfoldable pub reading : ℕ → FieldWalk → List Bool → ℕ → Reading
reading zero walk bits bit = stopped None
reading (suc most) walk bits bit = field_read (field_of walk) walk bits bit (beyond most) (reading most)

-- all fields of some bytes: each has at least one bit
unfoldable pub reading_of : FieldWalk → List ℕ → Reading
reading_of walk bytes = reading (suc (length (byte_bits bytes))) walk (byte_bits bytes) 0

-- a message, and a packet alone
abbrev pub message_reading : List ℕ → Reading
message_reading bytes = reading_of (at_row Header false (length bytes)) bytes

abbrev pub packet_reading : List ℕ → Reading
packet_reading bytes = reading_of (at_row (first_row bytes) true (length bytes)) bytes

-- ---- a reading that is under way

-- what is still to be read
abbrev pub reading_from : ℕ → Bool → FieldWalk → List Bool → ℕ → Option Found → Reading
reading_from most true walk bits bit found = stopped found
reading_from most false walk bits bit found = if is_some found then read_as (beyond most walk bits bit) found else reading most walk bits bit

abbrev pub left_to_read : ℕ → Fields → Reading
left_to_read most fields = reading_from most fields.is_over fields.walk fields.bits fields.bit fields.found

-- the bits that are left are counted, and there are not too many
pub record IsCounted (fields : Fields) : Type 0 where
  pub left : fields.left ≡ length fields.bits
  pub few : fields.bit + fields.left ≤ 2 ^ 20
