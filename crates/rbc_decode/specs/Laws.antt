-- The walk over the bytes of a message and its reading come to the same.
use Rattle.std.specs.Prelude.{◌≡◌, ℕ, List, map, Option, Some, None, option_map, Result, Ok, Err}
use Rattle.rbc_model.specs.declared.messages.Fault.{Fault}
use Rattle.rbc_model.specs.declared.messages.FieldName.{FieldName}
use Rattle.rbc_model.specs.declared.places.Format.TheVariants.{Far}
use Rattle.rbc_model.specs.Bits.{IsBytes}
use Rattle.rbc_model.specs.Messages.{Authority, message_3}
use Rattle.rbc_model.specs.Reading.{read_message}
use Rattle.rbc_decode.specs.declared.fields.Found.{Found}
use Rattle.rbc_decode.specs.declared.fields.Item.{Item}
use Rattle.rbc_decode.specs.Readings.{Reading, message_reading}
use Rattle.rbc_decode.specs.Said.{all_said, said_of}

-- the fault that is found, if one is
abbrev pub fault_found : Reading → Option Fault
fault_found reading = option_map (λ (found : Found). found.fault) reading.found

-- the fault that is answered, if one is
abbrev pub fault_in : {A : Type 0} → Result A Fault → Option Fault
fault_in (Ok x) = None
fault_in (Err fault) = Some fault

-- If a message is read, no fault is found in its fields, and else the fault that reading answers.
abbrev pub FaultsAgree : Type 0
FaultsAgree = (bytes : List ℕ) → fault_found (message_reading bytes) ≡ fault_in (read_message Far bytes)

-- the fields that are read, with their values
abbrev pub fields_read : Reading → List (FieldName × ℕ)
fields_read reading = map (λ (item : Item). (item.name, item.value)) reading.items

-- The fields of a message that is read are those that its authority's message has.
abbrev pub FieldsAreThose : Type 0
FieldsAreThose = (bytes : List ℕ) (a : Authority) → IsBytes bytes → read_message Far bytes ≡ Ok a → fields_read (message_reading bytes) ≡ message_3 a

-- What the fields of a message that is read say is what its authority says.
abbrev pub WordsAreThose : Type 0
WordsAreThose = (bytes : List ℕ) (a : Authority) → IsBytes bytes → read_message Far bytes ≡ Ok a → all_said (message_reading bytes).items ≡ said_of a
