-- Fields as bits, and the fields of a message's header.
use Rattle.std.specs.Prelude.{ℕ, Bool, List, [], ◌∷◌}
use Rattle.rbc_model.specs.Bits.{field_bits}
use Rattle.rbc_model.specs.declared.limits.TheConstants.{MESSAGE_NUMBER}
use Rattle.rbc_model.specs.declared.messages.FieldName.{FieldName}
use Rattle.rbc_model.specs.declared.messages.FieldName.TheVariants.{NID_MESSAGE, L_MESSAGE, T_TRAIN, M_ACK, NID_C, NID_BG}
use Rattle.rbc_model.specs.Messages.{Authority, message_length, sized_fields}

-- the bits of some fields in a row
unfoldable pub bits_of_fields : List (FieldName × ℕ) → List Bool
bits_of_fields fields = field_bits (sized_fields fields)

-- what a message has before its packets: its number and length, the time of the report, no acknowledgement, and the group
abbrev pub header : Authority → List (FieldName × ℕ)
header a =
    (NID_MESSAGE, MESSAGE_NUMBER)
    ∷ (L_MESSAGE, message_length a)
    ∷ (T_TRAIN, a.time)
    ∷ (M_ACK, 0)
    ∷ (NID_C, a.group.country)
    ∷ (NID_BG, a.group.number)
    ∷ []
