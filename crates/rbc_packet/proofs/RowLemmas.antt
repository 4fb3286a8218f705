-- Fields written one after another.
use Rattle.std.proofs.Common.{◌≡◌, ℕ, Bool, List, ◌++◌, ap, sym, ◌∙◌, append_assoc}
use Rattle.std.proofs.lemmas.List.{map-append}
use Rattle.std.proofs.lemmas.Grind.{flat_map-append}
use Rattle.rbc_model.specs.Bits.{bits_of, field_bits, bytes_of, padded_bits}
use Rattle.rbc_model.specs.declared.messages.FieldName.{FieldName}
use Rattle.rbc_model.specs.Messages.{width_of, sized_fields, bytes_of_fields}
use Rattle.rbc_packet.specs.Fields.{bits_of_fields}

pub bits_of_fields-append : (xs ys : List (FieldName × ℕ)) → bits_of_fields (xs ++ ys) ≡ bits_of_fields xs ++ bits_of_fields ys
unfolding bits_of_fields
bits_of_fields-append xs ys =
    ap field_bits (map-append (λ (field : FieldName × ℕ). (width_of field.0, field.1)) xs ys) ∙ flat_map-append (λ (field : ℕ × ℕ). bits_of field.0 field.1) (sized_fields xs) (sized_fields ys)

-- what is written behind the first fields stands behind both
pub written_on : (bits mid : List Bool) (first later : List (FieldName × ℕ)) → mid ≡ bits ++ bits_of_fields first
    → mid ++ bits_of_fields later ≡ bits ++ bits_of_fields (first ++ later)
written_on bits mid first later written =
    ap (λ xs. xs ++ bits_of_fields later) written
    ∙ append_assoc bits (bits_of_fields first) (bits_of_fields later)
    ∙ ap (λ xs. bits ++ xs) (sym (bits_of_fields-append first later))

-- of the fields that are still to come, the first ones are written
pub first_written : (bits new all : List Bool) (first later : List (FieldName × ℕ)) → bits ++ bits_of_fields (first ++ later) ≡ all
    → new ≡ bits ++ bits_of_fields first → new ++ bits_of_fields later ≡ all
first_written bits new all first later total written = written_on bits new first later written ∙ total

-- behind the fields so far, more of them are written
pub more_written : (bits new : List Bool) (before later : List (FieldName × ℕ)) → bits ≡ bits_of_fields before → new ≡ bits ++ bits_of_fields later → new ≡ bits_of_fields (before ++ later)
more_written bits new before later so_far written = written ∙ ap (λ xs. xs ++ bits_of_fields later) so_far ∙ sym (bits_of_fields-append before later)

-- the bytes of all fields
pub bytes_written : (bits : List Bool) (fields : List (FieldName × ℕ)) → bits ≡ bits_of_fields fields → bytes_of (padded_bits bits) ≡ bytes_of_fields fields
unfolding bits_of_fields
bytes_written bits fields written = ap (λ xs. bytes_of (padded_bits xs)) written
