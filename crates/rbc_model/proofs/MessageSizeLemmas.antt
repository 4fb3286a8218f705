-- How many bits a message 3 has.
use Rattle.std.proofs.Common.{◌≡◌, ℕ, suc, ◌+◌, ◌*◌, Bool, List, [], ◌∷◌, ◌++◌, length, ℤ, pos, negsuc, refl, arith, ◌∙◌}
use Rattle.rbc_model.specs.declared.places.Format.{Format}
use Rattle.rbc_model.specs.declared.messages.FieldName.{FieldName}
use Rattle.rbc_model.specs.declared.messages.FieldName.TheVariants.{NID_MESSAGE, L_MESSAGE, T_TRAIN, M_ACK, NID_C, NID_BG, N_ITER}
use Rattle.rbc_model.specs.Levels.{speed_levels, grade_levels}
use Rattle.rbc_model.specs.Profiles.{IsProfile}
use Rattle.rbc_model.specs.Scales.{unit_of}
use Rattle.rbc_model.specs.Bits.{byte_bits}
use Rattle.rbc_model.specs.Messages.{Authority, IsAuthority, packet_15, gradient_fields, gradient_elements, gradient_length, packet_21, speed_elements, speed_length, packet_27}
use Rattle.rbc_model.proofs.FieldRowLemmas.{spelled, row_size, length-spelled}

row_size-append : (xs ys : List (FieldName × ℕ)) → row_size (xs ++ ys) ≡ row_size xs + row_size ys
row_size-append [] ys = omega arith
row_size-append (x ∷ xs) ys = let more = row_size-append xs ys in omega arith

row_size-gradient_fields : (v : ℤ) → row_size (gradient_fields v) ≡ 9
row_size-gradient_fields (pos n) = refl
row_size-gradient_fields (negsuc n) = refl

row_size-gradient_elements : (unit end from : ℕ) (later : List (ℕ × ℤ)) → row_size (gradient_elements unit end from later) ≡ 24 + 24 * length later
row_size-gradient_elements unit end from [] = refl
row_size-gradient_elements unit end from (step ∷ later) =
    let one = row_size-gradient_fields step.1 in
    let more = row_size-gradient_elements unit end step.0 later in
    let all = row_size-append (gradient_fields step.1) (gradient_elements unit end step.0 later) in
    omega arith

row_size-packet_21 : {unit limit n : ℕ} (nominal : Bool) (end : ℕ) (grades : List (ℕ × ℤ)) → IsProfile grade_levels unit limit n grades → row_size (packet_21 nominal end grades) ≡ gradient_length (length grades)
row_size-packet_21 nominal end [] profile = absurd cc
row_size-packet_21 nominal end (first ∷ later) profile =
    let one = row_size-gradient_fields first.1 in
    let more = row_size-gradient_elements (unit_of end) end 0 later in
    let all = row_size-append (gradient_fields first.1) ((N_ITER, suc (length later)) ∷ gradient_elements (unit_of end) end 0 later) in
    omega arith

row_size-speed_elements : (unit end from : ℕ) (later : List (ℕ × ℕ)) → row_size (speed_elements unit end from later) ≡ 28 + 28 * length later
row_size-speed_elements unit end from [] = refl
row_size-speed_elements unit end from (step ∷ later) = let more = row_size-speed_elements unit end step.0 later in omega arith

row_size-packet_27 : {unit limit n : ℕ} (nominal : Bool) (end : ℕ) (speeds : List (ℕ × ℕ)) → IsProfile speed_levels unit limit n speeds → row_size (packet_27 nominal end speeds) ≡ speed_length (length speeds)
row_size-packet_27 nominal end [] profile = absurd cc
row_size-packet_27 nominal end (first ∷ later) profile = let more = row_size-speed_elements (unit_of end) end 0 later in omega arith

-- the message's fields where it says that it has this many bytes
abbrev pub said_3 : ℕ → Authority → List (FieldName × ℕ)
said_3 bytes a =
    (NID_MESSAGE, 3)
    ∷ (L_MESSAGE, bytes)
    ∷ (T_TRAIN, a.time)
    ∷ (M_ACK, 0)
    ∷ (NID_C, a.group.country)
    ∷ (NID_BG, a.group.number)
    ∷ packet_15 a.nominal a.end
    ++ packet_21 a.nominal a.end a.grades
    ++ packet_27 a.nominal a.end a.speeds

-- how many bits they have
abbrev pub message_size : Authority → ℕ
message_size a = 75 + 66 + gradient_length (length a.grades) + speed_length (length a.speeds)

pub length-said_3 : {format : Format} (bytes : ℕ) (a : Authority) → IsAuthority format a → length (spelled (said_3 bytes a)) ≡ message_size a
length-said_3 bytes a is =
    let grades = row_size-packet_21 a.nominal a.end a.grades is.grades in
    let speeds = row_size-packet_27 a.nominal a.end a.speeds is.speeds in
    let both = row_size-append (packet_21 a.nominal a.end a.grades) (packet_27 a.nominal a.end a.speeds) in
    length-spelled (said_3 bytes a) ∙ omega arith

pub length-byte_bits : (bytes : List ℕ) → length (byte_bits bytes) ≡ 8 * length bytes
length-byte_bits [] = refl
length-byte_bits (byte ∷ bytes) = let more = length-byte_bits bytes in omega arith
