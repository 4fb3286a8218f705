-- Worked readings: a message gives its authority back, and each fault is the first one.
use Rattle.std.proofs.Common.{◌≡◌, ℕ, ◌-◌, ◌/◌, ◌%◌, ◌^◌, Bool, true, false, List, [], ◌∷◌, ◌++◌, refl, take, drop, get_or, set, pos, negsuc, Result, Ok, Err, bit_xor, bytes_eq}
use Rattle.rbc_model.specs.declared.places.Format.TheVariants.{Near, Far}
use Rattle.rbc_model.specs.Messages.{Authority, message_3, message_bytes, bytes_of_fields}
use Rattle.rbc_model.specs.declared.messages.FieldName.{FieldName}
use Rattle.rbc_model.specs.declared.messages.FieldName.TheVariants.{L_MESSAGE, T_TRAIN, M_ACK, NID_BG, NID_PACKET, Q_DIR, L_PACKET, Q_SCALE, V_LOA, T_LOA, N_ITER, L_ENDSECTION, Q_OVERLAP, D_GRADIENT, Q_GDIR, G_A, D_STATIC, V_STATIC, Q_FRONT}
use Rattle.rbc_model.specs.Reading.{read_message}
use Rattle.rbc_model.specs.declared.messages.Fault.{Fault}
use Rattle.rbc_model.specs.declared.messages.Fault.TheVariants.{Short, Number, Length, Field, Padding, Extra}
use Rattle.rbc_model.proofs.CountingLemmas.{all_below}
use Rattle.rbc_examples.proofs.PacketExamples.{authority_1, authority_2}

abbrev pub bytes_1 : List ℕ
bytes_1 = message_bytes authority_1

pub read_1 : read_message Near bytes_1 ≡ Ok authority_1
read_1 = refl

pub read_2 : read_message Near (message_bytes authority_2) ≡ Ok authority_2
read_2 = refl

pub read_cut : read_message Near (take 38 bytes_1) ≡ Err Short
read_cut = refl

pub read_longer : read_message Near (bytes_1 ++ 0 ∷ []) ≡ Err Extra
read_longer = refl

pub read_padding : read_message Near (take 38 bytes_1 ++ 1 ∷ []) ≡ Err Padding
read_padding = refl

pub read_other_number : read_message Near (2 ∷ drop 1 bytes_1) ≡ Err Number
read_other_number = refl

pub read_nothing : read_message Near [] ≡ Err Short
read_nothing = refl

-- in tens of metres, which the near format has not
abbrev pub authority_tens : Authority
authority_tens = record { time = 7; group = record { country = 1023; number = 16382 }; nominal = false; end = 40000; speeds = (0, 160) ∷ (10000, 120) ∷ []; grades = (0, pos 0) ∷ (39990, negsuc 253) ∷ [] }

pub read_tens : read_message Far (message_bytes authority_tens) ≡ Ok authority_tens
read_tens = refl

pub read_tens_near : read_message Near (message_bytes authority_tens) ≡ Err (Field Q_SCALE)
read_tens_near = refl

-- the message with bit k, from 0 on, turned over
abbrev pub with_bit_turned : ℕ → List ℕ → List ℕ
with_bit_turned k bytes = set bytes (k / 8) (bit_xor (get_or bytes (k / 8) 0) (2 ^ (7 - k % 8)))

pub read_bit_50 : read_message Near (with_bit_turned 50 bytes_1) ≡ Err (Field M_ACK)
read_bit_50 = refl

-- what is read is written as just those bytes
abbrev pub is_own_spelling : List ℕ → Result Authority Fault → Bool
is_own_spelling bytes (Ok a) = bytes_eq (message_bytes a) bytes
is_own_spelling bytes (Err fault) = true

-- each change of one bit is refused, or reads as an authority with just that spelling
pub one_bit : all_below 312 (λ k. is_own_spelling (with_bit_turned k bytes_1) (read_message Near (with_bit_turned k bytes_1))) ≡ true
one_bit = refl

-- each front of the message is too short
abbrev pub is_short : Result Authority Fault → Bool
is_short (Err Short) = true
is_short _ = false

pub fronts : all_below 39 (λ n. is_short (read_message Near (take n bytes_1))) ≡ true
fronts = refl

-- ---- one field changed: what is told, and where

-- the bytes of the first message with field k, from 0 on, in its place
abbrev pub with_field : ℕ → FieldName → ℕ → List ℕ
with_field k name value = bytes_of_fields (set (message_3 authority_1) k (name, value))

pub read_M_ACK_3_1 : read_message Near (with_field 3 M_ACK 1) ≡ Err (Field M_ACK)
read_M_ACK_3_1 = refl

pub read_NID_BG_5_16383 : read_message Near (with_field 5 NID_BG 16383) ≡ Err (Field NID_BG)
read_NID_BG_5_16383 = refl

pub read_NID_PACKET_6_21 : read_message Near (with_field 6 NID_PACKET 21) ≡ Err Number
read_NID_PACKET_6_21 = refl

pub read_Q_DIR_7_2 : read_message Near (with_field 7 Q_DIR 2) ≡ Err (Field Q_DIR)
read_Q_DIR_7_2 = refl

pub read_L_PACKET_8_67 : read_message Near (with_field 8 L_PACKET 67) ≡ Err Length
read_L_PACKET_8_67 = refl

pub read_Q_SCALE_9_0 : read_message Near (with_field 9 Q_SCALE 0) ≡ Err (Field Q_SCALE)
read_Q_SCALE_9_0 = refl

pub read_V_LOA_10_1 : read_message Near (with_field 10 V_LOA 1) ≡ Err (Field V_LOA)
read_V_LOA_10_1 = refl

pub read_T_LOA_11_1022 : read_message Near (with_field 11 T_LOA 1022) ≡ Err (Field T_LOA)
read_T_LOA_11_1022 = refl

pub read_N_ITER_12_1 : read_message Near (with_field 12 N_ITER 1) ≡ Err (Field N_ITER)
read_N_ITER_12_1 = refl

pub read_L_ENDSECTION_13_0 : read_message Near (with_field 13 L_ENDSECTION 0) ≡ Err (Field L_ENDSECTION)
read_L_ENDSECTION_13_0 = refl

pub read_L_ENDSECTION_13_32001 : read_message Near (with_field 13 L_ENDSECTION 32001) ≡ Err (Field L_ENDSECTION)
read_L_ENDSECTION_13_32001 = refl

pub read_Q_OVERLAP_17_1 : read_message Near (with_field 17 Q_OVERLAP 1) ≡ Err (Field Q_OVERLAP)
read_Q_OVERLAP_17_1 = refl

pub read_NID_PACKET_18_27 : read_message Near (with_field 18 NID_PACKET 27) ≡ Err Number
read_NID_PACKET_18_27 = refl

pub read_Q_DIR_19_0 : read_message Near (with_field 19 Q_DIR 0) ≡ Err (Field Q_DIR)
read_Q_DIR_19_0 = refl

pub read_L_PACKET_20_79 : read_message Near (with_field 20 L_PACKET 79) ≡ Err Length
read_L_PACKET_20_79 = refl

pub read_D_GRADIENT_22_1 : read_message Near (with_field 22 D_GRADIENT 1) ≡ Err (Field D_GRADIENT)
read_D_GRADIENT_22_1 = refl

pub read_G_A_24_0 : read_message Near (with_field 24 G_A 0) ≡ Err (Field G_A)
read_G_A_24_0 = refl

pub read_G_A_24_255 : read_message Near (with_field 24 G_A 255) ≡ Err (Field G_A)
read_G_A_24_255 = refl

pub read_N_ITER_25_0 : read_message Near (with_field 25 N_ITER 0) ≡ Err (Field N_ITER)
read_N_ITER_25_0 = refl

pub read_N_ITER_25_2 : read_message Near (with_field 25 N_ITER 2) ≡ Err Length
read_N_ITER_25_2 = refl

pub read_D_GRADIENT_26_999 : read_message Near (with_field 26 D_GRADIENT 999) ≡ Err (Field D_GRADIENT)
read_D_GRADIENT_26_999 = refl

pub read_D_GRADIENT_26_0 : read_message Near (with_field 26 D_GRADIENT 0) ≡ Err (Field D_GRADIENT)
read_D_GRADIENT_26_0 = refl

pub read_Q_GDIR_27_1 : read_message Near (with_field 27 Q_GDIR 1) ≡ Err (Field G_A)
read_Q_GDIR_27_1 = refl

pub read_G_A_28_254 : read_message Near (with_field 28 G_A 254) ≡ Err (Field G_A)
read_G_A_28_254 = refl

pub read_L_PACKET_31_85 : read_message Near (with_field 31 L_PACKET 85) ≡ Err Length
read_L_PACKET_31_85 = refl

pub read_V_STATIC_34_0 : read_message Near (with_field 34 V_STATIC 0) ≡ Err (Field V_STATIC)
read_V_STATIC_34_0 = refl

pub read_V_STATIC_34_121 : read_message Near (with_field 34 V_STATIC 121) ≡ Err (Field V_STATIC)
read_V_STATIC_34_121 = refl

pub read_V_STATIC_34_127 : read_message Near (with_field 34 V_STATIC 127) ≡ Err (Field V_STATIC)
read_V_STATIC_34_127 = refl

pub read_Q_FRONT_35_1 : read_message Near (with_field 35 Q_FRONT 1) ≡ Err (Field Q_FRONT)
read_Q_FRONT_35_1 = refl

pub read_N_ITER_36_1 : read_message Near (with_field 36 N_ITER 1) ≡ Err (Field N_ITER)
read_N_ITER_36_1 = refl

pub read_N_ITER_37_0 : read_message Near (with_field 37 N_ITER 0) ≡ Err (Field N_ITER)
read_N_ITER_37_0 = refl

pub read_D_STATIC_38_1001 : read_message Near (with_field 38 D_STATIC 1001) ≡ Err (Field D_STATIC)
read_D_STATIC_38_1001 = refl

pub read_V_STATIC_39_20 : read_message Near (with_field 39 V_STATIC 20) ≡ Err (Field V_STATIC)
read_V_STATIC_39_20 = refl

pub read_N_ITER_41_1 : read_message Near (with_field 41 N_ITER 1) ≡ Err (Field N_ITER)
read_N_ITER_41_1 = refl

-- any time is allowed
pub read_last_time : read_message Near (with_field 2 T_TRAIN 0xffff_ffff) ≡ Ok (record authority_1 { time = 0xffff_ffff })
read_last_time = refl

-- a packet's length is told where the number of steps is, so an earlier field goes before it
pub read_length_late : read_message Near (bytes_of_fields (set (set (message_3 authority_1) 20 (L_PACKET, 79)) 24 (G_A, 255))) ≡ Err (Field G_A)
read_length_late = refl

-- a byte more that the message's length counts
pub read_byte_counted : read_message Near (with_field 1 L_MESSAGE 40 ++ 0 ∷ []) ≡ Err Length
read_byte_counted = refl

-- a message that says a byte more than there is
pub read_byte_missing : read_message Near (with_field 1 L_MESSAGE 40) ≡ Err Short
read_byte_missing = refl

-- ---- both scales: up to 32,000 m the message counts in metres, and beyond in tens

pub read_metres_far : read_message Far bytes_1 ≡ Ok authority_1
read_metres_far = refl

-- the least and the greatest end in tens
abbrev ends_in_tens : ℕ → Authority
ends_in_tens end = record { time = 0; group = record { country = 0; number = 0 }; nominal = true; end = end; speeds = (0, 600) ∷ (32000, 5) ∷ []; grades = (0, pos 254) ∷ [] }

pub read_least_tens : read_message Far (message_bytes (ends_in_tens 32010)) ≡ Ok (ends_in_tens 32010)
read_least_tens = refl

pub read_most_tens : read_message Far (message_bytes (ends_in_tens 80000)) ≡ Ok (ends_in_tens 80000)
read_most_tens = refl

-- the bytes of the message in tens with field k, from 0 on, in its place
abbrev pub with_tens_field : ℕ → FieldName → ℕ → List ℕ
with_tens_field k name value = bytes_of_fields (set (message_3 authority_tens) k (name, value))

pub read_tens_Q_SCALE_9_0 : read_message Far (with_tens_field 9 Q_SCALE 0) ≡ Err (Field Q_SCALE)
read_tens_Q_SCALE_9_0 = refl

pub read_tens_Q_SCALE_9_3 : read_message Far (with_tens_field 9 Q_SCALE 3) ≡ Err (Field Q_SCALE)
read_tens_Q_SCALE_9_3 = refl

-- 1,000 is no end in tens
pub read_Q_SCALE_9_2_far : read_message Far (with_field 9 Q_SCALE 2) ≡ Err (Field L_ENDSECTION)
read_Q_SCALE_9_2_far = refl

-- 4,000 is an end in metres, but the later packets count in tens
pub read_tens_Q_SCALE_9_1 : read_message Far (with_tens_field 9 Q_SCALE 1) ≡ Err (Field Q_SCALE)
read_tens_Q_SCALE_9_1 = refl

pub read_tens_L_ENDSECTION_13_3200 : read_message Far (with_tens_field 13 L_ENDSECTION 3200) ≡ Err (Field L_ENDSECTION)
read_tens_L_ENDSECTION_13_3200 = refl

pub read_tens_L_ENDSECTION_13_8001 : read_message Far (with_tens_field 13 L_ENDSECTION 8001) ≡ Err (Field L_ENDSECTION)
read_tens_L_ENDSECTION_13_8001 = refl

-- an end that may be, to which the distances of packet 21 do not add up
pub read_tens_L_ENDSECTION_13_3201 : read_message Far (with_tens_field 13 L_ENDSECTION 3201) ≡ Err (Field D_GRADIENT)
read_tens_L_ENDSECTION_13_3201 = refl

pub read_tens_L_ENDSECTION_13_8000 : read_message Far (with_tens_field 13 L_ENDSECTION 8000) ≡ Err (Field D_GRADIENT)
read_tens_L_ENDSECTION_13_8000 = refl

-- a later packet with another scale than packet 15
pub read_tens_Q_SCALE_21_1 : read_message Far (with_tens_field 21 Q_SCALE 1) ≡ Err (Field Q_SCALE)
read_tens_Q_SCALE_21_1 = refl

pub read_tens_Q_SCALE_35_1 : read_message Far (with_tens_field 35 Q_SCALE 1) ≡ Err (Field Q_SCALE)
read_tens_Q_SCALE_35_1 = refl

pub read_Q_SCALE_21_2_far : read_message Far (with_field 21 Q_SCALE 2) ≡ Err (Field Q_SCALE)
read_Q_SCALE_21_2_far = refl
