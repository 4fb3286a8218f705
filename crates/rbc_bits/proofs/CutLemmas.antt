-- Bits cut in two, and bits taken off as a byte.
use Rattle.std.proofs.Common.{◌≡◌, ℕ, zero, suc, ◌+◌, ◌-◌, ◌*◌, ◌/◌, ◌%◌, ◌^◌, ◌<◌, ◌≤◌, Bool, false, List, [], ◌∷◌, ◌++◌, length, replicate, slice_index, lit<, refl, arith, sym, ap, ap₂, ◌∙◌, ◌==◌, zero-add, add-zero, add_comm, mul_comm, pow_pos, pow-add, append-nil, append_assoc, length-append}
use Rattle.std.specs.Prelude.{bit_or}
use Rattle.std.specs.Int.{to_be_bytes, w32}
use Rattle.std.proofs.Math.Nat.{zero-div}
use Rattle.std.proofs.lemmas.Grind.{flat_map-append}
use Rattle.std.proofs.lemmas.Nat.{shr-shr, shr_split, shr_high, shl_whole, or_shifted, mul-add-lt}
use Rattle.std.proofs.lemmas.Nat.Bits.{bit_at_cat_low}
use Rattle.rbc_model.specs.Bits.{bits_of, byte_bits, byte_count, padded_bits, bytes_of, IsBytes}
use Rattle.rbc_model.proofs.BitLemmas.{length-bits_of, bytes_of-byte_bits}
use Rattle.rbc_model.proofs.MessageSizeLemmas.{length-byte_bits}

-- what lies above the low bits of a number doesn't show in them
pub bits_of-low : (width above front value : ℕ) → width ≤ above → bits_of width (front * 2 ^ above + value) ≡ bits_of width value
bits_of-low zero above front value h = refl
bits_of-low (suc width) above front value h = ap₂ (λ d later. (d == 1) ∷ later) (bit_at_cat_low front above value width (omega arith)) (bits_of-low width above front value (omega arith))

-- the high bits, then the low ones
pub bits_of-cut : (high low number : ℕ) → bits_of (high + low) number ≡ bits_of high (number / 2 ^ low) ++ bits_of low number
bits_of-cut zero low number = ap (λ n. bits_of n number) (zero-add low)
bits_of-cut (suc high) low number =
    ap (λ n. bits_of n number) (sym (add_suc high low)) ∙ ap₂ (λ d later. (d % 2 == 1) ∷ later) (ap (λ n. number / 2 ^ n) (add_comm high low) ∙ sym (shr-shr number low high)) (bits_of-cut high low number)
  where
    add_suc : (a b : ℕ) → suc (a + b) ≡ suc a + b
    add_suc a b = omega arith

-- a value behind some bits
pub bits_of-joined : (filled width pending value : ℕ) → value < 2 ^ width → bits_of (filled + width) (pending * 2 ^ width + value) ≡ bits_of filled pending ++ bits_of width value
bits_of-joined filled width pending value fits =
    bits_of-cut filled width (pending * 2 ^ width + value)
    ∙ ap₂ (λ high low. high ++ low) (ap (bits_of filled) (shr_high pending width value fits)) (bits_of-low width width pending value (omega arith))

-- a whole byte taken off the front of the pending bits
pub whole_byte : (bytes : List ℕ) (rest pending : ℕ) → byte_bits (bytes ++ (pending / 2 ^ rest) ∷ []) ++ bits_of rest (pending % 2 ^ rest) ≡ byte_bits bytes ++ bits_of (8 + rest) pending
whole_byte bytes rest pending =
    let byte : ℕ = pending / 2 ^ rest in
    let low : bits_of rest (pending % 2 ^ rest) ≡ bits_of rest pending = sym (bits_of-low rest rest byte (pending % 2 ^ rest) (omega arith)) ∙ ap (bits_of rest) (shr_split pending rest) in
    rw (flat_map-append (bits_of 8) bytes (byte ∷ []), low) (append_assoc (byte_bits bytes) (bits_of 8 byte) (bits_of rest pending) ∙ ap (λ xs. byte_bits bytes ++ xs) (sym (bits_of-cut 8 rest pending)))

-- the low eight bits of a number
low_byte : (n : ℕ) → bits_of 8 (n % 256) ≡ bits_of 8 n
low_byte n = sym (bits_of-low 8 8 (n / 256) (n % 256) (omega arith)) ∙ ap (bits_of 8) (shr_split n 8)

-- the four bytes of a number
word_bits : (n : ℕ) → byte_bits (to_be_bytes w32 n) ≡ bits_of 32 n
word_bits n =
    ap₂ (λ a b. a ++ b) (low_byte (n / 16777216)) (ap₂ (λ a b. a ++ b) (low_byte (n / 65536)) (ap₂ (λ a b. a ++ b) (low_byte (n / 256)) (append-nil (bits_of 8 (n % 256)) ∙ low_byte n)))
    ∙ sym (bits_of-cut 8 24 n ∙ ap (λ xs. bits_of 8 (n / 16777216) ++ xs) (bits_of-cut 8 16 n ∙ ap (λ xs. bits_of 8 (n / 65536) ++ xs) (bits_of-cut 8 8 n)))

-- four whole bytes taken off the front of the pending bits
pub whole_word : (bytes : List ℕ) (rest pending : ℕ)
    → byte_bits (bytes ++ to_be_bytes w32 (pending / 2 ^ rest)) ++ bits_of rest (pending % 2 ^ rest) ≡ byte_bits bytes ++ bits_of (32 + rest) pending
whole_word bytes rest pending =
    let word : ℕ = pending / 2 ^ rest in
    let low : bits_of rest (pending % 2 ^ rest) ≡ bits_of rest pending = sym (bits_of-low rest rest word (pending % 2 ^ rest) (omega arith)) ∙ ap (bits_of rest) (shr_split pending rest) in
    rw (flat_map-append (bits_of 8) bytes (to_be_bytes w32 word), word_bits word, low)
    (append_assoc (byte_bits bytes) (bits_of 32 word) (bits_of rest pending) ∙ ap (λ xs. byte_bits bytes ++ xs) (sym (bits_of-cut 32 rest pending)))

-- ---- zeros at the end

zeros : (n : ℕ) → bits_of n 0 ≡ replicate n false
zeros zero = refl
zeros (suc n) = ap₂ (λ d later. (d % 2 == 1) ∷ later) (zero-div (2 ^ n)) (zeros n)

zeros_behind : (filled missing pending : ℕ) → bits_of filled pending ++ replicate missing false ≡ bits_of (filled + missing) (pending * 2 ^ missing)
zeros_behind filled missing pending =
    ap (λ xs. bits_of filled pending ++ xs) (sym (zeros missing)) ∙ sym (bits_of-joined filled missing pending 0 (pow_pos missing)) ∙ ap (bits_of (filled + missing)) (add-zero (pending * 2 ^ missing))

padding : (bits : List Bool) (n missing : ℕ) → length bits + missing ≡ 8 * n → missing < 8 → padded_bits bits ≡ bits ++ replicate missing false
padding bits n missing e h = let gap : 8 * byte_count (length bits) - length bits ≡ missing = omega arith in rw gap refl

-- bytes by index within the list
pub bytes_within : (bytes : List ℕ) → ((i : ℕ) → i < length bytes → slice_index bytes i < 256) → IsBytes bytes
bytes_within [] h i = lit< tt
bytes_within (byte ∷ bytes) h zero = h 0 (omega arith)
bytes_within (byte ∷ bytes) h (suc i) = bytes_within bytes (λ j inside. h (suc j) (omega arith)) i

-- whole bytes need none
pub bytes_of-whole : (bytes : List ℕ) (pending : ℕ) → IsBytes bytes → bytes_of (padded_bits (byte_bits bytes ++ bits_of 0 pending)) ≡ bytes
bytes_of-whole bytes pending valid = rw (append-nil (byte_bits bytes), padding (byte_bits bytes) (length bytes) 0 (omega (arith, length-byte_bits bytes)) (omega arith), append-nil (byte_bits bytes)) (bytes_of-byte_bits bytes valid)

-- the pending bits and their zeros are one more byte
padded_bits-filled : (bytes : List ℕ) (filled missing pending : ℕ) → filled + missing ≡ 8 → missing < 8 → padded_bits (byte_bits bytes ++ bits_of filled pending) ≡ byte_bits (bytes ++ (pending * 2 ^ missing) ∷ [])
padded_bits-filled bytes filled missing pending whole few =
    let bits : List Bool = byte_bits bytes ++ bits_of filled pending in
    let count : length bits + missing ≡ 8 * suc (length bytes) = omega (arith, length-append (byte_bits bytes) (bits_of filled pending), length-byte_bits bytes, length-bits_of filled pending) in
    padding bits (suc (length bytes)) missing count few
    ∙ append_assoc (byte_bits bytes) (bits_of filled pending) (replicate missing false)
    ∙ ap (λ xs. byte_bits bytes ++ xs) (zeros_behind filled missing pending ∙ ap (λ n. bits_of n (pending * 2 ^ missing)) whole)
    ∙ sym (flat_map-append (bits_of 8) bytes ((pending * 2 ^ missing) ∷ []))

pub bytes_of-filled : (bytes all : List ℕ) (filled missing pending : ℕ) → filled + missing ≡ 8 → missing < 8 → all ≡ bytes ++ (pending * 2 ^ missing) ∷ [] → IsBytes all → bytes_of (padded_bits (byte_bits bytes ++ bits_of filled pending)) ≡ all
bytes_of-filled bytes all filled missing pending whole few parts valid =
    ap bytes_of (padded_bits-filled bytes filled missing pending whole few ∙ ap byte_bits (sym parts)) ∙ bytes_of-byte_bits all valid

-- ---- in a number of 64 bits

-- a value put behind the pending bits
pub joined_number : (filled width pending value : ℕ) → pending < 2 ^ filled → value < 2 ^ width → filled + width ≤ 64 → bit_or (pending * 2 ^ width % 2 ^ 64) value ≡ pending * 2 ^ width + value
joined_number filled width pending value fits fits' narrow = ap (λ n. bit_or n value) (shl_whole pending filled width 64 fits narrow) ∙ or_shifted pending width value fits'

pub joined_number-below : (filled width pending value : ℕ) → pending < 2 ^ filled → value < 2 ^ width → pending * 2 ^ width + value < 2 ^ (filled + width)
joined_number-below filled width pending value fits fits' = omega (arith, mul-add-lt pending (2 ^ width) value (2 ^ filled) fits fits', pow-add 2 filled width, mul_comm (2 ^ filled) (2 ^ width))
