-- Bits taken off the front of those that are left.
use Rattle.std.proofs.Common.{◌≡◌, ℕ, ◌+◌, ◌*◌, ◌/◌, ◌%◌, ◌^◌, ◌<◌, ◌≤◌, Bool, List, [], ◌∷◌, ◌++◌, length, take, drop, Option, Some, None, nat_lt, if◌then◌else◌, refl, arith, sym, ap, ◌∙◌, append-nil, append_assoc, length-append}
use Rattle.std.proofs.Math.Seq.{take-append_seam, drop-append_seam}
use Rattle.std.proofs.lemmas.Bool.{le-ltb, lt-ltb}
use Rattle.std.proofs.lemmas.Nat.{shr_split, shr_below}
use Rattle.rbc_model.specs.Bits.{bits_of, byte_bits, number_of}
use Rattle.rbc_model.proofs.BitLemmas.{length-bits_of, number_of-bits_of}
use Rattle.rbc_bits.proofs.CutLemmas.{bits_of-low, bits_of-cut, bits_of-joined}

-- a byte more is begun
pub begun_byte : (filled pending byte : ℕ) (bytes : List ℕ) → byte < 2 ^ 8 → bits_of (filled + 8) (pending * 2 ^ 8 + byte) ++ byte_bits bytes ≡ bits_of filled pending ++ byte_bits (byte ∷ bytes)
begun_byte filled pending byte bytes fits =
    ap (λ bits. bits ++ byte_bits bytes) (bits_of-joined filled 8 pending byte fits)
    ∙ append_assoc (bits_of filled pending) (bits_of 8 byte) (byte_bits bytes)

-- the front of the begun bits, and what stays of them
cut_bits : (width left pending : ℕ) (later old : List Bool) → bits_of (width + left) pending ++ later ≡ old → bits_of width (pending / 2 ^ left) ++ (bits_of left pending ++ later) ≡ old
cut_bits width left pending later old parts =
    sym (append_assoc (bits_of width (pending / 2 ^ left)) (bits_of left pending) later)
    ∙ ap (λ bits. bits ++ later) (sym (bits_of-cut width left pending))
    ∙ parts

pub taken_bits : (width left pending : ℕ) (later old : List Bool) → bits_of (width + left) pending ++ later ≡ old → take width old ≡ bits_of width (pending / 2 ^ left)
taken_bits width left pending later old parts =
    let front = bits_of width (pending / 2 ^ left) in
    ap (take width) (sym (cut_bits width left pending later old parts))
    ∙ ap (λ n. take n (front ++ (bits_of left pending ++ later))) (sym (length-bits_of width (pending / 2 ^ left)))
    ∙ take-append_seam front (bits_of left pending ++ later)

pub taken_value : (width left pending : ℕ) (later old : List Bool) → pending < 2 ^ (width + left) → bits_of (width + left) pending ++ later ≡ old → pending / 2 ^ left ≡ number_of (take width old)
taken_value width left pending later old below parts =
    sym (number_of-bits_of width (pending / 2 ^ left) (shr_below pending width left below))
    ∙ ap number_of (sym (taken_bits width left pending later old parts))

pub left_bits : (width left pending : ℕ) (later old : List Bool) → bits_of (width + left) pending ++ later ≡ old → bits_of left (pending % 2 ^ left) ++ later ≡ drop width old
left_bits width left pending later old parts =
    let front = bits_of width (pending / 2 ^ left) in
    let kept : bits_of left (pending % 2 ^ left) ≡ bits_of left pending = sym (bits_of-low left left (pending / 2 ^ left) (pending % 2 ^ left) (omega arith)) ∙ ap (bits_of left) (shr_split pending left) in
    ap (λ bits. bits ++ later) kept
    ∙ sym (drop-append_seam front (bits_of left pending ++ later))
    ∙ ap (λ n. drop n (front ++ (bits_of left pending ++ later))) (length-bits_of width (pending / 2 ^ left))
    ∙ ap (drop width) (cut_bits width left pending later old parts)

pub length_left : (filled pending : ℕ) (later old : List Bool) → bits_of filled pending ++ later ≡ old → length old ≡ filled + length later
length_left filled pending later old parts = omega (arith, ap length parts, length-append (bits_of filled pending) later, length-bits_of filled pending)

-- the number of the bits left, where they are fewer than eight
abbrev pub last_number : List Bool → Option ℕ
last_number bits = if nat_lt (length bits) 8 then Some (number_of bits) else None

-- no byte is left, and fewer than eight bits before it
pub few_left : (filled pending : ℕ) (bytes : List ℕ) → filled < 8 → pending < 2 ^ filled → length bytes ≡ 0 → Some pending ≡ last_number (bits_of filled pending ++ byte_bits bytes)
few_left filled pending [] few below none =
    rw (append-nil (bits_of filled pending), length-bits_of filled pending, lt-ltb filled 8 few, number_of-bits_of filled pending below) refl
few_left filled pending (byte ∷ bytes) few below none = absurd (omega arith)

pub many_left : (bits : List Bool) → 8 ≤ length bits → None ≡ last_number bits
many_left bits many = rw (le-ltb (length bits) 8 many) refl
