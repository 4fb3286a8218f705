-- A seal has the form of one, and stands in one line.
use Rattle.std.proofs.Common.{◌≡◌, ◌≢◌, ℕ, zero, suc, ◌*◌, ◌<◌, ◌/◌, ◌%◌, ◌==◌, Bool, true, false, ◌&&◌, List, [], ◌∷◌, ◌++◌, length, take, slice_index, refl, sym, ap, arith, length-append}
use Rattle.std.specs.Prelude.{is_ok, not}
use Rattle.std.specs.Int.{w32, byte_at, to_be_bytes}
use Rattle.std.proofs.lemmas.Bool.{and_parts, false_from_ne_true}
use Rattle.std.proofs.lemmas.Bool.Decides.{nat_tests}
use Rattle.std.proofs.lemmas.List.{length-take-le}
use Rattle.std.proofs.lemmas.List.Elements.{All-nil, All-cons}
use Rattle.hex.specs.Hex.{IsBytes, decode_sized, encode_lower, encode_with, lower_digits}
use Rattle.hex.proofs.HexLemmas.{decode_sized-encode_lower, IsOk-decode_sized, length-encode_with}
use Rattle.sha2.specs.Sha256.{sha256, digest_bytes, final_hash, initial_hash_256}
use Rattle.rbc_journal.specs.Gates.{IsLine}
use Rattle.rbc_journal.specs.Seals.{has_seal_form, seal_line, seal_of_bytes}

-- ---- a digest is 32 bytes

byte_small : (i n : ℕ) → byte_at i n < 256
byte_small zero n = omega arith
byte_small (suc i) n = omega arith

word_bytes : (n : ℕ) → IsBytes (to_be_bytes w32 n)
word_bytes n zero = byte_small 3 n
word_bytes n (suc zero) = byte_small 2 n
word_bytes n (suc (suc zero)) = byte_small 1 n
word_bytes n (suc (suc (suc zero))) = byte_small 0 n
word_bytes n (suc (suc (suc (suc i)))) = omega arith

bytes_append : (a b : List ℕ) → IsBytes a → IsBytes b → IsBytes (a ++ b)
bytes_append [] b are more i = more i
bytes_append (x ∷ a) b are more zero = are zero
bytes_append (x ∷ a) b are more (suc i) = bytes_append a b (λ k. are (suc k)) more i

bytes_front : (n : ℕ) (a : List ℕ) → IsBytes a → IsBytes (take n a)
bytes_front zero a are i = omega arith
bytes_front (suc n) [] are i = omega arith
bytes_front (suc n) (x ∷ a) are zero = are zero
bytes_front (suc n) (x ∷ a) are (suc i) = bytes_front n a (λ k. are (suc k)) i

digest_are : (h : List ℕ) (n : ℕ) → IsBytes (digest_bytes h n)
unfolding digest_bytes
digest_are h zero i = omega arith
digest_are h (suc n) i = bytes_append (digest_bytes h n) (to_be_bytes w32 (slice_index h n)) (digest_are h n) (word_bytes (slice_index h n)) i

digest_size : (h : List ℕ) (n : ℕ) → length (digest_bytes h n) ≡ 4 * n
unfolding digest_bytes
digest_size h zero = refl
digest_size h (suc n) = omega (arith, length-append (digest_bytes h n) (to_be_bytes w32 (slice_index h n)), digest_size h n)

sha_are : (m : List ℕ) → IsBytes (sha256 m)
unfolding sha256
sha_are m = digest_are (final_hash initial_hash_256 m) 8

sha_size : (m : List ℕ) → length (sha256 m) ≡ 32
unfolding sha256
sha_size m = digest_size (final_hash initial_hash_256 m) 8

-- ---- a seal has the form of one

front_size : (m : List ℕ) → length (take 8 (sha256 m)) ≡ 8
front_size m = length-take-le 8 (sha256 m) (omega (arith, sha_size m))

pub seal_form : (before bytes : List ℕ) → has_seal_form (seal_line (seal_of_bytes before bytes)) ≡ true
unfolding seal_of_bytes
seal_form before bytes = ap is_ok (decode_sized-encode_lower (take 8 (sha256 (before ++ bytes))) 8 (front_size (before ++ bytes)) (bytes_front 8 (sha256 (before ++ bytes)) (sha_are (before ++ bytes))))

pub other_form : (digits : List ℕ) → (length digits ≡ 16 → ⊥) → has_seal_form (35 ∷ 32 ∷ digits) ≡ false
other_form digits other = false_from_ne_true (is_ok (decode_sized digits 8)) (λ ok. other ((IsOk-decode_sized digits 8).0 ok).0)

-- ---- hex digits are no line feed

abbrev no_feed : ℕ → Bool
no_feed byte = not (byte == 10)

abbrev no_feeds : List ℕ → Bool
no_feeds [] = true
no_feeds (byte ∷ bytes) = no_feed byte && no_feeds bytes

differs : (byte : ℕ) → no_feed byte ≡ true → byte ≢ 10
differs byte is = grind (arith, nat_tests)

at_no_feed : (bytes : List ℕ) → no_feeds bytes ≡ true → (i : ℕ) → slice_index bytes i ≢ 10
at_no_feed [] are i = omega arith
at_no_feed (byte ∷ bytes) are zero = differs byte (and_parts (no_feed byte) (no_feeds bytes) are).0
at_no_feed (byte ∷ bytes) are (suc i) = at_no_feed bytes (and_parts (no_feed byte) (no_feeds bytes) are).1 i

abbrev NotFeed : ℕ → Type 0
NotFeed byte = byte ≢ 10

pub line_by_test : (bytes : List ℕ) → no_feeds bytes ≡ true → IsLine bytes
line_by_test [] are = All-nil NotFeed
line_by_test (byte ∷ bytes) are =
    let both = and_parts (no_feed byte) (no_feeds bytes) are in
    All-cons NotFeed byte bytes (differs byte both.0) (line_by_test bytes both.1)

encoded_line : (xs : List ℕ) → IsLine (encode_with lower_digits xs)
unfolding encode_with
encoded_line [] = All-nil NotFeed
encoded_line (x ∷ xs) =
    All-cons NotFeed (slice_index lower_digits (x / 16)) (slice_index lower_digits (x % 16) ∷ encode_with lower_digits xs) (at_no_feed lower_digits refl (x / 16))
    (All-cons NotFeed (slice_index lower_digits (x % 16)) (encode_with lower_digits xs) (at_no_feed lower_digits refl (x % 16)) (encoded_line xs))

pub digits_line : (xs : List ℕ) → IsLine (encode_lower xs)
digits_line xs = encoded_line xs

pub seal_line_is : (before bytes : List ℕ) → IsLine (seal_line (seal_of_bytes before bytes))
unfolding seal_of_bytes
seal_line_is before bytes =
    All-cons NotFeed 35 (32 ∷ seal_of_bytes before bytes) (omega arith)
    (All-cons NotFeed 32 (seal_of_bytes before bytes) (omega arith) (digits_line (take 8 (sha256 (before ++ bytes)))))

-- ---- how long a seal is, and that it begins with no space

pub seal_size : (before bytes : List ℕ) → length (seal_of_bytes before bytes) ≡ 16
unfolding seal_of_bytes
seal_size before bytes = omega (arith, length-encode_with lower_digits (take 8 (sha256 (before ++ bytes))), front_size (before ++ bytes))

abbrev no_space : ℕ → Bool
no_space byte = not (byte == 32)

abbrev no_spaces : List ℕ → Bool
no_spaces [] = true
no_spaces (byte ∷ bytes) = no_space byte && no_spaces bytes

not_space : (byte : ℕ) → no_space byte ≡ true → byte ≢ 32
not_space byte is = grind (arith, nat_tests)

at_no_space : (bytes : List ℕ) → no_spaces bytes ≡ true → (i : ℕ) → slice_index bytes i ≢ 32
at_no_space [] are i = omega arith
at_no_space (byte ∷ bytes) are zero = not_space byte (and_parts (no_space byte) (no_spaces bytes) are).0
at_no_space (byte ∷ bytes) are (suc i) = at_no_space bytes (and_parts (no_space byte) (no_spaces bytes) are).1 i

encoded_first : (xs rest others : List ℕ) → length xs ≡ 8 → 32 ∷ others ≡ encode_with lower_digits xs ++ rest → ⊥
unfolding encode_with
encoded_first [] rest others size e = absurd (omega arith)
encoded_first (x ∷ xs) rest others size e = at_no_space lower_digits refl (x / 16) (sym (ap (λ (l : List ℕ). slice_index l 0) e))

pub seal_first : (before bytes rest others : List ℕ) → 32 ∷ others ≡ seal_of_bytes before bytes ++ rest → ⊥
unfolding seal_of_bytes
seal_first before bytes rest others e = encoded_first (take 8 (sha256 (before ++ bytes))) rest others (front_size (before ++ bytes)) e
