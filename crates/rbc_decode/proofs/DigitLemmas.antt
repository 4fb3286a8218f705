-- Pairs of digits of base 16 are decoded.
use Rattle.std.proofs.Common.{◌≡◌, ℕ, ◌/◌, ◌%◌, Bool, true, false, not, ◌&&◌, ◌||◌, ◌==◌, List, [], ◌∷◌, length, Ok, refl, sym, ap, ◌∙◌, arith, nat_le, if◌then◌else◌, Some, None, is_some}
use Rattle.std.specs.Char.{is_ascii_hexdigit}
use Rattle.std.specs.List.{list_all}
use Rattle.std.proofs.lemmas.Bool.{eqb-true, and_parts}
use Rattle.std.proofs.lemmas.List.Sums.{AllPass-from_list_all}
use Rattle.hex.specs.Hex.{decode_sized, is_hex_digit}
use Rattle.hex.proofs.HexLemmas.{decode_of-digits, decode_sized-twice}
use Rattle.rbc_decode.specs.Spelling.{is_hex, bytes_in, bytes_decoded}

-- one of three ranges
three : (a b c : Bool) (x y z : ℕ) → ((c || a) || b) ≡ is_some (if a then Some x else if b then Some y else if c then Some z else None)
three true b true x y z = refl
three true b false x y z = refl
three false true true x y z = refl
three false true false x y z = refl
three false false true x y z = refl
three false false false x y z = refl

same_digit : (c : ℕ) → is_ascii_hexdigit c ≡ is_hex_digit c
same_digit c = three (nat_le 65 c && nat_le c 70) (nat_le 97 c && nat_le c 102) (nat_le 48 c && nat_le c 57) _ _ _

same_digits : (word : List ℕ) → list_all is_ascii_hexdigit word ≡ list_all is_hex_digit word
same_digits [] = refl
same_digits (c ∷ word) = rw (same_digit c, same_digits word) refl

pub record Decoded (digits : List ℕ) : Type 0 where
  pub sized : decode_sized digits (length digits / 2) ≡ Ok (bytes_in digits)

pub hex_decoded : (digits : List ℕ) → is_hex digits ≡ true → Decoded digits
hex_decoded digits hex =
    let both = and_parts (not (length digits == 0)) ((length digits % 2 == 0) && list_all is_ascii_hexdigit digits) hex in
    let parts = and_parts (length digits % 2 == 0) (list_all is_ascii_hexdigit digits) both.1 in
    let even : length digits % 2 ≡ 0 = eqb-true (length digits % 2) 0 parts.0 in
    let pass = AllPass-from_list_all is_hex_digit digits (sym (same_digits digits) ∙ parts.1) in
    let found = decode_of-digits digits even pass in
    record {
      sized = decode_sized-twice digits (length digits / 2) (omega arith) ∙ found.1 ∙ sym (ap (λ r. Ok (bytes_decoded r)) found.1);
    }
