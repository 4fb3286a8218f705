-- How a text is kept as a name, and that it is text.
use Rattle.std.proofs.Common.{All, ◌≡◌, ℕ, ◌≤◌, ◌<◌, ◌&&◌, nat_le, true, IsTrue, List, [], ◌∷◌, ◌++◌, length, drop, replicate, ap, sym, ◌∙◌, subst, arith}
use Rattle.std.specs.List.{list_all}
use Rattle.std.specs.Str.{IsUtf8}
use Rattle.std.proofs.lemmas.Str.{IsUtf8-from_ascii}
use Rattle.std.proofs.lemmas.Str.Ascii.{IsAscii-from_all}
use Rattle.std.proofs.lemmas.List.Elements.{All-nil, All-cons}
use Rattle.std.proofs.Math.Seq.{take-append_seam}
use Rattle.std.proofs.lemmas.List.{drop-replicate}
use Rattle.std.proofs.lemmas.Bool.{leb-true}
use Rattle.std.proofs.lemmas.Bool.Decides.{nat_tests}
use Rattle.rbc_model.specs.declared.limits.TheConstants.{LONGEST_NAME}
use Rattle.rbc_model.specs.Names.{is_name_byte, is_name}
use Rattle.rbc_model.proofs.CountingLemmas.{both_of}
use Rattle.rbc_track.specs.Kept.{filled, IsKept}

-- no name is longer than `LONGEST_NAME` bytes
pub name_short : (text : List ℕ) → is_name text ≡ true → length text ≤ LONGEST_NAME
name_short text h =
    let lengths = (both_of (nat_le 1 (length text) && nat_le (length text) LONGEST_NAME) (list_all is_name_byte text) h).0 in
    leb-true (length text) LONGEST_NAME (both_of (nat_le 1 (length text)) (nat_le (length text) LONGEST_NAME) lengths).1

-- a name with zeros behind it is kept
pub kept : (text : List ℕ) → is_name text ≡ true → IsKept (text ++ drop (length text) (replicate LONGEST_NAME 0)) (length text)
kept text h =
    let front = take-append_seam text (drop (length text) (replicate LONGEST_NAME 0)) in
    record {
      name = subst (λ t. IsTrue (is_name t)) (sym front) h;
      short = name_short text h;
      zeros = ap filled front ∙ ap (λ zeros. text ++ zeros) (sym (drop-replicate (length text) LONGEST_NAME 0));
      counted = ap length front;
    }

name_byte_small : (byte : ℕ) → is_name_byte byte ≡ true → byte < 128
name_byte_small byte h = grind (arith, nat_tests)

all_small : (text : List ℕ) → list_all is_name_byte text ≡ true → All (λ byte. byte < 128) text
all_small [] h = All-nil (λ byte. byte < 128)
all_small (byte ∷ text) h =
    let both = both_of (is_name_byte byte) (list_all is_name_byte text) h in
    All-cons (λ b. b < 128) byte text (name_byte_small byte both.0) (all_small text both.1)

-- its bytes are text
pub name_utf8 : (text : List ℕ) → is_name text ≡ true → IsUtf8 text
name_utf8 text h =
    let bytes = (both_of (nat_le 1 (length text) && nat_le (length text) LONGEST_NAME) (list_all is_name_byte text) h).1 in
    IsUtf8-from_ascii text (IsAscii-from_all text (all_small text bytes))
