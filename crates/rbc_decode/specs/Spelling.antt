-- The bytes that digits of base 16 spell, or what is wrong with these.
use Rattle.std.specs.Prelude.{ℕ, suc, ◌+◌, ◌%◌, ◌&&◌, ◌++◌, Bool, not, List, [], ◌∷◌, length, drop, slice_index, Result, Ok, Err, nat_lt, ◌==◌, if◌then◌else◌}
use Rattle.std.specs.Char.{is_ascii_hexdigit, to_ascii_lowercase}
use Rattle.std.specs.List.{list_all, position_or_len}
use Rattle.hex.specs.declared.error.FromHexError.{FromHexError}
use Rattle.hex.specs.Hex.{decode_of}
use Rattle.rbc_model.specs.declared.limits.TheConstants.{LONGEST_LINE}
use Rattle.rbc_decode.specs.declared.spelling.Wrong.{Wrong}
use Rattle.rbc_decode.specs.declared.spelling.Wrong.TheVariants.{Digits, Overlong}

-- pairs of digits of base 16
abbrev pub is_hex : List ℕ → Bool
is_hex word = not (length word == 0) && ((length word % 2 == 0) && list_all is_ascii_hexdigit word)

-- the word begins with `0x`, in either case (48 is the 0, 120 the x)
abbrev pub has_prefix : List ℕ → Bool
has_prefix word = (slice_index word 0 == 48) && (to_ascii_lowercase (slice_index word 1) == 120)

abbrev pub without_prefix : List ℕ → List ℕ
without_prefix word = if has_prefix word then drop 2 word else word

abbrev pub bytes_decoded : Result (List ℕ) FromHexError → List ℕ
bytes_decoded (Ok bytes) = bytes
bytes_decoded (Err fault) = []

-- the bytes that pairs of digits spell
abbrev pub bytes_in : List ℕ → List ℕ
bytes_in digits = bytes_decoded (decode_of digits)

-- where the digits of a word are at fault: the first that is none, counted from 1, or behind all
abbrev pub place_in : List ℕ → ℕ
place_in digits = suc (position_or_len (λ byte. not (is_ascii_hexdigit byte)) digits)

-- bytes in front of those that are spelled behind them
abbrev pub in_front : List ℕ → Result (List ℕ) Wrong → Result (List ℕ) Wrong
in_front bytes (Ok later) = Ok (bytes ++ later)
in_front bytes (Err wrong) = Err wrong

-- the digits of a word, behind so many others
abbrev pub behind_word : ℕ → List ℕ → Result (List ℕ) Wrong → Result (List ℕ) Wrong
behind_word before digits later =
    if nat_lt LONGEST_LINE (before + length digits) then Err Overlong
    else if is_hex digits then in_front (bytes_in digits) later
    else Err (Digits (before + place_in digits))

-- What words of digits spell, each in pairs, behind so many others: `0x` may stand in front of each. The first fault is told.
abbrev pub spelled : ℕ → List (List ℕ) → Result (List ℕ) Wrong
spelled before [] = if before == 0 then Err (Digits 1) else Ok []
spelled before (word ∷ words) = behind_word before (without_prefix word) (spelled (before + length (without_prefix word)) words)
