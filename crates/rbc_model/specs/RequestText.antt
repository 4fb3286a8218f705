-- Lines of requests: the faults that come before the words' faults, and words that are read as numbers.
use Rattle.std.specs.Prelude.{ℕ, not, List, length, Option, Some, None, Result, Ok, Err, nat_lt, if◌then◌else◌}
use Rattle.std.specs.Option.{option_map_or}
use Rattle.rbc_model.specs.declared.limits.TheConstants.{LONGEST_LINE}
use Rattle.rbc_model.specs.declared.refusals.LineFault.{LineFault}
use Rattle.rbc_model.specs.declared.refusals.LineFault.TheVariants.{Overlong, NotText, Number}
use Rattle.rbc_model.specs.Results.{is_from_to, allowed_value, ◌>>=◌}
use Rattle.rbc_model.specs.Words.{without_return, words_of, is_blank, is_text, number_in}

-- the words of a line, without its line feed; none of a blank line and of a comment, which may hold any bytes
abbrev pub request_words : List ℕ → Result (Option (List (List ℕ))) LineFault
request_words line =
    let words = words_of (without_return line) in
    if nat_lt LONGEST_LINE (length line) then Err Overlong
    else if is_blank words then Ok None
    else if not (is_text (without_return line)) then Err NotText
    else Ok (Some words)

-- what a line says: that it is blank, or what its words are read as
abbrev pub parse_line : {A : Type 0} → A → (List (List ℕ) → Result A LineFault) → List ℕ → Result A LineFault
parse_line blank read line = request_words line >>= (λ found. option_map_or read found (Ok blank))

-- what was read, as a line
abbrev pub line_in : {A B E : Type 0} → (A → B) → Result A E → Result B E
line_in f r = r >>= (λ x. Ok (f x))

-- word i as a number from one to another, both allowed
abbrev pub number_at : ℕ → ℕ → ℕ → List ℕ → Result ℕ LineFault
number_at i low high word = allowed_value (is_from_to low high) (Number i) (number_in word)
