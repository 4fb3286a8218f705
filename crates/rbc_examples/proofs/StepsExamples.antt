-- Worked lines of `rbc steps`, and their replies.
use Rattle.std.proofs.Common.{◌≡◌, ℕ, ℤ, zero, suc, ◌+◌, ◌<◌, ◌≤◌, arith, List, [], ◌∷◌, ◌++◌, refl, lit≤, lit<, replicate, codes, pos, negsuc, Option, Ok, Err, inl, inr}
use Rattle.std.proofs.Math.Nat.{not-suc-le-zero}
use Rattle.std.specs.Fmt.{digits}
use Rattle.rbc_model.specs.declared.places.Format.TheVariants.{Near, Far}
use Rattle.rbc_model.specs.declared.refusals.LineFault.TheVariants.{Overlong, NotText, Command, Words, Number, Name}
use Rattle.rbc_model.specs.declared.refusals.StepsRefusal.TheVariants.{BadLine, Memory}
use Rattle.rbc_model.specs.Levels.{grade_levels}
use Rattle.rbc_model.specs.Profiles.{value_at, IsTrackFunction, IsChosenProfile}
use Rattle.rbc_model.specs.PriceTables.{table_at, step_cost, IsGreatestSoundTable}
use Rattle.rbc_model.specs.Kinds.{speed_kind, grade_kind}
use Rattle.rbc_model.specs.StepsText.{StepsRequest, Blank, Speed, Grade, parse_steps, track_in}
use Rattle.rbc_model.specs.StepsReply.{profile_reply, refusal_reply, AnswersLine}
use Rattle.rbc_model.proofs.LevelLemmas.{grade_lawful}
use Rattle.rbc_model.proofs.TableLemmas.{greatest_by_tests}
use Rattle.rbc_table_laws.specs.Tracebacks.{IsReadOff}
use Rattle.rbc_table_laws.proofs.TableLawLemmas.{read_off_are_chosen}

-- ---- lines that are read

abbrev pub request_1 : StepsRequest ℕ
request_1 = record { limit = 2; runs = (0, 160) ∷ (100, 120) ∷ (150, 160) ∷ []; end = 300 }

pub reads_1 : parse_steps Far (codes "speed 2 0:160 100:120 150:160 end 300") ≡ Ok (Speed request_1)
reads_1 = refl

pub reads_spaces : parse_steps Far (codes "  speed  2 0:160 100:120   150:160 end 300 " ++ 13 ∷ [])
    ≡ Ok (Speed request_1)
reads_spaces = refl

pub reads_grade : parse_steps Far (codes "grade 1 0:10 100:-3 end 200")
    ≡ Ok (Grade (record { limit = 1; runs = (0, pos 10) ∷ (100, negsuc 2) ∷ []; end = 200 }))
reads_grade = refl

-- runs of one value in a row are read as they stand, and are one run of the track
abbrev pub request_joined : StepsRequest ℤ
request_joined = record { limit = 1; runs = (0, pos 10) ∷ (50, pos 10) ∷ (100, negsuc 2) ∷ []; end = 200 }

pub reads_joined : parse_steps Far (codes "grade 1 0:10 50:10 100:-3 end 200") ≡ Ok (Grade request_joined)
reads_joined = refl

pub track_joined : track_in grade_levels request_joined
    ≡ Ok (record request_joined { runs = (0, pos 10) ∷ (100, negsuc 2) ∷ [] })
track_joined = refl

pub reads_minus_zero : parse_steps Far (codes "grade 1 0:-0 end 200")
    ≡ Ok (Grade (record { limit = 1; runs = (0, pos 0) ∷ []; end = 200 }))
reads_minus_zero = refl

pub reads_leading_zeros : parse_steps Far (codes "speed 02 00:0160 end 0000000300")
    ≡ Ok (Speed (record { limit = 2; runs = (0, 160) ∷ []; end = 300 }))
reads_leading_zeros = refl

pub reads_nothing : parse_steps Far [] ≡ Ok Blank
reads_nothing = refl

pub reads_spaces_alone : parse_steps Far (codes "   ") ≡ Ok Blank
reads_spaces_alone = refl

pub reads_comment : parse_steps Far (codes " # any " ++ 0 ∷ 255 ∷ []) ≡ Ok Blank
reads_comment = refl

-- ---- lines that are refused

pub refuses_overlong : parse_steps Far (replicate 4097 97) ≡ Err Overlong
refuses_overlong = refl

pub refuses_letters : parse_steps Far (replicate 4096 97) ≡ Err Command
refuses_letters = refl

pub refuses_other_byte : parse_steps Far (0x80 ∷ []) ≡ Err NotText
refuses_other_byte = refl

pub refuses_command : parse_steps Far (codes "go 1") ≡ Err Command
refuses_command = refl

pub refuses_words : parse_steps Far (codes "speed 2") ≡ Err Words
refuses_words = refl

pub refuses_four_words : parse_steps Far (codes "speed 2 end 300") ≡ Err Words
refuses_four_words = refl

pub refuses_limit : parse_steps Far (codes "speed 0 0:160 end 300") ≡ Err (Number 2)
refuses_limit = refl

pub refuses_level : parse_steps Far (codes "speed 2 0:4 end 300") ≡ Err (Number 3)
refuses_level = refl

pub refuses_eleven_digits : parse_steps Far (codes "speed 2 00000000000:160 end 300") ≡ Err (Number 3)
refuses_eleven_digits = refl

pub refuses_minus : parse_steps Far (codes "speed 2 0:160 -1:160 end 300") ≡ Err (Number 4)
refuses_minus = refl

pub refuses_other_word : parse_steps Far (codes "speed 2 0:160 fin 300") ≡ Err (Name 4)
refuses_other_word = refl

pub refuses_end : parse_steps Far (codes "speed 2 0:160 end 0") ≡ Err (Number 5)
refuses_end = refl

-- a tab is no space, also before a comment; a second carriage return is no text
pub refuses_tab : parse_steps Far (9 ∷ codes "# x") ≡ Err NotText
refuses_tab = refl

pub refuses_second_return : parse_steps Far (codes "speed 2 0:160 end 300" ++ 13 ∷ 13 ∷ []) ≡ Err NotText
refuses_second_return = refl

-- the carriage return counts among the bytes of a line
pub refuses_return_too_many : parse_steps Far (replicate 4096 97 ++ 13 ∷ []) ≡ Err Overlong
refuses_return_too_many = refl

-- a bad pair is told before a missing `end`, and both before the runs that make no track
pub refuses_pair_first : parse_steps Far (codes "speed 2 5:1 fin 300") ≡ Err (Number 3)
refuses_pair_first = refl

pub refuses_end_first : parse_steps Far (codes "speed 2 5:160 end 0") ≡ Err (Number 5)
refuses_end_first = refl

pub refuses_plus : parse_steps Far (codes "grade 1 0:+3 end 300") ≡ Err (Number 3)
refuses_plus = refl

pub refuses_two_minuses : parse_steps Far (codes "grade 1 0:--3 end 300") ≡ Err (Number 3)
refuses_two_minuses = refl

pub refuses_steep : parse_steps Far (codes "grade 1 0:-255 end 300") ≡ Err (Number 3)
refuses_steep = refl

pub refuses_two_colons : parse_steps Far (codes "speed 1 0:5:5 end 300") ≡ Err (Number 3)
refuses_two_colons = refl

pub refuses_no_colon : parse_steps Far (codes "speed 1 5 end 300") ≡ Err (Number 3)
refuses_no_colon = refl

pub refuses_far_start : parse_steps Far (codes "speed 1 0:5 100001:5 end 300") ≡ Err (Number 4)
refuses_far_start = refl

-- ends above 32,000 m: none in the near format, tens of metres in the far one
pub refuses_long_end : parse_steps Near (codes "speed 2 0:160 end 32010") ≡ Err (Number 5)
refuses_long_end = refl

pub reads_long_end : parse_steps Far (codes "speed 2 0:160 end 32010")
    ≡ Ok (Speed (record { limit = 2; runs = (0, 160) ∷ []; end = 32010 }))
reads_long_end = refl

pub refuses_uneven_end : parse_steps Far (codes "speed 2 0:160 10003:120 end 32009") ≡ Err (Number 6)
refuses_uneven_end = refl

-- ---- replies

abbrev pub feed : List ℕ
feed = 10 ∷ []

pub reply_1 : profile_reply speed_kind request_1 ((0, 120) ∷ (150, 160) ∷ []) ((0 ∷ 4000 ∷ 10000 ∷ []) ∷ (0 ∷ 0 ∷ 4000 ∷ []) ∷ [])
    ≡ codes "speed 2 0:160 100:120 150:160 end 300" ++ feed
    ++ codes "steps 0:120 150:160 loss 4000" ++ feed
    ++ codes "prices 1 0 4000 10000" ++ feed
    ++ codes "prices 2 0 0 4000" ++ feed
    ++ codes "packet 1b40e480003000804b200004b7f000" ++ feed
    ++ codes "done" ++ feed
unfolding digits
reply_1 = refl

pub reply_uphill : profile_reply grade_kind (record { limit = 1; runs = (0, pos 10) ∷ (100, negsuc 2) ∷ []; end = 200 }) ((0, negsuc 2) ∷ [])
    ((0 ∷ 1300 ∷ []) ∷ [])
    ≡ codes "grade 1 0:10 100:-3 end 200" ++ feed
    ++ codes "steps 0:-3 loss 1300" ++ feed
    ++ codes "prices 1 0 1300" ++ feed
    ++ codes "packet 15409c800001840643fc" ++ feed
    ++ codes "done" ++ feed
unfolding digits
reply_uphill = refl

pub reply_refusal : refusal_reply (BadLine (Number 5)) ≡ codes "refused Number 5" ++ feed
unfolding digits
reply_refusal = refl

pub reply_memory : refusal_reply Memory ≡ codes "refused Memory" ++ feed
unfolding digits
reply_memory = refl

-- ---- lines with their replies

pub answers_comment : AnswersLine Far (codes "# any") []
answers_comment = refl

pub answers_number : AnswersLine Far (codes "speed 2 0:160 end 0") (codes "refused Number 5" ++ feed)
unfolding digits
answers_number = refl

-- a track whose first run does not start at 0, or whose starts do not rise, is told before one with a run at its end
pub answers_not_from_zero : AnswersLine Far (codes "speed 2 5:160 end 300") (codes "refused NotRising" ++ feed)
answers_not_from_zero = inl refl

pub answers_equal_starts : AnswersLine Far (codes "speed 2 0:160 0:120 end 300") (codes "refused NotRising" ++ feed)
answers_equal_starts = inl refl

pub answers_not_rising_first : AnswersLine Far (codes "speed 2 5:160 300:120 end 300") (codes "refused NotRising" ++ feed)
answers_not_rising_first = inl refl

pub answers_out_of_range : AnswersLine Far (codes "speed 2 0:160 300:120 end 300") (codes "refused OutOfRange" ++ feed)
answers_out_of_range = inl refl

-- with room for more steps than the track has runs, its own runs, joined, are the chosen profile
abbrev pub line_track : ℕ → Option ℤ
line_track = value_at ((0, pos 10) ∷ (100, negsuc 2) ∷ [])

abbrev line_runs : List (ℕ × ℤ)
line_runs = (0, pos 10) ∷ (100, negsuc 2) ∷ []

abbrev line_prices : List (List ℕ)
line_prices = (0 ∷ 1300 ∷ []) ∷ (0 ∷ 0 ∷ []) ∷ []

line_function : IsTrackFunction grade_levels 200 line_runs
line_function = record { starts = record { rising = refl; inside = refl }; values = refl; once = refl }

line_table : IsGreatestSoundTable grade_levels 1 3 200 line_runs line_prices
line_table = greatest_by_tests grade_levels 1 3 200 line_runs line_prices refl refl refl refl refl

-- the steps are read off the table of prices
read_of_line : IsReadOff grade_levels 1 3 200 line_runs line_prices line_runs
read_of_line = record {
  inside = lit≤ tt;
  price = refl;
  first_row = λ j some h e. dearer j some h e;
  back = (
    1,
    record { earlier = lit< tt; adds_up = refl; first = λ k h e. later k h e; start = refl; value = refl },
    (0, record { earlier = lit< tt; adds_up = refl; first = λ k h e. not-suc-le-zero h; start = refl; value = refl }, refl),
  );
}
  where
    dearer : (j : ℕ) → 1 ≤ j → j < 2 → table_at line_prices j 2 ≡ 0 → ⊥
    dearer zero some h e = omega arith
    dearer (suc zero) some h e = absurd (cc)
    dearer (suc (suc j)) some h e = omega arith

    later : (k : ℕ) → k < 1 → table_at line_prices 1 k + step_cost grade_levels 1 3 200 line_runs k 2 ≡ 0 → ⊥
    later zero h e = absurd (cc)
    later (suc k) h e = omega arith

pub chosen_of_line : IsChosenProfile grade_levels 1 3 200 line_track ((0, pos 10) ∷ (100, negsuc 2) ∷ [])
chosen_of_line = read_off_are_chosen grade_levels grade_lawful 1 3 200 (lit< tt) refl line_runs line_function line_prices line_table line_runs read_of_line

pub answers_joined : AnswersLine Far (codes "grade 3 0:10 50:10 100:-3 end 200")
    (codes "grade 3 0:10 100:-3 end 200" ++ feed
    ++ codes "steps 0:10 100:-3 loss 0" ++ feed
    ++ codes "prices 1 0 1300" ++ feed
    ++ codes "prices 2 0 0" ++ feed
    ++ codes "packet 1540cc8000850803200c0323fc" ++ feed
    ++ codes "done" ++ feed)
unfolding digits
answers_joined = inl ((0, pos 10) ∷ (100, negsuc 2) ∷ [], line_prices, chosen_of_line, line_table, refl)

-- where memory was refused, this is told of a request, but of no other line
pub answers_without_memory : AnswersLine Far (codes "speed 2 0:160 end 300") (codes "refused Memory" ++ feed)
answers_without_memory = inr refl
