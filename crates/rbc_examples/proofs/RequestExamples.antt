-- Lines of a session, and the requests that they are read as.
use Rattle.std.proofs.Common.{◌≡◌, [], ◌∷◌, ◌++◌, refl, replicate, codes, Ok, Err, true, false}
use Rattle.rbc_model.specs.declared.refusals.LineFault.TheVariants.{Overlong, NotText, Command, Words, Number, Name}
use Rattle.rbc_model.specs.SessionText.{Blank, Report, Lock, Free, Leave, GiveBack, Ask, parse_session}

-- ---- lines that are read

pub reads_report : parse_session (codes "report 1 5/17 nominal 300 5 6 200 1000")
    ≡ Ok (Report (record {
      train = 1;
      group = record { country = 5; number = 17 };
      nominal = true;
      distance = 300;
      over = 5;
      under = 6;
      length = 200;
      time = 1000;
    }))
reads_report = refl

-- each number may be as great as its range has it
pub reads_greatest : parse_session (codes "report 9999999 1023/16382 reverse 100000 10000 10000 4095 4294967294")
    ≡ Ok (Report (record {
      train = 9999999;
      group = record { country = 1023; number = 16382 };
      nominal = false;
      distance = 100000;
      over = 10000;
      under = 10000;
      length = 4095;
      time = 4294967294;
    }))
reads_greatest = refl

-- and each but the train and the length may be 0
pub reads_least : parse_session (codes "report 1 0/0 nominal 0 0 0 1 0")
    ≡ Ok (Report (record {
      train = 1;
      group = record { country = 0; number = 0 };
      nominal = true;
      distance = 0;
      over = 0;
      under = 0;
      length = 1;
      time = 0;
    }))
reads_least = refl

pub reads_lock : parse_session (codes "lock R1") ≡ Ok (Lock (codes "R1"))
reads_lock = refl

-- a name may begin with any of its bytes, and have 16 of them
pub reads_longest_name : parse_session (codes "free _9z_ABCDEFGHIJKL") ≡ Ok (Free (codes "_9z_ABCDEFGHIJKL"))
reads_longest_name = refl

-- ten digits, and the number that they write
pub reads_leading_zeros : parse_session (codes "leave 0000000017") ≡ Ok (Leave 17)
reads_leading_zeros = refl

-- metres given back: the train, and where the authority ends that it keeps
pub reads_yield : parse_session (codes "yield 1 600") ≡ Ok (GiveBack 1 600)
reads_yield = refl

pub reads_least_kept : parse_session (codes "yield 9999999 0") ≡ Ok (GiveBack 9999999 0)
reads_least_kept = refl

pub reads_most_kept : parse_session (codes "yield 1 100000") ≡ Ok (GiveBack 1 100000)
reads_most_kept = refl

pub reads_spaces : parse_session (codes "  ask   7  " ++ 13 ∷ []) ≡ Ok (Ask 7)
reads_spaces = refl

pub reads_nothing : parse_session (codes "   ") ≡ Ok Blank
reads_nothing = refl

pub reads_comment : parse_session (codes " #lock R1 " ++ 9 ∷ 255 ∷ []) ≡ Ok Blank
reads_comment = refl

-- ---- lines that are refused

pub refuses_overlong : parse_session (replicate 4097 97) ≡ Err Overlong
refuses_overlong = refl

pub refuses_tab : parse_session (codes "ask" ++ 9 ∷ codes "1") ≡ Err NotText
refuses_tab = refl

-- commands are written in small letters; commands of `rbc steps` are none
pub refuses_capital : parse_session (codes "Ask 1") ≡ Err Command
refuses_capital = refl

pub refuses_steps : parse_session (codes "speed 2 0:160 end 300") ≡ Err Command
refuses_steps = refl

pub refuses_no_word : parse_session (codes "ask") ≡ Err Words
refuses_no_word = refl

pub refuses_second_word : parse_session (codes "lock R1 R2") ≡ Err Words
refuses_second_word = refl

-- a wrong count is told before a wrong word
pub refuses_count_first : parse_session (codes "report 0 5/17 nominal 300 5 5 200") ≡ Err Words
refuses_count_first = refl

pub refuses_ninth_word : parse_session (codes "report 0 5/17 nominal 300 5 5 200 1000 1") ≡ Err Words
refuses_ninth_word = refl

pub refuses_train : parse_session (codes "ask 0") ≡ Err (Number 2)
refuses_train = refl

pub refuses_eleven_digits : parse_session (codes "ask 00000000001") ≡ Err (Number 2)
refuses_eleven_digits = refl

pub refuses_no_length : parse_session (codes "report 1 5/17 nominal 300 5 5 0 1000") ≡ Err (Number 8)
refuses_no_length = refl

pub refuses_last_time : parse_session (codes "report 1 5/17 nominal 300 5 5 200 4294967295") ≡ Err (Number 9)
refuses_last_time = refl

-- a group out of form or range is a name out of form, and so is another direction
pub refuses_group : parse_session (codes "report 1 5/16383 nominal 300 5 5 200 1000") ≡ Err (Name 3)
refuses_group = refl

pub refuses_no_slash : parse_session (codes "report 1 5 nominal 300 5 5 200 1000") ≡ Err (Name 3)
refuses_no_slash = refl

pub refuses_two_slashes : parse_session (codes "report 1 5/17/1 nominal 300 5 5 200 1000") ≡ Err (Name 3)
refuses_two_slashes = refl

pub refuses_direction : parse_session (codes "report 1 5/17 Nominal 300 5 5 200 1000") ≡ Err (Name 4)
refuses_direction = refl

-- of two wrong words the first is told
pub refuses_group_first : parse_session (codes "report 1 1024/17 up 300 5 5 200 1000") ≡ Err (Name 3)
refuses_group_first = refl

pub refuses_number_first : parse_session (codes "report 1 5/17 nominal 100001 10001 5 0 1000") ≡ Err (Number 5)
refuses_number_first = refl

pub refuses_long_name : parse_session (codes "lock _9z_ABCDEFGHIJKLM") ≡ Err (Name 2)
refuses_long_name = refl

-- a leg is no section
pub refuses_leg : parse_session (codes "free S1+") ≡ Err (Name 2)
refuses_leg = refl

-- metres given back want a train and a distance, and nothing else
pub refuses_no_distance : parse_session (codes "yield 1") ≡ Err Words
refuses_no_distance = refl

pub refuses_two_distances : parse_session (codes "yield 0 600 700") ≡ Err Words
refuses_two_distances = refl

pub refuses_no_train : parse_session (codes "yield x 5") ≡ Err (Number 2)
refuses_no_train = refl

pub refuses_train_first : parse_session (codes "yield 0 100001") ≡ Err (Number 2)
refuses_train_first = refl

pub refuses_far_end : parse_session (codes "yield 1 100001") ≡ Err (Number 3)
refuses_far_end = refl

-- no end lies before the group
pub refuses_end_behind : parse_session (codes "yield 1 -5") ≡ Err (Number 3)
refuses_end_behind = refl
