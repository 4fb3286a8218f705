-- Worked sessions: the lines of an input, and how far a session goes over them.
use Rattle.std.proofs.Common.{◌≡◌, ℕ, suc, ◌≤◌, List, [], ◌∷◌, ◌++◌, length, refl, lit<, lit≤, replicate, codes, arith}
use Rattle.std.proofs.Common.{Some, Ok, Err}
use Rattle.std.proofs.lemmas.List.Elements.{All-nil, All-cons}
use Rattle.rbc_model.specs.declared.limits.TheConstants.{LONGEST_LINE}
use Rattle.rbc_model.specs.declared.sessions.SessionFault.TheVariants.{Read, Write, Lines, Overlong}
use Rattle.rbc_model.specs.Sessions.{lines_of}
use Rattle.rbc_model.specs.Talks.{EachByItself, Answered, AreShort, Ends, IsTalk}

none_long : AreShort LONGEST_LINE []
none_long = All-nil (λ line. length line ≤ LONGEST_LINE)

one_short : (line : List ℕ) → length line ≤ LONGEST_LINE → AreShort LONGEST_LINE (line ∷ [])
one_short line short = All-cons (λ l. length l ≤ LONGEST_LINE) line [] short none_long

two_short : AreShort LONGEST_LINE (codes "a" ∷ codes "bc" ∷ [])
two_short = All-cons (λ l. length l ≤ LONGEST_LINE) (codes "a") (codes "bc" ∷ []) (lit≤ tt) (one_short (codes "bc") (lit≤ tt))

abbrev pub feed : List ℕ
feed = 10 ∷ []

pub lines_of_nothing : lines_of [] ≡ []
lines_of_nothing = refl

pub lines_of_a_feed : lines_of feed ≡ [] ∷ []
lines_of_a_feed = refl

-- the last line needs no line feed, and one that is there begins no further line
pub lines_without_last_feed : lines_of (codes "a" ++ feed ++ codes "bc") ≡ codes "a" ∷ codes "bc" ∷ []
lines_without_last_feed = refl

pub lines_with_last_feed : lines_of (codes "a" ++ feed ++ codes "bc" ++ feed) ≡ codes "a" ∷ codes "bc" ∷ []
lines_with_last_feed = refl

pub lines_with_empty_ones : lines_of (feed ++ codes "a" ++ feed ++ feed) ≡ [] ∷ codes "a" ∷ [] ∷ []
lines_with_empty_ones = refl

-- a carriage return is part of its line
pub lines_with_return : lines_of (codes "a" ++ 13 ∷ feed) ≡ (codes "a" ++ 13 ∷ []) ∷ []
lines_with_return = refl

-- ---- each line is answered by itself, as an echo

abbrev pub Echoes : Unit {0} → List ℕ → List ℕ → Unit {0} → Type 0
Echoes = EachByItself (λ line reply. reply ≡ line)

abbrev pub two_lines : List ℕ
two_lines = codes "a" ++ feed ++ codes "bc"

echoes_two : Answered Echoes tt (codes "a" ∷ codes "bc" ∷ []) (codes "abc") tt
echoes_two = (codes "a", codes "bc", tt, refl, refl, (codes "bc", [], tt, refl, refl, (refl, refl)))

pub goes_to_the_end : IsTalk LONGEST_LINE Echoes tt tt two_lines (Some (codes "x")) (Some (codes "xabc")) (Ok tt)
goes_to_the_end = record {
  treated = codes "a" ∷ codes "bc" ∷ [];
  rest = [];
  text = codes "abc";
  lines = refl;
  few = lit≤ tt;
  answered = echoes_two;
  ends = (refl, two_short, refl);
}

-- a writer that fails has a part of the text, and the line that it failed in is treated
pub keeps_a_part : IsTalk LONGEST_LINE Echoes tt tt two_lines (Some []) (Some (codes "ab")) (Err Write)
keeps_a_part = record {
  treated = codes "a" ∷ codes "bc" ∷ [];
  rest = [];
  text = codes "abc";
  lines = refl;
  few = lit≤ tt;
  answered = echoes_two;
  ends = ((codes "ab", codes "c", refl, refl), (codes "a" ∷ [], codes "bc", refl, one_short (codes "a") (lit≤ tt)));
}

-- a reader that fails in the last line: the line that had ended is treated, and what came of the next is not
pub stops_at_a_read_fault : IsTalk LONGEST_LINE Echoes tt tt two_lines (Some []) (Some (codes "a")) (Err Read)
stops_at_a_read_fault = record {
  treated = codes "a" ∷ [];
  rest = codes "bc" ∷ [];
  text = codes "a";
  lines = refl;
  few = lit≤ tt;
  answered = (codes "a", [], tt, refl, refl, (refl, refl));
  ends = (refl, one_short (codes "a") (lit≤ tt), refl);
}

-- no line that had ended is left over there
pub treats_all_before_a_read_fault : Ends LONGEST_LINE (two_lines ++ feed) (Some []) (Some (codes "a")) (codes "a" ∷ []) (codes "bc" ∷ [])
    (codes "a") (Err Read) → ⊥
treats_all_before_a_read_fault (wrote, short, all) = omega (arith, all)

-- the line that is too long is answered, and no line after it
pub stops_at_an_overlong_line : IsTalk LONGEST_LINE Echoes tt tt (codes "a" ++ feed ++ replicate 4097 98 ++ feed ++ codes "c")
    (Some []) (Some (codes "a" ++ replicate 4097 98)) (Err Overlong)
stops_at_an_overlong_line = record {
  treated = codes "a" ∷ replicate 4097 98 ∷ [];
  rest = codes "c" ∷ [];
  text = codes "a" ++ replicate 4097 98;
  lines = refl;
  few = lit≤ tt;
  answered = (codes "a", replicate 4097 98, tt, refl, refl, (replicate 4097 98, [], tt, refl, refl, (refl, refl)));
  ends = (refl, (codes "a" ∷ [], replicate 4097 98, refl, one_short (codes "a") (lit≤ tt), lit< tt));
}

-- no line is treated after a million
pub stops_after_a_million : (treated : List (List ℕ)) (text : List ℕ) → length treated ≡ 1000000 → AreShort LONGEST_LINE treated
    → (input : List ℕ) → Ends LONGEST_LINE input (Some []) (Some text) treated (codes "b" ∷ []) text (Err Lines)
stops_after_a_million treated text million short input = (refl, short, million, lit< tt)

-- ---- each line is answered by how many came before it

abbrev pub Counts : ℕ → List ℕ → List ℕ → ℕ → Type 0
Counts before line reply after = (reply ≡ before ∷ []) × (after ≡ suc before)

pub goes_from_state_to_state : IsTalk LONGEST_LINE Counts 7 9 two_lines (Some []) (Some (7 ∷ 8 ∷ [])) (Ok tt)
goes_from_state_to_state = record {
  treated = codes "a" ∷ codes "bc" ∷ [];
  rest = [];
  text = 7 ∷ 8 ∷ [];
  lines = refl;
  few = lit≤ tt;
  answered = (7 ∷ [], 8 ∷ [], 8, (refl, refl), refl, (8 ∷ [], [], 9, (refl, refl), refl, (refl, refl)));
  ends = (refl, two_short, refl);
}
