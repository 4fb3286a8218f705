-- A line of a certificate that is in form is text, as all its words are.
use Rattle.std.proofs.Common.{◌≡◌, ℕ, suc, ◌+◌, ◌==◌, Bool, true, false, not, ◌&&◌, cond, if◌then◌else◌, List, [], ◌∷◌, Option, Some, None, Result, Ok, Err, refl, sym, ap, ◌∙◌, arith, length, take, drop, nat_le, ℤ}
use Rattle.std.specs.Prelude.{filter, slice_index, option_map, option_and_then, codes, bytes_eq, pos, neg_ℤ}
use Rattle.std.specs.Char.{is_ascii_digit}
use Rattle.std.specs.List.{list_all, onto_first, slice_split, position_or_len, before_first, after_first}
use Rattle.std.specs.Str.Parse.{digits_value}
use Rattle.std.proofs.lemmas.Bool.{le-leb, leb-true, eqb-true, and_from}
use Rattle.std.proofs.lemmas.Slice.Eq.{bytes_eq-Decides}
use Rattle.rbc_model.specs.declared.limits.TheConstants.{LONGEST_TRACK, MOST_STEPS}
use Rattle.rbc_model.specs.declared.places.Format.TheVariants.{Far}
use Rattle.rbc_model.specs.declared.refusals.LineFault.{LineFault}
use Rattle.rbc_model.specs.declared.refusals.LineFault.TheVariants.{Number, Name}
use Rattle.rbc_model.specs.Results.{is_from_to, allowed_value, demand, ◌>>=◌, ◌>>◌}
use Rattle.rbc_model.specs.Kinds.{Kind, speed_kind, grade_kind}
use Rattle.rbc_model.specs.Scales.{is_expressible}
use Rattle.rbc_model.specs.RequestText.{number_at}
use Rattle.rbc_model.specs.StepsText.{StepsRequest, run_in_word, runs_in, request_in}
use Rattle.rbc_model.specs.Words.{words_of, is_blank, is_text, is_numeral, number_in, integer_in}
use Rattle.rbc_model.specs.CheckText.{CheckLine, SpeedHead, GradeHead, Other, words_said, step_in_word, profile_in, numbers_in, head_line, profile_line, price_line}
use Rattle.rbc_model.proofs.CountingLemmas.{both_of}
use Rattle.rbc_checks.specs.Lines.{are_text, command_said, is_in_form}
use Rattle.rbc_checks.specs.declared.lines.Command.{Command}
use Rattle.rbc_checks.specs.declared.lines.Command.TheVariants.{Speed, Grade, Steps, Prices}

abbrev is_text_byte : ℕ → Bool
is_text_byte byte = nat_le 0x20 byte && nat_le byte 0x7e

abbrev is_space : ℕ → Bool
is_space byte = byte == 32

abbrev has_letters : List ℕ → Bool
has_letters word = not (length word == 0)

text_of_both : (word : List ℕ) (words : List (List ℕ)) → is_text word ≡ true → are_text words ≡ true → are_text (word ∷ words) ≡ true
text_of_both word words here rest = and_from (is_text word) (are_text words) here rest

-- ---- a text, by its words

kept : (word : List ℕ) (keep : Bool) (rest : List (List ℕ)) → has_letters word ≡ keep → are_text (cond keep (word ∷ rest) rest) ≡ true
    → (is_text word ≡ true) × (are_text rest ≡ true)
kept word true rest e h = both_of (is_text word) (are_text rest) h
kept [] false rest e h = (refl, h)
kept (byte ∷ word) false rest e h = absurd (grind arith)

pieces_of : (pieces : List (List ℕ)) → are_text (filter has_letters pieces) ≡ true → are_text pieces ≡ true
pieces_of [] h = refl
pieces_of (word ∷ pieces) h =
    let k = kept word (has_letters word) (filter has_letters pieces) refl h in
    text_of_both word pieces k.0 (pieces_of pieces k.1)

onto : (byte : ℕ) (pieces : List (List ℕ)) → are_text (onto_first byte pieces) ≡ true → (is_text_byte byte ≡ true) × (are_text pieces ≡ true)
onto byte [] h = ((both_of (is_text_byte byte) true (both_of (is_text (byte ∷ [])) true h).0).0, refl)
onto byte (piece ∷ pieces) h =
    let whole = both_of (is_text (byte ∷ piece)) (are_text pieces) h in
    let first = both_of (is_text_byte byte) (is_text piece) whole.0 in
    (first.0, text_of_both piece pieces first.1 whole.1)

space_is : (byte : ℕ) → is_space byte ≡ true → is_text_byte byte ≡ true
space_is byte e = ap is_text_byte (eqb-true byte 32 e)

by_byte : (byte : ℕ) (text : List ℕ) (space : Bool) → is_space byte ≡ space → (are_text (slice_split is_space text) ≡ true → is_text text ≡ true)
    → are_text (cond space ([] ∷ slice_split is_space text) (onto_first byte (slice_split is_space text))) ≡ true → is_text (byte ∷ text) ≡ true
by_byte byte text true e rest h =
    and_from (is_text_byte byte) (is_text text) (space_is byte e) (rest (both_of true (are_text (slice_split is_space text)) h).1)
by_byte byte text false e rest h =
    let o = onto byte (slice_split is_space text) h in
    and_from (is_text_byte byte) (is_text text) o.0 (rest o.1)

text_of_pieces : (text : List ℕ) → are_text (slice_split is_space text) ≡ true → is_text text ≡ true
text_of_pieces [] h = refl
text_of_pieces (byte ∷ text) h = by_byte byte text (is_space byte) refl (text_of_pieces text) h

pub text_of_words : (text : List ℕ) → are_text (words_of text) ≡ true → is_text text ≡ true
text_of_words text h = text_of_pieces text (pieces_of (slice_split is_space text) h)

-- ---- numbers

digit_is : (byte : ℕ) → is_ascii_digit byte ≡ true → is_text_byte byte ≡ true
digit_is byte h =
    let b = both_of (nat_le 48 byte) (nat_le byte 57) h in
    let low = leb-true 48 byte b.0 in
    let high = leb-true byte 57 b.1 in
    and_from (nat_le 32 byte) (nat_le byte 126) (le-leb 32 byte (omega arith)) (le-leb byte 126 (omega arith))

digits_are : (word : List ℕ) → list_all is_ascii_digit word ≡ true → is_text word ≡ true
digits_are [] h = refl
digits_are (byte ∷ word) h =
    let b = both_of (is_ascii_digit byte) (list_all is_ascii_digit word) h in
    and_from (is_text_byte byte) (is_text word) (digit_is byte b.0) (digits_are word b.1)

passed : {A : Type 0} (test : Bool) (x y : A) → (if test then Some x else None) ≡ Some y → test ≡ true
passed true x y e = refl
passed false x y e = absurd cc

number_is : (word : List ℕ) (n : ℕ) → number_in word ≡ Some n → is_text word ≡ true
number_is word n e =
    let numeral = passed (is_numeral word) (digits_value 10 word) n e in
    digits_are word (both_of (nat_le 1 (length word) && nat_le (length word) 10) (list_all is_ascii_digit word) numeral).1

mapped : {A B : Type 0} (f : A → B) (found : Option A) (y : B) → option_map f found ≡ Some y → (x : A) × (found ≡ Some x)
mapped f None y e = absurd cc
mapped f (Some x) y e = (x, refl)

integer_at : (word : List ℕ) (minus : Bool) (z : ℤ) → (slice_index word 0 == 45) ≡ minus
    → (if minus then option_map (λ n. neg_ℤ (pos n)) (number_in (drop 1 word)) else option_map pos (number_in word)) ≡ Some z → is_text word ≡ true
integer_at word false z same e = let n = mapped pos (number_in word) z e in number_is word n.0 n.1
integer_at [] true z same e = refl
integer_at (byte ∷ word) true z same e =
    let n = mapped (λ n. neg_ℤ (pos n)) (number_in word) z e in
    and_from (is_text_byte byte) (is_text word) (ap is_text_byte (eqb-true byte 45 same)) (number_is word n.0 n.1)

integer_is : (word : List ℕ) (z : ℤ) → integer_in word ≡ Some z → is_text word ≡ true
integer_is word z e = integer_at word (slice_index word 0 == 45) z refl e

-- ---- a start, a colon, and a value

abbrev is_colon : ℕ → Bool
is_colon byte = byte == 58

at_byte : (byte : ℕ) (word : List ℕ) (at : ℕ) (colon : Bool) → is_colon byte ≡ colon → (is_text (take at word) ≡ true → is_text (drop (at + 1) word) ≡ true → is_text word ≡ true)
    → is_text (take (cond (not colon) (1 + at) 0) (byte ∷ word)) ≡ true → is_text (drop (cond (not colon) (1 + at) 0 + 1) (byte ∷ word)) ≡ true → is_text (byte ∷ word) ≡ true
at_byte byte word at true e rest f g = and_from (is_text_byte byte) (is_text word) (ap is_text_byte (eqb-true byte 58 e)) g
at_byte byte word at false e rest f g =
    let next : 1 + at ≡ suc at = omega arith in
    let later : 1 + at + 1 ≡ suc (at + 1) = omega arith in
    let front = both_of (is_text_byte byte) (is_text (take at word)) (ap (λ k. is_text (take k (byte ∷ word))) (sym next) ∙ f) in
    and_from (is_text_byte byte) (is_text word) front.0 (rest front.1 (ap (λ k. is_text (drop k (byte ∷ word))) (sym later) ∙ g))

around : (word : List ℕ) → is_text (before_first is_colon word) ≡ true → is_text (after_first is_colon word) ≡ true → is_text word ≡ true
around [] f g = refl
around (byte ∷ word) f g = at_byte byte word (position_or_len is_colon word) (is_colon byte) refl (around word) f g

step_at : (start : ℕ) (test : Bool) (value : Option ℤ) (step : ℕ × ℤ) → (if test then option_map (λ v. (start, v)) value else None) ≡ Some step → (v : ℤ) × (value ≡ Some v)
step_at start false value step e = absurd cc
step_at start true value step e = mapped (λ v. (start, v)) value step e

step_parts : (before : Option ℕ) (value : Option ℤ) (step : ℕ × ℤ)
    → option_and_then (λ start. if is_from_to 0 LONGEST_TRACK start then option_map (λ v. (start, v)) value else None) before ≡ Some step
    → ((n : ℕ) × (before ≡ Some n)) × ((v : ℤ) × (value ≡ Some v))
step_parts None value step e = absurd cc
step_parts (Some n) value step e = ((n, refl), step_at n (is_from_to 0 LONGEST_TRACK n) value step e)

step_is : (word : List ℕ) (step : ℕ × ℤ) → step_in_word word ≡ Some step → is_text word ≡ true
step_is word step e =
    let parts = step_parts (number_in (before_first is_colon word)) (integer_in (after_first is_colon word)) step e in
    around word (number_is (before_first is_colon word) parts.0.0 parts.0.1) (integer_is (after_first is_colon word) parts.1.0 parts.1.1)

-- ---- the words of a head

allowed_at : {A : Type 0} (test : Bool) (fault : LineFault) (x y : A) → (if test then Ok x else Err fault) ≡ Ok y → x ≡ y
allowed_at true fault x y e = cc
allowed_at false fault x y e = absurd cc

allowed : {A : Type 0} (test : A → Bool) (fault : LineFault) (found : Option A) (y : A) → allowed_value test fault found ≡ Ok y → found ≡ Some y
allowed test fault None y e = absurd cc
allowed test fault (Some x) y e = ap Some (allowed_at (test x) fault x y e)

bound : {A B : Type 0} (first : Result A LineFault) (next : A → Result B LineFault) (y : B) → first >>= next ≡ Ok y → (x : A) × (first ≡ Ok x) × (next x ≡ Ok y)
bound (Ok x) next y e = (x, refl, e)
bound (Err fault) next y e = absurd cc

demanded : {B : Type 0} (test : Bool) (fault : LineFault) (next : Result B LineFault) (y : B) → demand test fault >> next ≡ Ok y → (test ≡ true) × (next ≡ Ok y)
demanded true fault next y e = (refl, e)
demanded false fault next y e = absurd cc

end_is_text : (word : List ℕ) → bytes_eq word (codes "end") ≡ true → is_text word ≡ true
end_is_text word e = ap is_text ((bytes_eq-Decides word (codes "end")).0 e)

loss_is_text : (word : List ℕ) → bytes_eq word (codes "loss") ≡ true → is_text word ≡ true
loss_is_text word e = ap is_text ((bytes_eq-Decides word (codes "loss")).0 e)

module _ {V : Type 0} (kind : Kind V) (reads : (word : List ℕ) (v : V) → kind.read word ≡ Some v → is_text word ≡ true) where
  run_is : (i : ℕ) (word : List ℕ) (run : ℕ × V) → run_in_word kind i word ≡ Ok run → is_text word ≡ true
  run_is i word run e =
      let start = bound (number_at i 0 LONGEST_TRACK (before_first is_colon word)) _ run e in
      let value = bound (allowed_value kind.levels.in_range (Number i) (kind.read (after_first is_colon word))) _ run start.2 in
      around word
      (number_is (before_first is_colon word) start.0 (allowed (is_from_to 0 LONGEST_TRACK) (Number i) (number_in (before_first is_colon word)) start.0 start.1))
      (reads (after_first is_colon word) value.0 (allowed kind.levels.in_range (Number i) (kind.read (after_first is_colon word)) value.0 value.1))

  runs_are : (limit i : ℕ) (words : List (List ℕ)) (request : StepsRequest V) → runs_in kind Far limit i words ≡ Ok request → are_text words ≡ true
  runs_are limit i [] request e = absurd cc
  runs_are limit i (word ∷ []) request e = absurd cc
  runs_are limit i (word ∷ last ∷ []) request e =
      let end = demanded (bytes_eq word (codes "end")) (Name i) _ request e in
      let metre = bound (allowed_value (is_expressible Far) (Number (i + 1)) (number_in last)) _ request end.1 in
      text_of_both word (last ∷ []) (end_is_text word end.0)
      (text_of_both last [] (number_is last metre.0 (allowed (is_expressible Far) (Number (i + 1)) (number_in last) metre.0 metre.1)) refl)
  runs_are limit i (word ∷ next ∷ last ∷ more) request e =
      let run = bound (run_in_word kind i word) _ request e in
      let rest = bound (runs_in kind Far limit (i + 1) (next ∷ last ∷ more)) _ request run.2 in
      text_of_both word (next ∷ last ∷ more) (run_is i word run.0 run.1) (runs_are limit (i + 1) (next ∷ last ∷ more) rest.0 rest.1)

  request_is : (words : List (List ℕ)) (request : StepsRequest V) → request_in kind Far words ≡ Ok request → are_text words ≡ true
  request_is [] request e = absurd cc
  request_is (a ∷ []) request e = absurd cc
  request_is (a ∷ b ∷ []) request e = absurd cc
  request_is (a ∷ b ∷ c ∷ []) request e = absurd cc
  request_is (limit ∷ first ∷ second ∷ third ∷ more) request e =
      let steps = bound (number_at 2 1 MOST_STEPS limit) _ request e in
      text_of_both limit (first ∷ second ∷ third ∷ more) (number_is limit steps.0 (allowed (is_from_to 1 MOST_STEPS) (Number 2) (number_in limit) steps.0 steps.1))
      (runs_are steps.0 3 (first ∷ second ∷ third ∷ more) request steps.2)

  head_is : (line : StepsRequest V → CheckLine) (words : List (List ℕ)) (found : Result (StepsRequest V) LineFault) → request_in kind Far words ≡ found
      → is_in_form (head_line line found) ≡ true → are_text words ≡ true
  head_is line words (Ok request) same e = request_is words request same
  head_is line words (Err fault) same e = absurd cc

-- ---- the words of a profile, and of a row

put_parts : {A B C : Type 0} (make : A → B → C) (first : Option A) (rest : Option B) (whole : C)
    → option_and_then (λ x. option_map (make x) rest) first ≡ Some whole → ((x : A) × (first ≡ Some x)) × ((y : B) × (rest ≡ Some y))
put_parts make None rest whole e = absurd cc
put_parts make (Some x) rest whole e = ((x, refl), mapped (make x) rest whole e)

loss_parts : (test : Bool) (last : Option ℕ) (profile : List (ℕ × ℤ) × ℕ) → (if test then option_map (λ lost. ([], lost)) last else None) ≡ Some profile
    → (test ≡ true) × ((n : ℕ) × (last ≡ Some n))
loss_parts true last profile e = (refl, mapped (λ lost. ([], lost)) last profile e)
loss_parts false last profile e = absurd cc

profile_is : (words : List (List ℕ)) (profile : List (ℕ × ℤ) × ℕ) → profile_in words ≡ Some profile → are_text words ≡ true
profile_is [] profile e = absurd cc
profile_is (word ∷ []) profile e = absurd cc
profile_is (word ∷ last ∷ []) profile e =
    let parts = loss_parts (bytes_eq word (codes "loss")) (number_in last) profile e in
    text_of_both word (last ∷ []) (loss_is_text word parts.0) (text_of_both last [] (number_is last parts.1.0 parts.1.1) refl)
profile_is (word ∷ next ∷ last ∷ more) profile e =
    let parts = put_parts (λ step rest. (step ∷ rest.0, rest.1)) (step_in_word word) (profile_in (next ∷ last ∷ more)) profile e in
    text_of_both word (next ∷ last ∷ more) (step_is word parts.0.0 parts.0.1) (profile_is (next ∷ last ∷ more) parts.1.0 parts.1.1)

numbers_are : (words : List (List ℕ)) (numbers : List ℕ) → numbers_in words ≡ Some numbers → are_text words ≡ true
numbers_are [] numbers e = refl
numbers_are (word ∷ words) numbers e =
    let parts = put_parts (λ x xs. x ∷ xs) (number_in word) (numbers_in words) numbers e in
    text_of_both word words (number_is word parts.0.0 parts.0.1) (numbers_are words parts.1.0 parts.1.1)

profile_line_is : (words : List (List ℕ)) (found : Option (List (ℕ × ℤ) × ℕ)) → profile_in words ≡ found → is_in_form (profile_line found) ≡ true → are_text words ≡ true
profile_line_is words None same e = absurd cc
profile_line_is words (Some profile) same e = profile_is words profile same

price_line_is : (words : List (List ℕ)) (found : Option (List ℕ)) → numbers_in words ≡ found → is_in_form (price_line found) ≡ true → are_text words ≡ true
price_line_is words None same e = absurd cc
price_line_is words (Some numbers) same e = numbers_are words numbers same

-- ---- a line

command_is : (command : Command) (words : List (List ℕ)) → is_in_form (command_said command words) ≡ true → are_text words ≡ true
command_is Speed words e = head_is speed_kind number_is SpeedHead words (request_in speed_kind Far words) refl e
command_is Grade words e = head_is grade_kind integer_is GradeHead words (request_in grade_kind Far words) refl e
command_is Steps words e = profile_line_is words (profile_in words) refl e
command_is Prices words e = price_line_is words (numbers_in words) refl e

said_at : (blank text : Bool) (said line : CheckLine) → blank ≡ false → text ≡ true → said ≡ line → (if blank then Other else if not text then Other else said) ≡ line
said_at false true said line b t e = e
said_at true text said line b t e = absurd cc
said_at false false said line b t e = absurd cc

module _ (text : List ℕ) where
  -- what it says
  abbrev pub line_said : CheckLine
  line_said = if is_blank (words_of text) then Other else if not (is_text text) then Other else words_said Far (words_of text)

  module _ (command : Command) (words : List ℕ) (begins : is_blank (words_of text) ≡ false) (says : words_said Far (words_of text) ≡ command_said command (words_of words)) where
    text_line : is_text text ≡ true → line_said ≡ command_said command (words_of words)
    text_line h = said_at (is_blank (words_of text)) (is_text text) (words_said Far (words_of text)) (command_said command (words_of words)) begins h says

    -- a line that is in form is text
    pub formed_line : are_text (words_of text) ≡ are_text (words_of words) → is_in_form (command_said command (words_of words)) ≡ true → line_said ≡ command_said command (words_of words)
    formed_line same h = text_line (text_of_words text (same ∙ command_is command (words_of words) h))
