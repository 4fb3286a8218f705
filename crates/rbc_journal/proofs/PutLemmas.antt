-- What whole puts add to what was read.
use Rattle.std.proofs.Common.{◌≡◌, inl, inr, ℕ, ◌-◌, ◌*◌, ◌<◌, ◌≤◌, Bool, true, false, List, [], ◌∷◌, ◌++◌, length, All, Option, Some, None, take, drop, refl, sym, ◌∙◌, ap, arith, append_assoc, length-append, if◌then◌else◌}
use Rattle.std.specs.Prelude.{fold, not, ◌&&◌, ◌||◌, bytes_eq, IfNone}
use Rattle.std.proofs.lemmas.Bool.{not-true, not-false, cases_Bool, both_ways, false_from_ne_true}
use Rattle.std.proofs.lemmas.List.{append-nil, take_at, drop_at}
use Rattle.std.proofs.lemmas.List.Sums.{fold-append}
use Rattle.std.proofs.lemmas.List.Folds.{fold_stays}
use Rattle.std.proofs.lemmas.List.Elements.{All-nil, All-head, All-tail, All-cons, All-append}
use Rattle.std.proofs.lemmas.Slice.Eq.{bytes_eq-Decides}
use Rattle.rbc_journal.specs.Gates.{lines_from, counted, text, at_rest, IsLine}
use Rattle.rbc_journal.specs.Seals.{Chain, with_line, with_seal, has_seal_form, seal_line, seal_of}
use Rattle.rbc_journal.specs.Marks.{mark, with_marked, marked_front, begins_marked}
use Rattle.rbc_journal.specs.Reading.{first_put, begins_open, opens_more, is_kept, was_open, is_last, ends_well}
use Rattle.rbc_journal.specs.Puts.{IsPut, ArePuts, at_put}
use Rattle.rbc_journal.proofs.LineLemmas.{text-append, counted-line, counted-text}

abbrev pub Inner : List ℕ → Type 0
Inner line = has_seal_form line ≡ false

pub text-snoc : (put : List (List ℕ)) (line rest : List ℕ) → text (put ++ line ∷ []) ++ rest ≡ text put ++ (32 ∷ line ++ 10 ∷ rest)
text-snoc put line rest =
    ap (λ (l : List ℕ). l ++ rest) (text-append put (line ∷ [])) ∙ append_assoc (text put) (32 ∷ line ++ 10 ∷ []) rest
    ∙ ap (λ (l : List ℕ). text put ++ 32 ∷ l) (append_assoc line (10 ∷ []) rest)

pub lines_short : (lines : List (List ℕ)) → 2 * length lines ≤ length (text lines)
lines_short [] = omega arith
lines_short (line ∷ lines) = omega (arith, lines_short lines, length-append line (10 ∷ text lines))

pub All-snoc : (P : List ℕ → Type 0) (put : List (List ℕ)) (line : List ℕ) → All P put → P line → All P (put ++ line ∷ [])
All-snoc P put line are is = All-append P put (line ∷ []) are (All-cons P line [] is (All-nil P))

-- ---- one line of a put

pub with_inner : (chain : Chain) (line : List ℕ) → chain.is_right ≡ true → has_seal_form line ≡ false → with_line chain line ≡ record chain { put = chain.put ++ line ∷ [] }
with_inner chain line right inner =
    ap (λ (b : Bool). if not b then chain else if has_seal_form line then with_seal chain line (seal_of chain.seal chain.put) else record chain { put = chain.put ++ line ∷ [] }) right
    ∙ ap (λ (b : Bool). if b then with_seal chain line (seal_of chain.seal chain.put) else record chain { put = chain.put ++ line ∷ [] }) inner

pub first_inner : (seal : List ℕ) (put : List (List ℕ)) (line : List ℕ) (lines : List (List ℕ)) → has_seal_form line ≡ false
    → first_put seal put (line ∷ lines) ≡ first_put seal (put ++ line ∷ []) lines
first_inner seal put line lines inner =
    ap (λ (b : Bool). if not b then first_put seal (put ++ line ∷ []) lines else if bytes_eq line (seal_line (seal_of seal put)) then Some (put ++ line ∷ []) else None) inner

first_form : (seal : List ℕ) (put : List (List ℕ)) (line : List ℕ) (lines : List (List ℕ)) → has_seal_form line ≡ true
    → first_put seal put (line ∷ lines) ≡ (if bytes_eq line (seal_line (seal_of seal put)) then Some (put ++ line ∷ []) else None)
first_form seal put line lines form =
    ap (λ (b : Bool). if not b then first_put seal (put ++ line ∷ []) lines else if bytes_eq line (seal_line (seal_of seal put)) then Some (put ++ line ∷ []) else None) form

pub first_wrong : (seal : List ℕ) (put : List (List ℕ)) (line : List ℕ) (lines : List (List ℕ)) → has_seal_form line ≡ true
    → bytes_eq line (seal_line (seal_of seal put)) ≡ false → first_put seal put (line ∷ lines) ≡ None
first_wrong seal put line lines form wrong =
    first_form seal put line lines form ∙ ap (λ (b : Bool). if b then Some (put ++ line ∷ []) else None) wrong

first_right : (seal : List ℕ) (put : List (List ℕ)) (line : List ℕ) (lines : List (List ℕ)) → has_seal_form line ≡ true
    → bytes_eq line (seal_line (seal_of seal put)) ≡ true → first_put seal put (line ∷ lines) ≡ Some (put ++ line ∷ [])
first_right seal put line lines form right =
    first_form seal put line lines form ∙ ap (λ (b : Bool). if b then Some (put ++ line ∷ []) else None) right

-- ---- tests

-- what `!=` of two slices says
pub differs_by : {r : Bool} (a b : List ℕ) → r ≡ true → r ≡ not (bytes_eq a b) → bytes_eq a b ≡ false
differs_by a b is said = not-true (bytes_eq a b) (sym said ∙ is)

pub same_by : {r : Bool} (a b : List ℕ) → r ≡ false → r ≡ not (bytes_eq a b) → a ≡ b
same_by a b is said = (bytes_eq-Decides a b).0 (not-false (bytes_eq a b) (sym said ∙ is))

pub if_none : {A P : Type 0} (o : Option A) → P → IfNone o P
if_none None p = p
if_none (Some x) p = tt

-- ---- a whole put

abbrev inside : List (List ℕ) → List ℕ → List (List ℕ) → Chain
inside whole seal put = record { whole = whole; seal = seal; put = put; is_right = true }

inner_lines : (whole : List (List ℕ)) (seal : List ℕ) (put more : List (List ℕ)) → All Inner more → fold with_line (inside whole seal put) more ≡ inside whole seal (put ++ more)
inner_lines whole seal put [] are = ap (inside whole seal) (sym (append-nil put))
inner_lines whole seal put (line ∷ more) are =
    ap (λ (c : Chain). fold with_line c more) (with_inner (inside whole seal put) line refl (All-head Inner line more are))
    ∙ inner_lines whole seal (put ++ line ∷ []) more (All-tail Inner line more are)
    ∙ ap (inside whole seal) (append_assoc put (line ∷ []) more)

first_inners : (seal : List ℕ) (put more rest : List (List ℕ)) → All Inner more → first_put seal put (more ++ rest) ≡ first_put seal (put ++ more) rest
first_inners seal put [] rest are = ap (λ (p : List (List ℕ)). first_put seal p rest) (sym (append-nil put))
first_inners seal put (line ∷ more) rest are =
    first_inner seal put line (more ++ rest) (All-head Inner line more are)
    ∙ first_inners seal (put ++ line ∷ []) more rest (All-tail Inner line more are)
    ∙ ap (λ (p : List (List ℕ)). first_put seal p rest) (append_assoc put (line ∷ []) more)

same_bytes : (a b : List ℕ) → a ≡ b → bytes_eq a b ≡ true
same_bytes a b = (bytes_eq-Decides a b).1

with_right : (whole : List (List ℕ)) (before : List ℕ) (put : List (List ℕ)) (seal : List ℕ) → has_seal_form (seal_line seal) ≡ true → seal ≡ seal_of before put
    → with_line (inside whole before put) (seal_line seal) ≡ at_put (whole ++ put ++ seal_line seal ∷ []) seal
with_right whole before put seal form right =
    ap (λ (b : Bool). if b then with_seal (inside whole before put) (seal_line seal) (seal_of before put) else inside whole before (put ++ seal_line seal ∷ [])) form
    ∙ ap (λ (s : List ℕ). with_seal (inside whole before put) (seal_line seal) s) (sym right)
    ∙ ap (λ (b : Bool). if b then at_put (whole ++ put ++ seal_line seal ∷ []) seal else record (inside whole before put) { is_right = false }) (same_bytes (seal_line seal) (seal_line seal) refl)

pub put_chain : (whole : List (List ℕ)) (before : List ℕ) (put : List (List ℕ)) (seal : List ℕ) → All Inner put → has_seal_form (seal_line seal) ≡ true → seal ≡ seal_of before put
    → fold with_line (at_put whole before) (put ++ seal_line seal ∷ []) ≡ at_put (whole ++ (put ++ seal_line seal ∷ [])) seal
put_chain whole before put seal inner form right =
    fold-append with_line (at_put whole before) put (seal_line seal ∷ [])
    ∙ ap (λ (c : Chain). with_line c (seal_line seal)) (inner_lines whole before [] put inner)
    ∙ with_right whole before put seal form right
    ∙ ap (λ (w : List (List ℕ)). at_put w seal) (append_assoc whole put (seal_line seal ∷ []))

-- behind one front
pub same_behind : (front a b : List ℕ) → bytes_eq (front ++ a) (front ++ b) ≡ bytes_eq a b
same_behind front a b = elim (cases_Bool (bytes_eq a b)) [
  | inl same ↦ same_bytes (front ++ a) (front ++ b) (ap (λ (l : List ℕ). front ++ l) ((bytes_eq-Decides a b).0 same)) ∙ sym same
  | inr differ ↦
      false_from_ne_true (bytes_eq (front ++ a) (front ++ b))
      (λ same. both_ways (bytes_eq a b) differ (same_bytes a b
      (sym (drop_at front a (length front) refl) ∙ ap (λ (l : List ℕ). drop (length front) l) ((bytes_eq-Decides (front ++ a) (front ++ b)).0 same) ∙ drop_at front b (length front) refl)))
      ∙ sym differ
]

-- the mark is no longer than a line
mark_within : (line rest : List ℕ) → bytes_eq (take 2 (line ++ 10 ∷ rest)) mark ≡ bytes_eq (take 2 line) mark
mark_within [] rest = refl
mark_within (one ∷ []) rest = refl
mark_within (one ∷ two ∷ line) rest = refl

first_marked : (lines : List (List ℕ)) (rest behind : List ℕ) → 32 ∷ behind ≡ text lines ++ rest → 0 < length lines → begins_marked lines ≡ bytes_eq (take 2 behind) mark
first_marked [] rest behind is some = absurd (omega arith)
first_marked (line ∷ lines) rest behind is some =
    let after : behind ≡ line ++ 10 ∷ (text lines ++ rest) = ap (drop 1) is ∙ append_assoc line (10 ∷ text lines) rest in
    sym (ap (λ (l : List ℕ). bytes_eq (take 2 l) mark) after ∙ mark_within line (text lines ++ rest))

some_lines : (put : List (List ℕ)) (line : List ℕ) → 0 < length (put ++ line ∷ [])
some_lines put line = omega (arith, length-append put (line ∷ []))

-- a put that does not begin with a marked line, with its seal
pub put_unmarked : (put : List (List ℕ)) (seal : List ℕ) → marked_front put ≡ [] → begins_marked (put ++ seal_line seal ∷ []) ≡ false
put_unmarked [] seal none = refl
put_unmarked (line ∷ put) seal none =
    false_from_ne_true (bytes_eq (take 2 line) mark)
    (λ is. cc (sym none ∙ ap (λ (b : Bool). with_marked (if b then Some (drop 2 line) else None) (marked_front put)) is))

module _ (before bytes : List ℕ) (put : List (List ℕ)) (seal rest : List ℕ) (is : IsPut before bytes put seal rest) where
  abbrev all : List (List ℕ)
  all = put ++ seal_line seal ∷ []

  pub put_counted : counted bytes ≡ all ++ counted rest
  put_counted = ap counted is.split ∙ counted-text all rest is.lines

  pub put_first : first_put before [] (counted bytes) ≡ Some all
  put_first =
      ap (first_put before []) (put_counted ∙ append_assoc put (seal_line seal ∷ []) (counted rest))
      ∙ first_inners before [] put (seal_line seal ∷ counted rest) is.inner
      ∙ first_right before put (seal_line seal) (counted rest) is.form (same_bytes (seal_line seal) (seal_line (seal_of before put)) (ap seal_line is.right))

  opens_behind : opens_more (drop (length (text (put ++ seal_line seal ∷ []))) bytes) ≡ opens_more rest
  opens_behind =
      ap (λ (l : List ℕ). opens_more (drop (length (text (put ++ seal_line seal ∷ []))) l)) is.split
      ∙ ap opens_more (drop_at (text (put ++ seal_line seal ∷ [])) rest (length (text (put ++ seal_line seal ∷ []))) refl)

  pub put_was_open : was_open before bytes ≡ (begins_marked (put ++ seal_line seal ∷ []) || opens_more rest)
  put_was_open = ap (is_kept bytes) put_first ∙ ap (λ (b : Bool). begins_marked (put ++ seal_line seal ∷ []) || b) opens_behind

  pub put_ends : ends_well before bytes ≡ (not (begins_marked (put ++ seal_line seal ∷ [])) && bytes_eq rest (35 ∷ []))
  put_ends =
      ap (is_last bytes) put_first
      ∙ ap (λ (b : Bool). not (begins_marked (put ++ seal_line seal ∷ [])) && b)
      (ap (λ (l : List ℕ). bytes_eq l (at_rest (put ++ seal_line seal ∷ []))) is.split ∙ same_behind (text (put ++ seal_line seal ∷ [])) rest (35 ∷ []))

  -- the first of them stands at the front of the bytes
  pub put_marked : (behind : List ℕ) → bytes ≡ 32 ∷ behind → begins_marked (put ++ seal_line seal ∷ []) ≡ bytes_eq (take 2 behind) mark
  put_marked behind at = first_marked (put ++ seal_line seal ∷ []) rest behind (sym at ∙ is.split) (some_lines put (seal_line seal))

  pub puts_of_put : ArePuts before bytes all seal rest
  puts_of_put = record {
    split = is.split;
    lines = is.lines;
    chain = λ whole. put_chain whole before put seal is.inner is.form is.right;
  }

-- ---- several puts

pub no_puts : (seal bytes : List ℕ) → ArePuts seal bytes [] seal bytes
no_puts seal bytes = record { split = refl; lines = All-nil IsLine; chain = λ whole. ap (λ (w : List (List ℕ)). at_put w seal) (sym (append-nil whole)) }

pub puts_then : (a bytes : List ℕ) (puts : List (List ℕ)) (b middle : List ℕ) (more : List (List ℕ)) (c rest : List ℕ)
    → ArePuts a bytes puts b middle → ArePuts b middle more c rest → ArePuts a bytes (puts ++ more) c rest
puts_then a bytes puts b middle more c rest first second = record {
  split =
      first.split ∙ ap (λ (l : List ℕ). text puts ++ l) second.split ∙ sym (append_assoc (text puts) (text more) rest)
      ∙ ap (λ (l : List ℕ). l ++ rest) (sym (text-append puts more));
  lines = All-append IsLine puts more first.lines second.lines;
  chain = λ whole.
      fold-append with_line (at_put whole a) puts more
      ∙ ap (λ (c : Chain). fold with_line c more) (first.chain whole)
      ∙ second.chain (whole ++ puts)
      ∙ ap (λ (w : List (List ℕ)). at_put w c) (append_assoc whole puts more);
}

-- ---- no further put

abbrev wrong : List (List ℕ) → List ℕ → List (List ℕ) → Chain
wrong whole seal put = record { whole = whole; seal = seal; put = put; is_right = false }

stays_wrong : (whole : List (List ℕ)) (seal : List ℕ) (put lines : List (List ℕ)) → fold with_line (wrong whole seal put) lines ≡ wrong whole seal put
stays_wrong whole seal put lines = fold_stays with_line (wrong whole seal put) (λ line. refl) lines

-- a line of the form of a seal, by whether it is the right one
by_test : (whole : List (List ℕ)) (seal : List ℕ) (put : List (List ℕ)) (line : List ℕ) (lines : List (List ℕ)) (test : Bool) → bytes_eq line (seal_line (seal_of seal put)) ≡ test
    → has_seal_form line ≡ true → first_put seal put (line ∷ lines) ≡ None → (fold with_line (inside whole seal put) (line ∷ lines)).whole ≡ whole
by_test whole seal put line lines true right form none = cc (sym (first_right seal put line lines form right) ∙ none)
by_test whole seal put line lines false differs form none =
    ap (λ (c : Chain). (fold with_line c lines).whole)
    (ap (λ (b : Bool). if b then with_seal (inside whole seal put) line (seal_of seal put) else inside whole seal (put ++ line ∷ [])) form
    ∙ ap (λ (b : Bool). if b then at_put (whole ++ put ++ seal_line (seal_of seal put) ∷ []) (seal_of seal put) else wrong whole seal put) differs)
    ∙ ap (λ (c : Chain). c.whole) (stays_wrong whole seal put lines)

-- any line; the lines behind it are given
by_form : (whole : List (List ℕ)) (seal : List ℕ) (put : List (List ℕ)) (line : List ℕ) (lines : List (List ℕ)) (form : Bool) → has_seal_form line ≡ form
    → (first_put seal (put ++ line ∷ []) lines ≡ None → (fold with_line (inside whole seal (put ++ line ∷ [])) lines).whole ≡ whole)
    → first_put seal put (line ∷ lines) ≡ None → (fold with_line (inside whole seal put) (line ∷ lines)).whole ≡ whole
by_form whole seal put line lines true form next none = by_test whole seal put line lines (bytes_eq line (seal_line (seal_of seal put))) refl form none
by_form whole seal put line lines false form next none =
    ap (λ (c : Chain). (fold with_line c lines).whole) (with_inner (inside whole seal put) line refl form)
    ∙ next (sym (first_inner seal put line lines form) ∙ none)

pub none_more : (whole : List (List ℕ)) (seal : List ℕ) (put lines : List (List ℕ)) → first_put seal put lines ≡ None → (fold with_line (inside whole seal put) lines).whole ≡ whole
none_more whole seal put [] none = refl
none_more whole seal put (line ∷ lines) none = by_form whole seal put line lines (has_seal_form line) refl (none_more whole seal (put ++ line ∷ []) lines) none

-- ---- one line after the other

module _ (behind rest line after : List ℕ) (put : List (List ℕ)) (split : 32 ∷ behind ≡ text put ++ 32 ∷ rest) (read : rest ≡ line ++ 10 ∷ after) (one : IsLine line) where
  pub line_first : counted (32 ∷ rest) ≡ line ∷ counted after
  line_first = ap (λ (l : List ℕ). counted (32 ∷ l)) read ∙ counted-line line after one

  pub line_split : 32 ∷ behind ≡ text (put ++ line ∷ []) ++ after
  line_split = split ∙ ap (λ (l : List ℕ). text put ++ (32 ∷ l)) read ∙ sym (text-snoc put line after)

  pub put_size : length rest ≤ length behind
  put_size = omega (arith, ap length split, length-append (text put) (32 ∷ rest))

  pub put_text : take (length behind - length rest) (32 ∷ behind) ≡ text put
  put_text =
      ap (λ (l : List ℕ). take (length behind - length rest) l) split
      ∙ take_at (text put) (32 ∷ rest) (length behind - length rest) (omega (arith, ap length split, length-append (text put) (32 ∷ rest)))

-- bytes that don't begin with an open gate have no line that counts
pub counted_shut : (bytes : List ℕ) → begins_open bytes ≡ false → counted bytes ≡ []
counted_shut [] shut = refl
counted_shut (gate ∷ rest) shut = ap (λ (b : Bool). if b then lines_from (Some []) rest else []) shut
