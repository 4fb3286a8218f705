-- How the first lines of a file are read.
use Rattle.std.proofs.Common.{◌≡◌, ℕ, ◌-◌, Bool, true, false, List, [], ◌∷◌, ◌++◌, length, All, Some, None, take, drop, refl, sym, ◌∙◌, ap, subst, arith, length-append, take-append-drop, codes, ◌||◌, if◌then◌else◌, ◌&&◌, ◌==◌, nat_lt}
use Rattle.std.specs.Prelude.{not, bytes_eq}
use Rattle.std.specs.List.{list_any}
use Rattle.std.proofs.lemmas.Bool.{and_left, and_right, eqb-true, or_right}
use Rattle.std.proofs.lemmas.List.{take_at}
use Rattle.std.proofs.lemmas.List.Folds.{list_any-append}
use Rattle.std.proofs.lemmas.List.Elements.{All-nil, All-cons}
use Rattle.std.proofs.lemmas.Slice.Eq.{bytes_eq-Decides}
use Rattle.rbc_journal.specs.Gates.{counted, text, IsLine}
use Rattle.rbc_journal.specs.Seals.{is_comment, seal_line, seal_of}
use Rattle.rbc_journal.specs.Headers.{title, track_mark, named_in_header, header, behind_mark, sized, is_header, digest_in}
use Rattle.rbc_journal.specs.Puts.{BeginsWithHeader}
use Rattle.rbc_journal.specs.Reading.{is_first_format}
use Rattle.rbc_journal.proofs.LineLemmas.{counted-line}
use Rattle.rbc_journal.proofs.PutLemmas.{text-snoc}

-- ---- a journal of the format before

pub next_split : (bytes : List ℕ) (lines : List (List ℕ)) (rest line after : List ℕ) → bytes ≡ text lines ++ rest → rest ≡ 32 ∷ line ++ 10 ∷ after
    → bytes ≡ text (lines ++ line ∷ []) ++ after
next_split bytes lines rest line after split read = split ∙ ap (λ (l : List ℕ). text lines ++ l) read ∙ sym (text-snoc lines line after)

pub next_none : (lines : List (List ℕ)) (line : List ℕ) → list_any is_comment lines ≡ false → is_comment line ≡ false → list_any is_comment (lines ++ line ∷ []) ≡ false
next_none lines line none is = list_any-append is_comment lines (line ∷ []) ∙ either_false (list_any is_comment lines) (is_comment line) none is
  where
    either_false : (a b : Bool) → a ≡ false → b ≡ false → (a || (b || false)) ≡ false
    either_false a b p q = ap (λ (x : Bool). x || (b || false)) p ∙ ap (λ (x : Bool). x || false) q

some_comment : (lines : List (List ℕ)) (line : List ℕ) (more : List (List ℕ)) → is_comment line ≡ true → list_any is_comment (lines ++ line ∷ more) ≡ true
some_comment lines line more is =
    list_any-append is_comment lines (line ∷ more)
    ∙ or_right (list_any is_comment lines) (is_comment line || list_any is_comment more) (ap (λ (x : Bool). x || list_any is_comment more) is)

no_first : (a b c : Bool) → b ≡ true → (a && not b && c) ≡ false
no_first true true c is = refl
no_first false b c is = refl
no_first true false c is = cc is

pub with_comment : (bytes tail : List ℕ) (lines : List (List ℕ)) (line rest after : List ℕ) → counted bytes ≡ lines ++ counted rest → counted rest ≡ line ∷ counted after
    → is_comment line ≡ true → false ≡ is_first_format (counted bytes) tail
with_comment bytes tail lines line rest after read found is =
    let any : list_any is_comment (counted bytes) ≡ true =
    ap (list_any is_comment) (read ∙ ap (λ (l : List (List ℕ)). lines ++ l) found) ∙ some_comment lines line (counted after) is in
    sym (no_first (nat_lt 0 (length (counted bytes))) (list_any is_comment (counted bytes)) (bytes_eq tail (35 ∷ [])) any)

-- ---- the header's lines

behind_by : (mark line digest : List ℕ) (test : Bool) → bytes_eq (take (length mark) line) mark ≡ test → sized 64 (behind_mark mark line) ≡ Some digest
    → (line ≡ mark ++ digest) × (length digest ≡ 64)
behind_by mark line digest false test is =
    cc (sym (ap (λ (b : Bool). sized 64 (if b then Some (drop (length mark) line) else None)) test) ∙ is)
behind_by mark line digest true test is =
    let front : take (length mark) line ≡ mark = (bytes_eq-Decides (take (length mark) line) mark).0 test in
    let found : (if length (drop (length mark) line) == 64 then Some (drop (length mark) line) else None) ≡ Some digest =
    sym (ap (λ (b : Bool). sized 64 (if b then Some (drop (length mark) line) else None)) test) ∙ is in
    let both = of_size (length (drop (length mark) line)) (drop (length mark) line) digest found in (
      sym (take-append-drop (length mark) line) ∙ ap (λ (l : List ℕ). l ++ drop (length mark) line) front ∙ ap (λ (l : List ℕ). mark ++ l) both.1,
      ap length (sym both.1) ∙ both.0,
    )
  where
    of_size : (n : ℕ) (bytes digest : List ℕ) → (if n == 64 then Some bytes else None) ≡ Some digest → (n ≡ 64) × (bytes ≡ digest)
    of_size n bytes digest is = by (n == 64) refl is
      where
        by : (b : Bool) → (n == 64) ≡ b → (if n == 64 then Some bytes else None) ≡ Some digest → (n ≡ 64) × (bytes ≡ digest)
        by true e is = (eqb-true n 64 e, cc (sym (ap (λ (b : Bool). if b then Some bytes else None) e) ∙ is))
        by false e is = cc (sym (ap (λ (b : Bool). if b then Some bytes else None) e) ∙ is)

module _ (bytes first one second two third rest : List ℕ) (r1 : bytes ≡ 32 ∷ first ++ 10 ∷ one) (r2 : one ≡ 32 ∷ second ++ 10 ∷ two) (r3 : two ≡ 32 ∷ third ++ 10 ∷ rest)
    (l1 : IsLine first) (l2 : IsLine second) (l3 : IsLine third) where
  split_two : bytes ≡ text (first ∷ second ∷ []) ++ two
  split_two = next_split bytes (first ∷ []) one second two (next_split bytes [] bytes first one refl r1) r2

  split_three : bytes ≡ text (first ∷ second ∷ third ∷ []) ++ rest
  split_three = next_split bytes (first ∷ second ∷ []) two third rest split_two r3

  counts : counted bytes ≡ first ∷ second ∷ third ∷ counted rest
  counts =
      ap counted r1 ∙ counted-line first one l1
      ∙ ap (λ (l : List (List ℕ)). first ∷ l) (ap counted r2 ∙ counted-line second two l2)
      ∙ ap (λ (l : List (List ℕ)). first ∷ second ∷ l) (ap counted r3 ∙ counted-line third rest l3)

  pub two_lines : take (length bytes - length two) bytes ≡ text (first ∷ second ∷ [])
  two_lines =
      ap (λ (l : List ℕ). take (length bytes - length two) l) split_two
      ∙ take_at (text (first ∷ second ∷ [])) two (length bytes - length two) (omega (arith, ap length split_two, length-append (text (first ∷ second ∷ [])) two))

  no_header : is_header first second third ≡ false → digest_in (counted bytes) ≡ None
  no_header fails = ap digest_in counts ∙ ap (λ (b : Bool). if b then sized 64 (behind_mark track_mark second) else None) fails

  pub wrong_title : bytes_eq first (title ++ codes "2") ≡ false → digest_in (counted bytes) ≡ None
  wrong_title fails = no_header (and_left (bytes_eq first (title ++ codes "2")) (bytes_eq third (seal_line (seal_of [] (first ∷ second ∷ [])))) fails)

  pub wrong_seal : bytes_eq third (seal_line (seal_of [] (first ∷ second ∷ []))) ≡ false → digest_in (counted bytes) ≡ None
  wrong_seal fails = no_header (and_right (bytes_eq first (title ++ codes "2")) (bytes_eq third (seal_line (seal_of [] (first ∷ second ∷ [])))) fails)

  module _ (digest : List ℕ) (named : first ≡ title ++ codes "2") (found : sized 64 (behind_mark track_mark second) ≡ Some digest) where
    second_is : second ≡ track_mark ++ digest
    second_is = (behind_by track_mark second digest (bytes_eq (take (length track_mark) second) track_mark) refl found).0

    both_named : first ∷ second ∷ [] ≡ named_in_header digest
    both_named = ap (λ (l : List ℕ). l ∷ second ∷ []) named ∙ ap (λ (l : List ℕ). (title ++ codes "2") ∷ l ∷ []) second_is

    pub right_seal : seal_of [] (first ∷ second ∷ []) ≡ seal_of [] (named_in_header digest)
    right_seal = ap (seal_of []) both_named

    pub begins : third ≡ seal_line (seal_of [] (first ∷ second ∷ [])) → BeginsWithHeader bytes digest rest
    begins sealed =
        let all : first ∷ second ∷ third ∷ [] ≡ header digest =
        ap (λ (l : List ℕ). first ∷ second ∷ l ∷ []) (sealed ∙ ap seal_line right_seal) ∙ ap (λ (l : List (List ℕ)). l ++ seal_line (seal_of [] (named_in_header digest)) ∷ []) both_named in
        record {
          split = split_three ∙ ap (λ (l : List (List ℕ)). text l ++ rest) all;
          lines = subst (All IsLine) all (All-cons IsLine first (second ∷ third ∷ []) l1 (All-cons IsLine second (third ∷ []) l2 (All-cons IsLine third [] l3 (All-nil IsLine))));
          size = (behind_by track_mark second digest (bytes_eq (take (length track_mark) second) track_mark) refl found).1;
        }
