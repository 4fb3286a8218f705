-- What stages a line.
use Rattle.std.proofs.Common.{◌≡◌, ℕ, ◌-◌, ◌<◌, Bool, false, List, [], ◌∷◌, ◌++◌, length, All, Some, None, take, drop, refl, sym, ◌∙◌, ap, subst, arith, append_assoc, length-append, ◌==◌, if◌then◌else◌}
use Rattle.std.specs.Prelude.{◌&&◌, is_ok, bytes_eq}
use Rattle.std.proofs.lemmas.List.{take_at}
use Rattle.std.proofs.lemmas.List.Elements.{All-nil, All-cons, All-append, All-weaker}
use Rattle.hex.specs.Hex.{decode_sized}
use Rattle.rbc_journal.specs.Seals.{has_seal_form}
use Rattle.rbc_journal.specs.Journal.{IsTold, IsNote, IsPutLine}
use Rattle.rbc_journal.specs.Gates.{counted, text, at_rest, behind, staged_in, IsLine}
use Rattle.rbc_journal.proofs.LineLemmas.{text-append, are_lines, counted-at_rest}
use Rattle.rbc_journal.proofs.CrashLemmas.{gate_behind}
use Rattle.rbc_journal.proofs.PutLemmas.{Inner, All-snoc}

-- what is staged for lines stands for just these
pub staged-behind : (lines : List (List ℕ)) → All IsLine lines → staged_in (behind lines) ≡ lines
staged-behind [] are = refl
staged-behind (line ∷ lines) are = ap counted (gate_behind line lines) ∙ counted-at_rest (line ∷ lines) are

-- what is staged for lines, without the closed gate at its end
abbrev pub unfinished_behind : List ℕ → List (List ℕ) → List ℕ
unfinished_behind line lines = line ++ 10 ∷ text lines

without_last : (line : List ℕ) (lines : List (List ℕ)) → behind (line ∷ lines) ≡ unfinished_behind line lines ++ 35 ∷ []
without_last line lines = sym (append_assoc line (10 ∷ text lines) (35 ∷ []))

pub popped : (line : List ℕ) (lines : List (List ℕ)) (n : ℕ) → n ≡ length (behind (line ∷ lines)) - 1 → take n (behind (line ∷ lines)) ≡ unfinished_behind line lines
popped line lines n is =
    ap (λ (l : List ℕ). take n l) (without_last line lines)
    ∙ take_at (unfinished_behind line lines) (35 ∷ []) n (omega (arith, is, ap length (without_last line lines), length-append (unfinished_behind line lines) (35 ∷ [])))

-- the first line
pub first_staged : (line : List ℕ) → (line ++ 10 ∷ []) ++ 35 ∷ [] ≡ behind (line ∷ [])
first_staged line = append_assoc line (10 ∷ []) (35 ∷ [])

-- one line more
pub next_staged : (first : List ℕ) (lines : List (List ℕ)) (line : List ℕ)
    → (((unfinished_behind first lines ++ 32 ∷ []) ++ line) ++ 10 ∷ []) ++ 35 ∷ [] ≡ behind ((first ∷ lines) ++ line ∷ [])
next_staged first lines line =
    let ends : (((unfinished_behind first lines ++ 32 ∷ []) ++ line) ++ 10 ∷ []) ++ 35 ∷ [] ≡ unfinished_behind first lines ++ at_rest (line ∷ []) =
    append_assoc ((unfinished_behind first lines ++ 32 ∷ []) ++ line) (10 ∷ []) (35 ∷ [])
    ∙ append_assoc (unfinished_behind first lines ++ 32 ∷ []) line (10 ∷ 35 ∷ [])
    ∙ append_assoc (unfinished_behind first lines) (32 ∷ []) (line ++ 10 ∷ 35 ∷ [])
    ∙ ap (λ (l : List ℕ). unfinished_behind first lines ++ 32 ∷ l) (sym (append_assoc line (10 ∷ []) (35 ∷ []))) in
    ends
    ∙ append_assoc first (10 ∷ text lines) (at_rest (line ∷ []))
    ∙ ap (λ (l : List ℕ). first ++ 10 ∷ l) (sym (append_assoc (text lines) (text (line ∷ [])) (35 ∷ [])) ∙ ap (λ (l : List ℕ). l ++ 35 ∷ []) (sym (text-append lines (line ∷ []))))

-- what is staged, with an open gate in front and without its closed gate
pub text_staged : (lines : List (List ℕ)) (bytes : List ℕ) (n : ℕ) → bytes ≡ behind lines → 0 < length bytes → n ≡ length bytes - 1 → 32 ∷ take n bytes ≡ text lines
text_staged [] bytes n is some at = absurd (omega (arith, some, ap length is))
text_staged (line ∷ lines) bytes n is some at =
    ap (λ (l : List ℕ). 32 ∷ take n l) is ∙ ap (λ (l : List ℕ). 32 ∷ l) (popped line lines n (at ∙ ap (λ (l : List ℕ). length l - 1) is))

-- ---- what may be staged

-- a line that is told
pub told_put : (line : List ℕ) → IsTold line → IsPutLine line
told_put [] is = record { one = is.one; no_seal = refl; no_beginning = refl }
told_put (first ∷ rest) is = record {
  one = is.one;
  no_seal = no_seal first rest is.said;
  no_beginning = ap (λ (b : Bool). if b && bytes_eq (take 1 rest) (35 ∷ []) then Some (drop 1 rest) else None) is.said;
}
  where
    no_seal : (first : ℕ) (rest : List ℕ) → (first == 35) ≡ false → has_seal_form (first ∷ rest) ≡ false
    no_seal first [] other = refl
    no_seal first (space ∷ digits) other = ap (λ (b : Bool). b && (space == 32) && is_ok (decode_sized digits 8)) other

-- a note, which is not told
pub note_put : (line : List ℕ) → IsNote line → IsPutLine line
note_put line is = record { one = is.one; no_seal = is.no_seal; no_beginning = is.no_beginning }

pub are_inner : (lines : List (List ℕ)) → All IsPutLine lines → All Inner lines
are_inner lines are = All-weaker IsPutLine Inner (λ line is. is.no_seal) lines are

-- one line more may be staged
pub put_more : (lines more : List (List ℕ)) (line : List ℕ) → more ≡ lines ++ line ∷ [] → All IsPutLine lines → IsPutLine line → All IsPutLine more
put_more lines more line adds are is = subst (All IsPutLine) (sym adds) (All-snoc IsPutLine lines line are is)

-- ---- one line more

-- A line is staged behind others, or as the first.
module _ (old mid new line : List ℕ) (waiting : old ≡ behind (staged_in old))
    (none : length old ≡ 0 → mid ≡ [])
    (some : 0 < length old → mid ≡ take (length old - 1) old ++ 32 ∷ [])
    (adds : new ≡ ((mid ++ line) ++ 10 ∷ []) ++ 35 ∷ []) where
  by_lines : (lines : List (List ℕ)) → old ≡ behind lines → new ≡ behind (lines ++ line ∷ [])
  by_lines [] is = adds ∙ ap (λ (l : List ℕ). ((l ++ line) ++ 10 ∷ []) ++ 35 ∷ []) (none (ap length is)) ∙ first_staged line
  by_lines (first ∷ lines) is =
      let long : 0 < length old = omega (arith, ap length is, length-append first (10 ∷ at_rest lines)) in
      let at : take (length old - 1) old ≡ unfinished_behind first lines =
      ap (λ (l : List ℕ). take (length old - 1) l) is ∙ popped first lines (length old - 1) (ap (λ (l : List ℕ). length l - 1) is) in
      adds
      ∙ ap (λ (l : List ℕ). ((l ++ line) ++ 10 ∷ []) ++ 35 ∷ []) (some long ∙ ap (λ (l : List ℕ). l ++ 32 ∷ []) at)
      ∙ next_staged first lines line

  is_behind : new ≡ behind (staged_in old ++ line ∷ [])
  is_behind = by_lines (staged_in old) waiting

  pub is_staged : IsLine line → staged_in new ≡ staged_in old ++ line ∷ []
  is_staged form =
      ap staged_in is_behind
      ∙ staged-behind (staged_in old ++ line ∷ []) (All-append IsLine (staged_in old) (line ∷ []) (are_lines (32 ∷ old)) (All-cons IsLine line [] form (All-nil IsLine)))

  pub still_waits : IsLine line → new ≡ behind (staged_in new)
  still_waits form = is_behind ∙ ap behind (sym (is_staged form))
