-- A journal after a commit.
use Rattle.std.proofs.Common.{◌≡◌, inl, inr, ⊎_elim, ℕ, ◌+◌, ◌-◌, ◌^◌, ◌<◌, ◌≤◌, List, [], ◌∷◌, ◌++◌, length, take, All, Result, Ok, Err, refl, sym, ◌∙◌, ap, subst, arith, length-append, vec_len}
use Rattle.std.proofs.lemmas.List.Elements.{All-append, All-nil}
use Rattle.std.specs.Result.{OnOk}
use Rattle.rbc_journal.specs.Device.{Only}
use Rattle.rbc_journal.specs.Gates.{counted, text, at_rest, behind, staged_in, IsLine, CountsBeforeOrAfter}
use Rattle.rbc_journal.specs.Journal.{recovered, IsPutLine, IsBeforeOrAfter}
use Rattle.rbc_journal.specs.Puts.{with_its_seal}
use Rattle.rbc_journal.specs.Seals.{AreSealed, seal_line, seal_of, seal_of_bytes}
use Rattle.rbc_journal.specs.Settled.{IsSettled, staged_lines, staged}
use Rattle.rbc_journal.specs.declared.journal.Journal.{Journal}
use Rattle.rbc_journal.proofs.ChainLemmas.{stands_for_both, stands_for_first, still_sealed}
use Rattle.rbc_journal.proofs.CrashLemmas.{all_open}
use Rattle.rbc_journal.proofs.LineLemmas.{are_lines, counted-at_rest}
use Rattle.rbc_journal.proofs.StagingLemmas.{text_staged, are_inner}

pub on_ok : {T E P : Type 0} (r : Result T E) → P → OnOk r P
on_ok (Ok x) p = p
on_ok (Err e) p = tt

-- the seal of what is staged, by its bytes
module _ {D : Type 0} (old : Journal D) (bytes seal : List ℕ) (n : ℕ) (waiting : old.pending.items ≡ behind (staged_lines old)) (same : bytes ≡ old.pending.items)
    (some : 0 < length bytes) (at : n ≡ length bytes - 1) (is : seal ≡ seal_of_bytes old.seal (32 ∷ take n bytes)) where
  pub seal_is : seal ≡ seal_of old.seal (staged_lines old)
  seal_is = is ∙ ap (seal_of_bytes old.seal) (text_staged (staged_lines old) bytes n (same ∙ waiting) some at)

  pub pushed_is : (pushed line : List ℕ) → staged_in pushed ≡ staged_lines old ++ line ∷ [] → line ≡ seal_line seal → staged_in pushed ≡ with_its_seal old.seal (staged_lines old)
  pushed_is pushed line adds line_is = adds ∙ ap (λ (l : List ℕ). staged_lines old ++ l ∷ []) (line_is ∙ ap seal_line seal_is)

-- The lines that are staged, and their seal, are written behind those in the file.
module _ {D : Type 0} (seen : D → List ℕ) (may_leave : D → List ℕ → Type 0) (old : Journal D) (bytes : List ℕ)
    (was : IsSettled seen may_leave old)
    (are : staged_in bytes ≡ with_its_seal old.seal (staged_lines old)) where
  abbrev lines : List (List ℕ)
  lines = counted (seen old.device)

  abbrev more : List (List ℕ)
  more = staged_in bytes

  pub both_told : (file : List ℕ) → counted file ≡ lines ++ more → recovered file ≡ recovered (seen old.device) ++ staged old
  both_told file is =
      stands_for_both lines (staged_lines old) old.seal was.are_sealed (are_inner (staged_lines old) was.put) file (is ∙ ap (λ (ls : List (List ℕ)). lines ++ ls) are)
      ∙ ap (λ (ls : List (List ℕ)). ls ++ staged old) (sym (stands_for_first (seen old.device) lines old.seal was.are_sealed refl))

  pub first_told : (file : List ℕ) → counted file ≡ lines → recovered file ≡ recovered (seen old.device)
  first_told file is = stands_for_first file lines old.seal was.are_sealed is ∙ sym (stands_for_first (seen old.device) lines old.seal was.are_sealed refl)

  pub before_or_after : (file : List ℕ) → CountsBeforeOrAfter lines more file → IsBeforeOrAfter (recovered (seen old.device)) (staged old) file
  before_or_after file is = ⊎_elim (λ first. inl (first_told file first)) (λ both. inr (both_told file both)) is

  module _ (new : Journal D) (is : seen new.device ≡ at_rest (lines ++ more)) where
    lines_are : All IsLine (lines ++ more)
    lines_are = All-append IsLine lines more (are_lines (seen old.device)) (are_lines (32 ∷ bytes))

    pub all_there : counted (seen new.device) ≡ lines ++ more
    all_there = ap counted is ∙ counted-at_rest (lines ++ more) lines_are

    pub all_written : counted (seen new.device) ≡ lines ++ with_its_seal old.seal (staged_lines old)
    all_written = all_there ∙ ap (λ (ls : List (List ℕ)). lines ++ ls) are

    sealed_now : new.seal ≡ seal_of old.seal (staged_lines old) → AreSealed (counted (seen new.device)) new.seal
    sealed_now seal = subst (λ (s : List ℕ). AreSealed (counted (seen new.device)) s) (sym seal)
        (subst (λ (ls : List (List ℕ)). AreSealed ls (seal_of old.seal (staged_lines old))) (sym all_written)
        (still_sealed lines (staged_lines old) old.seal was.are_sealed (are_inner (staged_lines old) was.put)))

    pub is_settled : Only (seen new.device) (may_leave new.device) → bytes ≡ behind more → 0 < length bytes → new.gate ≡ old.gate + length bytes
        → new.gate ≤ 2 ^ 60 → new.pending.items ≡ [] → vec_len new.pending ≡ 0 → new.seal ≡ seal_of old.seal (staged_lines old) → IsSettled seen may_leave new
    is_settled durable waits some gate fits none zero seal =
        let open_all = ap length (all_open lines more bytes waits some) in
        let at_gate : new.gate ≡ length (text (lines ++ more)) =
        omega (arith, gate, was.gate, open_all, length-append (text lines) (32 ∷ bytes), length-append (text (lines ++ more)) (35 ∷ [])) in
        record {
          file = is ∙ ap at_rest (sym all_there);
          are_sealed = sealed_now seal;
          gate = at_gate ∙ ap (λ (ls : List (List ℕ)). length (text ls)) (sym all_there);
          durable = durable;
          waiting = subst (λ (l : List ℕ). l ≡ behind (staged_in l)) (sym none) refl;
          put = subst (λ (l : List ℕ). All IsPutLine (staged_in l)) (sym none) (All-nil IsPutLine);
          fits = omega (arith, fits, zero);
          seal_fits = λ some. absurd (omega (arith, some, ap length none));
        }

pub none_staged : (pending : List ℕ) → pending ≡ [] → staged_in pending ≡ []
none_staged pending none = ap staged_in none
