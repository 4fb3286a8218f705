-- What a crash leaves in each of the two steps of a commit.
use Rattle.std.proofs.Common.{◌≡◌, inl, inr, ℕ, ◌+◌, ◌<◌, List, [], ◌∷◌, ◌++◌, length, All, get_or, take, drop, sym, ◌∙◌, ap, subst, arith, append_assoc, length-append, take-append-drop}
use Rattle.std.proofs.lemmas.Bool.{cases_eq}
use Rattle.std.proofs.lemmas.List.{take_at, drop_at, drop_more, take_all, drop_all, append-nil}
use Rattle.std.proofs.lemmas.List.Elements.{All-append}
use Rattle.rbc_journal.specs.Device.{Holds, Torn, Follows, Only}
use Rattle.rbc_journal.specs.Gates.{counted, text, at_rest, behind, IsLine, CountsBeforeOrAfter}
use Rattle.rbc_journal.proofs.LineLemmas.{text-append, stands_for, closed, counted-at_rest}

-- the file with bytes behind its closed gate
abbrev pub with_behind : List (List ℕ) → List ℕ → List ℕ
with_behind lines bytes = text lines ++ 35 ∷ bytes

-- of lines, at least one: with the gate in front they are a file at rest
pub gate_behind : (line : List ℕ) (more : List (List ℕ)) → 32 ∷ behind (line ∷ more) ≡ at_rest (line ∷ more)
gate_behind line more = ap (λ (l : List ℕ). 32 ∷ l) (sym (append_assoc line (10 ∷ text more) (35 ∷ [])))

at_rest-append : (lines more : List (List ℕ)) → text lines ++ at_rest more ≡ at_rest (lines ++ more)
at_rest-append lines more = sym (append_assoc (text lines) (text more) (35 ∷ [])) ∙ ap (λ (l : List ℕ). l ++ 35 ∷ []) (sym (text-append lines more))

-- a file whose last lines stand behind an open gate, at least one
pub all_open : (lines more : List (List ℕ)) (bytes : List ℕ) → bytes ≡ behind more → 0 < length bytes → text lines ++ 32 ∷ bytes ≡ at_rest (lines ++ more)
all_open lines [] bytes is some = absurd (omega (arith, some, ap length is))
all_open lines (line ∷ more) bytes is some =
    ap (λ (l : List ℕ). text lines ++ 32 ∷ l) is ∙ ap (λ (l : List ℕ). text lines ++ l) (gate_behind line more) ∙ at_rest-append lines (line ∷ more)

module _ (lines : List (List ℕ)) (gate : ℕ) (at : gate ≡ length (text lines)) (are : All IsLine lines) where
  pub length-at_rest : length (at_rest lines) ≡ gate + 1
  length-at_rest = omega (arith, at, length-append (text lines) (35 ∷ []))

  -- the closed gate stands in each outcome of the first write
  torn_behind : (n : ℕ) (c : List ℕ) → Torn (gate + 1) n (at_rest lines) c → counted c ≡ lines
  torn_behind n c torn =
      let front : take (gate + 1) c ≡ at_rest lines = torn.before ∙ take_all _ _ (omega (arith, length-at_rest)) in
      let whole : c ≡ text lines ++ 35 ∷ drop (gate + 1) c =
      sym (take-append-drop (gate + 1) c) ∙ ap (λ (l : List ℕ). l ++ drop (gate + 1) c) front ∙ append_assoc (text lines) (35 ∷ []) (drop (gate + 1) c) in
      ap counted whole ∙ stands_for lines (35 ∷ drop (gate + 1) c) are (closed 35 (drop (gate + 1) c) (omega arith))

  pub written_behind : (bytes c : List ℕ) → Holds (at_rest lines) (gate + 1) bytes c → c ≡ with_behind lines bytes
  written_behind bytes c holds =
      holds
      ∙ ap (λ (l : List ℕ). l ++ bytes ++ drop (gate + 1 + length bytes) (at_rest lines)) (take_all _ _ (omega (arith, length-at_rest)))
      ∙ ap (λ (l : List ℕ). at_rest lines ++ bytes ++ l) (drop_all (gate + 1 + length bytes) (at_rest lines) (omega (arith, length-at_rest)))
      ∙ append-nil (at_rest lines ++ bytes)
      ∙ append_assoc (text lines) (35 ∷ []) bytes

  pub length-with_behind : (bytes : List ℕ) → length (with_behind lines bytes) ≡ gate + 1 + length bytes
  length-with_behind bytes = omega (arith, at, length-append (text lines) (35 ∷ bytes))

  front_of : (bytes : List ℕ) → take gate (with_behind lines bytes) ≡ text lines
  front_of bytes = take_at (text lines) (35 ∷ bytes) gate (sym at)

  back_of : (bytes : List ℕ) → drop (gate + 1) (with_behind lines bytes) ≡ bytes
  back_of bytes =
      ap (λ (l : List ℕ). drop (gate + 1) l) (sym (append_assoc (text lines) (35 ∷ []) bytes)) ∙ drop_at (at_rest lines) bytes (gate + 1) length-at_rest

  module _ (more : List (List ℕ)) (bytes : List ℕ) (is : bytes ≡ behind more) (some : 0 < length bytes) (are_more : All IsLine more) where
    counted_gate : (byte : ℕ) → CountsBeforeOrAfter lines more (text lines ++ byte ∷ bytes)
    counted_gate byte = elim (cases_eq byte 32) [
      | inl is_open ↦ inr (ap (λ (b : ℕ). counted (text lines ++ b ∷ bytes)) is_open ∙ ap counted (all_open lines more bytes is some) ∙ counted-at_rest (lines ++ more) (All-append IsLine lines more are are_more))
      | inr shut ↦ inl (stands_for lines (byte ∷ bytes) are (closed byte bytes shut))
    ]

    -- the staged bytes stand whole in each outcome of the second write
    torn_gate : (c : List ℕ) → Torn gate 1 (with_behind lines bytes) c → CountsBeforeOrAfter lines more c
    torn_gate c torn =
        let long = length-with_behind bytes in
        let byte = get_or c gate 0 in
        let back : drop gate c ≡ byte ∷ bytes =
        drop_more c gate 0 (omega (arith, torn.no_shorter, long)) ∙ ap (λ (l : List ℕ). byte ∷ l) (torn.after ∙ back_of bytes) in
        let whole : c ≡ text lines ++ byte ∷ bytes =
        sym (take-append-drop gate c) ∙ ap (λ (l : List ℕ). l ++ drop gate c) (torn.before ∙ front_of bytes) ∙ ap (λ (l : List ℕ). text lines ++ l) back in
        subst (CountsBeforeOrAfter lines more) (sym whole) (counted_gate byte)

    pub written_gate : (c : List ℕ) → Holds (with_behind lines bytes) gate (32 ∷ []) c → c ≡ at_rest (lines ++ more)
    written_gate c holds =
        holds
        ∙ ap (λ (l : List ℕ). l ++ (32 ∷ []) ++ drop (gate + 1) (with_behind lines bytes)) (front_of bytes)
        ∙ ap (λ (l : List ℕ). text lines ++ (32 ∷ []) ++ l) (back_of bytes)
        ∙ append_assoc (text lines) (32 ∷ []) bytes
        ∙ all_open lines more bytes is some

    pub gate_crash : (old new : List ℕ → Type 0) → Only (with_behind lines bytes) old → Follows (Torn gate 1) old new → (c : List ℕ) → new c → CountsBeforeOrAfter lines more c
    gate_crash old new only follows c left =
        let from = follows c left in
        torn_gate c (subst (λ f. Torn gate 1 f c) (only from.0 from.1) from.2)

  pub stage_crash : (n : ℕ) (old new : List ℕ → Type 0) → Only (at_rest lines) old → Follows (Torn (gate + 1) n) old new → (c : List ℕ) → new c → counted c ≡ lines
  stage_crash n old new only follows c left =
      let from = follows c left in
      torn_behind n c (subst (λ f. Torn (gate + 1) n f c) (only from.0 from.1) from.2)
