-- A commit, device call by device call.
use Rattle.std.proofs.Common.{◌≡◌, inl, ℕ, ◌+◌, List, [], ◌∷◌, ◌++◌, length, ◌∙◌, ap, subst}
use Rattle.rbc_journal.specs.Device.{Holds, Torn, Follows, Only, Elapses, LeavesOnly}
use Rattle.rbc_journal.specs.Gates.{counted, at_rest, staged_in, CountsBeforeOrAfter}
use Rattle.rbc_journal.specs.Settled.{Waits}
use Rattle.rbc_journal.proofs.LineLemmas.{are_lines}
use Rattle.rbc_journal.proofs.MomentLemmas.{started, goes_on}
use Rattle.rbc_journal.proofs.CrashLemmas.{with_behind, written_behind, written_gate, stage_crash, gate_crash}

module _ {D : Type 0} (seen : D → List ℕ) (may_leave : D → List ℕ → Type 0) (moment : D → ℕ) (left_since : D → ℕ → List ℕ → Type 0)
    (only_now : (file : D) (c : List ℕ) → left_since file (moment file) c → may_leave file c)
    (old : D) (gate : ℕ) (bytes : List ℕ) (waits : Waits seen may_leave old gate bytes) where
  abbrev lines : List (List ℕ)
  lines = counted (seen old)

  abbrev more : List (List ℕ)
  more = staged_in bytes

  abbrev P : List ℕ → Type 0
  P = CountsBeforeOrAfter lines more

  abbrev Goes : D → D → Type 0
  Goes one other = Elapses (moment one) (moment other) (left_since one) (left_since other) (may_leave other)

  at_start : LeavesOnly moment left_since old old P
  at_start = started moment left_since old P (λ c left. inl (ap counted (waits.durable c (only_now old c left))))

  -- the first write leaves the lines as they were
  module _ (written : D) (tears : Follows (Torn (gate + 1) (length bytes)) (may_leave old) (may_leave written)) (goes : Goes old written) where
    first : (c : List ℕ) → may_leave written c → P c
    first c left = inl (stage_crash lines gate waits.at (are_lines (seen old)) (length bytes) _ _ (subst (λ f. Only f (may_leave old)) waits.file waits.durable) tears c left)

    pub after_write : LeavesOnly moment left_since old written P
    after_write = goes_on moment left_since old old written P _ at_start goes first

    module _ (kept : D) (stays : (c : List ℕ) → may_leave kept c → may_leave written c) (on : Goes written kept) where
      pub after_sync : LeavesOnly moment left_since old kept P
      after_sync = goes_on moment left_since old written kept P _ after_write on (λ c left. first c (stays c left))

      -- the second leaves them with the new ones or without
      module _ (holds : Holds (seen old) (gate + 1) bytes (seen written)) (same : seen kept ≡ seen written) (durable : Only (seen written) (may_leave kept)) where
        is_behind : seen written ≡ with_behind lines bytes
        is_behind = written_behind lines gate waits.at (are_lines (seen old)) bytes (seen written) (subst (λ f. Holds f (gate + 1) bytes (seen written)) waits.file holds)

        module _ (opened : D) (tears_gate : Follows (Torn gate 1) (may_leave kept) (may_leave opened)) (further : Goes kept opened) where
          second : (c : List ℕ) → may_leave opened c → P c
          second c left =
              gate_crash lines gate waits.at (are_lines (seen old)) more bytes waits.waiting waits.some (are_lines (32 ∷ bytes)) _ _
              (subst (λ f. Only f (may_leave kept)) is_behind durable) tears_gate c left

          pub after_gate : LeavesOnly moment left_since old opened P
          after_gate = goes_on moment left_since old kept opened P _ after_sync further second

          pub after_all : (new : D) → ((c : List ℕ) → may_leave new c → may_leave opened c) → Goes opened new → LeavesOnly moment left_since old new P
          after_all new stays_open end = goes_on moment left_since old opened new P _ after_gate end (λ c left. second c (stays_open c left))

          is_at_rest : Holds (seen kept) gate (32 ∷ []) (seen opened) → seen opened ≡ at_rest (lines ++ more)
          is_at_rest opens =
              written_gate lines gate waits.at (are_lines (seen old)) more bytes waits.waiting waits.some (are_lines (32 ∷ bytes)) (seen opened)
              (subst (λ f. Holds f gate (32 ∷ []) (seen opened)) (same ∙ is_behind) opens)

          pub ends_at_rest : (new : D) → seen new ≡ seen opened → Holds (seen kept) gate (32 ∷ []) (seen opened) → seen new ≡ at_rest (lines ++ more)
          ends_at_rest new unchanged opens = unchanged ∙ is_at_rest opens
