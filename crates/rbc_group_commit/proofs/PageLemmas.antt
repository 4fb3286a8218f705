-- Lemmas on the journal that is written for many.
use Rattle.std.proofs.Common.{◌≡◌, ℕ, ◌≤◌, ◌+◌, ⊎_elim, List, [], ◌∷◌, ◌++◌, length, sym, ap, ◌∙◌, subst, arith, length-append, append-nil, append_assoc, Some}
use Rattle.std.specs.Prelude.{slice_get}
use Rattle.rbc_journal.specs.Device.{LeavesOnly}
use Rattle.rbc_journal.specs.Journal.{recovered, IsBeforeOrAfter}
use Rattle.rbc_journal.specs.Settled.{IsSettled, staged}
use Rattle.rbc_journal.specs.declared.journal.Journal.{Journal}
use Rattle.rbc_group_commit.specs.Told.{AreTold, HasLines}
use Rattle.rbc_group_commit.specs.Stamps.{stamp_of, Lasts, EachLasts}
use Rattle.rbc_group_commit.specs.Pages.{IsWhole, AllLast}
use Rattle.rbc_group_commit.specs.declared.stamp.Stamp.{Stamp}
use mathlib.Core.List.{IsPrefix}
use Rattle.rbc_group_commit.proofs.FileLemmas.{by_place, front_get, told_front, before_or_after}

module _ {D : Type 0} (seen : D → List ℕ) (may_leave : D → List ℕ → Type 0) where
  -- a line more is staged
  pub taken : (tells known : ℕ → List ℕ → Type 0) (old new : Journal D) (lines next place : ℕ) (text : List ℕ)
      → ((k : ℕ) (l : List ℕ) → tells k l → known k l) → IsWhole seen may_leave tells old lines next
      → IsSettled seen may_leave new → new.device ≡ old.device → staged new ≡ staged old ++ text ∷ [] → place ≡ next → known place text
      → IsWhole seen may_leave known new lines (place + 1)
  taken tells known old new lines next place text learns was settled same more at here =
      let front = recovered (seen old.device) in
      let all = front ++ staged old in
      let is : recovered (seen new.device) ++ staged new ≡ all ++ text ∷ [] =
      ap (λ (d : D). recovered (seen d) ++ staged new) same ∙ ap (λ (l : List (List ℕ)). front ++ l) more ∙ sym (append_assoc front (staged old) (text ∷ [])) in
      let count : place ≡ length all = omega (arith, at, was.counts_staged, was.count, length-append front (staged old)) in
      record {
        settled = settled;
        count = was.count ∙ ap (λ (d : D). length (recovered (seen d))) (sym same);
        counts_staged = omega (arith, at, was.counts_staged, ap length more, length-append (staged old) (text ∷ []));
        told = subst (AreTold known) (sym is) (by_place known all text (λ k l here. learns k l (was.told k l here)) (subst (λ n. known n text) count here));
      }

  -- there is more room, and all else stays
  pub roomed : (tells : ℕ → List ℕ → Type 0) (old new : Journal D) (lines next : ℕ) → IsWhole seen may_leave tells old lines next
      → IsSettled seen may_leave new → new.device ≡ old.device → staged new ≡ staged old → IsWhole seen may_leave tells new lines next
  roomed tells old new lines next was settled same staged_same = record {
    settled = settled;
    count = was.count ∙ ap (λ (d : D). length (recovered (seen d))) (sym same);
    counts_staged = omega (arith, was.counts_staged, ap length staged_same);
    told = subst (AreTold tells) (ap (λ (d : D). recovered (seen d) ++ staged old) (sym same) ∙ ap (λ (l : List (List ℕ)). recovered (seen new.device) ++ l) (sym staged_same)) was.told;
  }

  -- the staged lines are on the disk
  pub committed : (tells : ℕ → List ℕ → Type 0) (old new : Journal D) (lines next : ℕ) → IsWhole seen may_leave tells old lines next
      → IsSettled seen may_leave new → recovered (seen new.device) ≡ recovered (seen old.device) ++ staged old → staged new ≡ []
      → IsWhole seen may_leave tells new next next
  committed tells old new lines next was settled is none =
      let front = recovered (seen old.device) in
      let all : recovered (seen new.device) ++ staged new ≡ front ++ staged old = ap (λ (l : List (List ℕ)). recovered (seen new.device) ++ l) none ∙ append-nil (recovered (seen new.device)) ∙ is in
      record {
        settled = settled;
        count = omega (arith, was.counts_staged, was.count, ap length is, length-append front (staged old));
        counts_staged = omega (arith, ap length none);
        told = subst (AreTold tells) (sym all) was.told;
      }

  module _ (moment : D → ℕ) (left_since : D → ℕ → List ℕ → Type 0) where
    -- what is known grows
    pub last_told : (tells known : ℕ → List ℕ → Type 0) (old new : D) (lines : ℕ) (stamps : List Stamp) → ((k : ℕ) (l : List ℕ) → tells k l → known k l) → new ≡ old
        → AllLast moment left_since tells old lines stamps → AllLast moment left_since known new lines stamps
    last_told tells known old new lines stamps learns same all =
        subst (λ (d : D). AllLast moment left_since known d lines stamps) (sym same) (λ place stamp here.
        let one = all place stamp here in
        let lasts = one.1 in (
          one.0,
          record {
            past = lasts.past;
            leaves = λ file left.
                let has = lasts.leaves file left in
                record { enough = has.enough; told = λ k l is. learns k l (has.told k l is) };
          },
        ))

    -- the file was written
    pub last_on : (tells : ℕ → List ℕ → Type 0) (old : Journal D) (new : D) (lines next : ℕ) (stamps : List Stamp) (most : ℕ) → IsWhole seen may_leave tells old lines next → lines ≤ most
        → LeavesOnly moment left_since old.device new (IsBeforeOrAfter (recovered (seen old.device)) (staged old))
        → AllLast moment left_since tells old.device lines stamps → AllLast moment left_since tells new most stamps
    last_on tells old new lines next stamps most was few leaves all = λ place stamp here.
        let one = all place stamp here in
        let lasts = one.1 in (
          omega (arith, one.0, few),
          record {
            past = omega (arith, lasts.past, leaves.later);
            leaves = λ file left. ⊎_elim
                (λ past. lasts.leaves file past)
                (λ now. before_or_after tells (recovered (seen old.device)) (staged old) stamp.lines file was.told (omega (arith, one.0, was.count)) now)
                (leaves.before stamp.moment file lasts.past left);
          },
        )

    module _ (only_now : (file : D) (c : List ℕ) → left_since file (moment file) c → may_leave file c) where
      -- a stamp lasts from its moment on
      pub stamp_lasts : (tells : ℕ → List ℕ → Type 0) (journal : Journal D) → IsSettled seen may_leave journal → AreTold tells (recovered (seen journal.device))
          → Lasts moment left_since tells journal.device (stamp_of seen moment journal)
      stamp_lasts tells journal settled told = record {
        past = omega arith;
        leaves = λ file left.
            let is = settled.durable file (only_now journal.device file left) in
            subst (HasLines tells (length (recovered (seen journal.device)))) (sym is) (record { enough = omega arith; told = told });
      }

      -- one stamp more
      pub stamped : (tells : ℕ → List ℕ → Type 0) (journal : Journal D) (lines : ℕ) (stamps : List Stamp) → IsWhole seen may_leave tells journal lines lines
          → AllLast moment left_since tells journal.device lines stamps → AllLast moment left_since tells journal.device lines (stamps ++ stamp_of seen moment journal ∷ [])
      stamped tells journal lines stamps is all =
          by_place (λ _ stamp. (stamp.lines ≤ lines) × Lasts moment left_since tells journal.device stamp) stamps (stamp_of seen moment journal) all
          (omega (arith, is.count), stamp_lasts tells journal is.settled (told_front tells (recovered (seen journal.device)) (staged journal) is.told))

-- of all stamps that last the first ones do
pub given_last : {D : Type 0} (moment : D → ℕ) (left_since : D → ℕ → List ℕ → Type 0) (tells : ℕ → List ℕ → Type 0) (device : D) (lines : ℕ) (given stamps : List Stamp)
    → IsPrefix given stamps → AllLast moment left_since tells device lines stamps → EachLasts moment left_since tells device given
given_last moment left_since tells device lines given stamps p all = λ at stamp here.
    let one = all at stamp (subst (λ (l : List Stamp). slice_get l at ≡ Some stamp) p.1 (front_get given p.0 at stamp here)) in
    one.1
