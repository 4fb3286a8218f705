-- Lemmas on lines that tell a record, one after the other.
use Rattle.std.proofs.Common.{◌≡◌, ℕ, zero, suc, ◌≤◌, arith, List, [], ◌∷◌, ◌++◌, length, take, Some, refl, sym, ap, ◌∙◌, subst, append-nil, append_assoc}
use Rattle.std.proofs.lemmas.Option.{none-some, same_Some}
use Rattle.std.specs.Prelude.{slice_get, replicate}
use Rattle.rbc_journal.specs.Journal.{recovered}
use Rattle.rbc_journal.specs.declared.journal.Journal.{Journal}
use Rattle.rbc_journaled.proofs.TellingLemmas.{as_many}
use Rattle.rbc_journaled.specs.Adds.{Adds}
use Rattle.rbc_journaled.specs.Journaled.{IsKept}
use Rattle.rbc_sessions.specs.Records.{begin_of, HistoryOnTrack}
use Rattle.rbc_journaled.specs.Tells.{Tells}
use Rattle.rbc_model.specs.Histories.{Entry}
use Rattle.rbc_group_commit.specs.Told.{AreTold}
use Rattle.rbc_journaled.specs.Entries.{TellsEntry}

module _ (adds : List Entry → List ℕ → Entry → Type 0) where
  -- each line adds the entry at its place behind those before it
  by_place : (before : List Entry) (lines : List (List ℕ)) (entries : List Entry) → Tells adds before lines entries → (place : ℕ) (line : List ℕ) → slice_get lines place ≡ Some line
      → (entry : Entry) × (slice_get entries place ≡ Some entry) × adds (before ++ take place entries) line entry
  by_place before [] entries told place line here = absurd (none-some line here)
  by_place before (first ∷ lines) entries told zero line here =
      let e = told.0 in (
        e,
        subst (λ (l : List Entry). slice_get l 0 ≡ Some e) (sym told.2) refl,
        subst (λ (l : List Entry). adds (before ++ take 0 l) line e) (sym told.2)
            (subst (λ (b : List Entry). adds b line e) (sym (append-nil before)) (subst (λ (l : List ℕ). adds before l e) (same_Some first line here) told.3)),
      )
  by_place before (first ∷ lines) entries told (suc place) line here =
      let e = told.0 in
      let rest = told.1 in
      let next = by_place (before ++ e ∷ []) lines rest told.4 place line here in (
        next.0,
        subst (λ (l : List Entry). slice_get l (suc place) ≡ Some next.0) (sym told.2) next.1,
        subst (λ (l : List Entry). adds (before ++ take (suc place) l) line next.0) (sym told.2)
            (subst (λ (b : List Entry). adds b line next.0) (append_assoc before (e ∷ []) (take place rest)) next.2),
      )

-- lines that tell a record tell its entries, each at its place
pub are_told : (history : HistoryOnTrack) (lines : List (List ℕ)) → Tells (Adds (begin_of history)) [] lines history.entries → AreTold (TellsEntry history) lines
are_told history lines told = λ place line here.
    let found = by_place (Adds (begin_of history)) [] lines history.entries told place line here in
    record { entry = found.0; stands = found.1; adds = found.2 }

module _ {D : Type 0} (seen : D → List ℕ) (may_leave : D → List ℕ → Type 0) (history : HistoryOnTrack) (journal : Journal D) (kept : IsKept seen may_leave history journal) where
  -- what was told of the record is told by the file's lines
  pub told_at_opening : (told : HistoryOnTrack) → told ≡ history → AreTold (TellsEntry told) (recovered (seen journal.device))
  told_at_opening told same =
      subst (λ (h : HistoryOnTrack). AreTold (TellsEntry h) (recovered (seen journal.device))) (sym same) (are_told history (recovered (seen journal.device)) kept.told)

  -- there are as many lines as entries
  pub as_many_lines : length (recovered (seen journal.device)) ≡ length history.entries
  as_many_lines = as_many (Adds (begin_of history)) [] (recovered (seen journal.device)) history.entries kept.told

  -- also by another name of the record
  pub as_many_opened : (opened : HistoryOnTrack) → history ≡ opened → length (recovered (seen journal.device)) ≡ length opened.entries
  as_many_opened opened same = as_many_lines ∙ ap (λ (h : HistoryOnTrack). length h.entries) same

-- ---- the seats of a new desk

some_is_none : {A : Type 0} (x : A) (xs : List A) → x ∷ xs ≡ [] → ⊥
some_is_none x xs e = cc

pub first_of_all : {A : Type 0} (count : ℕ) (one first : A) (rest : List A) → first ∷ rest ≡ replicate count one → first ≡ one
first_of_all zero one first rest is = absurd (some_is_none first rest is)
first_of_all (suc count) one first rest is = cc

pub none_of_some : {A : Type 0} (count : ℕ) (one : A) → 1 ≤ count → [] ≡ replicate count one → ⊥
none_of_some zero one some is = omega (arith, some)
none_of_some (suc count) one some is = cc
