-- The lines of a journal's text are entered one by one, and its notes compared.
use Rattle.std.proofs.Common.{◌≡◌, ℕ, Bool, true, false, cond, List, [], ◌∷◌, ◌++◌, length, Some, refl, sym, ap, ◌∙◌, subst}
use Rattle.std.specs.Prelude.{not}
use Rattle.std.proofs.lemmas.List.{append-nil, append_assoc}
use Rattle.std.proofs.lemmas.List.Elements.{filter-append}
use Rattle.std.proofs.lemmas.Option.{none-some}
use Rattle.rbc_journal.specs.Gates.{counted}
use Rattle.rbc_journal.specs.Journal.{told_of}
use Rattle.rbc_journal.specs.Seals.{is_comment}
use Rattle.rbc_model.specs.Histories.{Beginning}
use Rattle.rbc_sessions.specs.Records.{begin_of, HistoryOnTrack}
use Rattle.rbc_journaled.specs.Adds.{Adds}
use Rattle.rbc_journaled.specs.Notes.{is_note, note_behind, AreTrue, DiffersFirst, Enters}
use Rattle.rbc_journaled.specs.Tells.{Tells}
use Rattle.rbc_journaled.proofs.NoteLemmas.{true_behind_comment, true_behind_line}
use Rattle.rbc_journaled.proofs.TellingLemmas.{as_many, one_more}

-- the lines of a text before its rest were entered, and their notes are true
pub record IsReplayed (begin : Beginning) (text rest : List ℕ) (history : HistoryOnTrack) : Type 0 where
  pub front : List (List ℕ)
  pub split : counted text ≡ front ++ counted rest
  pub begins : begin_of history ≡ begin
  pub told : Tells (Adds begin) [] (told_of front) history.entries
  pub are_true : AreTrue front history.entries

pub nothing_replayed : (history : HistoryOnTrack) (text : List ℕ) → history.entries ≡ [] → IsReplayed (begin_of history) text text history
nothing_replayed history text none = record {
  front = [];
  split = refl;
  begins = refl;
  told = none;
  are_true = λ at line here. absurd (none-some line here);
}

told_more : (front : List (List ℕ)) (line : List ℕ) (b : Bool) → is_comment line ≡ b → told_of (front ++ line ∷ []) ≡ told_of front ++ cond (not b) (line ∷ []) []
told_more front line b is =
    filter-append (λ l. not (is_comment l)) front (line ∷ []) ∙ ap (λ (c : Bool). told_of front ++ cond (not c) (line ∷ []) []) is

module _ (begin : Beginning) (before after : HistoryOnTrack) (text rest further line : List ℕ) (reads : counted rest ≡ line ∷ counted further) (so_far : IsReplayed begin text rest before) where
  split_on : counted text ≡ (so_far.front ++ line ∷ []) ++ counted further
  split_on = so_far.split ∙ ap (λ (lines : List (List ℕ)). so_far.front ++ lines) reads ∙ sym (append_assoc so_far.front (line ∷ []) (counted further))

  many : length (told_of so_far.front) ≡ length before.entries
  many = as_many (Adds begin) [] (told_of so_far.front) before.entries so_far.told

  by_line : (b : Bool) → is_comment line ≡ b → Enters b before line after → IsReplayed begin text further after
  by_line true comment (same, is_true) =
      subst (λ (h : HistoryOnTrack). IsReplayed begin text further h) (sym same)
      (record {
        front = so_far.front ++ line ∷ [];
        split = split_on;
        begins = so_far.begins;
        told = subst (λ (ls : List (List ℕ)). Tells (Adds begin) [] ls before.entries) (sym (told_more so_far.front line true comment ∙ append-nil (told_of so_far.front))) so_far.told;
        are_true = true_behind_comment so_far.front before.entries many so_far.are_true line is_true;
      })
  by_line false said (entry, adds, is) =
      let added = subst (λ b. Adds b before.entries line entry) so_far.begins adds in
      subst (λ (h : HistoryOnTrack). IsReplayed begin text further h) (sym is)
      (record {
        front = so_far.front ++ line ∷ [];
        split = split_on;
        begins = so_far.begins;
        told = subst (λ (ls : List (List ℕ)). Tells (Adds begin) [] ls (before.entries ++ entry ∷ [])) (sym (told_more so_far.front line false said))
            (one_more (Adds begin) [] (told_of so_far.front) before.entries line entry so_far.told added);
        are_true = true_behind_line so_far.front before.entries many so_far.are_true line entry said;
      })

  -- one line more
  pub replayed_on : Enters (is_comment line) before line after → IsReplayed begin text further after
  replayed_on enters = by_line (is_comment line) refl enters

  -- a note that is not true
  pub differs_here : (count : ℕ) → count ≡ length before.entries → is_note line ≡ true → (note_behind before.entries ≡ Some line → ⊥) → DiffersFirst begin (counted text) count before.entries
  differs_here count is noted differs = record {
    front = so_far.front;
    note = line;
    back = counted further;
    split = so_far.split ∙ ap (λ (lines : List (List ℕ)). so_far.front ++ lines) reads;
    told = so_far.told;
    many = is ∙ sym many;
    are_true = so_far.are_true;
    one = noted;
    differs = differs;
  }

-- all lines were entered
module _ (begin : Beginning) (history : HistoryOnTrack) (text rest : List ℕ) (none : counted rest ≡ []) (replayed : IsReplayed begin text rest history) where
  all_lines : counted text ≡ replayed.front
  all_lines = replayed.split ∙ ap (λ (lines : List (List ℕ)). replayed.front ++ lines) none ∙ append-nil replayed.front

  pub all_told : Tells (Adds begin) [] (told_of (counted text)) history.entries
  all_told = subst (λ (lines : List (List ℕ)). Tells (Adds begin) [] (told_of lines) history.entries) (sym all_lines) replayed.told

  pub all_true : AreTrue (counted text) history.entries
  all_true = subst (λ (lines : List (List ℕ)). AreTrue lines history.entries) (sym all_lines) replayed.are_true
