-- A talk over a record, turn by turn.
use Rattle.std.proofs.Common.{◌≡◌, ℕ, zero, suc, List, [], ◌∷◌, ◌++◌, length, take, Option, Some, Result, refl, sym, ap, ◌∙◌, subst, append_assoc, append-nil}
use Rattle.std.specs.Prelude.{slice_get, ◌≤◌}
use Rattle.std.proofs.lemmas.List.{length-map}
use Rattle.rbc_model.specs.declared.limits.TheConstants.{LONGEST_LINE, MOST_LINES}
use Rattle.rbc_model.specs.declared.sessions.SessionFault.{SessionFault}
use Rattle.rbc_model.specs.Talks.{Answered, IsTalk, Ends}
use Rattle.rbc_model.specs.Histories.{Beginning, Entry}
use Rattle.rbc_sweep.specs.Records.{begin_of, HistoryOnTrack}
use Rattle.rbc_session_laws.specs.Turns.{AnswersLine}
use Rattle.rbc_session_laws.specs.SessionRuns.{Turn, entries_of, entries_added, lines_treated, replies_to, IsSession}
use Rattle.rbc_sessions.specs.Changes.{with_added, Goes}

-- each turn is right after the entries of those before it
abbrev pub AreRight : Beginning → List Entry → List Turn → Type 0
AreRight begin before turns = (place : ℕ) (turn : Turn) → slice_get turns place ≡ Some turn
    → AnswersLine begin (before ++ entries_added (take place turns)) turn.line turn.reply turn.added

-- one more turn before those that are right after it
one_more : (begin : Beginning) (before : List Entry) (turn : Turn) (turns : List Turn) → AnswersLine begin before turn.line turn.reply turn.added
    → AreRight begin (before ++ entries_of turn.added) turns → AreRight begin before (turn ∷ turns)
one_more begin before turn turns first later zero other here =
    subst (λ (t : Turn). AnswersLine begin (before ++ []) t.line t.reply t.added) (let same : turn ≡ other = cc in same)
    (subst (λ entries. AnswersLine begin entries turn.line turn.reply turn.added) (sym (append-nil before)) first)
one_more begin before turn turns first later (suc place) other here =
    subst (λ entries. AnswersLine begin entries other.line other.reply other.added)
    (append_assoc before (entries_of turn.added) (entries_added (take place turns)))
    (later place other here)

-- turns that lead from one history to another
pub record Turned (first last : HistoryOnTrack) (lines : List (List ℕ)) (text : List ℕ) : Type 0 where
  pub turns : List Turn
  pub of_lines : lines_treated turns ≡ lines
  pub said : text ≡ replies_to turns
  pub right : AreRight (begin_of first) first.entries turns
  pub begin : begin_of last ≡ begin_of first
  pub entries : last.entries ≡ first.entries ++ entries_added turns

pub turned : (first last : HistoryOnTrack) (lines : List (List ℕ)) (text : List ℕ) → Answered Goes first lines text last → Turned first last lines text
turned first last [] text (none, same) = record {
  turns = [];
  of_lines = refl;
  said = none;
  right = λ place turn here. cc;
  begin = ap begin_of same;
  entries = ap (λ (h : HistoryOnTrack). h.entries) same ∙ sym (append-nil first.entries);
}
turned first last (line ∷ lines) text (reply, rest, next, (added, right, leads), whole, later) =
    let turn : Turn = record { line = line; reply = reply; added = added } in
    let more = turned (with_added first added) last lines rest (subst (λ h. Answered Goes h lines rest last) leads later) in
    record {
      turns = turn ∷ more.turns;
      of_lines = ap (λ l. line ∷ l) more.of_lines;
      said = whole ∙ ap (λ r. reply ++ r) more.said;
      right = one_more (begin_of first) first.entries turn more.turns right more.right;
      begin = more.begin;
      entries = more.entries ∙ append_assoc first.entries (entries_of added) (entries_added more.turns);
    }

pub session_begin : (first last : HistoryOnTrack) (input : List ℕ) (old new : Option (List ℕ)) (result : Result (Unit {0}) SessionFault)
    → IsTalk LONGEST_LINE Goes first last input old new result → begin_of last ≡ begin_of first
session_begin first last input old new result t = let told = turned first last t.treated t.text t.answered in told.begin

pub session_turns : (first last : HistoryOnTrack) (input : List ℕ) (old new : Option (List ℕ)) (result : Result (Unit {0}) SessionFault)
    → IsTalk LONGEST_LINE Goes first last input old new result → IsSession (begin_of first) first.entries last.entries input old new result
session_turns first last input old new result t =
    let told = turned first last t.treated t.text t.answered in
    record {
      turns = told.turns;
      rest = t.rest;
      lines = t.lines ∙ ap (λ l. l ++ t.rest) (sym told.of_lines);
      few = subst (λ n. n ≤ MOST_LINES) (ap (λ (l : List (List ℕ)). length l) (sym told.of_lines) ∙ length-map _ _) t.few;
      each = told.right;
      entries = told.entries;
      ends = subst (λ l. Ends LONGEST_LINE input old new l t.rest (replies_to told.turns) result) (sym told.of_lines)
          (subst (λ x. Ends LONGEST_LINE input old new t.treated t.rest x result) told.said t.ends);
    }
