-- The turns of a session are the function's, where memory was not refused.
use Rattle.std.proofs.Common.{◌≡◌, ◌≢◌, ℕ, suc, Bool, true, false, List, [], ◌∷◌, ◌++◌, take, Option, Some, refl, ap, ap₂, sym, ◌∙◌, subst, append_assoc, append-nil}
use Rattle.std.specs.Prelude.{slice_get, bytes_eq}
use Rattle.std.specs.List.{AllByRecursion}
use Rattle.std.proofs.lemmas.List.{append_cancel_left}
use Rattle.std.proofs.lemmas.List.Elements.{recursion_from_All}
use Rattle.std.proofs.lemmas.Slice.Eq.{bytes_eq-Decides}
use Rattle.rbc_model.specs.Sessions.{lines_of}
use Rattle.rbc_model.specs.SoundTracks.{IsInForm}
use Rattle.rbc_model.specs.Histories.{Beginning, Entry}
use Rattle.rbc_model.specs.SessionReply.{Memory, refused_reply}
use Rattle.rbc_session_laws.specs.Turns.{AnswersLine}
use Rattle.rbc_session_laws.specs.SessionRuns.{Turn, entries_of, entries_added, lines_treated, replies_to}
use Rattle.rbc_session_laws.specs.Answers.{line_answer, turns_of}
use Rattle.rbc_session_laws.specs.Laws.{heard, SessionsAreAnswered, WrittenIsAnswered, SessionsAreOne}
use Rattle.rbc_session_laws.proofs.LineLemmas.{lines_are_answered, given_up_adds_none}
use Rattle.rbc_session_laws.proofs.TextLemmas.{IsNotMemory, all_of_both, lines_of-whole, reply_whole, not_memory}

-- a turn with this reply and this entry
same_turn : (turn : Turn) (reply : List ℕ) (added : Option Entry) → turn.reply ≡ reply → turn.added ≡ added → turn ≡ record { line = turn.line; reply = reply; added = added }
same_turn turn reply added e f = rw (← e, ← f) refl

module _ (begin : Beginning) where
  -- each turn answers its line after the entries of those before it
  AreRun : List Entry → List Turn → Type 0
  AreRun before [] = Unit {0}
  AreRun before (turn ∷ turns) = AnswersLine begin before turn.line turn.reply turn.added × AreRun (before ++ entries_of turn.added) turns

  run_of_each : (before : List Entry) (turns : List Turn)
      → ((place : ℕ) (turn : Turn) → slice_get turns place ≡ Some turn → AnswersLine begin (before ++ entries_added (take place turns)) turn.line turn.reply turn.added)
      → AreRun before turns
  unfolding AreRun
  run_of_each before [] each = tt
  run_of_each before (turn ∷ turns) each = (
    subst (λ entries. AnswersLine begin entries turn.line turn.reply turn.added) (append-nil before) (each 0 turn refl),
    run_of_each (before ++ entries_of turn.added) turns
        (λ place other here.
        subst (λ entries. AnswersLine begin entries other.line other.reply other.added)
        (sym (append_assoc before (entries_of turn.added) (entries_added (take place turns))))
        (each (suc place) other here)),
  )

  abbrev IsKept : Turn → Type 0
  IsKept turn = turn.reply ≢ refused_reply begin.track Memory

  turns_are : IsInForm begin.track → (before : List Entry) (turns : List Turn) → AreRun before turns → AllByRecursion IsKept turns → turns ≡ turns_of begin before (lines_treated turns)
  unfolding AreRun turns_of
  turns_are form before [] run kept = refl
  turns_are form before (turn ∷ turns) run kept =
      let one = lines_are_answered begin before turn.line turn.reply turn.added form run.0 kept.0 in
      let answer = line_answer begin before turn.line in
      ap₂ (λ (first : Turn) later. first ∷ later)
      (same_turn turn answer.reply answer.added one.0 one.1)
      (turns_are form (before ++ entries_of turn.added) turns run.1 kept.1 ∙ ap (λ added. turns_of begin (before ++ entries_of added) (lines_treated turns)) one.1)

  -- where no line that was written says that memory was refused, no reply does
  kept_of : (before : List Entry) (turns : List Turn) → AreRun before turns → AllByRecursion IsNotMemory (lines_of (replies_to turns)) → AllByRecursion IsKept turns
  unfolding AreRun
  kept_of before [] run none = tt
  kept_of before (turn ∷ turns) run none =
      let whole = reply_whole begin before turn.line turn.reply turn.added run.0 in
      let both = all_of_both (lines_of turn.reply) (lines_of (replies_to turns)) (subst (AllByRecursion IsNotMemory) (lines_of-whole turn.reply (replies_to turns) whole) none) in
      (not_memory begin.track turn.reply both.0, kept_of (before ++ entries_of turn.added) turns run.1 both.1)

  lines_all : (turns : List Turn) (rest : List (List ℕ)) (input : List ℕ) → lines_of input ≡ lines_treated turns ++ rest → rest ≡ [] → lines_of input ≡ lines_treated turns
  lines_all turns rest input e none = e ∙ ap (λ r. lines_treated turns ++ r) none ∙ append-nil (lines_treated turns)

  session_turns : IsInForm begin.track → (before : List Entry) (turns : List Turn) (input : List ℕ) → AreRun before turns → lines_of input ≡ lines_treated turns → AllByRecursion IsKept turns
      → turns ≡ turns_of begin before (lines_of input)
  session_turns form before turns input run lines kept = turns_are form before turns run kept ∙ ap (turns_of begin before) (sym lines)

  abbrev lost : List ℕ
  lost = refused_reply begin.track Memory

  -- ---- whether memory was refused or not

  record AreHeard (before : List Entry) (turns : List Turn) : Type 0 where
    turns_are : heard begin.track turns ≡ turns_of begin before (lines_treated (heard begin.track turns))
    entries : entries_added turns ≡ entries_added (heard begin.track turns)

  more_heard : IsInForm begin.track → (before : List Entry) (turn : Turn) (turns : List Turn) → AnswersLine begin before turn.line turn.reply turn.added → turn.reply ≢ lost
      → AreHeard (before ++ entries_of turn.added) turns
      → (turn ∷ heard begin.track turns ≡ turns_of begin before (lines_treated (turn ∷ heard begin.track turns)))
  unfolding turns_of
  more_heard form before turn turns answers kept rest =
      let one = lines_are_answered begin before turn.line turn.reply turn.added form answers kept in
      let answer = line_answer begin before turn.line in
      ap₂ (λ (first : Turn) later. first ∷ later) (same_turn turn answer.reply answer.added one.0 one.1)
      (rest.turns_are ∙ ap (λ added. turns_of begin (before ++ entries_of added) (lines_treated (heard begin.track turns))) one.1)

  nothing : (before : List Entry) → [] ≡ turns_of begin before []
  unfolding turns_of
  nothing before = refl

  heard_are : IsInForm begin.track → (before : List Entry) (turns : List Turn) → AreRun before turns → AreHeard before turns
  unfolding AreRun
  heard_are form before [] run = record { turns_are = nothing before; entries = refl }
  heard_are form before (turn ∷ turns) run = by_test (bytes_eq turn.reply lost) refl (λ entries later. heard_are form entries turns later)
    where
      by_test : (b : Bool) → bytes_eq turn.reply lost ≡ b → ((entries : List Entry) → AreRun entries turns → AreHeard entries turns) → AreHeard before (turn ∷ turns)
      by_test true e later =
          let none = given_up_adds_none begin before turn.line turn.reply turn.added run.0 ((bytes_eq-Decides turn.reply lost).0 e) in
          let rest = later before (subst (λ entries. AreRun entries turns) (ap (λ added. before ++ entries_of added) none ∙ append-nil before) run.1) in
          let same : heard begin.track (turn ∷ turns) ≡ heard begin.track turns = rw e refl in
          record {
            turns_are = same ∙ rest.turns_are ∙ ap (λ ts. turns_of begin before (lines_treated ts)) (sym same);
            entries = ap (λ added. entries_of added ++ entries_added turns) none ∙ rest.entries ∙ ap entries_added (sym same);
          }
      by_test false e later =
          let rest = later (before ++ entries_of turn.added) run.1 in
          let same : heard begin.track (turn ∷ turns) ≡ turn ∷ heard begin.track turns = rw e refl in
          let kept : turn.reply ≢ lost = λ h. (let yes = (bytes_eq-Decides turn.reply lost).1 h in cc) in
          record {
            turns_are = same ∙ more_heard form before turn turns run.0 kept rest ∙ ap (λ ts. turns_of begin before (lines_treated ts)) (sym same);
            entries = ap (λ more. entries_of turn.added ++ more) rest.entries ∙ ap entries_added (sym same);
          }

pub sessions_are_answered : SessionsAreAnswered
sessions_are_answered begin before after input old new result form session =
    let a = heard_are begin form before session.turns (run_of_each begin before session.turns session.each) in
    record { turns_are = a.turns_are; entries = session.entries ∙ ap (λ entries. before ++ entries) a.entries }

pub written_is_answered : WrittenIsAnswered
written_is_answered begin before after input old text form session none =
    let said : text ≡ replies_to session.turns = append_cancel_left old text (replies_to session.turns) session.ends.0 in
    let run = run_of_each begin before session.turns session.each in
    let kept = kept_of begin before session.turns run (subst (λ t. AllByRecursion IsNotMemory (lines_of t)) said (recursion_from_All IsNotMemory (lines_of text) none)) in
    let same = session_turns begin form before session.turns input run (lines_all begin session.turns session.rest input session.lines session.ends.2) kept in
    (said ∙ ap replies_to same, session.entries ∙ ap (λ turns. before ++ entries_added turns) same)

pub sessions_are_one : SessionsAreOne
sessions_are_one begin before after other_after input old other_old text other form session none other_session other_none =
    let first = written_is_answered begin before after input old text form session none in
    let second = written_is_answered begin before other_after input other_old other form other_session other_none in
    (first.0 ∙ sym second.0, first.1 ∙ sym second.1)
