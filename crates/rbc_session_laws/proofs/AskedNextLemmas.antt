-- A train that asks is answered as the line `next` of the scene tells.
use Rattle.std.proofs.Common.{◌≡◌, ℕ, ◌+◌, cond, List, [], ◌∷◌, ◌++◌, length, Option, Some, None, Ok, Err, refl, ap, sym, ◌∙◌, subst, codes, append_assoc}
use Rattle.std.specs.Prelude.{decimal}
use Rattle.std.specs.Fmt.{signed_decimal}
use Rattle.std.specs.Option.{option_map_or}
use Rattle.rbc_model.specs.Words.{line_of, hex_of}
use Rattle.rbc_model.specs.Kinds.{speed_kind, grade_kind}
use Rattle.rbc_model.specs.Messages.{message_bytes}
use Rattle.rbc_model.specs.StepsReply.{certificate}
use Rattle.rbc_model.specs.Trains.{Train}
use Rattle.rbc_model.specs.declared.refusals.ViewFault.TheVariants.{UnknownTrain}
use Rattle.rbc_model.specs.Views.{View, greatest_end, shown_up_to, start_of, stop, view, view_of, view_to}
use Rattle.rbc_model.specs.Histories.{Beginning, Entry, Grants, replay}
use Rattle.rbc_model.specs.SceneLines.{distance_word, end_word}
use Rattle.rbc_model.specs.SessionReply.{grant_reply, obstacle_words, Full}
use Rattle.rbc_grant_laws.proofs.CandidateLemmas.{view-train}
use Rattle.rbc_session_laws.specs.Answers.{asker_answer, command_answer, grant_answer, grant_of, line_answer, refused, speed_prices_of, grade_prices_of}
use Rattle.rbc_session_laws.specs.AskedNext.{AnswersAsNext, BeginsWith, NextsAreAsked}

first_of_five : (a b c d e : List ℕ) → a ++ b ++ c ++ d ++ e ≡ a ++ (b ++ c ++ d ++ e)
first_of_five a b c d e = ap (λ t. t ++ d ++ e) (append_assoc a b c) ∙ ap (λ t. t ++ e) (append_assoc a (b ++ c) d) ∙ append_assoc a (b ++ c ++ d) e

module _ (begin : Beginning) (before : List Entry) (number : ℕ) (train : Train) where
  words_to : ℕ → ℕ → List (List ℕ)
  words_to asker end =
      codes "granted" ∷ decimal asker ∷ decimal (length before + 1) ∷ distance_word train (start_of train) ∷ end_word train (Some end) ∷ obstacle_words begin.track (stop begin.track (replay begin before) train)

  -- the words of a grant's first line
  told_words : Grants → List (List ℕ)
  told_words grant =
      codes "granted" ∷ decimal grant.train ∷ decimal (length before + 1) ∷ signed_decimal grant.from ∷ decimal grant.authority.end ∷ obstacle_words begin.track grant.obstacle

  begins : (shown : View) (grant : Grants) (speed_rows grade_rows : List (List ℕ)) → BeginsWith (told_words grant) (grant_reply begin.track (length before + 1) shown grant speed_rows grade_rows)
  unfolding told_words
  begins shown grant speed_rows grade_rows =
      let message = line_of (codes "message" ∷ hex_of (message_bytes grant.authority) ∷ []) in
      let speeds = certificate speed_kind (record { limit = shown.speed_steps; runs = shown.speeds; end = grant.authority.end }) grant.authority.speeds speed_rows in
      let grades = certificate grade_kind (record { limit = shown.grade_steps; runs = shown.grades; end = grant.authority.end }) grant.authority.grades grade_rows in
      let done = line_of (codes "done" ∷ []) in
      (message ++ speeds ++ grades ++ done, first_of_five (line_of (told_words grant)) message speeds grades done)

  words_are : (end : ℕ) → train.report.train ≡ number → told_words (grant_of (view_to begin.track (replay begin before) train end)) ≡ words_to number end
  unfolding told_words words_to grant_of
  words_are end same = ap (λ n. words_to n end) same

  grants : (end : ℕ) → train.report.train ≡ number → BeginsWith (words_to number end) (grant_answer begin before (view_to begin.track (replay begin before) train end)).reply
  grants end same =
      let shown = view_to begin.track (replay begin before) train end in
      subst (λ words. BeginsWith words (grant_answer begin before shown).reply) (words_are end same) (begins shown (grant_of shown) (speed_prices_of shown) (grade_prices_of shown))

  by_end : (end : Option ℕ) → ((shown : View) → shown_up_to begin.track (replay begin before) train end ≡ Ok shown → shown.train ≡ number)
      → AnswersAsNext begin before number train end (asker_answer begin before number (shown_up_to begin.track (replay begin before) train end)).reply
  unfolding words_to
  by_end None same = refl
  by_end (Some end) same = λ room.
      subst (λ full. BeginsWith (words_to number end) (cond full (refused begin before Full) (grant_answer begin before (view_to begin.track (replay begin before) train end))).reply) (sym room)
      (grants end (same (view_to begin.track (replay begin before) train end) refl))

pub nexts_are_asked : NextsAreAsked
unfolding line_answer
nexts_are_asked begin before line number train there asks =
    let shown : view begin.track (replay begin before) number ≡ view_of begin.track (replay begin before) train =
    ap (λ found. option_map_or (view_of begin.track (replay begin before)) found (Err UnknownTrain)) there in
    let answer : line_answer begin before line ≡ asker_answer begin before number (view_of begin.track (replay begin before) train) =
    ap (command_answer begin before) asks ∙ ap (asker_answer begin before number) shown in
    subst (AnswersAsNext begin before number train (greatest_end begin.track (replay begin before) train)) (sym (ap (λ a. a.reply) answer))
    (by_end begin before number train (greatest_end begin.track (replay begin before) train) (λ v is. view-train begin.track (replay begin before) number v (shown ∙ is)))
