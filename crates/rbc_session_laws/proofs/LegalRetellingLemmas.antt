-- The lines of a legal history lead to its entries, where lines can tell them and each grant has the chosen profiles.
use Rattle.std.proofs.Common.{◌≡◌, ℕ, ◌<◌, true, false, cond, List, [], length, take, Some, Result, Ok, Err, refl, ap, sym, ◌∙◌, arith}
use Rattle.std.specs.Prelude.{slice_get, is_ok}
use Rattle.std.specs.Option.{option_map_or}
use Rattle.std.specs.Result.{result_map_both}
use Rattle.std.proofs.lemmas.Bool.{lt-leb}
use Rattle.std.proofs.lemmas.List.{length-take}
use Rattle.std.proofs.lemmas.Option.{slice_get_within}
use Rattle.rbc_model.specs.declared.refusals.Refusal.{Refusal}
use Rattle.rbc_model.specs.declared.reports.Told.{Told}
use Rattle.rbc_model.specs.declared.reports.Told.TheVariants.{Report as ToldReport, Lock as ToldLock, Free as ToldFree, Leave as ToldLeave, GiveBack as ToldGiveBack}
use Rattle.rbc_model.specs.declared.reports.Event.TheVariants.{Tell}
use Rattle.rbc_model.specs.Results.{◌>>=◌}
use Rattle.rbc_model.specs.RequestText.{line_in}
use Rattle.rbc_model.specs.SoundTracks.{IsInForm, IsSound}
use Rattle.rbc_model.specs.Scenes.{Scene}
use Rattle.rbc_model.specs.Events.{step}
use Rattle.rbc_model.specs.Views.{View, view}
use Rattle.rbc_model.specs.Histories.{Beginning, Entry, Heard, Granted, Grants, MayFollow, is_full, replay}
use Rattle.rbc_model.specs.SessionText.{SessionLine, Ask, said_line, IsSayable}
use Rattle.rbc_model.specs.SessionReply.{BadLine, Full}
use Rattle.rbc_model.specs.HistoryText.{told_request, entry_request, entry_line}
use Rattle.rbc_model.proofs.NamedLemmas.{named_again}
use Rattle.rbc_model.proofs.SaidLineLemmas.{said_line_read}
use Rattle.rbc_grant_laws.proofs.CandidateLemmas.{candidate-IsBest}
use Rattle.rbc_session_laws.specs.declared.command.Command.{Command}
use Rattle.rbc_session_laws.specs.declared.command.Command.TheVariants.{Event, Authority}
use Rattle.rbc_session_laws.specs.Commands.{known, resolve}
use Rattle.rbc_session_laws.specs.Answers.{refused, told_answer, grant_answer, asker_answer, command_answer, line_answer, grant_of}
use Rattle.rbc_session_laws.specs.Retelling.{HasChosen, LegalHistoriesAreRetold}
use Rattle.rbc_session_laws.proofs.GrantLemmas.{the_grant}

-- ---- entries

module _ (begin : Beginning) (sound : IsSound begin.track) where
  resolved_again : (told : Told) → IsSayable (told_request begin.track told) → resolve begin.track (told_request begin.track told) ≡ Ok (Event told)
  resolved_again (ToldReport report) said = refl
  resolved_again (ToldLock route) said =
      ap (λ o. line_in (λ route. Event (ToldLock route)) (known (option_map_or (λ r. r.name) (slice_get begin.track.routes route) []) o)) (named_again (λ r. r.name) begin.track.routes route sound.route_names said)
  resolved_again (ToldFree section) said =
      ap (λ o. line_in (λ section. Event (ToldFree section)) (known (option_map_or (λ s. s.name) (slice_get begin.track.sections section) []) o)) (named_again (λ s. s.name) begin.track.sections section sound.section_names said)
  resolved_again (ToldLeave train) said = refl
  resolved_again (ToldGiveBack train end) said = refl

  module _ (before : List Entry) (room : is_full begin before ≡ false) where
    -- what the line of a request is answered
    answered_by : (said : SessionLine) (command : Command) → IsSayable said → resolve begin.track said ≡ Ok command → line_answer begin before (said_line said) ≡ command_answer begin before (Ok command)
    unfolding line_answer
    answered_by said command can found =
        ap (λ read. command_answer begin before (result_map_both (λ said. said) BadLine read >>= resolve begin.track)) (said_line_read said can) ∙ ap (command_answer begin before) found

    told_again : (told : Told) → is_ok (step begin.track (replay begin before) (Tell told)) ≡ true → (command_answer begin before (Ok (Event told))).added ≡ Some (Heard told)
    told_again told accepted = ap (λ full. (cond full (refused begin before Full) (told_answer begin before told (step begin.track (replay begin before) (Tell told)))).added) room ∙ by_step (step begin.track (replay begin before) (Tell told)) accepted
      where
        by_step : (after : Result Scene Refusal) → is_ok after ≡ true → (told_answer begin before told after).added ≡ Some (Heard told)
        by_step (Ok after) e = refl
        by_step (Err refusal) e = absurd (let never : ⊥ = cc in never)

    asked_again : (train : ℕ) (shown : View) → view begin.track (replay begin before) train ≡ Ok shown → (command_answer begin before (Ok (Authority train))).added ≡ Some (Granted (grant_of shown))
    asked_again train shown seen =
        ap (λ v. (asker_answer begin before train v).added) seen
        ∙ ap (λ full. (cond full (refused begin before Full) (grant_answer begin before shown)).added) room

    entry_again : (entry : Entry) → IsInForm begin.track → MayFollow begin before entry → IsSayable (entry_request begin.track entry) → ((grant : Grants) → entry ≡ Granted grant → HasChosen begin before grant)
        → (line_answer begin before (entry_line begin.track entry)).added ≡ Some entry
    entry_again (Heard told) form may can chosen =
        ap (λ a. a.added) (answered_by (told_request begin.track told) (Event told) can (resolved_again told can)) ∙ told_again told may.accepted
    entry_again (Granted grant) form may can chosen =
        let best = may.best grant refl in
        let s = candidate-IsBest begin.track (replay begin before) grant form best in
        let c = chosen grant refl s.0 s.1 in
        let one = the_grant begin.track (replay begin before) grant.train s.0 grant form s.1 refl best c.speeds c.grades in
        ap (λ a. a.added) (answered_by (Ask grant.train) (Authority grant.train) can refl)
        ∙ asked_again grant.train s.0 s.1
        ∙ ap (λ g. Some (Granted g)) (sym one)

not_full : (begin : Beginning) (before : List Entry) → length before < begin.most → is_full begin before ≡ false
not_full begin before h = lt-leb begin.most (length before) h

pub legal_histories_are_retold : LegalHistoriesAreRetold
legal_histories_are_retold begin entries form sound legal few can chosen = λ place entry here.
    let within = slice_get_within entries place entry here in
    let taken = length-take place entries in
    entry_again begin sound (take place entries) (not_full begin (take place entries) (omega arith)) entry form (legal place entry here) (can place entry here)
    (λ grant e. chosen place grant (here ∙ ap Some e))
