-- What comes of a line, by what it says.
use Rattle.std.proofs.Common.{◌≡◌, ℕ, ◌<◌, ◌≤◌, Bool, true, false, cond, List, length, Some, None, Result, Ok, Err, refl, sym, ap, ◌∙◌, subst, arith}
use Rattle.std.specs.Prelude.{IfOk}
use Rattle.std.specs.Result.{result_map_both}
use Rattle.std.proofs.lemmas.Bool.{le-leb}
use Rattle.rbc_model.specs.declared.refusals.Refusal.{Refusal}
use Rattle.rbc_model.specs.declared.refusals.ViewFault.{ViewFault}
use Rattle.rbc_model.specs.declared.refusals.ViewFault.TheVariants.{UnknownTrain, Blocked}
use Rattle.rbc_model.specs.declared.reports.Told.{Told}
use Rattle.rbc_model.specs.declared.sessions.Inquiry.{Inquiry}
use Rattle.rbc_model.specs.declared.reports.Event.TheVariants.{Tell}
use Rattle.rbc_model.specs.Tracks.{Track}
use Rattle.rbc_model.specs.SoundTracks.{IsInForm}
use Rattle.rbc_model.specs.Scenes.{Scene}
use Rattle.rbc_model.specs.Events.{step}
use Rattle.rbc_model.specs.Views.{View, view}
use Rattle.rbc_model.specs.Histories.{Beginning, Entry, Heard, is_full, replay}
use Rattle.rbc_model.specs.SessionReply.{SessionRefusal, Full}
use Rattle.rbc_sessions.proofs.CentreLemmas.{line_comes}
use Rattle.rbc_sessions.specs.Changes.{Comes}
use Rattle.rbc_sessions.specs.Records.{begin_of, HistoryOnTrack, with_entry}
use Rattle.rbc_session_laws.specs.declared.command.Command.{Command}
use Rattle.rbc_session_laws.specs.declared.command.Command.TheVariants.{Nothing, Event, Authority, Show}
use Rattle.rbc_session_laws.specs.Commands.{command_in}
use Rattle.rbc_session_laws.specs.Turns.{AnswersAuthority}
use Rattle.rbc_session_laws.specs.Answers.{refused, told_answer, grant_answer, asker_answer, command_answer, line_answer}
use Rattle.rbc_journaled.specs.Adds.{Follows, FollowsSaid}
use Rattle.rbc_journaled.proofs.AddingLemmas.{adds_of, grown, unchanged}

-- what a line adds, by what it says
added_by : (begin : Beginning) (before : List Entry) (line : List ℕ) (command : Result Command SessionRefusal) → command_in begin.track line ≡ command
    → (line_answer begin before line).added ≡ (command_answer begin before command).added
unfolding line_answer
added_by begin before line command e = ap (λ d. (command_answer begin before d).added) e

pub says_nothing : (track : Track) (history : HistoryOnTrack) (line : List ℕ) (found : Command) → track ≡ history.track → found ≡ Nothing → Ok found ≡ command_in track line → Follows false history line history
says_nothing track history line found is nothing e = (
  added_by (begin_of history) history.entries line (Ok Nothing)
      (subst (λ t. command_in t line ≡ Ok Nothing) is (subst (λ (d : Command). command_in track line ≡ Ok d) nothing (sym e))),
  refl,
)

pub shows : (track : Track) (history : HistoryOnTrack) (line : List ℕ) (inquiry : Inquiry) (found : Command) → track ≡ history.track → found ≡ Show inquiry → Ok found ≡ command_in track line → Follows false history line history
shows track history line inquiry found is asks e = (
  added_by (begin_of history) history.entries line (Ok (Show inquiry))
      (subst (λ t. command_in t line ≡ Ok (Show inquiry)) is (subst (λ (d : Command). command_in track line ≡ Ok d) asks (sym e))),
  refl,
)

pub is_refused : (track : Track) (history : HistoryOnTrack) (line : List ℕ) (refusal : SessionRefusal) → track ≡ history.track → Err refusal ≡ command_in track line → Follows false history line history
is_refused track history line refusal is e = (
  added_by (begin_of history) history.entries line (Err refusal) (subst (λ t. command_in t line ≡ Err refusal) is (sym e)),
  refl,
)

-- what comes of what a line says comes of the line
pub said_follows : {E : Type 0} (result : Result Bool E) (track : Track) (before after : HistoryOnTrack) (line : List ℕ) (command : Command) → track ≡ before.track → Ok command ≡ command_in track line
    → IfOk result (λ is_added. FollowsSaid is_added before command after) → IfOk result (λ is_added. Follows is_added before line after)
said_follows (Ok is_added) track before after line command is e said = said line (subst (λ t. command_in t line ≡ Ok command) is (sym e))
said_follows (Err fault) track before after line command is e said = tt

-- ---- what is told

module _ (begin : Beginning) (before : List Entry) (told : Told) {E : Type 0} (too_many : E) (told_as : Refusal → E) where
  entered : (full : Bool) (stepped : Result Scene Refusal) (entry : Entry) → cond full (Err too_many) (result_map_both (λ after. Heard told) told_as stepped) ≡ Ok entry
      → (cond full (refused begin before Full) (told_answer begin before told stepped)).added ≡ Some entry
  entered true stepped entry e = absurd (let c : ⊥ = cc in c)
  entered false (Ok after) entry e = let same : Heard told ≡ entry = cc in ap (λ x. Some x) same
  entered false (Err refusal) entry e = absurd (let c : ⊥ = cc in c)

  not_entered : (full : Bool) (stepped : Result Scene Refusal) (fault : E) → cond full (Err too_many) (result_map_both (λ after. Heard told) told_as stepped) ≡ Err fault
      → (cond full (refused begin before Full) (told_answer begin before told stepped)).added ≡ None
  not_entered true stepped fault e = refl
  not_entered false (Ok after) fault e = absurd (let c : ⊥ = cc in c)
  not_entered false (Err refusal) fault e = refl

module _ (before after : HistoryOnTrack) (told : Told) {E : Type 0} (too_many : E) (told_as : Refusal → E) where
  abbrev answer : Result Entry E
  answer = cond (is_full (begin_of before) before.entries) (Err too_many) (result_map_both (λ after. Heard told) told_as (step before.track (replay (begin_of before) before.entries) (Tell told)))

  pub is_heard : (entry : Entry) → answer ≡ Ok entry → after ≡ with_entry before entry → FollowsSaid true before (Event told) after
  is_heard entry e same = λ line said. (
    entry,
    added_by (begin_of before) before.entries line (Ok (Event told)) said
        ∙ entered (begin_of before) before.entries told too_many told_as (is_full (begin_of before) before.entries) (step before.track (replay (begin_of before) before.entries) (Tell told)) entry e,
    same,
  )

  pub not_heard : (fault : E) → answer ≡ Err fault → after ≡ before → FollowsSaid false before (Event told) after
  not_heard fault e same = λ line said. (
    added_by (begin_of before) before.entries line (Ok (Event told)) said
        ∙ not_entered (begin_of before) before.entries told too_many told_as (is_full (begin_of before) before.entries) (step before.track (replay (begin_of before) before.entries) (Tell told)) fault e,
    same,
  )

-- ---- a train that asks

none_asked : (begin : Beginning) (before : List Entry) (train : ℕ) (fault : ViewFault) → (asker_answer begin before train (Err fault)).added ≡ None
none_asked begin before train (Blocked obstacle at) = refl
none_asked begin before train UnknownTrain = refl

-- it is shown no end
pub not_shown : (history : HistoryOnTrack) (train : ℕ) (fault : ViewFault) → view history.track (replay (begin_of history) history.entries) train ≡ Err fault → FollowsSaid false history (Authority train) history
not_shown history train fault e = λ line said. (
  added_by (begin_of history) history.entries line (Ok (Authority train)) said ∙ ap (λ seen. (asker_answer (begin_of history) history.entries train seen).added) e
      ∙ none_asked (begin_of history) history.entries train fault,
  refl,
)

none_if_full : (begin : Beginning) (before : List Entry) (shown : View) (full : Bool) → full ≡ true → (cond full (refused begin before Full) (grant_answer begin before shown)).added ≡ None
none_if_full begin before shown true e = refl
none_if_full begin before shown false e = absurd (let c : ⊥ = cc in c)

-- it is shown this view, and what it is granted comes to this, by the versions before and after it
module _ (before after : HistoryOnTrack) (train asker : ℕ) (reply : List ℕ) (m n : ℕ) (same : train ≡ asker) (first : m ≡ length before.entries) (last : n ≡ length after.entries)
    (comes : Comes (λ begin entries said added. AnswersAuthority begin entries said added train) before reply after) where
  pub is_granted : IsInForm before.track → m < n → FollowsSaid true before (Authority asker) after
  is_granted form less = λ line said.
      let asks : Ok (Authority train) ≡ command_in before.track line = sym (subst (λ t. command_in before.track line ≡ Ok (Authority t)) (sym same) said) in
      let longer : length before.entries < length after.entries = omega (arith, first, last, less) in
      let g = grown before after line reply (line_comes before after line reply (Ok (Authority train)) before.track refl asks comes) longer in
      (g.0, adds_of (begin_of before) before.entries line reply g.0 form g.1, g.2)

  pub not_granted : n ≤ m → after ≡ before
  not_granted no_more =
      unchanged (λ begin entries said added. AnswersAuthority begin entries said added train) before after reply comes (λ more. omega (arith, first, last, more, no_more))

  pub is_full_up : (shown : View) → view before.track (replay (begin_of before) before.entries) asker ≡ Ok shown → n ≤ m → before.most ≤ m → FollowsSaid false before (Authority asker) after
  is_full_up shown e no_more many = λ line said. (
    added_by (begin_of before) before.entries line (Ok (Authority asker)) said
        ∙ ap (λ seen. (asker_answer (begin_of before) before.entries asker seen).added) e
        ∙ none_if_full (begin_of before) before.entries shown (is_full (begin_of before) before.entries) (le-leb before.most (length before.entries) (omega (arith, first, many))),
    not_granted no_more,
  )
