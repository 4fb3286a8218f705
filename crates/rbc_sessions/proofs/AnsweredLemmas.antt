-- What a session wrote at the end of its input is what the record answers to the input, where memory was never refused.
use Rattle.std.proofs.Common.{◌≡◌, ℕ, List, Option, Result, sym, subst}
use Rattle.std.specs.Prelude.{OnOk}
use Rattle.std.specs.Io.KnownBytes.{Consumes, IsAtEnd}
use Rattle.rbc_model.specs.declared.sessions.SessionFault.{SessionFault}
use Rattle.rbc_model.specs.SoundTracks.{IsInForm}
use Rattle.rbc_sweep.specs.Records.{begin_of, HistoryOnTrack}
use Rattle.rbc_session_laws.specs.SessionRuns.{IsSession}
use Rattle.rbc_session_laws.specs.Retelling.{IsRetold}
use Rattle.rbc_session_laws.proofs.AllReadLemmas.{of_all_read}
use Rattle.rbc_session_laws.proofs.SessionLemmas.{written_is_answered}
use Rattle.rbc_session_laws.proofs.RetellingLemmas.{sessions_are_retold}
use Rattle.rbc_sessions.specs.Answered.{AnswersInput, AnswersAll}

pub session_answers : (before after : HistoryOnTrack) (left_before left_after old new : Option (List ℕ)) (result : Result (Unit {0}) SessionFault) (input : List ℕ)
    → IsInForm before.track → OnOk result (IsAtEnd left_after) → Consumes left_before left_after input → IsSession (begin_of before) before.entries after.entries input old new result
    → OnOk result (AnswersAll before after left_before old new)
session_answers before after left_before left_after old new result input form end taken session =
    of_all_read (IsSession (begin_of before) before.entries after.entries) (λ done. AnswersInput before after)
    (λ done all held text. written_is_answered (begin_of before) before.entries after.entries all held text form)
    left_before left_after old new result input end taken session

-- the lines of the entries lead to them again, if they did so before
pub session_retells : (before after : HistoryOnTrack) (old new : Option (List ℕ)) (result : Result (Unit {0}) SessionFault) (input : List ℕ) → begin_of after ≡ begin_of before
    → IsInForm before.track → IsSession (begin_of before) before.entries after.entries input old new result
    → IsRetold (begin_of before) before.entries → IsRetold (begin_of after) after.entries
session_retells before after old new result input same form session retold =
    subst (λ t. IsRetold t after.entries) (sym same) (sessions_are_retold (begin_of before) before.entries after.entries input old new result form session retold)
