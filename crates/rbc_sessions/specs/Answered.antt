-- What a session of the centre wrote, and which history it left, as one function of the track, of the history before and of what was read.
use Rattle.std.specs.Prelude.{◌≡◌, ℕ, List, Option}
use Rattle.rbc_sweep.specs.Records.{begin_of, HistoryOnTrack}
use Rattle.rbc_session_laws.specs.Answers.{answers_of, entries_after}
use Rattle.rbc_session_laws.specs.AllRead.{OfAllRead}

-- after this history this text was written in answer to an input, and that history is the one that the input leads to
abbrev pub AnswersInput : HistoryOnTrack → HistoryOnTrack → List ℕ → List ℕ → Type 0
AnswersInput before after input text = (text ≡ answers_of (begin_of before) before.entries input) × (after.entries ≡ entries_after (begin_of before) before.entries input)

-- Where what was left to read and what was written are known, and no line that was written says that memory was refused: the answers to what was read
-- were written, and nothing else, and the history has the entries that it leads to, and no others.
abbrev pub AnswersAll : HistoryOnTrack → HistoryOnTrack → Option (List ℕ) → Option (List ℕ) → Option (List ℕ) → Type 0
AnswersAll before after left old new = OfAllRead (AnswersInput before after) left old new
