-- What the treatment of a line makes of a record.
use Rattle.std.specs.Prelude.{◌≡◌, ℕ, List, ◌++◌, Option}
use Rattle.rbc_model.specs.Histories.{Beginning, Entry}
use Rattle.rbc_sweep.specs.Records.{history_on, begin_of, HistoryOnTrack}
use Rattle.rbc_session_laws.specs.Turns.{AnswersLine}
use Rattle.rbc_session_laws.specs.SessionRuns.{entries_of}

-- the history with an entry more, if there is one
abbrev pub with_added : HistoryOnTrack → Option Entry → HistoryOnTrack
with_added history added = history_on (begin_of history) (history.entries ++ entries_of added)

-- The reply is one that is right after the history, and the history after it has the entry that goes with the reply.
abbrev pub Comes : (Beginning → List Entry → List ℕ → Option Entry → Type 0) → HistoryOnTrack → List ℕ → HistoryOnTrack → Type 0
Comes Answers before reply after = (added : Option Entry) × Answers (begin_of before) before.entries reply added × (after ≡ with_added before added)

-- a line is answered, and leads from the one history to the other
abbrev pub Goes : HistoryOnTrack → List ℕ → List ℕ → HistoryOnTrack → Type 0
Goes before line reply after = Comes (λ begin entries reply added. AnswersLine begin entries line reply added) before reply after
