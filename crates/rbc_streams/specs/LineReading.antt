-- Reading line by line: what a reader of lines holds, and what comes of a step to the next line.
use Rattle.std.specs.Prelude.{◌≡◌, ◌≢◌, ℕ, Bool, true, false, ◌+◌, ◌<◌, ◌≤◌, List, [], ◌∷◌, ◌++◌, length, take, get_or, Option, Result, Ok, Err, MatchResult, ◌⊎◌}
use Rattle.std.specs.List.{All}
use Rattle.std.specs.Io.KnownBytes.{IsAtEnd}
use Rattle.rbc_model.specs.declared.sessions.SessionFault.{SessionFault}
use Rattle.rbc_model.specs.declared.sessions.SessionFault.TheVariants.{Read as ReadFault, Write as WriteFault, Lines, Overlong as TooLong, Memory}
use Rattle.rbc_streams.specs.declared.line_reader.Advance.{Advance}
use Rattle.rbc_streams.specs.declared.line_reader.Advance.TheVariants.{Line, Overlong, End}

-- the line read last, the bytes that its step took of the input, the bytes that came and were not yet given as a line, how many bytes a line may have, and
-- whether the input was seen to end
pub record LineReading : Type 0 where
  pub line : List ℕ
  pub taken : List ℕ
  pub pending : List ℕ
  pub longest : ℕ
  pub ended : Bool

-- before anything is read
abbrev pub at_start : ℕ → LineReading
at_start longest = record { line = []; taken = []; pending = []; longest = longest; ended = false }

-- no byte is a line feed
abbrev pub HasNoLineFeed : List ℕ → Type 0
HasNoLineFeed bytes = All (λ byte. byte ≢ 10) bytes

-- the bytes begin with a line of at most `longest` bytes, and its line feed
abbrev pub HasLine : List ℕ → ℕ → Type 0
HasLine bytes longest = (line : List ℕ) × (rest : List ℕ) × (bytes ≡ line ++ 10 ∷ rest) × HasNoLineFeed line × (length line ≤ longest)

-- the input is nothing but this line, without a line feed, and ended there
pub record IsLastLine (input : List ℕ) (now : LineReading) : Type 0 where
  pub whole : input ≡ now.line
  pub some : 0 < length now.line
  pub over : now.ended ≡ true
  pub none_left : now.pending ≡ []

-- The first line of the input was read. It ends with a line feed, which is no part of it, or with the input. What was taken and what is pending are the input.
pub record GivesLine (input : List ℕ) (now : LineReading) : Type 0 where
  pub one_line : HasNoLineFeed now.line
  pub within : length now.line ≤ now.longest
  pub rest : (input ≡ now.line ++ 10 ∷ now.pending) ⊎ IsLastLine input now
  pub cut : input ≡ now.taken ++ now.pending

-- no line was read, and all of the input is pending
pub record KeepsInput (input : List ℕ) (now : LineReading) : Type 0 where
  pub input_pends : now.pending ≡ input
  pub no_line : now.line ≡ []

-- the first line of the input has more bytes than a line may have
pub record IsOverlong (input : List ℕ) (longest : ℕ) : Type 0 where
  pub long : longest < length input
  pub no_end : HasNoLineFeed (take (longest + 1) input)

-- What a step to the next line did. The input is what was pending before it, and what it read.
abbrev pub Steps : List ℕ → LineReading → Advance → Type 0
Steps input now Line = GivesLine input now
Steps input now Overlong = KeepsInput input now × IsOverlong input now.longest
Steps input now End = KeepsInput input now × (input ≡ []) × (now.ended ≡ true)

-- What a step that may fail did. Where it fails nothing that came is lost, no line that had ended is left, and the input did not end.
abbrev pub Advances : {E : Type 0} → List ℕ → LineReading → Result Advance E → Type 0
Advances input now result = MatchResult result (Steps input now) (λ _. KeepsInput input now × HasNoLineFeed input × (now.ended ≡ false))

-- What a step did, before whose reads what was written is handed on. Where that fails nothing is read.
abbrev pub Goes : List ℕ → LineReading → Result Advance SessionFault → Type 0
Goes input now (Ok step) = Steps input now step
Goes input now (Err ReadFault) = KeepsInput input now × HasNoLineFeed input × (now.ended ≡ false)
Goes input now (Err WriteFault) = now.pending ≡ input
Goes input now (Err Lines) = ⊥
Goes input now (Err TooLong) = ⊥
Goes input now (Err Memory) = ⊥

-- The input is seen to end only where the last read found its end, and nothing is left to read.
abbrev pub KnowsEnd : LineReading → Option (List ℕ) → Bool → Type 0
KnowsEnd now left is_end = now.ended ≡ true → IsAtEnd left × (is_end ≡ true)

-- how the line and the pending bytes lie in a buffer of this size
pub record IsInOrder (size line_start line_end start end longest : ℕ) : Type 0 where
  pub line_ordered : line_start ≤ line_end
  pub line_before : line_end ≤ start
  pub line_within : line_end ≤ size
  pub ordered : start ≤ end
  pub within : end ≤ size
  pub room : longest < size

-- `count` of the bytes stand before their first line feed: all, if they have none
pub record IsAhead (bytes : List ℕ) (count : ℕ) : Type 0 where
  pub within : count ≤ length bytes
  pub none_yet : HasNoLineFeed (take count bytes)
  pub feed : count < length bytes → get_or bytes count 0 ≡ 10
