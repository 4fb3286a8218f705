-- Talks: the lines of an input are answered in order, each in the state that the one before left behind.
use Rattle.std.specs.Prelude.{◌≡◌, ◌<◌, ◌≤◌, ℕ, List, [], ◌∷◌, ◌++◌, length, Option, Result, Ok, Err, All}
use Rattle.std.specs.Io.KnownBytes.{Appends}
use Rattle.rbc_model.specs.declared.limits.TheConstants.{MOST_LINES}
use Rattle.rbc_model.specs.declared.sessions.SessionFault.{SessionFault}
use Rattle.rbc_model.specs.declared.sessions.SessionFault.TheVariants.{Read, Write, Lines, Overlong, Memory}
use Rattle.rbc_model.specs.Sessions.{lines_of, line_feeds, WritesPart}

-- each line is answered by itself, and there is nothing to keep
abbrev pub EachByItself : (List ℕ → List ℕ → Type 0) → Unit {0} → List ℕ → List ℕ → Unit {0} → Type 0
EachByItself Answers state line reply next = Answers line reply

-- These lines are answered in order, by this text in all, and lead from the first state to the last.
abbrev pub Answered : {State : Type 0} → (State → List ℕ → List ℕ → State → Type 0)
    → State → List (List ℕ) → List ℕ → State → Type 0
Answered Answers first [] text last = (text ≡ []) × (last ≡ first)
Answered {State} Answers first (line ∷ lines) text last =
    (reply : List ℕ) × (rest : List ℕ) × (next : State) × Answers first line reply next
    × (text ≡ reply ++ rest) × Answered Answers next lines rest last

-- where a line of more than `longest` bytes is too long
module _ (longest : ℕ) where
  -- no line is too long
  abbrev pub AreShort : List (List ℕ) → Type 0
  AreShort lines = All (λ line. length line ≤ longest) lines

  -- only the last line is too long
  abbrev pub IsStoppedByLast : List (List ℕ) → Type 0
  IsStoppedByLast lines = (before : List (List ℕ)) × (line : List ℕ)
      × (lines ≡ before ++ line ∷ []) × AreShort before × (longest < length line)

  -- only the last line may be too long
  abbrev pub AreShortButLast : List (List ℕ) → Type 0
  AreShortButLast lines = (before : List (List ℕ)) × (line : List ℕ) × (lines ≡ before ++ line ∷ []) × AreShort before

  -- How far a talk over this input went that ended so, and how much of its text it wrote: these lines were treated, and the rest was not.
  -- Where the reader failed, each line that had ended was treated.
  abbrev pub Ends : List ℕ → Option (List ℕ) → Option (List ℕ) → List (List ℕ) → List (List ℕ) → List ℕ
      → Result (Unit {0}) SessionFault → Type 0
  Ends input old new treated rest text (Ok done) = Appends old new text × AreShort treated × (rest ≡ [])
  Ends input old new treated rest text (Err Lines) =
      Appends old new text × AreShort treated × (length treated ≡ MOST_LINES) × (0 < length rest)
  Ends input old new treated rest text (Err Overlong) = Appends old new text × IsStoppedByLast treated
  Ends input old new treated rest text (Err Read) =
      Appends old new text × AreShort treated × (length treated ≡ line_feeds input)
  Ends input old new treated rest text (Err Write) = WritesPart old new text × AreShortButLast treated
  Ends input old new treated rest text (Err Memory) = Appends old new text × (treated ≡ [])

  -- A talk over this input, from the first state to the last, that ended so. Its first lines were treated: each is
  -- answered, and the text is made of the replies.
  pub record IsTalk {State : Type 0} (Answers : State → List ℕ → List ℕ → State → Type 0) (first last : State)
      (input : List ℕ) (old new : Option (List ℕ)) (result : Result (Unit {0}) SessionFault) : Type 0 where
    pub treated : List (List ℕ)
    pub rest : List (List ℕ)
    pub text : List ℕ
    pub lines : lines_of input ≡ treated ++ rest
    pub few : length treated ≤ MOST_LINES
    pub answered : Answered Answers first treated text last
    pub ends : Ends input old new treated rest text result
