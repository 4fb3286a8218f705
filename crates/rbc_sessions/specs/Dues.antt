-- What is due to lines that rested: a reply to what was told, or an answer to a train that asked.
use Rattle.std.specs.Prelude.{ℕ, suc, List, [], ◌∷◌, Option, Some, None}

pub data Due (T A : Type 0) : Type 0 where
  ToldSo : T → Due T A
  AskedSo : A → Due T A

-- what is due, in order, and for how many more there is room
pub record DueList (T A : Type 0) : Type 0 where
  pub dues : List (Due T A)
  pub room : ℕ

-- these replies in order, and the next answer where there is none
abbrev pub dues_of : {T A : Type 0} → List (Option T) → List A → List (Due T A)
dues_of [] answers = []
dues_of (Some reply ∷ replies) answers = ToldSo reply ∷ dues_of replies answers
dues_of (None ∷ replies) [] = dues_of replies []
dues_of (None ∷ replies) (answer ∷ answers) = AskedSo answer ∷ dues_of replies answers

-- how many answers are due
abbrev pub asked_in : {T : Type 0} → List (Option T) → ℕ
asked_in [] = 0
asked_in (Some reply ∷ replies) = asked_in replies
asked_in (None ∷ replies) = suc (asked_in replies)
