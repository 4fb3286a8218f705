-- What the line `next` of a scene tells of a train is what an `ask` of it is answered then.
use Rattle.std.specs.Prelude.{◌≡◌, ℕ, ◌+◌, false, List, ◌∷◌, ◌++◌, length, Option, Some, None, Ok, codes, decimal}
use Rattle.rbc_model.specs.Words.{line_of}
use Rattle.rbc_model.specs.Trains.{Train}
use Rattle.rbc_model.specs.Scenes.{train_numbered}
use Rattle.rbc_model.specs.Views.{greatest_end, reach, start_of, stop}
use Rattle.rbc_model.specs.Histories.{Beginning, Entry, is_full, replay}
use Rattle.rbc_model.specs.SceneLines.{distance_word, end_word}
use Rattle.rbc_model.specs.SessionReply.{obstacle_words}
use Rattle.rbc_session_laws.specs.declared.command.Command.TheVariants.{Authority}
use Rattle.rbc_session_laws.specs.Commands.{command_in}
use Rattle.rbc_session_laws.specs.Answers.{line_answer}

-- the text begins with the line of these words
abbrev pub BeginsWith : List (List ℕ) → List ℕ → Type 0
BeginsWith words text = (rest : List ℕ) × (text ≡ line_of words ++ rest)

-- Where `next` tells no end, the reply is `blocked`, with the place and the obstacle of `next`; where it tells one, the reply is `granted` unless the
-- history is full, up to that end, with that obstacle.
abbrev pub AnswersAsNext : Beginning → List Entry → ℕ → Train → Option ℕ → List ℕ → Type 0
AnswersAsNext begin before number train None reply =
    let scene = replay begin before in
    reply
    ≡ line_of (codes "blocked" ∷ decimal number ∷ decimal (length before) ∷ distance_word train (reach begin.track scene train) ∷ obstacle_words begin.track (stop begin.track scene train))
AnswersAsNext begin before number train (Some end) reply =
    let scene = replay begin before in
    is_full begin before ≡ false
    → BeginsWith
    (codes "granted" ∷ decimal number ∷ decimal (length before + 1) ∷ distance_word train (start_of train) ∷ end_word train (Some end) ∷ obstacle_words begin.track (stop begin.track scene train))
    reply

-- so it is with each train of the scene that a history leads to, and with each line that asks for its authority
abbrev pub NextsAreAsked : Type 0
NextsAreAsked = (begin : Beginning) (before : List Entry) (line : List ℕ) (number : ℕ) (train : Train) → train_numbered (replay begin before) number ≡ Some train
    → command_in begin.track line ≡ Ok (Authority number) → AnswersAsNext begin before number train (greatest_end begin.track (replay begin before) train) (line_answer begin before line).reply
