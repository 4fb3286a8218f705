-- Books: the trains of a track in order of arrival.
use Rattle.std.specs.Prelude.{ℕ, ◌≢◌, List, [], All, AllPairs, Option, Some, ◌≡◌}
use Rattle.rbc_model.specs.Tracks.{Track}
use Rattle.rbc_model.specs.Trains.{Train}
use Rattle.rbc_model.specs.Scenes.{Scene, train_numbered}
use Rattle.rbc_model.specs.Events.{with_train, without_train}
use Rattle.rbc_model.specs.Histories.{AuthoritiesAreApart}
use Rattle.rbc_scene_laws.specs.Good.{IsGoodTrain}

-- the trains, and the track that they run on
pub record Book : Type 0 where
  pub track : Track
  pub trains : List Train

-- a scene of these trains alone: the book says nothing of locks
abbrev pub scene_of : List Train → Scene
scene_of trains = record { locks = []; trains = trains }

-- the number of a train
abbrev pub number_in : Train → ℕ
number_in train = train.report.train

-- the train of this number
abbrev pub train_in : Book → ℕ → Option Train
train_in book number = train_numbered (scene_of book.trains) number

-- this holds of the train of this number
abbrev pub HoldsOfTrain : Book → ℕ → (Train → Type 0) → Type 0
HoldsOfTrain book number says = (train : Train) → train_in book number ≡ Some train → says train

-- the book with the train as it is now; a new train is last
abbrev pub book_with : Book → Train → Book
book_with book train = record { track = book.track; trains = (with_train (scene_of book.trains) train).trains }

-- the book without the train of this number
abbrev pub book_without : Book → ℕ → Book
book_without book number = record { track = book.track; trains = (without_train (scene_of book.trains) number).trains }

-- what a book keeps: each train stands on its line, no two have a number, and no metre stands in the authorities of two
pub record IsGoodBook (book : Book) : Type 0 where
  pub trains : All (IsGoodTrain book.track) book.trains
  pub numbers_differ : AllPairs (λ a b. a.report.train ≢ b.report.train) book.trains
  pub apart : AuthoritiesAreApart book.track (scene_of book.trains)
