-- Trains and placings together with their track.
use Rattle.std.specs.Prelude.{ℕ, ◌≤◌}
use Rattle.rbc_model.specs.Tracks.{Track}
use Rattle.rbc_model.specs.Reports.{Report}
use Rattle.rbc_model.specs.Lines.{line_length}
use Rattle.rbc_model.specs.Trains.{Train}
use Rattle.rbc_model.specs.Placing.{Placed}
use Rattle.rbc_line.specs.OnTracks.{LineOnTrack}

-- a train, and the track that its line is of
pub record TrainOnTrack : Type 0 where
  pub track : Track
  pub train : Train

-- the train of this line
abbrev pub train_on : LineOnTrack → Report → ℕ → ℕ → ℕ → ℕ → ℕ → Train
train_on line report origin rear front from to = record {
  report = report;
  line = line.legs;
  origin = origin;
  rear = rear;
  front = front;
  from = from;
  to = to;
}

-- where a train is placed, and the track that its line is of
pub record PlacedOnTrack : Type 0 where
  pub track : Track
  pub placed : Placed

-- the placing on this line
abbrev pub placed_on_line : LineOnTrack → ℕ → ℕ → ℕ → Placed
placed_on_line line origin rear front = record { line = line.legs; origin = origin; rear = rear; front = front }

-- the places of a placing stand on its line: neither the group nor the rear lies beyond the front, and the front not beyond the line's end
pub record StandsOnLine (line : LineOnTrack) (origin rear front : ℕ) : Type 0 where
  pub group : origin ≤ front
  pub behind : rear ≤ front
  pub on_line : front ≤ line_length line.track line.legs
