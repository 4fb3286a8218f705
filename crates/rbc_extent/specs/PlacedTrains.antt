-- Trains where a report places them.
use Rattle.std.specs.Prelude.{ℕ, max}
use Rattle.rbc_model.specs.Reports.{Report}
use Rattle.rbc_model.specs.Tracks.{Track}
use Rattle.rbc_model.specs.Trains.{Train}
use Rattle.rbc_model.specs.Placing.{Placed, through}

-- the train where it is placed, with the authority from one place to another, and without the legs ahead that it does not need
abbrev pub placed_train : Track → Report → Placed → ℕ → ℕ → Train
placed_train track report placed from to = record {
  report = report;
  line = through track report (max placed.front to) placed.line;
  origin = placed.origin;
  rear = placed.rear;
  front = placed.front;
  from = from;
  to = to;
}
