-- A train by its parts.
use Rattle.rbc_model.specs.Reports.{Report}
use Rattle.rbc_model.specs.Trains.{Train}
use Rattle.rbc_line.specs.OnTracks.{LineOnTrack}
use Rattle.rbc_extent.specs.TrainsOnTracks.{train_on}
use Rattle.rbc_extent.specs.declared.train.Places.{Places}

-- the train with this last report, on this line at these places
abbrev pub train_at : LineOnTrack → Report → Places → Train
train_at line report places = train_on line report places.origin places.rear places.front places.from places.to
