-- The numbers of trains.
use Rattle.std.proofs.Common.{◌≡◌, List, [], ◌∷◌, ap, map, refl}
use Rattle.rbc_model.specs.Tracks.{Track}
use Rattle.rbc_model.specs.Trains.{Train}
use Rattle.rbc_snap.specs.BookEntries.{number_on, on_track}

-- the numbers of trains that are shown with their track
pub numbers_on : (track : Track) (trains : List Train) → map number_on (map (on_track track) trains) ≡ map (λ (train : Train). train.report.train) trains
numbers_on track [] = refl
numbers_on track (t ∷ ts) = ap (λ numbers. t.report.train ∷ numbers) (numbers_on track ts)
