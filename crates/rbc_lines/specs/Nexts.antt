-- What a train would be granted now.
use Rattle.rbc_model.specs.Tracks.{Track}
use Rattle.rbc_model.specs.Trains.{Train}
use Rattle.rbc_model.specs.Scenes.{Scene}
use Rattle.rbc_model.specs.Views.{reach, stop, greatest_end}
use Rattle.rbc_lines.specs.declared.next.Next.{Next}

-- the end, the reach and the obstacle of the definitions
abbrev pub next_of : Track → Scene → Train → Next
next_of track scene train = record { end = greatest_end track scene train; reach = reach track scene train; obstacle = stop track scene train }
