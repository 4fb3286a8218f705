-- How far a train may run, told by legs. No place is searched for.
use Rattle.std.specs.Prelude.{◌≡◌, ℕ, ◌<◌, ◌≤◌, ◌↔◌, IsTrue, length, None}
use Rattle.rbc_model.specs.declared.places.Format.{Format}
use Rattle.rbc_model.specs.declared.refusals.Obstacle.{Obstacle}
use Rattle.rbc_model.specs.Scales.{is_expressible}
use Rattle.rbc_model.specs.Tracks.{Track}
use Rattle.rbc_model.specs.Trains.{Train}
use Rattle.rbc_model.specs.Scenes.{Scene}
use Rattle.rbc_model.specs.Views.{reach, stop, greatest_end, is_expressible_end}
use Rattle.rbc_reach_laws.specs.Nearest.{reach_by_legs, walk_then, walk_on, greatest_up_to, greatest_end_by}

-- the reach is the nearest of the way's end, the limit, the first leg that is not locked, and what each other train has
abbrev pub ReachesAreNearest : Type 0
ReachesAreNearest = (track : Track) (scene : Scene) (train : Train) → reach track scene train ≡ reach_by_legs track scene train

-- the walk along the line and then along the locks, which looks up the next leg when the ones before it are walked
abbrev pub walked : Track → Scene → Train → ℕ × Obstacle
walked track scene train = walk_then (walk_on track scene train (length track.sections) train.line) track scene train None 0 train.line

-- it finds the reach and what stands there
abbrev pub WalksFindTheReach : Type 0
WalksFindTheReach = (track : Track) (scene : Scene) (train : Train) → (reach track scene train ≡ (walked track scene train).0) × (stop track scene train ≡ (walked track scene train).1)

-- Of the distances up to this one a message can give none that is greater.
pub record IsGreatestUpTo (format : Format) (distance greatest : ℕ) : Type 0 where
  pub up_to : greatest ≤ distance
  pub expressible : 0 < greatest → IsTrue (is_expressible format greatest)
  pub none_between : (other : ℕ) → greatest < other → other ≤ distance → IsTrue (is_expressible format other) → ⊥

-- the greatest distance that a message can give, of those up to one
abbrev pub DistancesAreGreatest : Type 0
DistancesAreGreatest = (format : Format) (distance : ℕ) → IsGreatestUpTo format distance (greatest_up_to format distance)

-- the greatest end is the last place up to the reach whose distance a message can give, if that is an end
abbrev pub GreatestEndsAreToldByTheReach : Type 0
GreatestEndsAreToldByTheReach = (track : Track) (scene : Scene) (train : Train) → greatest_end track scene train ≡ greatest_end_by track.format train (reach track scene train)

-- there is none exactly where a message can give no place beyond the front, from the authority's end on, up to the reach
abbrev pub TrainsAreBlockedWhereNoEndIs : Type 0
TrainsAreBlockedWhereNoEndIs = (track : Track) (scene : Scene) (train : Train) →
    (greatest_end track scene train ≡ None)
    ↔ ((end : ℕ) → train.front < end → train.to ≤ end → end ≤ reach track scene train → IsTrue (is_expressible_end track train end) → ⊥)
