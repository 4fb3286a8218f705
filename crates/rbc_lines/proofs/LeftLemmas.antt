-- The trains that are left to print, and what each of them would be granted.
use Rattle.std.proofs.Common.{◌≡◌, List, ◌∷◌, map, sym, ap, ◌∙◌}
use Rattle.rbc_model.specs.Tracks.{Track}
use Rattle.rbc_model.specs.Trains.{Train}
use Rattle.rbc_model.specs.Scenes.{Scene}
use Rattle.rbc_scene.specs.TrainsOnTracks.{TrainOnTrack}
use Rattle.rbc_scene.specs.Entries.{on_track}
use Rattle.rbc_lines.specs.declared.next.Next.{Next}
use Rattle.rbc_lines.specs.Nexts.{next_of}

-- a train off its track
abbrev pub train_of : TrainOnTrack → Train
train_of t = t.train

-- of the trains that are left, the first one is on the track, and it is known what it and those behind it would be granted
pub record IsFirst (track : Track) (scene : Scene) (first : TrainOnTrack) (more : List TrainOnTrack) (next : Next) (rest : List Next) : Type 0 where
  pub on : first.track ≡ track
  pub told : next ≡ next_of track scene first.train
  pub tracks : more ≡ map (on_track track) (map train_of more)
  pub nexts : rest ≡ map (next_of track scene) (map train_of more)

pub first_left : (track : Track) (scene : Scene) (left : List TrainOnTrack) (first : TrainOnTrack) (more : List TrainOnTrack) (nexts : List Next) (next : Next) (rest : List Next)
    → left ≡ first ∷ more → left ≡ map (on_track track) (map train_of left) → nexts ≡ map (next_of track scene) (map train_of left) → next ∷ rest ≡ nexts
    → IsFirst track scene first more next rest
first_left track scene left first more nexts next rest cut tracks told parts =
    let heads : first ∷ more ≡ on_track track first.train ∷ map (on_track track) (map train_of more) = sym cut ∙ tracks ∙ ap (λ l. map (on_track track) (map train_of l)) cut in
    let knowns : next ∷ rest ≡ next_of track scene first.train ∷ map (next_of track scene) (map train_of more) = parts ∙ told ∙ ap (λ l. map (next_of track scene) (map train_of l)) cut in
    let same : first ≡ on_track track first.train = cc heads in
    record {
      on = ap (λ (t : TrainOnTrack). t.track) same;
      told = cc knowns;
      tracks = cc heads;
      nexts = cc knowns;
    }
