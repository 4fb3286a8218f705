-- The tables of a track, and what stands beside them so that names are looked up.
use Rattle.std.specs.Prelude.{◌≡◌, ℕ, nat_le, Bool, IsTrue, List, [], map, Result}
use Rattle.rbc_model.specs.declared.places.Format.{Format}
use Rattle.rbc_model.specs.declared.places.Format.TheVariants.{Near}
use Rattle.rbc_model.specs.GroupNames.{GroupName}
use Rattle.rbc_model.specs.declared.tracks.Link.{Link}
use Rattle.rbc_model.specs.declared.tracks.BaliseGroup.{BaliseGroup}
use Rattle.rbc_model.specs.declared.tracks.TrackRefusal.{TrackRefusal}
use Rattle.rbc_model.specs.declared.places.Direction.{Direction}
use Rattle.rbc_model.specs.Names.{LegName}
use Rattle.rbc_model.specs.declared.limits.TheConstants.{LONGEST_TRACK}
use Rattle.rbc_model.specs.Levels.{speed_levels, grade_levels}
use Rattle.rbc_model.specs.Profiles.{IsTrackFunction}
use Rattle.rbc_model.specs.Results.{demand, ◌>>◌}
use Rattle.rbc_model.specs.Tracks.{Section, Route, Track}
use Rattle.rbc_model.specs.SoundTracks.{IsInForm, IsSound}

-- a track of this format and these tables
abbrev pub track_with : Format → ℕ → ℕ → List Section → List Link → List BaliseGroup → List Route → Track
track_with format speed_steps grade_steps sections links groups routes = record {
  format = format;
  speed_steps = speed_steps;
  grade_steps = grade_steps;
  sections = sections;
  links = links;
  groups = groups;
  routes = routes;
}

-- a track of these sections and links alone
abbrev pub with_links : List Section → List Link → Track
with_links sections links = track_with Near 1 1 sections links [] []

-- what a track keeps
pub record IsSoundInForm (track : Track) : Type 0 where
  pub form : IsInForm track
  pub sound : IsSound track

-- the name of a section's leg in this direction
abbrev pub leg_named : Direction → Section → LegName
leg_named direction section = record { section = section.name; direction = direction }

-- what a section keeps by its own type
pub record IsSectionInForm (section : Section) : Type 0 where
  pub at_most : IsTrue (nat_le section.metres LONGEST_TRACK)
  pub speeds : IsTrackFunction speed_levels section.metres section.speeds
  pub grades : IsTrackFunction grade_levels section.metres section.grades

-- sections and their names
pub record IsSectionTable (sections : List Section) (names : List (List ℕ)) : Type 0 where
  pub listed : names ≡ map (λ section. section.name) sections

-- groups and their identities
pub record IsGroupTable (groups : List BaliseGroup) (names : List GroupName) : Type 0 where
  pub listed : names ≡ map (λ group. group.name) groups

-- routes and their names
pub record IsRouteTable (routes : List Route) (names : List (List ℕ)) : Type 0 where
  pub listed : names ≡ map (λ route. route.name) routes

-- the answer for an entry: its name is to be new, and it is to pass a test of its own
abbrev pub entry_answer : Bool → TrackRefusal → Bool → TrackRefusal → Result (Unit {0}) TrackRefusal
entry_answer is_new twice is_good bad = demand is_new twice >> demand is_good bad
