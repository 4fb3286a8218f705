-- What every legal history is that begins with a good scene, on a sound track.
use Rattle.std.specs.Prelude.{ℕ, List, take}
use Rattle.rbc_scene_laws.specs.Good.{IsGoodScene}
use Rattle.rbc_model.specs.SoundTracks.{IsSound}
use Rattle.rbc_model.specs.Histories.{Beginning, Entry, IsLegal, IsBestHistory, NoMetreIsHeldTwice}
use Rattle.rbc_record.specs.Headline.{EachEndIsFarthest, EachProfileIsBest}

-- it is a best one: each authority is the best at its place, and no two ever overlap
abbrev pub LegalHistoriesAreBest : Type 0
LegalHistoriesAreBest = (begin : Beginning) (entries : List Entry) → IsSound begin.track → IsGoodScene begin.track begin.scene → IsLegal begin entries → IsBestHistory begin entries

-- each of its beginnings is legal, and so a best one too
abbrev pub LegalHistoriesBeginLegally : Type 0
LegalHistoriesBeginLegally = (begin : Beginning) (entries : List Entry) (moment : ℕ) → IsLegal begin entries → IsLegal begin (take moment entries)

-- each of its grants ended at the farthest safe end that a message can give, before a real obstacle
abbrev pub EndsAreFarthest : Type 0
EndsAreFarthest = (begin : Beginning) (entries : List Entry) → IsLegal begin entries → EachEndIsFarthest begin entries

-- each of its grants had the best profiles of speeds and of gradients
abbrev pub ProfilesAreBest : Type 0
ProfilesAreBest = (begin : Beginning) (entries : List Entry) → IsLegal begin entries → EachProfileIsBest begin entries

-- at no moment did a metre stand in two authorities
abbrev pub AuthoritiesStayApart : Type 0
AuthoritiesStayApart = (begin : Beginning) (entries : List Entry) → IsSound begin.track → IsGoodScene begin.track begin.scene → IsLegal begin entries → NoMetreIsHeldTwice begin entries
