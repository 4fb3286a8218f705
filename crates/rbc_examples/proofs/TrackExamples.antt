-- Which parts make a track, and the first reason why others do not.
use Rattle.std.specs.Prelude.{◌≡◌, ℕ, List, [], ◌∷◌, ◌++◌, Some, None, Ok, Err, refl, pos, codes, replicate}
use Rattle.rbc_model.specs.declared.places.Format.TheVariants.{Near}
use Rattle.rbc_model.specs.declared.places.Direction.TheVariants.{Rising, Falling}
use Rattle.rbc_model.specs.Names.{LegName}
use Rattle.rbc_model.specs.SoundTracks.{track_refusal, size_refusal}
use Rattle.rbc_model.specs.declared.tracks.TrackRefusal.TheVariants.{NoSection, TooMany, TwiceNamed, ShortRun, BadLink, BadGroup, BadRoute}
use Rattle.rbc_model.specs.declared.tracks.Table.TheVariants.{Sections, Links, Groups, Routes}
use Rattle.rbc_model.specs.TrackParts.{Parts, track_of}
use Rattle.rbc_examples.specs.Places.{single, double, balloon, long, plus, minus}

accepts_single : track_refusal single ≡ None
accepts_single = refl

accepts_double : track_refusal double ≡ None
accepts_double = refl

accepts_balloon : track_refusal balloon ≡ None
accepts_balloon = refl

accepts_long : track_refusal long ≡ None
accepts_long = refl

no_section : track_refusal (record single { sections = []; groups = []; routes = [] }) ≡ Some NoSection
no_section = refl

twice_named : track_refusal (record single { sections = single.sections ++ single.sections }) ≡ Some (TwiceNamed Sections 2)
twice_named = refl

short_run : track_refusal (record single { sections = record { name = codes "S1"; metres = 1000; speeds = (0, 100) ∷ (24, 120) ∷ []; grades = (0, pos 0) ∷ [] } ∷ [] }) ≡ Some (ShortRun 1)
short_run = refl

off_its_section : track_refusal (record single { groups = record { name = record { country = 5; number = 17 }; section = 0; offset = 1001; nominal = Rising } ∷ [] }) ≡ Some (BadGroup 1)
off_its_section = refl

both_ways : track_refusal (record single { routes = record { name = codes "Along"; after = None; legs = plus 0 ∷ minus 0 ∷ [] } ∷ [] }) ≡ Some (BadRoute 1)
both_ways = refl

not_linked : track_refusal (record balloon { links = record { from = plus 0; to = plus 1 } ∷ [] }) ≡ Some (BadRoute 1)
not_linked = refl

-- entered from the second of three legs
entered_from_within :
    track_refusal
    (record double {
      links = double.links ++ record { from = plus 1; to = plus 0 } ∷ record { from = plus 1; to = plus 2 } ∷ [];
      routes = single.routes ++ record { name = codes "Onward"; after = Some (plus 0); legs = plus 1 ∷ [] } ∷ record { name = codes "Apart"; after = Some (plus 1); legs = plus 0 ∷ plus 1 ∷ plus 2 ∷ [] } ∷ [];
    })
    ≡ Some (BadRoute 3)
entered_from_within = refl

-- the reverse of a link that is there
linked_before : track_refusal (record balloon { links = balloon.links ++ record { from = minus 1; to = minus 0 } ∷ [] }) ≡ Some (BadLink 3)
linked_before = refl

-- the tables' sizes are judged before all else
many_sections :
    size_refusal
    (record single {
      sections = single.sections ++ replicate 4096 (record {
        name = [];
        metres = 1;
        speeds = [];
        grades = [];
      });
    })
    ≡ Some (TooMany Sections)
many_sections = refl

many_links : size_refusal (record single { links = replicate 16385 (record { from = plus 0; to = plus 0 }) })
    ≡ Some (TooMany Links)
many_links = refl

many_groups :
    size_refusal
    (record single {
      groups = replicate 16385 (record {
        name = record { country = 5; number = 17 };
        section = 0;
        offset = 0;
        nominal = Rising;
      });
    })
    ≡ Some (TooMany Groups)
many_groups = refl

many_routes : size_refusal (record single { routes = replicate 4097 (record { name = []; after = None; legs = [] }) })
    ≡ Some (TooMany Routes)
many_routes = refl

as_many_as_may_be :
    size_refusal
    (record single {
      links = replicate 16384 (record { from = plus 0; to = plus 0 });
      routes = replicate 4096 (record { name = []; after = None; legs = [] });
    })
    ≡ None
as_many_as_may_be = refl

-- ---- parts, which name their sections

abbrev up : List ℕ → LegName
up name = record { section = name; direction = Rising }

abbrev down : List ℕ → LegName
down name = record { section = name; direction = Falling }

abbrev double_parts : Parts
double_parts =
    record {
      format = Near;
      speed_steps = 31;
      grade_steps = 31;
      sections = double.sections;
      links = record { from = up (codes "S1"); to = up (codes "S2") } ∷ [];
      groups =
          record { name = record { country = 5; number = 17 }; section = codes "S1"; offset = 0; nominal = Rising }
          ∷ record { name = record { country = 5; number = 18 }; section = codes "S2"; offset = 100; nominal = Falling }
          ∷ [];
      routes =
          record { name = codes "Along"; after = None; legs = up (codes "S1") ∷ [] }
          ∷ record { name = codes "Onward"; after = Some (up (codes "S1")); legs = up (codes "S2") ∷ [] }
          ∷ record { name = codes "Back"; after = None; legs = down (codes "S2") ∷ down (codes "S1") ∷ [] }
          ∷ record { name = codes "Apart"; after = None; legs = up (codes "S3") ∷ [] }
          ∷ [];
    }

makes_double : track_of double_parts ≡ Ok double
makes_double = refl

-- sections that are not there
link_to_nowhere :
    track_of
    (record double_parts { links = record { from = up (codes "S1"); to = up (codes "S4") } ∷ [] })
    ≡ Err (BadLink 1)
link_to_nowhere = refl

group_on_nothing :
    track_of
    (record double_parts {
      groups = record {
        name = record { country = 5; number = 17 };
        section = codes "s1";
        offset = 0;
        nominal = Rising;
      } ∷ [];
    })
    ≡ Err (BadGroup 1)
group_on_nothing = refl

route_from_nowhere :
    track_of
    (record double_parts {
      routes = record {
        name = codes "Onward";
        after = Some (up (codes "S4"));
        legs = up (codes "S2") ∷ [];
      } ∷ [];
    })
    ≡ Err (BadRoute 1)
route_from_nowhere = refl

-- the tables are judged in order
sections_before_links : track_of (record double_parts { sections = double.sections ++ double.sections; links = [] })
    ≡ Err (TwiceNamed Sections 4)
sections_before_links = refl

links_before_groups :
    track_of
    (record double_parts {
      links = record { from = up (codes "S1"); to = down (codes "S1") } ∷ [];
      groups = double_parts.groups ++ double_parts.groups;
    })
    ≡ Err (BadLink 1)
links_before_groups = refl

groups_before_routes :
    track_of
    (record double_parts {
      groups = double_parts.groups ++ double_parts.groups;
      routes = double_parts.routes ++ double_parts.routes;
    })
    ≡ Err (TwiceNamed Groups 3)
groups_before_routes = refl

route_twice : track_of (record double_parts { routes = double_parts.routes ++ double_parts.routes })
    ≡ Err (TwiceNamed Routes 5)
route_twice = refl
