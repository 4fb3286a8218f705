-- The tracks of the worked examples, at full size. Sections and routes are named by their index: S1 is 0.
use Rattle.std.specs.Prelude.{ℕ, Bool, [], ◌∷◌, ◌++◌, Some, None, pos, negsuc, true, false, codes}
use Rattle.rbc_model.specs.declared.places.Direction.TheVariants.{Rising, Falling}
use Rattle.rbc_model.specs.declared.places.Leg.{Leg}
use Rattle.rbc_model.specs.declared.places.Format.TheVariants.{Near}
use Rattle.rbc_model.specs.declared.places.Format.{Format}
use Rattle.rbc_model.specs.Tracks.{Track}
use Rattle.rbc_model.specs.declared.reports.Event.{Event}
use Rattle.rbc_model.specs.declared.reports.Event.TheVariants.{Tell}
use Rattle.rbc_model.specs.declared.reports.Told.TheVariants.{Report as ToldReport, Lock as ToldLock, Free as ToldFree, Leave as ToldLeave, GiveBack as ToldGiveBack}

-- legs as a track file writes them, S+ and S-
abbrev pub plus : ℕ → Leg
plus s = record { section = s; direction = Rising }

abbrev pub minus : ℕ → Leg
minus s = record { section = s; direction = Falling }

-- a section S1 of this many metres, at 100 km/h and 5 per mille down, with a group at its start and a route along it
abbrev pub one_section : Format → ℕ → Track
one_section format metres =
    record {
      format = format;
      speed_steps = 31;
      grade_steps = 31;
      sections = record { name = codes "S1"; metres = metres; speeds = (0, 100) ∷ []; grades = (0, negsuc 4) ∷ [] } ∷ [];
      links = [];
      groups = record { name = record { country = 5; number = 17 }; section = 0; offset = 0; nominal = Rising } ∷ [];
      routes = record { name = codes "Along"; after = None; legs = plus 0 ∷ [] } ∷ [];
    }

abbrev pub single : Track
single = one_section Near 1000

abbrev pub long : Track
long = one_section Near 40000

-- two sections in a row, with routes both ways, and a section apart
abbrev pub double : Track
double =
    record {
      format = Near;
      speed_steps = 31;
      grade_steps = 31;
      sections =
          single.sections
          ++ record { name = codes "S2"; metres = 500; speeds = (0, 120) ∷ (200, 160) ∷ []; grades = (0, pos 3) ∷ [] }
          ∷ record { name = codes "S3"; metres = 300; speeds = (0, 40) ∷ []; grades = (0, pos 0) ∷ [] }
          ∷ [];
      links = record { from = plus 0; to = plus 1 } ∷ [];
      groups = single.groups ++ record { name = record { country = 5; number = 18 }; section = 1; offset = 100; nominal = Falling } ∷ [];
      routes =
          single.routes
          ++ record { name = codes "Onward"; after = Some (plus 0); legs = plus 1 ∷ [] }
          ∷ record { name = codes "Back"; after = None; legs = minus 1 ∷ minus 0 ∷ [] }
          ∷ record { name = codes "Apart"; after = None; legs = plus 2 ∷ [] }
          ∷ [];
    }

-- a balloon loop: A leads into L and L back onto A
abbrev pub balloon : Track
balloon =
    record {
      format = Near;
      speed_steps = 31;
      grade_steps = 31;
      sections =
          record { name = codes "A"; metres = 500; speeds = (0, 100) ∷ []; grades = (0, pos 0) ∷ [] }
          ∷ record { name = codes "L"; metres = 800; speeds = (0, 60) ∷ []; grades = (0, pos 0) ∷ [] }
          ∷ [];
      links = record { from = plus 0; to = plus 1 } ∷ record { from = plus 1; to = minus 0 } ∷ [];
      groups = record { name = record { country = 7; number = 1 }; section = 0; offset = 0; nominal = Rising } ∷ [];
      routes = record { name = codes "Round"; after = Some (plus 0); legs = plus 1 ∷ minus 0 ∷ [] } ∷ [];
    }

-- the requests of a session
abbrev pub lock : ℕ → Event
lock route = Tell (ToldLock route)

abbrev pub free : ℕ → Event
free section = Tell (ToldFree section)

abbrev pub leave : ℕ → Event
leave train = Tell (ToldLeave train)

abbrev pub give_back : ℕ → ℕ → Event
give_back train distance = Tell (ToldGiveBack train distance)

-- a train's report from a group: its country, whether the train runs nominal, and the numbers told
abbrev pub report_from : ℕ → Bool → ℕ → ℕ → ℕ → ℕ → ℕ → ℕ → ℕ → Event
report_from country nominal train number distance over under length time =
    Tell
    (ToldReport
    (record {
      train = train;
      group = record { country = country; number = number };
      nominal = nominal;
      distance = distance;
      over = over;
      under = under;
      length = length;
      time = time;
    }))

-- one from a group of country 5, running nominal or not
abbrev pub nominal : ℕ → ℕ → ℕ → ℕ → ℕ → ℕ → ℕ → Event
nominal = report_from 5 true

abbrev pub reverse : ℕ → ℕ → ℕ → ℕ → ℕ → ℕ → ℕ → Event
reverse = report_from 5 false
