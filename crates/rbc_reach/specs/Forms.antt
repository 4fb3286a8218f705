-- What a view is made of, and what each view keeps.
use Rattle.std.specs.Prelude.{ℕ, ◌+◌, ◌-◌, ◌<◌, ◌≤◌, ◌^◌, Bool, ◌&&◌, ◌==◌, nat_le, IsTrue}
use Rattle.rbc_model.specs.declared.limits.TheConstants.{FARTHEST_END_IN_TENS, MOST_STEPS}
use Rattle.rbc_model.specs.declared.places.Format.TheVariants.{Far}
use Rattle.rbc_model.specs.Levels.{speed_levels, grade_levels}
use Rattle.rbc_model.specs.Profiles.{IsTrackFunction}
use Rattle.rbc_model.specs.Results.{is_from_to}
use Rattle.rbc_model.specs.Scales.{is_expressible}
use Rattle.rbc_model.specs.Views.{View}
use Rattle.rbc_reach.specs.declared.parts.ViewParts.{ViewParts}

-- the view of these parts, which ends where its speeds do
abbrev pub view_of_parts : ViewParts → View
view_of_parts parts = record {
  train = parts.train;
  group = parts.group;
  nominal = parts.nominal;
  time = parts.time;
  line = parts.legs.items;
  origin = parts.origin;
  start = parts.start;
  front = parts.front;
  to = parts.to;
  end = parts.origin + parts.speeds.end;
  reach = parts.reach;
  obstacle = parts.obstacle;
  speed_steps = parts.speed_steps;
  grade_steps = parts.grade_steps;
  speeds = parts.speeds.steps;
  grades = parts.grades.steps;
}

-- whether the speeds and gradients end at one metre, which a message can give, the places are no greater than numbers
-- of the program can be, and a packet has room for as many steps as each profile may have
abbrev pub are_in_form : ViewParts → Bool
are_in_form parts =
    parts.grades.end == parts.speeds.end
    && is_expressible Far parts.speeds.end
    && nat_le parts.origin (2 ^ 32 - 1 - FARTHEST_END_IN_TENS)
    && is_from_to 1 MOST_STEPS parts.speed_steps
    && is_from_to 1 MOST_STEPS parts.grade_steps

-- how many metres the view shows speeds and gradients of: from the group to the end
abbrev pub metres_shown : View → ℕ
metres_shown view = view.end - view.origin

-- Each view has an end beyond its group that a message can give, one speed and one gradient for each metre from the
-- group to there, and limits of steps that a packet has room for.
pub record IsViewInForm (view : View) : Type 0 where
  pub ahead : view.origin < view.end
  pub expressible : IsTrue (is_expressible Far (metres_shown view))
  pub in_range : view.end < 2 ^ 32
  pub speeds : IsTrackFunction speed_levels (metres_shown view) view.speeds
  pub grades : IsTrackFunction grade_levels (metres_shown view) view.grades
  pub some_speed_steps : 1 ≤ view.speed_steps
  pub few_speed_steps : view.speed_steps ≤ MOST_STEPS
  pub some_grade_steps : 1 ≤ view.grade_steps
  pub few_grade_steps : view.grade_steps ≤ MOST_STEPS
