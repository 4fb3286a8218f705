-- What each view on a track in form shows: an end that a message can give, and one speed and one gradient for each metre up to there.
use Rattle.std.proofs.Common.{◌≡◌, ℕ, ◌-◌, ◌<◌, ◌≤◌, true, Ok, subst, arith, nat_lt}
use Rattle.std.proofs.lemmas.Bool.{ltb-true}
use Rattle.rbc_model.specs.Scales.{is_expressible}
use Rattle.rbc_model.specs.Levels.{speed_levels, grade_levels}
use Rattle.rbc_model.specs.Profiles.{IsTrackFunction}
use Rattle.rbc_model.specs.Tracks.{Track}
use Rattle.rbc_model.specs.SoundTracks.{IsInForm}
use Rattle.rbc_model.specs.Lines.{line_length, speeds_from, grades_from}
use Rattle.rbc_model.specs.Trains.{Train}
use Rattle.rbc_model.specs.Scenes.{Scene}
use Rattle.rbc_model.specs.Obstacles.{way}
use Rattle.rbc_model.specs.Views.{View, view, view_to}
use Rattle.rbc_model.proofs.EndLemmas.{IsGreatestEnd-greatest_end, le_reach-IsSafe, reach-le}
use Rattle.rbc_model.proofs.LevelLemmas.{speed_lawful, grade_lawful}
use Rattle.rbc_grant_laws.proofs.CoveredLemmas.{speeds_are_covered, grades_are_covered}
use Rattle.rbc_grant_laws.proofs.CandidateLemmas.{placed_well, is_seen, is_there}
use Rattle.rbc_session_laws.specs.Answers.{metres_shown}
use Rattle.rbc_steps.proofs.TrackRunLemmas.{IsTrackFunction-runs_over}
use Rattle.std.specs.Cmp.{first_so, second_so}

-- ---- views

pub record IsShownWell (track : Track) (shown : View) : Type 0 where
  pub expressible : is_expressible track.format (metres_shown shown) ≡ true
  pub speeds : IsTrackFunction speed_levels (metres_shown shown) shown.speeds
  pub grades : IsTrackFunction grade_levels (metres_shown shown) shown.grades
  pub speed_steps : 0 < shown.speed_steps
  pub grade_steps : 0 < shown.grade_steps

shown_to : (track : Track) (scene : Scene) (train : Train) (end : ℕ) → IsInForm track → train.origin < end → is_expressible track.format (end - train.origin) ≡ true
    → end ≤ line_length track (way track scene train) → IsShownWell track (view_to track scene train end)
shown_to track scene train end form some expressible on_way =
    let line = way track scene train in
    let first = form.some_speed_steps in
    let second = form.some_grade_steps in
    record {
      expressible = expressible;
      speeds = IsTrackFunction-runs_over speed_levels speed_lawful (end - train.origin) (speeds_from track line train.origin) (omega arith)
          (speeds_are_covered track line train.origin (end - train.origin) form (omega arith));
      grades = IsTrackFunction-runs_over grade_levels grade_lawful (end - train.origin) (grades_from track line train.origin) (omega arith)
          (grades_are_covered track line train.origin (end - train.origin) form (omega arith));
      speed_steps = omega arith;
      grade_steps = omega arith;
    }

pub shown_well : (track : Track) (scene : Scene) (number : ℕ) (shown : View) → IsInForm track → view track scene number ≡ Ok shown → IsShownWell track shown
shown_well track scene number shown form h =
    let t = is_there track scene number shown h in
    let train = t.train in
    let s = is_seen track scene train shown t.view in
    let placed = placed_well track scene train s.end s.greatest in
    let g = IsGreatestEnd-greatest_end track scene train s.end placed.begins placed.stopped s.greatest in
    let near = le_reach-IsSafe track scene train s.end placed.begins placed.stopped g.safe in
    let far = reach-le track scene train in
    let ahead = ltb-true train.origin s.end (first_so (nat_lt train.origin s.end) (is_expressible track.format (s.end - train.origin)) g.expressible) in
    let expressible = second_so (nat_lt train.origin s.end) (is_expressible track.format (s.end - train.origin)) g.expressible in
    subst (IsShownWell track) s.is (shown_to track scene train s.end form ahead expressible (omega arith))
