-- What is shown ends where the speeds and gradients do, and the line is too short for a place that is no number.
use Rattle.std.proofs.Common.{◌≡◌, ℕ, ◌-◌, ◌*◌, ◌≤◌, true, ap, sym, subst, ◌∙◌, arith}
use Rattle.rbc_model.specs.declared.limits.TheConstants.{LONGEST_TRACK, MOST_SECTIONS}
use Rattle.rbc_model.specs.declared.places.Format.TheVariants.{Far}
use Rattle.rbc_model.specs.Scales.{is_expressible}
use Rattle.rbc_model.specs.Lines.{line_length}
use Rattle.rbc_model.specs.Tracks.{Track}
use Rattle.rbc_reach.specs.declared.parts.ViewParts.{ViewParts}
use Rattle.rbc_reach.specs.Forms.{are_in_form, view_of_parts}
use Rattle.rbc_reach.proofs.FormLemmas.{parts-in_form}
use Rattle.rbc_reach.proofs.FoundLemmas.{some_by}
use Rattle.rbc_reach.proofs.search.view_to.Goals as goal

pub unwrap-requires : goal.unwrap-requires
unwrap-requires c =
    let parts : ViewParts = record {
      train = c.train.result;
      group = c.group.result;
      nominal = c.nominal.result;
      time = c.time.result;
      legs = c.in_ok-legs_to.field-0;
      origin = c.origin-origin.result;
      start = c.start.result;
      front = c.front.result;
      to = c.to.result;
      reach = c.place-2.result;
      obstacle = c.obstacle.result;
      speed_steps = c.speed_steps.result;
      grade_steps = c.grade_steps.result;
      speeds = c.in_ok-speeds.field-0;
      grades = c.in_ok-grades.field-0;
    } in
    let fast : parts.speeds.end ≡ c.args.end - c.origin-origin.result = ap (λ r. r.end) c.in_ok-speeds.ensures in
    let steep : parts.grades.end ≡ c.args.end - c.origin-origin.result = ap (λ r. r.end) c.in_ok-grades.ensures in
    let origin = c.origin-origin.ensures.origin in
    let ahead = c.requires.ahead in
    let end : is_expressible Far parts.speeds.end ≡ true = subst (λ n. is_expressible Far n ≡ true) (sym (fast ∙ ap (λ o. c.args.end - o) origin)) c.requires.expressible in
    let on = c.requires.on_line in
    let few =
    subst (λ (metres : ℕ). metres ≤ MOST_SECTIONS * LONGEST_TRACK) (λ j. line_length (c.line-line.ensures.track j) (c.line-line.ensures.legs j))
    c.known.ensures.at_most in
    let form = c.known.ensures.form in
    let speed_steps = c.speed_steps.ensures ∙ ap (λ (t : Track). t.speed_steps) (c.deref.ensures ∙ c.track-track.ensures.track) in
    let grade_steps = c.grade_steps.ensures ∙ ap (λ (t : Track). t.grade_steps) (c.deref-2.ensures ∙ c.track-track.ensures.track) in
    some_by c.new.result (are_in_form parts) (view_of_parts parts) c.new.ensures
    (parts-in_form parts (steep ∙ sym fast) end (omega arith)
    (rw speed_steps form.some_speed_steps) (rw speed_steps form.few_speed_steps) (rw grade_steps form.some_grade_steps) (rw grade_steps form.few_grade_steps))
