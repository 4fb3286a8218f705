use Rattle.std.proofs.Common.{ap, ◌∙◌, refl, rules, sym, SFits, w64}
use Rattle.std.proofs.lemmas.Int.{to_z-of_z}
use Rattle.rbc_model.specs.Messages.{message_bytes}
use Rattle.rbc_model.specs.Views.{View}
use Rattle.rbc_sweep.specs.Forms.{metres_shown}
use Rattle.rbc_sessions.proofs.AskingLemmas.{grades_lose, speeds_lose}
use Rattle.rbc_sessions.proofs.asking.told_of.Goals as goal

pub returns-clause-told : goal.returns-clause-told
returns-clause-told c =
    let fits : SFits w64 c.from.result = search rules in
    let seen = c.view-view.ensures.view in
    let authority = c.authority-authority.ensures.authority in
    record {
      train = c.train.ensures;
      version = refl;
      from = to_z-of_z w64 c.from.result fits ∙ c.from.ensures;
      obstacle = c.obstacle.ensures;
      authority = authority;
      message = c.message-message.ensures;
      writable = rw (← authority) c.known-2.ensures;
      speed_steps = c.speed_steps.ensures ∙ ap (λ (v : View). v.speed_steps) seen;
      speeds = c.speeds.ensures ∙ ap (λ (v : View). record { steps = v.speeds; end = metres_shown v }) seen;
      speed_prices = rw c.as_slice.ensures.value c.prices-prices.ensures.speeds;
      grade_steps = c.grade_steps.ensures ∙ ap (λ (v : View). v.grade_steps) seen;
      grades = c.grades.ensures ∙ ap (λ (v : View). record { steps = v.grades; end = metres_shown v }) seen;
      grade_prices = rw c.as_slice-2.ensures.value c.prices-prices.ensures.grades;
    }

pub invariant_of-result : goal.invariant_of-result
invariant_of-result c =
    let candidate = c.args.candidate.now in
    let view = c.view-view.ensures.view in
    let known = c.known.ensures in
    let authority = c.authority-authority.ensures.authority in
    record {
      told = c.message-message.ensures ∙ ap message_bytes (sym authority);
      speeds_lost = speeds_lose candidate c.authority-authority.result.now known.best authority c.losses-losses.result.speeds c.speeds.result.now
          c.losses-losses.ensures.speeds (c.speeds.ensures ∙ ap (λ (v : View). record { steps = v.speeds; end = metres_shown v }) view);
      grades_lost = grades_lose candidate c.authority-authority.result.now known.best authority c.losses-losses.result.grades c.grades.result.now
          c.losses-losses.ensures.grades (c.grades.ensures ∙ ap (λ (v : View). record { steps = v.grades; end = metres_shown v }) view);
    }
