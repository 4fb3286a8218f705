use Rattle.std.proofs.Common.{refl, subst}
use Rattle.rbc_model.specs.Messages.{message_bytes}
use Rattle.rbc_reach.specs.Forms.{IsViewInForm}
use Rattle.rbc_grant.specs.Candidates.{granted, IsCandidate}
use Rattle.rbc_grant.specs.declared.certificates.Losses.{Losses}
use Rattle.rbc_grant.specs.declared.certificates.PriceTables.{PriceTables}
use Rattle.rbc_grant.proofs.MadeLemmas.{AreReductions, the_authority, candidate_made}
use Rattle.rbc_grant.proofs.candidates.of_view.candidate.Given.{Over}
use Rattle.rbc_grant.proofs.candidates.of_view.candidate.Goals as goal
use Rattle.rbc_grant.proofs.candidates.of_view.candidate.Goals.{After-unwrap-authority}

-- the view ends where a message can give it
form_here : (g : Over) (c : After-unwrap-authority g) → IsViewInForm c.args.view
form_here g c = subst IsViewInForm c.view.view_is c.view.invariant.0

-- both profiles are reductions of what the view shows
reductions_here : (g : Over) (c : After-unwrap-authority g)
    → AreReductions c.args.view c.in_ok-speeds.speeds.profile c.in_ok-grades.grades.profile
    (record { speeds = c.in_ok-speeds.speeds.loss; grades = c.in_ok-grades.grades.loss })
    (record { speeds = c.in_ok-speeds.speeds.prices; grades = c.in_ok-grades.grades.prices })
reductions_here g c =
    record {
      far = (form_here g c).expressible;
      speeds_reduced = rw c.in_ok-speeds.was at c.reduced-speeds.ensures.speeds;
      grades_reduced = rw c.in_ok-grades.was at c.reduced-speeds.ensures.grades;
    }

-- with the message of its authority, what has been made is a candidate of the view
candidate_here : (g : Over) (c : After-unwrap-authority g)
    → IsCandidate c.args.view (granted c.args.view c.unwrap-authority.result) (message_bytes c.unwrap-authority.result)
    (record { speeds = c.in_ok-speeds.speeds.loss; grades = c.in_ok-grades.grades.loss })
    (record { speeds = c.in_ok-speeds.speeds.prices; grades = c.in_ok-grades.grades.prices })
candidate_here g c =
    let view = c.args.view in
    let speeds = c.in_ok-speeds.speeds in
    let grades = c.in_ok-grades.grades in
    let lost : Losses = record { speeds = speeds.loss; grades = grades.loss } in
    let tables : PriceTables = record { speeds = speeds.prices; grades = grades.prices } in
    let are = reductions_here g c in
    candidate_made view c.unwrap-authority.result speeds.profile grades.profile lost tables (message_bytes c.unwrap-authority.result) (form_here g c) are
    (the_authority view speeds.profile grades.profile lost tables c.time-time.result c.group-group.result c.nominal-nominal.result c.new.result c.unwrap-authority.result are
    c.time-time.ensures c.group-group.ensures c.nominal-nominal.ensures c.new.ensures c.unwrap-authority.ensures)
    refl

pub invariant_of-result : goal.invariant_of-result
invariant_of-result g c =
    let made = candidate_here g (goal.at.invariant_of-result g c).After-unwrap-authority in
    rw c.in_ok-new.ensures.ok (rw c.in_ok-offer.ensures.ok (rw c.of.ensures (record { best = made.best; chosen = made.chosen; message = c.in_ok-message.ensures; losses = made.losses; prices = made.prices })))

pub returns-clause-best : goal.returns-clause-best
returns-clause-best g c = rw c.in_ok-new.ensures.ok (rw c.in_ok-offer.ensures.ok (rw c.of.ensures (candidate_here g (goal.at.returns-clause-best g c).After-unwrap-authority).best))

pub returns-clause-chosen : goal.returns-clause-chosen
returns-clause-chosen g c = rw c.in_ok-new.ensures.ok (rw c.in_ok-offer.ensures.ok (rw c.of.ensures (candidate_here g (goal.at.returns-clause-chosen g c).After-unwrap-authority).chosen))
