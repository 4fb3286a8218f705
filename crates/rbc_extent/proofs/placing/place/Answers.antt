use Rattle.std.proofs.Common.{◌≡◌, sym, subst, Result, Err, IfErr}
use Rattle.std.specs.Prelude.{option_map}
use Rattle.std.specs.Arc.{arc_value}
use Rattle.std.proofs.lemmas.Result.{err_from_is_err_and}
use Rattle.rbc_model.specs.declared.memory.OrMemory.{OrMemory}
use Rattle.rbc_model.specs.declared.memory.OrMemory.TheVariants.{Refused}
use Rattle.rbc_model.specs.declared.refusals.Refusal.{Refusal}
use Rattle.rbc_model.specs.Placing.{Placed, place}
use Rattle.rbc_extent.specs.Findings.{finding_view}
use Rattle.rbc_extent.specs.PlacingSteps.{Finding, finding}
use Rattle.rbc_extent.specs.declared.finding.Finding.{Finding as FindingHere}
use Rattle.rbc_extent.proofs.FindingLemmas.{place-finding, place-found, place-refused}
use Rattle.rbc_extent.proofs.OutcomeLemmas.{refuses-weaker, fails, gives, handed_on, nothing-told, refused-mapped, refused-told}
use Rattle.rbc_extent.proofs.placing.place.Goals as goal

pub returns-in_err-finding-clause-placed : goal.returns-in_err-finding-clause-placed
returns-in_err-finding-clause-placed c =
    let p = err_from_is_err_and c.from_residual.result c.from_residual.ensures.1 in
    rw (p.1, p.2)
    (refuses-weaker c.in_err-finding.field-0.0 (finding (arc_value c.args.track.now) c.args.locks.now (option_map (λ line. line.now.legs) c.args.known) c.args.report.now) (place (arc_value c.args.track.now) c.args.locks.now (option_map (λ line. line.now.legs) c.args.known) c.args.report.now)
    (place-refused (arc_value c.args.track.now) c.args.locks.now (option_map (λ line. line.now.legs) c.args.known) c.args.report.now) c.in_err-finding.ensures.finding)

pub returns-clause-placed : goal.returns-clause-placed
returns-clause-placed c =
    place-found (arc_value c.args.track.now) c.args.locks.now (option_map (λ line. line.now.legs) c.args.known) c.args.report.now (finding_view c.in_ok-finding.finding) c.in_ok-finding.ensures.finding

pub returns-in_err-finding-clause-refused : goal.returns-in_err-finding-clause-refused
returns-in_err-finding-clause-refused c =
    let p = err_from_is_err_and c.from_residual.result c.from_residual.ensures.1 in
    let a = finding (arc_value c.args.track.now) c.args.locks.now (option_map (λ line. line.now.legs) c.args.known) c.args.report.now in
    subst (λ (r : Result Placed Refusal). IfErr r (λ (refusal : Refusal). c.from_residual.result ≡ Err (Refused refusal))) (sym (place-finding (arc_value c.args.track.now) c.args.locks.now (option_map (λ line. line.now.legs) c.args.known) c.args.report.now))
    (refused-mapped (λ (f : Finding). f.placed) a (λ (refusal : Refusal). c.from_residual.result ≡ Err (Refused refusal))
    (refused-told a (λ (refusal : Refusal). fails FindingHere c.in_err-finding.field-0.0 ≡ Err (Refused refusal)) (λ (refusal : Refusal). c.from_residual.result ≡ Err (Refused refusal))
    (λ refusal told. handed_on FindingHere c.from_residual.result p.0 c.in_err-finding.field-0.0 (Refused refusal) p.1 p.2 told) c.in_err-finding.ensures.refused))

pub returns-clause-refused : goal.returns-clause-refused
returns-clause-refused c =
    let known = option_map (λ line. line.now.legs) c.args.known in
    nothing-told (place (arc_value c.args.track.now) c.args.locks.now known c.args.report.now) c.in_ok-finding.finding.placed.placed (λ (refusal : Refusal). gives (OrMemory Refusal) c.in_ok-finding.finding.placed ≡ Err (Refused refusal)) (place-found (arc_value c.args.track.now) c.args.locks.now known c.args.report.now (finding_view c.in_ok-finding.finding) c.in_ok-finding.ensures.finding)
