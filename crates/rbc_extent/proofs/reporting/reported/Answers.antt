use Rattle.std.proofs.Common.{◌≡◌, ap, sym, ◌∙◌, subst, Option, Some, Result, Ok, Err, IfErr, IfSome}
use Rattle.std.specs.Prelude.{option_map}
use Rattle.std.specs.Arc.{arc_value}
use Rattle.std.proofs.lemmas.Result.{err_from_is_err_and}
use Rattle.rbc_model.specs.declared.memory.OrMemory.{OrMemory}
use Rattle.rbc_model.specs.declared.memory.OrMemory.TheVariants.{Refused}
use Rattle.rbc_model.specs.declared.refusals.Refusal.{Refusal}
use Rattle.rbc_model.specs.Tracks.{Track}
use Rattle.rbc_model.specs.Trains.{Train}
use Rattle.rbc_model.specs.Lines.{Line}
use Rattle.rbc_model.specs.Placing.{Placed, place, train_after, reported}
use Rattle.rbc_scene_laws.specs.Good.{IsGoodTrain}
use Rattle.rbc_extent.specs.declared.train.Authority.{Authority}
use Rattle.rbc_extent.specs.Findings.{authority_left, finding_view}
use Rattle.rbc_extent.specs.PlacedTrains.{placed_train}
use Rattle.rbc_extent.specs.PlacingSteps.{Finding, finding}
use Rattle.rbc_extent.specs.declared.finding.Finding.{Finding as FindingHere}
use Rattle.rbc_extent.proofs.LeavingLemmas.{good_after, reported-found, reported-refused, with_left}
use Rattle.rbc_extent.proofs.OutcomeLemmas.{refuses-weaker, known_good, fails, gives, handed_on, nothing-told, refused-mapped, refused-told}
use Rattle.rbc_extent.proofs.FindingLemmas.{place-finding}
use Rattle.rbc_extent.proofs.reporting.reported.Goals as goal

-- what holds of the known line, if there is one
of_known : {X : Type 0} (track_of : X → Track) (track : Track) (o : Option X) → IfSome o (λ y. track_of y ≡ track) → (x : X) → o ≡ Some x → track_of x ≡ track
of_known track_of track o h x e = let here : IfSome (Some x) (λ y. track_of y ≡ track) = subst (λ p. IfSome p (λ y. track_of y ≡ track)) e h in here

pub invariant_of-situation : goal.invariant_of-situation
invariant_of-situation c = record {
  locks_lead = c.requires.locks;
  of_track = of_known (λ line. line.now.track) (arc_value c.args.track.now) c.line_of.result (c.line_of.ensures.track (arc_value c.args.track.now) c.requires.known);
}

pub returns-in_err-finding-clause-reported : goal.returns-in_err-finding-clause-reported
returns-in_err-finding-clause-reported c =
    let p = err_from_is_err_and c.from_residual.result c.from_residual.ensures.1 in
    let same = ap (λ known. finding (arc_value c.args.track.now) c.args.locks.now known c.args.report.now) (sym c.line_of.ensures.legs) in
    rw (p.1, p.2)
    (refuses-weaker c.in_err-finding.field-0.0 (finding (arc_value c.args.track.now) c.args.locks.now (option_map (λ line. line.now.legs) c.line_of.result) c.args.report.now) (reported (arc_value c.args.track.now) c.args.locks.now (option_map (λ train. train.now.train) c.args.known) c.args.report.now)
    (λ refusal h. reported-refused (arc_value c.args.track.now) c.args.locks.now (option_map (λ train. train.now.train) c.args.known) c.args.report.now refusal (same ∙ h)) c.in_err-finding.ensures.finding)

pub placed-requires : goal.placed-requires
placed-requires c =
    let same = ap (λ known. finding (arc_value c.args.track.now) c.args.locks.now known c.args.report.now) (sym c.line_of.ensures.legs) in
    let good = good_after (arc_value c.args.track.now) c.args.locks.now (option_map (λ train. train.now.train) c.args.known) c.args.report.now (finding_view c.in_ok-finding.finding) c.in_ok-finding.ensures.sound c.requires.locks
    (known_good (λ train. train.now.track) (λ train. train.now.train) c.args.known (arc_value c.args.track.now) c.requires.known c.line_of.ensures.good) (same ∙ c.in_ok-finding.ensures.finding) in
    let P : Track → Authority → Type 0 = λ t a. IsGoodTrain t (placed_train t c.args.report.now c.in_ok-finding.finding.placed.placed a.from a.to) in
    subst (λ (t : Track). P t c.authority_left-authority.result) (sym c.in_ok-finding.ensures.track) (subst (P (arc_value c.args.track.now)) (sym c.authority_left-authority.ensures) good)

pub returns-clause-reported : goal.returns-clause-reported
returns-clause-reported c =
    let same = ap (λ known. finding (arc_value c.args.track.now) c.args.locks.now known c.args.report.now) (sym c.line_of.ensures.legs) in
    let answer : Train → Result Train Refusal = λ t. Ok t in
    let Q : Track → Authority → Train = λ t a. placed_train t c.args.report.now c.in_ok-finding.finding.placed.placed a.from a.to in
    reported-found (arc_value c.args.track.now) c.args.locks.now (option_map (λ train. train.now.train) c.args.known) c.args.report.now (finding_view c.in_ok-finding.finding) (same ∙ c.in_ok-finding.ensures.finding)
    ∙ ap answer (ap (Q (arc_value c.args.track.now)) (sym c.authority_left-authority.ensures) ∙ ap (λ (t : Track). Q t c.authority_left-authority.result) (sym c.in_ok-finding.ensures.track) ∙ sym c.placed.ensures.train)

pub returns-in_err-finding-clause-refused : goal.returns-in_err-finding-clause-refused
returns-in_err-finding-clause-refused c =
    let p = err_from_is_err_and c.from_residual.result c.from_residual.ensures.1 in
    let track = arc_value c.args.track.now in
    let known : Option Train = option_map (λ train. train.now.train) c.args.known in
    let P : Refusal → Type 0 = λ refusal. fails FindingHere c.in_err-finding.field-0.0 ≡ Err (Refused refusal) in
    let Q : Refusal → Type 0 = λ refusal. c.from_residual.result ≡ Err (Refused refusal) in
    let lines : Option Line = option_map (λ (train : Train). train.line) known in
    let told = subst (λ (o : Option Line). IfErr (finding track c.args.locks.now o c.args.report.now) P) c.line_of.ensures.legs c.in_err-finding.ensures.refused in
    refused-mapped (train_after track c.args.locks.now known c.args.report.now) (place track c.args.locks.now lines c.args.report.now) Q
    (subst (λ (r : Result Placed Refusal). IfErr r Q) (sym (place-finding track c.args.locks.now lines c.args.report.now))
    (refused-mapped (λ (f : Finding). f.placed) (finding track c.args.locks.now lines c.args.report.now) Q
    (refused-told (finding track c.args.locks.now lines c.args.report.now) P Q (λ refusal told. handed_on FindingHere c.from_residual.result p.0 c.in_err-finding.field-0.0 (Refused refusal) p.1 p.2 told) told)))

pub returns-clause-refused : goal.returns-clause-refused
returns-clause-refused c =
    let track = arc_value c.args.track.now in
    let known : Option Train = option_map (λ train. train.now.train) c.args.known in
    let same = ap (λ lines. finding track c.args.locks.now lines c.args.report.now) (sym c.line_of.ensures.legs) in
    let found = finding_view c.in_ok-finding.finding in
    nothing-told (reported track c.args.locks.now known c.args.report.now) (with_left track c.args.report.now found.placed (authority_left known found)) (λ (refusal : Refusal). gives (OrMemory Refusal) c.placed.result ≡ Err (Refused refusal)) (reported-found track c.args.locks.now known c.args.report.now found (same ∙ c.in_ok-finding.ensures.finding))
