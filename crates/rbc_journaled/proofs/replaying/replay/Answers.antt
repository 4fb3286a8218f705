use Rattle.std.proofs.Common.{◌≡◌, Result, Err, ap, sym, subst, ◌∙◌}
use Rattle.std.proofs.lemmas.Result.{err_from_is_err_and}
use Rattle.rbc_journal.specs.Gates.{counted}
use Rattle.rbc_sessions.specs.Records.{begin_of, HistoryOnTrack}
use Rattle.rbc_journaled.specs.Notes.{DiffersFirst}
use Rattle.rbc_journaled.specs.declared.fault.OpeningFault.{OpeningFault}
use Rattle.rbc_journaled.specs.declared.fault.OpeningFault.TheVariants.{Differs}
use Rattle.rbc_journaled.proofs.ReplayingLemmas.{nothing_replayed, replayed_on, differs_here, all_told, all_true}
use Rattle.rbc_journaled.proofs.replaying.replay.Goals as goal

pub loop-line-init : goal.loop-line-init
loop-line-init g c = nothing_replayed c.args.history.now c.args.text.now c.requires

pub loop-line-preserved : goal.loop-line-preserved
loop-line-preserved g c =
    replayed_on (begin_of c.args.history.now) c.loop-line.history c.enter.new.history c.args.text.now c.loop-line.rest.now c.in-Some.after.now c.in-Some.line.now c.in-Some.ensures.line c.loop-line.invariant
    c.in_ok-enter.ensures.entered

pub returns-clause-told : goal.returns-clause-told
returns-clause-told g c =
    all_told (begin_of c.args.history.now) c.loop-line.history c.args.text.now c.loop-line.rest.now c.in_default.ensures.none c.loop-line.invariant

pub returns-clause-noted : goal.returns-clause-noted
returns-clause-noted g c =
    all_true (begin_of c.args.history.now) c.loop-line.history c.args.text.now c.loop-line.rest.now c.in_default.ensures.none c.loop-line.invariant

the_fault : (fault other : OpeningFault) → (let r : Result (Unit {0}) OpeningFault = Err fault in r) ≡ Err other → fault ≡ other
the_fault fault other e = cc

pub returns-in_err-enter-clause-differs : goal.returns-in_err-enter-clause-differs
returns-in_err-enter-clause-differs g c = λ count is.
    let told = err_from_is_err_and c.from_residual.result c.from_residual.ensures.1 in
    let same = c.in_err-enter.was ∙ ap Err (sym told.2 ∙ the_fault told.0 (Differs count) (sym told.1 ∙ is)) in
    let found = c.enter.ensures in
    subst (λ (h : HistoryOnTrack). DiffersFirst (begin_of c.args.history.now) (counted c.args.text.now) count h.entries) (sym c.in_err-enter.ensures.refused)
    (differs_here (begin_of c.args.history.now) c.loop-line.history c.enter.new.history c.args.text.now c.loop-line.rest.now c.in-Some.after.now c.in-Some.line.now c.in-Some.ensures.line c.loop-line.invariant
    count (found.count count same) (found.noted count same) (found.differs count same))
