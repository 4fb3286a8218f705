use Rattle.std.proofs.Common.{length, subst}
use Rattle.rbc_model.specs.Answers.{AnswersAs}
use Rattle.rbc_model.specs.Lines.{has_leg}
use Rattle.rbc_model.specs.Locks.{lengthened, longer_ahead}
use Rattle.rbc_model.specs.declared.refusals.Refusal.TheVariants.{Offline}
use Rattle.rbc_line.specs.OnTracks.{LineOnTrack}
use Rattle.rbc_extent.specs.PlacingSteps.{found_or}
use Rattle.rbc_extent.proofs.covering.continuation.Goals as goal

pub returns-clause-line : goal.returns-clause-line
returns-clause-line c =
    subst (λ (copy : LineOnTrack). AnswersAs (λ (l : LineOnTrack). l.legs) c.continued_to.result (found_or Offline (lengthened (length copy.track.sections) (longer_ahead c.args.locks.now) (λ l. has_leg l c.args.leg) copy.legs)))
    c.in_ok-copy.ensures c.continued_to.ensures.line
