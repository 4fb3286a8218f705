use Rattle.std.proofs.Common.{◌≡◌, Result, subst, Err}
use Rattle.std.specs.Prelude.{IfErr}
use Rattle.rbc_model.specs.Answers.{AnswersOrMemory}
use Rattle.rbc_model.specs.declared.memory.OrMemory.TheVariants.{Refused}
use Rattle.rbc_model.specs.declared.tracks.TrackRefusal.{TrackRefusal}
use Rattle.rbc_model.specs.Tracks.{Track}
use Rattle.rbc_track.specs.PartsView.{parts_view}
use Rattle.rbc_track.proofs.MakingLemmas.{made_of-track_of}
use Rattle.rbc_track.proofs.track.Track.new.Goals as goal

pub returns-clause-track : goal.returns-clause-track
returns-clause-track c =
    subst (λ (answer : Result Track TrackRefusal). AnswersOrMemory c.made.result answer) (made_of-track_of (parts_view c.args.parts)) c.made.ensures.made

pub returns-clause-refused : goal.returns-clause-refused
returns-clause-refused c =
    subst (λ (answer : Result Track TrackRefusal). IfErr answer (λ refusal. c.made.result ≡ Err (Refused refusal))) (made_of-track_of (parts_view c.args.parts)) c.made.ensures.refused
