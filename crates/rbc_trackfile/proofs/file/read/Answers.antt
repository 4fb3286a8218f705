use Rattle.std.proofs.Common.{Result, subst}
use Rattle.rbc_model.specs.Answers.{AnswersOrMemory}
use Rattle.rbc_model.specs.declared.files.FileFault.{FileFault}
use Rattle.rbc_model.specs.Tracks.{Track}
use Rattle.rbc_trackfile.proofs.FileLemmas.{file_is}
use Rattle.rbc_trackfile.proofs.file.read.Goals as goal

pub returns-clause-track : goal.returns-clause-track
returns-clause-track c = subst (λ (answer : Result Track FileFault). AnswersOrMemory c.track_in.result answer) (file_is c.args.text.now) c.track_in.ensures.told
