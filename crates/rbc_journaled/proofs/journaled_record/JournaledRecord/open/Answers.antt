use Rattle.std.proofs.Common.{◌≡◌, ◌∙◌, ap, refl}
use Rattle.rbc_journal.specs.Gates.{counted}
use Rattle.rbc_journal.specs.Journal.{recovered}
use Rattle.rbc_journaled.proofs.BetweenLemmas.{still}
use Rattle.rbc_journaled.proofs.NoteLemmas.{true_of_opened}
use Rattle.rbc_journaled.proofs.journaled_record.JournaledRecord.open.Goals as goal

pub returns-in-Err-clause-any_moment_err : goal.returns-in-Err-clause-any_moment_err
returns-in-Err-clause-any_moment_err g c =
    let device = c.args.device in
    still g.D.Device.moment g.D.Device.left_since device device (λ file. recovered file ≡ recovered c.args.file.now.text.now) refl
    (λ file left. ap recovered (c.requires.durable file (g.met.D.Device.only_now device file left)) ∙ c.requires.same)

pub returns-clause-noted : goal.returns-clause-noted
returns-clause-noted g c = true_of_opened c.over.result c.replay.new.history (counted c.args.file.now.text.now) c.in_default.ensures.noted c.over.ensures.history
