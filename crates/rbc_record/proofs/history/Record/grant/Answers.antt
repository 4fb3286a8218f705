use Rattle.rbc_record.proofs.KeepingLemmas.{shown_is}
use Rattle.rbc_record.proofs.history.Record.grant.Goals as goal

pub enter-requires-clause-shown : goal.enter-requires-clause-shown
enter-requires-clause-shown c = shown_is c.args.self.now c.args.candidate.now.view c.requires.shown
