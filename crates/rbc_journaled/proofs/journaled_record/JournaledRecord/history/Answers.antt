use Rattle.rbc_sessions.specs.Records.{begin_of}
use Rattle.rbc_journaled.proofs.AddingLemmas.{are_retold}
use Rattle.rbc_journaled.proofs.journaled_record.JournaledRecord.history.Goals as goal

pub returns-clause-retold : goal.returns-clause-retold
returns-clause-retold g c =
    let ready = c.requires c.if-self.false in
    are_retold (begin_of c.args.self.now.history) (g.D.Device.seen c.args.self.now.journal.device) c.args.self.now.history.entries ready.is_kept.told
