use Rattle.rbc_record.proofs.KeepingLemmas.{train_shown}
use Rattle.rbc_record.proofs.history.Record.view.Goals as goal

pub returns-clause-train : goal.returns-clause-train
returns-clause-train c = train_shown c.self.inside.scene.track c.self.inside.scene.scene c.args.train c.view.result c.view.ensures.view
