use Rattle.std.proofs.Common.{map}
use Rattle.rbc_record.specs.Entries.{entry_of}
use Rattle.rbc_record.proofs.KeepingLemmas.{right_now}
use Rattle.rbc_record.proofs.history.Record.right.Goals as goal

pub returns : goal.returns
returns c = right_now c.self.inside.scene c.self.inside.begin.scene c.self.inside.most (map entry_of c.self.inside.entries.items) c.args.self.now c.self.view_is c.self.invariant
