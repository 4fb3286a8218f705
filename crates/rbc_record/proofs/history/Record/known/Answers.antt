use Rattle.std.proofs.Common.{map}
use Rattle.rbc_record.specs.Entries.{entry_of}
use Rattle.rbc_record.specs.Records.{IsRight}
use Rattle.rbc_record.proofs.KeepingLemmas.{right_now, best_now}
use Rattle.rbc_record.proofs.history.Record.known.Goals as goal

pub returns-clause-legal : goal.returns-clause-legal
returns-clause-legal c =
    let right : IsRight c.args.self.now = right_now c.self.inside.scene c.self.inside.begin.scene c.self.inside.most (map entry_of c.self.inside.entries.items) c.args.self.now c.self.view_is c.self.invariant in
    right.legal

pub returns-clause-best : goal.returns-clause-best
returns-clause-best c = best_now c.self.inside.scene c.self.inside.begin.scene c.self.inside.most (map entry_of c.self.inside.entries.items) c.args.self.now c.self.view_is c.self.invariant
