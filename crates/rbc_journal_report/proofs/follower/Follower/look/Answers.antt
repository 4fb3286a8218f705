use Rattle.std.proofs.Common.{refl}
use Rattle.rbc_journal.specs.Gates.{counted}
use Rattle.rbc_journal_report.specs.Telling.{telling_beside}
use Rattle.rbc_journal_report.proofs.FollowLemmas.{shown_as_before, nothing_written, nothing_more}
use Rattle.rbc_journal_report.proofs.follower.Follower.look.Goals as goal

pub returns-in-Err-clause-lines : goal.returns-in-Err-clause-lines
returns-in-Err-clause-lines g c =
    let before = counted c.args.self.now.shown.items in
    shown_as_before before (telling_beside c.args.given c.args.bytes.now) c.in-Err.fault c.in-Err.ensures.err before refl

pub returns-in-Err-clause-written : goal.returns-in-Err-clause-written
returns-in-Err-clause-written g c =
    let before = counted c.args.self.now.shown.items in
    nothing_written before (telling_beside c.args.given c.args.bytes.now) c.in-Err.fault c.in-Err.ensures.err (g.W.Sink.written c.args.writer.now)

pub returns-in-Err-clause-all : goal.returns-in-Err-clause-all
returns-in-Err-clause-all g c =
    let before = counted c.args.self.now.shown.items in
    nothing_more before (telling_beside c.args.given c.args.bytes.now) c.in-Err.fault c.in-Err.ensures.err
