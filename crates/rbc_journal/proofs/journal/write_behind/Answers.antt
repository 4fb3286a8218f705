use Rattle.rbc_journal.proofs.CommittedLemmas.{on_ok}
use Rattle.rbc_journal.proofs.CommitLemmas.{after_write, after_sync, after_gate, after_all, ends_at_rest}
use Rattle.rbc_journal.proofs.journal.write_behind.Goals as goal

pub returns-in_err-write_at-clause-any_moment : goal.returns-in_err-write_at-clause-any_moment
returns-in_err-write_at-clause-any_moment g c =
    let d = g.D.Device in
    after_write d.seen d.may_leave d.moment d.left_since g.met.D.Device.only_now _ _ _ c.requires.waits _ c.write_at.ensures.crash c.write_at.ensures.time

pub returns-in_err-sync-clause-any_moment : goal.returns-in_err-sync-clause-any_moment
returns-in_err-sync-clause-any_moment g c =
    let d = g.D.Device in
    after_sync d.seen d.may_leave d.moment d.left_since g.met.D.Device.only_now _ _ _ c.requires.waits _ c.write_at.ensures.crash c.write_at.ensures.time
    _ c.sync.ensures.crash c.sync.ensures.time

pub returns-in_err-write_at-2-clause-any_moment : goal.returns-in_err-write_at-2-clause-any_moment
returns-in_err-write_at-2-clause-any_moment g c =
    let d = g.D.Device in
    after_gate d.seen d.may_leave d.moment d.left_since g.met.D.Device.only_now _ _ _ c.requires.waits _ c.write_at.ensures.crash c.write_at.ensures.time
    _ c.sync.ensures.crash c.sync.ensures.time c.in_ok-write_at.ensures.written c.sync.ensures.seen c.in_ok-sync.ensures.durable
    _ c.write_at-2.ensures.crash c.write_at-2.ensures.time

pub returns-clause-written : goal.returns-clause-written
returns-clause-written g c =
    let d = g.D.Device in
    let at_rest_now = ends_at_rest d.seen d.may_leave d.moment d.left_since g.met.D.Device.only_now _ _ _ c.requires.waits _ c.write_at.ensures.crash c.write_at.ensures.time
    _ c.sync.ensures.crash c.sync.ensures.time c.in_ok-write_at.ensures.written c.sync.ensures.seen c.in_ok-sync.ensures.durable
    _ c.write_at-2.ensures.crash c.write_at-2.ensures.time _ c.sync-2.ensures.seen c.in_ok-write_at-2.ensures.written in
    on_ok c.sync-2.result at_rest_now

pub returns-clause-any_moment : goal.returns-clause-any_moment
returns-clause-any_moment g c =
    let d = g.D.Device in
    after_all d.seen d.may_leave d.moment d.left_since g.met.D.Device.only_now _ _ _ c.requires.waits _ c.write_at.ensures.crash c.write_at.ensures.time
    _ c.sync.ensures.crash c.sync.ensures.time c.in_ok-write_at.ensures.written c.sync.ensures.seen c.in_ok-sync.ensures.durable
    _ c.write_at-2.ensures.crash c.write_at-2.ensures.time _ c.sync-2.ensures.crash c.sync-2.ensures.time
