use Rattle.std.proofs.Common.{◌≤◌, All}
use Rattle.std.specs.VecDeque.{deque_len}
use Rattle.rbc_sessions.specs.Due.{IsOwedSoFar}
use Rattle.rbc_sessions.specs.Resting.{IsPrepared, commands_resting}
use Rattle.rbc_sessions.proofs.context.SessionContext.enter_all.Given as goal

-- what was entered so far has its replies, and there is room for those to what is left
abbrev pub invariant-loop-one : goal.invariant-loop-one
invariant-loop-one g l = record {
  room : deque_len l.resting ≤ l.dues.room;
  each : All (IsPrepared g.L.DeskName.opened.track g.K.Keeper.says) l.resting.items;
  so_far : IsOwedSoFar l.self.track.now l.fn.seat (commands_resting l.fn.resting.items) l.fn.dues.dues l.seat (commands_resting l.resting.items) l.dues.dues;
}

abbrev pub decreases-loop-one : goal.decreases-loop-one
decreases-loop-one g l = deque_len l.resting
