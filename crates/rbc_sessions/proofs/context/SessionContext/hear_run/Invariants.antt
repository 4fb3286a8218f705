use Rattle.std.proofs.Common.{Ok, ◌≤◌, ◌∷◌, All}
use Rattle.std.specs.VecDeque.{deque_len}
use Rattle.rbc_session_laws.specs.declared.command.Command.TheVariants.{Event}
use Rattle.rbc_sessions.specs.Due.{IsOwedSoFar}
use Rattle.rbc_sessions.specs.Resting.{IsPrepared, commands_resting}
use Rattle.rbc_sessions.proofs.context.SessionContext.hear_run.Given as goal

-- what was entered so far has its replies, and there is room for those to what is left
abbrev pub invariant-loop-told : goal.invariant-loop-told
invariant-loop-told g l = record {
  room : deque_len l.resting ≤ l.dues.room;
  shorter : deque_len l.resting ≤ deque_len l.fn.resting;
  each : All (IsPrepared g.L.DeskName.opened.track g.K.Keeper.says) l.resting.items;
  so_far : IsOwedSoFar l.self.track.now l.fn.seat (Ok (Event l.fn.first.0) ∷ commands_resting l.fn.resting.items) l.fn.dues.dues l.seat (commands_resting l.resting.items) l.dues.dues;
}

abbrev pub decreases-loop-told : goal.decreases-loop-told
decreases-loop-told g l = deque_len l.resting
