use Rattle.std.proofs.Common.{◌≡◌, false, drop}
use Rattle.rbc_streams.specs.declared.streams.WriteFailed.{WriteFailed}
use Rattle.rbc_sessions.specs.Dues.{dues_of}
use Rattle.rbc_sessions.proofs.DueLemmas.{AreLeft}
use Rattle.rbc_sessions.proofs.batch.print_all.Given as goal

-- to print the replies that are left is to print them all
abbrev pub invariant-loop-reply : goal.invariant-loop-reply
invariant-loop-reply g l = record {
  going : g.W.Sink.failed l.writer ≡ false;
  left : AreLeft l.track WriteFailed l.dues.dues (dues_of (drop l.reply-index l.replies) l.answers) (g.W.Sink.written l.fn.writer) (g.W.Sink.written l.writer);
}
