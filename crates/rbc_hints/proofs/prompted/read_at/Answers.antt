use Rattle.std.proofs.Common.{take}
use Rattle.rbc_hints.proofs.PassLemmas.{passes_asked}
use Rattle.rbc_hints.proofs.prompted.read_at.Goals as goal

pub loop-preserved : goal.loop-preserved
loop-preserved g c =
    passes_asked _ (g.R.Read.remaining c.loop.reader) (g.R.Read.remaining c.read.new.self) (take c.in_ok-count.count c.read.new.buf) c.loop.invariant
    c.in_ok-count.ensures.bytes.0 (c.asks_for_help.ensures c.if-not-asks_for_help.false)
