use Rattle.std.proofs.Common.{length, drop, ap, ◌∙◌, arith}
use Rattle.rbc_streams.proofs.BufferLemmas.{let_go}
use Rattle.rbc_streams.proofs.line_reader.LineReader.give.Goals as goal

pub returns-clause-pending : goal.returns-clause-pending
returns-clause-pending c =
    let view = ap (λ reading. reading.pending) c.self.view_is in
    let_go c.self.inside.buffer.items c.self.inside.start c.self.inside.end c.args.taken (omega (arith, c.requires.within, ap length view)) ∙ ap (drop c.args.taken) view
