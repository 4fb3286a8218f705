use Rattle.std.proofs.Common.{◌+◌, length, ap, subst, arith}
use Rattle.std.proofs.lemmas.Bool.{le-ltb}
use Rattle.rbc_streams.specs.LineReading.{IsAhead}
use Rattle.rbc_streams.proofs.LineFeedLemmas.{line_there, none_ahead, none_in_front}
use Rattle.rbc_streams.proofs.line_reader.LineReader.has_line.Goals as goal

pub returns-then-self-count : goal.returns-then-self-count
returns-then-self-count c =
    let reading = c.args.self.now in
    let ahead = subst (λ l. IsAhead l c.self.inside.ahead) (ap (λ r. r.pending) c.self.view_is) c.self.invariant.1 in
    let count = ap length c.pending-count.ensures in
    line_there reading.pending reading.longest c.self.inside.longest c.self.inside.ahead (ap (λ r. r.longest) c.self.view_is) ahead
    (omega (arith, count, c.if-self-count.true))

pub returns-else-self-count : goal.returns-else-self-count
returns-else-self-count c =
    let reading = c.args.self.now in
    let ahead = subst (λ l. IsAhead l c.self.inside.ahead) (ap (λ r. r.pending) c.self.view_is) c.self.invariant.1 in
    let count = ap length c.pending-count.ensures in
    let none = none_ahead reading.pending c.self.inside.ahead ahead (omega (arith, count, c.if-self-count.false)) in
    rw (le-ltb _ _ c.if-self-count.false) (none_in_front reading.pending (reading.longest + 1) none)
