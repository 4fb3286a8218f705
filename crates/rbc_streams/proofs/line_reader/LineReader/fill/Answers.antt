use Rattle.std.proofs.Common.{◌≡◌, ◌≤◌, ◌-◌, length, take, sym, ap, ◌∙◌, arith}
use Rattle.std.proofs.lemmas.Bool.{eq-eqb}
use Rattle.std.proofs.lemmas.List.{length-take-le}
use Rattle.rbc_streams.proofs.BufferLemmas.{filled}
use Rattle.rbc_streams.proofs.line_reader.LineReader.fill.Goals as goal

pub returns-clause-ok : goal.returns-clause-ok
returns-clause-ok g c =
    let count = c.self.inside.end - c.self.inside.start in
    let bytes = c.deref_mut.result.now in
    let read = c.read.new.buffer in
    let more = c.in_ok-more.more in
    let bytes_read = c.in_ok-more.ensures in
    let front : take count bytes ≡ c.args.self.now.pending =
    ap (take count) c.deref_mut.ensures.value ∙ c.move_to_front.ensures.moved ∙ ap (λ reading. reading.pending) c.self.view_is in
    let within : count ≤ length bytes = omega arith in
    let held = sym (length-take-le count bytes within) ∙ ap length front in (
      take more read,
      length-take-le more read bytes_read.bound,
      filled bytes read _ _ _ count more within (omega (arith, c.read.auto.buffer, bytes_read.bound)) bytes_read.bound front,
      bytes_read.bytes.0,
      λ over. cc (over, c.if-self.false, ap (λ reading. reading.ended) c.self.view_is),
      λ none. eq-eqb more 0 none,
    )
