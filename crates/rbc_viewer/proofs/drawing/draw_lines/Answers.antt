use Rattle.std.proofs.Common.{◌≡◌, Bool, true, false, refl, sym, ◌∙◌, subst}
use Rattle.std.specs.Bool.{IsTrue}
use Rattle.rbc_streams.specs.LineReading.{Steps}
use Rattle.rbc_viewer.proofs.DrawingLemmas.{nothing_drawn, line_drawn, all_drawn}
use Rattle.rbc_viewer.proofs.drawing.draw_lines.Goals as goal

is_false : (test : Bool) → (IsTrue test → ⊥) → test ≡ false
is_false true refutes = absurd (refutes refl)
is_false false refutes = refl

pub loop-count-init : goal.loop-count-init
loop-count-init g c =
    rw c.requires.lines (record {
      reader_works = c.requires.reader;
      writer_works = c.requires.writer;
      end = λ over. cc;
      drawing = nothing_drawn c.args.judging.now (g.R.Source.left c.args.reader.now) (g.W.Sink.written c.args.writer.now);
    })

pub returns-in-End-clause-drawn : goal.returns-in-End-clause-drawn
returns-in-End-clause-drawn g c =
    let did = c.in_ok-next_line.ensures in
    let step = subst (Steps _ _) c.in-End.is did.next.3 in
    all_drawn c.loop-count.invariant.drawing (g.R.Source.left c.next_line.new.reader) did.next.0 did.next.1 did.next.2
    (g.W.Sink.written c.next_line.new.writer) did.written step.1

pub loop-count-preserved : goal.loop-count-preserved
loop-count-preserved g c =
    let did = c.in_ok-next_line.ensures in
    let gives = subst (Steps _ _) c.in-Line.is did.next.3 in
    let wrote = rw c.taken.ensures at c.in_ok-write_escaped-in-Line.ensures.text in
    let judged = rw c.line.ensures at c.in_ok-take-in-Line.ensures in
    record {
      reader_works = is_false _ (λ failed. let e = did.read.1 failed in cc);
      writer_works = c.in_ok-write_escaped-in-Line.ensures.failed;
      end = did.end c.loop-count.invariant.end;
      drawing = line_drawn c.loop-count.invariant.drawing (g.R.Source.left c.next_line.new.reader) did.next.0 did.next.1 did.next.2
          (g.W.Sink.written c.next_line.new.writer) did.written c.next_line.new.lines did.ended gives
          (g.W.Sink.written c.write_escaped.new.writer) wrote c.take.new.self judged;
    }

pub returns-clause-drawn : goal.returns-clause-drawn
returns-clause-drawn g c =
    let did = c.in_ok-has_more.ensures in
    let none = rw c.if-branch.false at did.answer in
    all_drawn c.loop-count.invariant.drawing (g.R.Source.left c.has_more.new.reader) did.input.0 did.input.1 did.input.2
    (g.W.Sink.written c.flush-2.new.self) c.in_ok-flush.ensures.bytes (sym did.input.3 ∙ none.0)
