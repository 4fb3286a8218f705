use Rattle.std.proofs.Common.{◌≡◌, false}
use Rattle.rbc_streams.specs.LineReading.{KnowsEnd}
use Rattle.rbc_viewer.proofs.DrawingLemmas.{IsDrawing}
use Rattle.rbc_viewer.proofs.drawing.draw_lines.Given as goal

abbrev pub invariant-loop-count : goal.invariant-loop-count
invariant-loop-count g l = record {
  reader_works : g.R.Source.failed l.reader ≡ false;
  writer_works : g.W.Sink.failed l.writer ≡ false;
  end : KnowsEnd l.lines (g.R.Source.left l.reader) (g.R.Source.ended l.reader);
  drawing : IsDrawing l.fn.judging l.judging (g.R.Source.left l.fn.reader) (g.R.Source.left l.reader) (g.W.Sink.written l.fn.writer) (g.W.Sink.written l.writer)
      l.lines.ended l.lines.pending;
}
