use Rattle.std.proofs.Common.{◌≡◌, ◌<◌, ◌⊎◌, false, []}
use Rattle.rbc_model.specs.declared.limits.TheConstants.{MOST_LINES}
use Rattle.rbc_streams.specs.LineReading.{HasLine, KnowsEnd}
use Rattle.rbc_streams.proofs.UnderWayLemmas.{IsUnderWay}
use Rattle.rbc_streams.proofs.session.serve_lines_with.Given as goal

abbrev pub invariant-loop-count : goal.invariant-loop-count
invariant-loop-count g l = record {
  reader_works : g.R.Source.failed l.reader ≡ false;
  writer_works : g.W.Sink.failed l.writer ≡ false;
  ready : g.A.LineHandler.ready (g.A.LineHandler.state l.handler);
  intact : g.A.LineHandler.broken (g.A.LineHandler.state l.handler) ≡ false;
  none_rests : (g.A.LineHandler.rests (g.A.LineHandler.state l.handler) ≡ 0) ⊎ ((l.count < MOST_LINES) × HasLine l.lines.pending l.lines.longest);
  longest : l.lines.longest ≡ g.A.LineHandler.longest;
  end : KnowsEnd l.lines (g.R.Source.left l.reader) (g.R.Source.ended l.reader);
  handed_on : g.W.Sink.held_back l.fn.writer ≡ [] → l.count ≡ 0 → g.W.Sink.held_back l.writer ≡ [];
  under_way : IsUnderWay g.A.LineHandler.longest g.A.LineHandler.answers (g.A.LineHandler.state l.fn.handler) (g.A.LineHandler.state l.handler)
      (g.R.Source.left l.fn.reader) (g.R.Source.left l.reader) (g.W.Sink.written l.fn.writer) (g.W.Sink.written l.writer)
      l.lines.ended l.count l.lines.pending;
}
