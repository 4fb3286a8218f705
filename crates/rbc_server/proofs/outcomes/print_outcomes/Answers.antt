use Rattle.std.proofs.Common.{◌++◌, ◌+◌}
use Rattle.std.proofs.KnownBytes.{Appends-trans, Appends-kept}
use Rattle.rbc_sessions.proofs.SittingLemmas.{whole_part}
use Rattle.rbc_server.proofs.OutcomeLemmas.{tells_next, tells_all, part_behind, on_ok}
use Rattle.rbc_server.proofs.outcomes.print_outcomes.Goals as goal
use Rattle.rbc_model.proofs.ResultLemmas.{on_err}

pub loop-outcome-preserved : goal.loop-outcome-preserved
loop-outcome-preserved g c =
    let loop = c.loop-outcome in
    let item = c.outcome-item in
    let so_far = loop.invariant.so_far in
    let said = c.in_ok-print_answer.ensures in
    record {
      going = said.2.failed;
      so_far = (
        so_far.0 ++ said.0,
        tells_next c.args.track.now c.args.outcomes.now loop.outcome-index item.result c.loop-outcome-test.true item.is so_far.0 said.0 so_far.1 said.1,
        Appends-trans (g.W.Sink.written c.args.writer.now) (g.W.Sink.written loop.writer) (g.W.Sink.written c.print_answer.new.writer) so_far.0 said.0 so_far.2 said.2.text,
      );
    }

pub returns-in_err-print_answer-clause-part : goal.returns-in_err-print_answer-clause-part
returns-in_err-print_answer-clause-part g c =
    let loop = c.loop-outcome in
    let item = c.outcome-item in
    let so_far = loop.invariant.so_far in
    let said = c.in_err-print_answer.ensures in
    on_err c.from_residual.result _ (
      loop.outcome-index + 1,
      so_far.0 ++ said.0,
      tells_next c.args.track.now c.args.outcomes.now loop.outcome-index item.result c.loop-outcome-test.true item.is so_far.0 said.0 so_far.1 said.1,
      part_behind (g.W.Sink.written c.args.writer.now) (g.W.Sink.written loop.writer) (g.W.Sink.written c.print_answer.new.writer) so_far.0 said.0 so_far.2 said.2.text,
    )

pub returns-clause-text : goal.returns-clause-text
returns-clause-text g c =
    let loop = c.loop-outcome in
    let so_far = loop.invariant.so_far in
    on_ok c.flush.result _ (
      so_far.0,
      tells_all c.args.track.now c.args.outcomes.now loop.outcome-index c.loop-outcome-test.false so_far.0 so_far.1,
      Appends-kept (g.W.Sink.written c.args.writer.now) (g.W.Sink.written loop.writer) (g.W.Sink.written c.flush.new.self) so_far.0 so_far.2 c.flush.ensures.bytes,
    )

pub returns-clause-part : goal.returns-clause-part
returns-clause-part g c =
    let loop = c.loop-outcome in
    let so_far = loop.invariant.so_far in
    on_err c.flush.result _ (
      loop.outcome-index,
      so_far.0,
      so_far.1,
      whole_part (g.W.Sink.written c.args.writer.now) (g.W.Sink.written c.flush.new.self) so_far.0
          (Appends-kept (g.W.Sink.written c.args.writer.now) (g.W.Sink.written loop.writer) (g.W.Sink.written c.flush.new.self) so_far.0 so_far.2 c.flush.ensures.bytes),
    )
