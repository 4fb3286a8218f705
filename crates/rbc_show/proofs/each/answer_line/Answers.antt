use Rattle.std.proofs.Common.{◌++◌, ap, arith, sym, subst, append-nil}
use Rattle.std.specs.Io.KnownBytes.{Appends}
use Rattle.std.proofs.KnownBytes.{Appends-trans}
use Rattle.rbc_model.specs.Sessions.{WritesPart}
use Rattle.rbc_sessions.specs.Records.{begin_of, HistoryOnTrack}
use Rattle.rbc_show.specs.Showing.{change_text, scene_text}
use Rattle.rbc_show.proofs.WritingLemmas.{grown, part_behind, part_more, stopped, unchanged}
use Rattle.rbc_show.proofs.each.answer_line.Goals as goal

pub returns-in_err-answer-clause-answered : goal.returns-in_err-answer-clause-answered
returns-in_err-answer-clause-answered g c =
    let r = c.in_err-answer.ensures.reply in
    let old = g.W.Sink.written c.args.writer.now in
    let said = g.W.Sink.written c.answer.new.writer in
    let before = c.args.history.now in (
      r.0,
      r.1.0,
      r.1.1,
      ap begin_of r.1.2,
      ap (λ (h : HistoryOnTrack). h.entries) r.1.2,
      stopped old said (r.0 ++ change_text (begin_of before) before.entries r.1.0) c.from_residual.result (part_more old said r.0 (change_text (begin_of before) before.entries r.1.0) r.2.text) c.from_residual.ensures.0,
    )

pub returns-in_err-print_now-clause-answered : goal.returns-in_err-print_now-clause-answered
returns-in_err-print_now-clause-answered g c =
    let r = c.in_ok-answer.ensures.reply in
    let old = g.W.Sink.written c.args.writer.now in
    let said = g.W.Sink.written c.answer.new.writer in
    let shown = g.W.Sink.written c.print_now.new.writer in
    let before = c.args.history.now in
    let after = c.answer.new.self in
    let begin = ap begin_of r.1.2 in
    let entries = ap (λ (h : HistoryOnTrack). h.entries) r.1.2 in
    let scene = grown before after r.1.0 begin entries (omega (arith, c.if-version-before.true, c.version-before.ensures.count, c.version.ensures.count)) in (
      r.0,
      r.1.0,
      r.1.1,
      begin,
      entries,
      stopped old shown (r.0 ++ change_text (begin_of before) before.entries r.1.0) c.from_residual-in_err-print_now.result
          (subst (λ t. WritesPart old shown (r.0 ++ t)) (sym scene) (part_behind old said shown r.0 (scene_text (begin_of after) after.entries) r.2.text c.in_err-print_now.ensures.text))
          c.from_residual-in_err-print_now.ensures.0,
    )

pub returns-in_ok-print_now-clause-answered : goal.returns-in_ok-print_now-clause-answered
returns-in_ok-print_now-clause-answered g c =
    let r = c.in_ok-answer.ensures.reply in
    let old = g.W.Sink.written c.args.writer.now in
    let said = g.W.Sink.written c.answer.new.writer in
    let shown = g.W.Sink.written c.print_now.new.writer in
    let before = c.args.history.now in
    let after = c.answer.new.self in
    let begin = ap begin_of r.1.2 in
    let entries = ap (λ (h : HistoryOnTrack). h.entries) r.1.2 in
    let scene = grown before after r.1.0 begin entries (omega (arith, c.if-version-before.true, c.version-before.ensures.count, c.version.ensures.count)) in (
      r.0,
      r.1.0,
      r.1.1,
      begin,
      entries,
      subst (λ t. Appends old shown (r.0 ++ t)) (sym scene) (Appends-trans old said shown r.0 (scene_text (begin_of after) after.entries) r.2.text c.in_ok-print_now.ensures.text),
    )

pub returns-else-version-before-clause-answered : goal.returns-else-version-before-clause-answered
returns-else-version-before-clause-answered g c =
    let r = c.in_ok-answer.ensures.reply in
    let old = g.W.Sink.written c.args.writer.now in
    let said = g.W.Sink.written c.answer.new.writer in
    let before = c.args.history.now in
    let after = c.answer.new.self in
    let entries = ap (λ (h : HistoryOnTrack). h.entries) r.1.2 in
    let none = unchanged before after r.1.0 entries (omega (arith, c.if-version-before.false, c.version-before.ensures.count, c.version.ensures.count)) in (
      r.0,
      r.1.0,
      r.1.1,
      ap begin_of r.1.2,
      entries,
      subst (λ t. Appends old said (r.0 ++ t)) (sym none) (subst (λ t. Appends old said t) (sym (append-nil r.0)) r.2.text),
    )
