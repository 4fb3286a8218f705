use Rattle.std.proofs.Common.{◌≡◌, ◌++◌, [], None, true, false, refl, ap, sym, ◌∙◌, subst, append-nil}
use Rattle.std.specs.Io.KnownBytes.{Appends}
use Rattle.std.proofs.KnownBytes.{Appends-nil}
use Rattle.rbc_model.specs.Sessions.{WritesPart, WritesText}
use Rattle.rbc_session_laws.specs.Commands.{command_in}
use Rattle.rbc_sessions.specs.Records.{begin_of, HistoryOnTrack}
use Rattle.rbc_show.specs.Showing.{change_text, has_reply, request_text}
use Rattle.rbc_show.proofs.WritingLemmas.{failed_part, is_told, not_told, part_more, silent, text_behind, whole_text}
use Rattle.rbc_show.proofs.each.tell_line.Goals as goal

pub returns-then-not-has_reply-clause-told : goal.returns-then-not-has_reply-clause-told
returns-then-not-has_reply-clause-told g c =
    let old = g.W.Sink.written c.args.writer.now in
    let before = c.args.history.now in
    let line = c.args.line.now in
    let none : has_reply (command_in before.track line) ≡ false =
    ap (λ t. has_reply (command_in t line)) (sym (c.deref.ensures ∙ c.track.ensures)) ∙ sym c.has_reply.ensures ∙ c.if-not-has_reply.true in (
      [],
      None,
      silent (begin_of before) before.entries (command_in before.track line) none,
      refl,
      sym (append-nil before.entries),
      subst (λ t. Appends old old t) (sym (not_told (has_reply (command_in before.track line)) (request_text c.args.number line ++ ([] ++ change_text (begin_of before) before.entries None)) none)) (Appends-nil old),
    )

pub returns-then-is_err-clause-told : goal.returns-then-is_err-clause-told
returns-then-is_err-clause-told g c =
    let old = g.W.Sink.written c.args.writer.now in
    let asked = g.W.Sink.written c.print_request.new.writer in
    let before = c.args.history.now in
    let line = c.args.line.now in
    let some : has_reply (command_in before.track line) ≡ true =
    ap (λ t. has_reply (command_in t line)) (sym (c.deref.ensures ∙ c.track.ensures)) ∙ sym c.has_reply.ensures ∙ c.if-not-has_reply.false in
    let r = c.answer.ensures.reply in
    let rest = r.0 ++ change_text (begin_of before) before.entries r.1.0 in (
      r.0,
      r.1.0,
      r.1.1,
      ap begin_of r.1.2,
      ap (λ (h : HistoryOnTrack). h.entries) r.1.2,
      subst (λ t. WritesPart old asked t) (is_told (has_reply (command_in before.track line)) (request_text c.args.number line ++ rest) some)
          (part_more old asked (request_text c.args.number line) rest
          (failed_part old asked (request_text c.args.number line) c.print_request.result (sym c.is_err.ensures.value ∙ c.if-is_err.true) c.print_request.ensures.text)),
    )

pub returns-clause-told : goal.returns-clause-told
returns-clause-told g c =
    let old = g.W.Sink.written c.args.writer.now in
    let asked = g.W.Sink.written c.print_request.new.writer in
    let told = g.W.Sink.written c.answer_line.new.writer in
    let before = c.args.history.now in
    let line = c.args.line.now in
    let some : has_reply (command_in before.track line) ≡ true =
    ap (λ t. has_reply (command_in t line)) (sym (c.deref.ensures ∙ c.track.ensures)) ∙ sym c.has_reply.ensures ∙ c.if-not-has_reply.false in
    let r = c.answer_line.ensures.answered in
    let rest = r.0 ++ change_text (begin_of before) before.entries r.1 in (
      r.0,
      r.1,
      r.2,
      r.3,
      r.4,
      subst (λ t. WritesText old told t c.answer_line.result) (is_told (has_reply (command_in before.track line)) (request_text c.args.number line ++ rest) some)
          (text_behind old asked told (request_text c.args.number line) rest c.answer_line.result
          (whole_text old asked (request_text c.args.number line) c.print_request.result (sym c.is_err.ensures.value ∙ c.if-is_err.false) c.print_request.ensures.text)
          r.5),
    )
