use Rattle.std.proofs.Common.{◌≡◌, Bool, true, false, Err, refl, ap, sym, ◌∙◌, subst, arith, add-one, inl, inr, ℕ, ◌<◌, ◌⊎◌, nat_lt}
use Rattle.std.specs.Bool.{IsTrue, MatchBool}
use Rattle.std.proofs.lemmas.Bool.{ltb-true, or_parts}
use Rattle.std.proofs.lemmas.Result.{err_from_is_err_and}
use Rattle.std.proofs.lemmas.List.Elements.{All-nil}
use Rattle.rbc_streams.specs.LineReading.{Steps, IsOverlong, HasNoLineFeed}
use Rattle.rbc_streams.proofs.LineLemmas.{lines_of_overlong}
use Rattle.rbc_streams.proofs.UnderWayLemmas.{begins, takes, hands_on, stops_between, fails_reading, fails_handing_on, ends, has_too_many, goes_on, fails_writing, refuses, front_of, some_line}
use Rattle.rbc_streams.proofs.session.serve_lines_with.Goals as goal
use Rattle.rbc_streams.proofs.session.serve_lines_with.Goals.{then-count-lt-MOST_LINES, else-count-lt-MOST_LINES}

is_false : (test : Bool) → (IsTrue test → ⊥) → test ≡ false
is_false true refutes = absurd (refutes refl)
is_false false refutes = refl

not_less : (a b : ℕ) (more : Bool) → more ≡ nat_lt a b → (a < b → ⊥) → more ≡ false
not_less a b true is most = absurd (most (ltb-true a b (sym is)))
not_less a b false is most = refl

-- a reply rests only where a further line is there
may_rest : (more is_there : Bool) (rests : ℕ) (Few There Else : Type 0) → more ≡ is_there → Few → MatchBool is_there There Else → (more ≡ false → rests ≡ 0)
    → (rests ≡ 0) ⊎ (Few × There)
may_rest more true rests Few There Else same few there none = inr (few, there)
may_rest more false rests Few There Else same few there none = inl (none same)

pub loop-count-init : goal.loop-count-init
loop-count-init g c =
    let left = g.R.Source.left c.args.reader.now in
    let written = g.W.Sink.written c.args.writer.now in
    rw c.requires.lines (record {
      reader_works = c.requires.reader;
      writer_works = c.requires.writer;
      ready = c.requires.ready;
      intact = g.A.LineHandler.works (g.A.LineHandler.state c.args.handler.now) c.requires.ready;
      longest = refl;
      none_rests = inl c.requires.none_rests;
      end = λ over. cc;
      handed_on = λ held none. held;
      under_way = begins g.A.LineHandler.longest g.A.LineHandler.answers (g.A.LineHandler.state c.args.handler.now) left written;
    })

pub returns-in_err-next_line-clause-talk : goal.returns-in_err-next_line-clause-talk
returns-in_err-next_line-clause-talk g c =
    let did = c.in_err-next_line.ensures in
    let read = hands_on g.A.LineHandler.longest g.A.LineHandler.answers
    (takes g.A.LineHandler.longest g.A.LineHandler.answers c.loop-count.invariant.under_way (g.R.Source.left c.next_line.new.reader)
    c.next_line.new.lines.ended did.next.0 did.ended did.next.2 did.next.1) (g.W.Sink.written c.next_line.new.writer) did.written in
    let fault = err_from_is_err_and c.from_residual.result c.from_residual.ensures.1 in
    rw (fault.1, fault.2)
    (stops_between g.A.LineHandler.longest g.A.LineHandler.answers read c.next_line.new.lines _ refl did.next.3 (λ e. ltb-true _ _ (did.answered (ap Err e))) (omega arith))

pub returns-in-End-clause-talk : goal.returns-in-End-clause-talk
returns-in-End-clause-talk g c =
    let did = c.in_ok-next_line.ensures in
    let step = subst (Steps _ _) c.in-End.is did.next.3 in
    let read = hands_on g.A.LineHandler.longest g.A.LineHandler.answers
    (takes g.A.LineHandler.longest g.A.LineHandler.answers c.loop-count.invariant.under_way (g.R.Source.left c.next_line.new.reader)
    c.next_line.new.lines.ended did.next.0 did.ended did.next.2 did.next.1) (g.W.Sink.written c.next_line.new.writer) did.written in
    ends g.A.LineHandler.longest g.A.LineHandler.answers read step.1 (omega arith)

pub returns-in-Overlong-clause-talk : goal.returns-in-Overlong-clause-talk
returns-in-Overlong-clause-talk g c =
    let did = c.in_ok-next_line.ensures in
    let step = subst (Steps _ _) c.in-Overlong.is did.next.3 in
    let over = subst (IsOverlong _) (did.longest ∙ c.loop-count.invariant.longest) step.1 in
    let line = lines_of_overlong _ _ over.long over.no_end in
    let read = hands_on g.A.LineHandler.longest g.A.LineHandler.answers
    (takes g.A.LineHandler.longest g.A.LineHandler.answers c.loop-count.invariant.under_way (g.R.Source.left c.next_line.new.reader)
    c.next_line.new.lines.ended did.next.0 did.ended did.next.2 did.next.1) (g.W.Sink.written c.next_line.new.writer) did.written in
    let reply = c.in_ok-refuse-in-Overlong.ensures.reply in
    refuses g.A.LineHandler.longest g.A.LineHandler.answers read (g.A.LineHandler.state c.refuse.new.handler) (g.W.Sink.written c.refuse.new.writer)
    line.0 reply.0 line.1 c.loop-count-test.true line.2 line.3 (reply.1 line.0 line.3) reply.2.text

pub returns-in_err-refuse-in-Overlong-clause-talk : goal.returns-in_err-refuse-in-Overlong-clause-talk
returns-in_err-refuse-in-Overlong-clause-talk g c =
    let residual = c.from_residual-in_err-refuse-in-Overlong in
    let fault = err_from_is_err_and residual.result residual.ensures.1 in
    let did = c.in_ok-next_line.ensures in
    let step = subst (Steps _ _) c.in-Overlong.is did.next.3 in
    let over = subst (IsOverlong _) (did.longest ∙ c.loop-count.invariant.longest) step.1 in
    let line = lines_of_overlong _ _ over.long over.no_end in
    let read = hands_on g.A.LineHandler.longest g.A.LineHandler.answers
    (takes g.A.LineHandler.longest g.A.LineHandler.answers c.loop-count.invariant.under_way (g.R.Source.left c.next_line.new.reader)
    c.next_line.new.lines.ended did.next.0 did.ended did.next.2 did.next.1) (g.W.Sink.written c.next_line.new.writer) did.written in
    let reply = c.in_err-refuse-in-Overlong.ensures.reply in
    rw (fault.1, fault.2) (fails_writing g.A.LineHandler.longest g.A.LineHandler.answers read (g.A.LineHandler.state c.refuse.new.handler)
    (g.W.Sink.written c.refuse.new.writer) line.0 reply.0 line.1 c.loop-count-test.true line.2 (reply.1 line.0 line.3) reply.2.text)

pub returns-in_err-answer-in-Line-clause-talk : goal.returns-in_err-answer-in-Line-clause-talk
returns-in_err-answer-in-Line-clause-talk g c =
    let residual = c.from_residual-in_err-answer-in-Line in
    let fault = err_from_is_err_and residual.result residual.ensures.1 in
    let did = c.in_ok-next_line.ensures in
    let gives = subst (Steps _ _) c.in-Line.is did.next.3 in
    let read = hands_on g.A.LineHandler.longest g.A.LineHandler.answers
    (takes g.A.LineHandler.longest g.A.LineHandler.answers c.loop-count.invariant.under_way (g.R.Source.left c.next_line.new.reader)
    c.next_line.new.lines.ended did.next.0 did.ended did.next.2 did.next.1) (g.W.Sink.written c.next_line.new.writer) did.written in
    let reply = rw c.line.ensures at c.in_err-answer-in-Line.ensures.reply in
    rw (fault.1, fault.2) (fails_writing g.A.LineHandler.longest g.A.LineHandler.answers read (g.A.LineHandler.state c.answer.new.self)
    (g.W.Sink.written c.answer.new.writer) _ reply.0 _ c.loop-count-test.true (front_of _ c.next_line.new.lines gives) reply.1 reply.2.text)

pub loop-count-preserved : goal.loop-count-preserved
loop-count-preserved g c =
    let did = c.in_ok-next_line.ensures in
    let gives = subst (Steps _ _) c.in-Line.is did.next.3 in
    let size = did.longest ∙ c.loop-count.invariant.longest in
    let read = hands_on g.A.LineHandler.longest g.A.LineHandler.answers
    (takes g.A.LineHandler.longest g.A.LineHandler.answers c.loop-count.invariant.under_way (g.R.Source.left c.next_line.new.reader)
    c.next_line.new.lines.ended did.next.0 did.ended did.next.2 did.next.1) (g.W.Sink.written c.next_line.new.writer) did.written in
    let reply = rw c.line.ensures at c.in_ok-answer-in-Line.ensures.reply in
    let works = or_parts (g.A.LineHandler.broken (g.A.LineHandler.state c.answer.new.self)) (g.W.Sink.failed c.answer.new.writer) reply.2.failed in
    record {
      reader_works = is_false _ (λ failed. let e = did.read.1 failed in cc);
      writer_works = works.1;
      ready = g.A.LineHandler.goes_on (g.A.LineHandler.state c.loop-count.handler) (g.A.LineHandler.state c.answer.new.self) c.next_line.new.lines.line reply.0 reply.1 works.0;
      intact = works.0;
      longest = size;
      none_rests = elim c.if-count-lt-MOST_LINES.branch [
        | then-count-lt-MOST_LINES w ↦
            may_rest c.if-count-lt-MOST_LINES.more w.has_line-more.result (g.A.LineHandler.rests (g.A.LineHandler.state c.answer.new.self)) _ _ _ w.more-is
            (omega (arith, w.if-count-lt-MOST_LINES.true)) w.has_line-more.ensures c.in_ok-answer-in-Line.ensures.none_rests
        | else-count-lt-MOST_LINES w ↦
            inl (c.in_ok-answer-in-Line.ensures.none_rests (not_less _ _ c.if-count-lt-MOST_LINES.more w.more-is (λ less. let most = w.if-count-lt-MOST_LINES.false in omega (arith, less, most))))
      ];
      end = did.end c.loop-count.invariant.end;
      handed_on = λ held none. absurd (omega (arith, none));
      under_way = rw add-one (goes_on g.A.LineHandler.longest g.A.LineHandler.answers read (g.A.LineHandler.state c.answer.new.self)
          (g.W.Sink.written c.answer.new.writer) c.next_line.new.lines reply.0 refl size gives reply.1 reply.2.text);
    }

pub returns-in_err-flush-clause-talk : goal.returns-in_err-flush-clause-talk
returns-in_err-flush-clause-talk g c =
    let fault = err_from_is_err_and c.from_residual-in_err-flush.result c.from_residual-in_err-flush.ensures.1 in
    let sent = hands_on g.A.LineHandler.longest g.A.LineHandler.answers c.loop-count.invariant.under_way (g.W.Sink.written c.flush.new.self)
    c.in_err-flush.ensures.bytes in
    rw (fault.1, fault.2) (fails_handing_on g.A.LineHandler.longest g.A.LineHandler.answers sent (omega arith) (omega arith))

pub returns-in_err-has_more-clause-talk : goal.returns-in_err-has_more-clause-talk
returns-in_err-has_more-clause-talk g c =
    let fault = err_from_is_err_and c.from_residual-in_err-has_more.result c.from_residual-in_err-has_more.ensures.1 in
    let did = c.in_err-has_more.ensures in
    let sent = hands_on g.A.LineHandler.longest g.A.LineHandler.answers c.loop-count.invariant.under_way (g.W.Sink.written c.flush.new.self)
    c.in_ok-flush.ensures.bytes in
    let read = takes g.A.LineHandler.longest g.A.LineHandler.answers sent (g.R.Source.left c.has_more.new.reader)
    c.has_more.new.self.ended did.input.0 did.ended did.input.2 did.input.1 in
    rw (fault.1, fault.2) (fails_reading g.A.LineHandler.longest g.A.LineHandler.answers read (subst HasNoLineFeed (sym did.fault.0 ∙ did.input.3) (All-nil (λ byte. byte ≡ 10 → ⊥))) did.fault.1 (omega arith))

pub returns-then-branch-clause-talk : goal.returns-then-branch-clause-talk
returns-then-branch-clause-talk g c =
    let did = c.in_ok-has_more.ensures in
    let some = rw (c.if-branch.true, did.input.3) at did.answer in
    let sent = hands_on g.A.LineHandler.longest g.A.LineHandler.answers c.loop-count.invariant.under_way (g.W.Sink.written c.flush.new.self)
    c.in_ok-flush.ensures.bytes in
    let read = takes g.A.LineHandler.longest g.A.LineHandler.answers sent (g.R.Source.left c.has_more.new.reader)
    c.has_more.new.self.ended did.input.0 did.ended did.input.2 did.input.1 in
    has_too_many g.A.LineHandler.longest g.A.LineHandler.answers read (omega arith) (some_line _ some)

pub returns-clause-talk : goal.returns-clause-talk
returns-clause-talk g c =
    let did = c.in_ok-has_more.ensures in
    let none = rw c.if-branch.false at did.answer in
    let sent = hands_on g.A.LineHandler.longest g.A.LineHandler.answers c.loop-count.invariant.under_way (g.W.Sink.written c.flush.new.self)
    c.in_ok-flush.ensures.bytes in
    let read = takes g.A.LineHandler.longest g.A.LineHandler.answers sent (g.R.Source.left c.has_more.new.reader)
    c.has_more.new.self.ended did.input.0 did.ended did.input.2 did.input.1 in
    ends g.A.LineHandler.longest g.A.LineHandler.answers read (sym did.input.3 ∙ none.0) (omega arith)
