use Rattle.std.proofs.Common.{◌≡◌, true, ◌++◌, refl, ap, ◌∙◌, subst, append_assoc}
use Rattle.std.proofs.KnownBytes.{Consumes-trans}
use Rattle.rbc_streams.specs.LineReading.{Steps}
use Rattle.rbc_streams.proofs.line_reader.LineReader.advance.Goals as goal

pub returns-in-Some-clause-next : goal.returns-in-Some-clause-next
returns-in-Some-clause-next g c =
    let reads = c.loop-step.invariant.reads in
    (reads.0, reads.1, reads.2, subst (λ input. Steps input c.first_line.new.self c.in-Some.step) reads.3 c.in-Some.ensures.some)

pub returns-then-branch-eq0-clause-next : goal.returns-then-branch-eq0-clause-next
returns-then-branch-eq0-clause-next g c =
    let reads = c.loop-step.invariant.reads in
    let more = c.in_ok-fill.ensures.ok in
    let same = ap (λ reading. reading.pending) c.in_default.ensures.none.0 in
    let over = λ (e : c.args.self.now.ended ≡ true). more.4 (ap (λ reading. reading.ended) c.in_default.ensures.none.0 ∙ c.loop-step.invariant.stays e) in
    let input = more.2 ∙ ap (λ l. l ++ more.0) (same ∙ reads.3) ∙ append_assoc c.args.self.now.pending reads.0 more.0 in (
      reads.0 ++ more.0,
      Consumes-trans (g.R.Source.left c.args.reader.now) (g.R.Source.left c.loop-step.reader) (g.R.Source.left c.fill.new.reader) reads.0 more.0 reads.1 more.3,
      λ e. rw (reads.2 e, over e) refl,
      subst (λ bytes. Steps bytes c.last_line.new.self c.last_line.result) input c.last_line.ensures.step,
    )
