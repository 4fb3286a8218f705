use Rattle.std.proofs.Common.{◌≡◌, true, sym, ◌∙◌, ap, arith}
use Rattle.rbc_journal.specs.Gates.{counted}
use Rattle.rbc_journal.specs.Seals.{is_comment}
use Rattle.rbc_journal.specs.Journal.{told_of}
use Rattle.rbc_journal.proofs.ToldLemmas.{told_line, told_comment, at_place, next_place}
use Rattle.rbc_journal.proofs.told.next_told.Goals as goal

pub loop-line-preserved : goal.loop-line-preserved
loop-line-preserved c =
    let i = c.loop-line.invariant in
    let e = c.in-Some.ensures in
    let line = c.in-Some.line.now in
    let after = c.in-Some.after.now in
    let said : is_comment line ≡ true = sym c.is_comment.ensures ∙ c.if-not-is_comment.false in
    record {
      told = i.told ∙ ap told_of e.line ∙ told_comment line (counted after) said;
      rest = next_place c.loop-line.comments (counted c.args.bytes.now) line (counted after) (i.rest ∙ e.line);
      size = omega (arith, i.size, e.shorter);
    }

pub returns-then-not-is_comment-clause-told : goal.returns-then-not-is_comment-clause-told
returns-then-not-is_comment-clause-told c =
    let i = c.loop-line.invariant in
    let e = c.in-Some.ensures in
    i.told ∙ ap told_of e.line ∙ told_line c.in-Some.line.now (counted c.in-Some.after.now) (sym c.is_comment.ensures ∙ c.if-not-is_comment.true)

pub returns-then-not-is_comment-clause-place : goal.returns-then-not-is_comment-clause-place
returns-then-not-is_comment-clause-place c =
    let i = c.loop-line.invariant in
    let e = c.in-Some.ensures in
    at_place c.loop-line.comments (counted c.args.bytes.now) c.in-Some.line.now (counted c.in-Some.after.now) (i.rest ∙ e.line)

pub returns-then-not-is_comment-clause-rest : goal.returns-then-not-is_comment-clause-rest
returns-then-not-is_comment-clause-rest c =
    let i = c.loop-line.invariant in
    let e = c.in-Some.ensures in
    sym (next_place c.loop-line.comments (counted c.args.bytes.now) c.in-Some.line.now (counted c.in-Some.after.now) (i.rest ∙ e.line))
