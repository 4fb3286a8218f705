use Rattle.std.proofs.Common.{arith, ap, ◌∙◌}
use Rattle.rbc_journal.specs.Gates.{counted}
use Rattle.rbc_journal_report.proofs.TextLemmas.{next_front, all_lines, some_lines, is_text}
use Rattle.rbc_journal_report.proofs.telling.first_lines.Goals as goal

pub returns-in_default-clause-lines : goal.returns-in_default-clause-lines
returns-in_default-clause-lines c =
    let i = c.loop-count.invariant in
    ap counted c.front_of.ensures
    ∙ all_lines c.args.bytes.now c.loop-count.rest.now c.loop-count.count i.front c.args.lines c.in_default.ensures.none i.within

pub returns-in_default-clause-text : goal.returns-in_default-clause-text
returns-in_default-clause-text c =
    is_text c.args.bytes.now c.loop-count.rest.now c.loop-count.count c.loop-count.invariant.front c.front_of.result.now c.front_of.ensures

pub loop-count-preserved : goal.loop-count-preserved
loop-count-preserved c =
    let i = c.loop-count.invariant in
    let e = c.in-Some.ensures in
    record {
      front = next_front c.args.bytes.now c.loop-count.rest.now c.loop-count.count i.front c.in-Some.field-0-0.now c.in-Some.after.now e.line e.read e.form;
      within = omega (arith, c.loop-count-test.true);
    }

pub returns-clause-lines : goal.returns-clause-lines
returns-clause-lines c =
    let i = c.loop-count.invariant in
    ap counted c.front_of-2.ensures
    ∙ some_lines c.args.bytes.now c.loop-count.rest.now c.loop-count.count i.front c.args.lines (omega (arith, i.within, c.loop-count-test.false))

pub returns-clause-text : goal.returns-clause-text
returns-clause-text c =
    is_text c.args.bytes.now c.loop-count.rest.now c.loop-count.count c.loop-count.invariant.front c.front_of-2.result.now c.front_of-2.ensures
