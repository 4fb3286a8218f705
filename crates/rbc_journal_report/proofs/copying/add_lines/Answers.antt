use Rattle.std.proofs.Common.{◌≡◌, ℕ, List, ◌-◌, ◌+◌, take, ◌∙◌, subst, arith}
use Rattle.std.specs.Prelude.{OnOk}
use Rattle.rbc_journal.specs.Gates.{counted}
use Rattle.rbc_journal.specs.Journal.{told_of}
use Rattle.rbc_journal_report.specs.Copying.{Tells, all_lines, begins_with}
use Rattle.rbc_journal_report.proofs.CopyLemmas.{copy_next, copy_enough}
use Rattle.rbc_journal_report.proofs.copying.add_lines.Goals as goal

pub loop-count-preserved : goal.loop-count-preserved
loop-count-preserved g c =
    let i = c.loop-count.invariant in
    let seen = g.D.Device.seen in
    record {
      settled = c.in_ok-add_line.ensures.settled;
      all =
          copy_next (all_lines seen c.loop-count.journal) (all_lines seen c.add_line.new.journal) c.in-Some.line.now (told_of (counted c.loop-count.rest.now)) (told_of (counted c.in-Some.after.now))
          (take c.args.lines (told_of (counted c.args.text.now))) (c.args.lines - c.loop-count.count) (c.args.lines - (c.loop-count.count + 1))
          (omega (arith, c.loop-count-test.true)) c.in-Some.ensures.told c.in_ok-add_line.ensures.lines i.all;
      begins = c.in_ok-add_line.ensures.begins ∙ i.begins;
      within = omega (arith, c.loop-count-test.true);
    }

pub returns-clause-tells : goal.returns-clause-tells
returns-clause-tells g c =
    let i = c.loop-count.invariant in
    let seen = g.D.Device.seen in
    subst (λ (ls : List (List ℕ)). OnOk c.finish-2.result (Tells seen g.D.Device.may_leave c.finish-2.new.journal ls))
    (copy_enough (all_lines seen c.loop-count.journal) (told_of (counted c.loop-count.rest.now)) (take c.args.lines (told_of (counted c.args.text.now))) (c.args.lines - c.loop-count.count)
    (omega (arith, i.within, c.loop-count-test.false)) i.all)
    c.finish-2.ensures.tells

pub returns-clause-begins : goal.returns-clause-begins
returns-clause-begins g c =
    let seen = g.D.Device.seen in
    subst (λ (ls : List (List ℕ)). OnOk c.finish-2.result (begins_with seen c.finish-2.new.journal ≡ ls)) c.loop-count.invariant.begins c.finish-2.ensures.begins
