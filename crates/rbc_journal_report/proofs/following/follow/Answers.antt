use Rattle.std.proofs.Common.{List, ℕ, subst}
use Rattle.rbc_journal.specs.Gates.{counted}
use Rattle.rbc_journal_report.specs.Following.{EndsIn}
use Rattle.rbc_journal_report.specs.Telling.{telling_beside}
use Rattle.rbc_journal_report.proofs.FollowLemmas.{all_shown, now_shown, part_shown, ends_in, at_err}
use Rattle.rbc_journal_report.proofs.following.follow.Goals as goal

pub returns-in_err-found-clause-part : goal.returns-in_err-found-clause-part
returns-in_err-found-clause-part g c =
    let w = g.W.Sink.written in
    let before = counted c.loop.follower.shown.items in
    let last = telling_beside c.args.given c.bytes.result.now in
    at_err c.from_residual-in_err-found.result
    (part_shown (w c.args.writer.now) (w c.loop.writer) (w c.look-then-is_new.new.writer) before last c.loop.invariant.4 c.in_err-found.ensures.all c.in_err-found.ensures.part)

pub returns-then-eq-clause-why : goal.returns-then-eq-clause-why
returns-then-eq-clause-why g c =
    let w = g.W.Sink.written in
    let before = counted c.loop.follower.shown.items in
    let last = telling_beside c.args.given c.bytes.result.now in
    let first = w c.args.writer.now in
    let now = w c.look-then-is_new.new.writer in
    let shown = all_shown first (w c.loop.writer) now before last c.loop.invariant.4 c.in_ok-found.ensures.all c.in_ok-found.ensures.written in
    subst (λ (l : List ℕ). EndsIn first now (telling_beside c.args.given l) c.in-Some-found.why) c.bytes.ensures
    (ends_in first now before last c.in_ok-found.found c.in-Some-found.why shown c.in_ok-found.ensures.doubt c.in-Some-found.is)

pub loop-preserved-else-eq : goal.loop-preserved-else-eq
loop-preserved-else-eq g c =
    let w = g.W.Sink.written in
    let before = counted c.loop.follower.shown.items in
    let last = telling_beside c.args.given c.bytes.result.now in
    let first = w c.args.writer.now in
    let now = w c.look-then-is_new.new.writer in
    let e = c.in_ok-found.ensures in
    let lines = counted c.look-then-is_new.new.self.shown.items in
    (tt, tt, e.failed, e.text, now_shown first (w c.loop.writer) now before last c.loop.invariant.4 e.all lines e.lines e.written)

pub loop-preserved-in_default : goal.loop-preserved-in_default
loop-preserved-in_default g c =
    let w = g.W.Sink.written in
    let before = counted c.loop.follower.shown.items in
    let last = telling_beside c.args.given c.bytes.result.now in
    let first = w c.args.writer.now in
    let now = w c.look-then-is_new.new.writer in
    let e = c.in_ok-found.ensures in
    let lines = counted c.look-then-is_new.new.self.shown.items in
    (tt, tt, e.failed, e.text, now_shown first (w c.loop.writer) now before last c.loop.invariant.4 e.all lines e.lines e.written)
