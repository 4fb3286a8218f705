use Rattle.std.proofs.Common.{None, Ok, [], ◌∷◌, ◌+◌, ◌∙◌, ap, drop, refl, subst, sym}
use Rattle.std.specs.Prelude.{All}
use Rattle.std.proofs.lemmas.List.Elements.{All-head}
use Rattle.std.proofs.lemmas.List.{at_drop_all, at_drop_more, nil_from_length}
use Rattle.rbc_streams.specs.declared.streams.WriteFailed.{WriteFailed}
use Rattle.rbc_sessions.specs.Due.{AreSaidOf, CanBeSaid}
use Rattle.rbc_sessions.specs.Dues.{AskedSo, ToldSo, dues_of}
use Rattle.rbc_sessions.proofs.DueLemmas.{AreLeft, one_printed, one_stopped}
use Rattle.rbc_replies.proofs.PrintingLemmas.{prints_nothing}
use Rattle.rbc_sessions.proofs.batch.print_all.Goals.{in-Some+in_ok-print_told-in-Some, in-None+in-Some-split_first+in_ok-print_asked-in-None, in-None+in_default}
use Rattle.rbc_sessions.proofs.batch.print_all.Goals as goal

pub print_told-requires-clause-due : goal.print_told-requires-clause-due
print_told-requires-clause-due g c =
    let loop = c.loop-reply in
    let item = c.reply-item in
    let replies = c.parts.result.0.now in
    let more = drop (loop.reply-index + 1) replies in
    let first = ap (λ l. dues_of l loop.answers.now) (at_drop_more (λ l. l) replies loop.reply-index item.result c.loop-reply-test.true ∙ ap (λ r. r ∷ more) (sym item.is ∙ c.in-Some.is)) in
    let left = loop.invariant.left in
    All-head (CanBeSaid c.args.track.now) (ToldSo c.in-Some.told) (dues_of more loop.answers.now) (subst (All (CanBeSaid c.args.track.now)) first left.can)

pub print_asked-requires-clause-due : goal.print_asked-requires-clause-due
print_asked-requires-clause-due g c =
    let loop = c.loop-reply in
    let item = c.reply-item in
    let replies = c.parts.result.0.now in
    let more = drop (loop.reply-index + 1) replies in
    let split = c.in-Some-split_first in
    let first = ap (λ l. dues_of l loop.answers.now) (at_drop_more (λ l. l) replies loop.reply-index item.result c.loop-reply-test.true ∙ ap (λ r. r ∷ more) (sym item.is ∙ c.in-None.is))
    ∙ ap (λ l. dues_of (None ∷ more) l) split.ensures.cases.0 in
    let left = loop.invariant.left in
    All-head (CanBeSaid c.args.track.now) (AskedSo split.asked.now) (dues_of more split.more.now) (subst (All (CanBeSaid c.args.track.now)) first left.can)

pub returns-in_err-print_told-in-Some : goal.returns-in_err-print_told-in-Some
returns-in_err-print_told-in-Some g c =
    let loop = c.loop-reply in
    let item = c.reply-item in
    let replies = c.parts.result.0.now in
    let more = drop (loop.reply-index + 1) replies in
    let first = ap (λ l. dues_of l loop.answers.now) (at_drop_more (λ l. l) replies loop.reply-index item.result c.loop-reply-test.true ∙ ap (λ r. r ∷ more) (sym item.is ∙ c.in-Some.is)) in
    let said = c.in_err-print_told-in-Some.ensures in
    one_stopped c.args.track.now _ _ (dues_of more loop.answers.now) (ToldSo c.in-Some.told) first _ _ _ _ loop.invariant.left said.0 _ _ said.1 said.2 c.from_residual.ensures.0

pub returns-in_err-print_asked-in-None : goal.returns-in_err-print_asked-in-None
returns-in_err-print_asked-in-None g c =
    let loop = c.loop-reply in
    let item = c.reply-item in
    let replies = c.parts.result.0.now in
    let more = drop (loop.reply-index + 1) replies in
    let split = c.in-Some-split_first in
    let first = ap (λ l. dues_of l loop.answers.now) (at_drop_more (λ l. l) replies loop.reply-index item.result c.loop-reply-test.true ∙ ap (λ r. r ∷ more) (sym item.is ∙ c.in-None.is))
    ∙ ap (λ l. dues_of (None ∷ more) l) split.ensures.cases.0 in
    let said = c.in_err-print_asked-in-None.ensures in
    one_stopped c.args.track.now _ _ (dues_of more split.more.now) (AskedSo split.asked.now) first _ _ _ _ loop.invariant.left said.0 _ _ said.1 said.2 c.from_residual-in_err-print_asked-in-None.ensures.0

pub loop-reply-preserved : goal.loop-reply-preserved
loop-reply-preserved g c =
    let loop = c.loop-reply in
    let item = c.reply-item in
    let replies = c.parts.result.0.now in
    let more = drop (loop.reply-index + 1) replies in
    let next = at_drop_more (λ l. l) replies loop.reply-index item.result c.loop-reply-test.true in
    elim c.match-reply.branch [
      | in-Some+in_ok-print_told-in-Some w ↦
          (let said = w.in_ok-print_told-in-Some.ensures in
          let first = ap (λ l. dues_of l loop.answers.now) (next ∙ ap (λ r. r ∷ more) (sym item.is ∙ w.in-Some.is)) in
          rw (w.writer-is, w.answers-is) (record {
            going = said.2.failed;
            left = one_printed c.args.track.now _ _ (dues_of more loop.answers.now) (ToldSo w.in-Some.told) first _ _ _ _ loop.invariant.left said.0 said.1 said.2;
          }))
      | in-None+in-Some-split_first+in_ok-print_asked-in-None w ↦
          (let said = w.in_ok-print_asked-in-None.ensures in
          let split = w.in-Some-split_first in
          let first = ap (λ l. dues_of l loop.answers.now) (next ∙ ap (λ r. r ∷ more) (sym item.is ∙ w.in-None.is)) ∙ ap (λ l. dues_of (None ∷ more) l) split.ensures.cases.0 in
          rw (w.writer-is, w.answers-is) (record {
            going = said.2.failed;
            left = one_printed c.args.track.now _ _ (dues_of more split.more.now) (AskedSo split.asked.now) first _ _ _ _ loop.invariant.left said.0 said.1 said.2;
          }))
      | in-None+in_default w ↦
          (let none = nil_from_length loop.answers.now w.in_default.ensures.cases in
          let same = ap (λ l. dues_of l loop.answers.now) (next ∙ ap (λ r. r ∷ more) (sym item.is ∙ w.in-None.is)) ∙ ap (λ l. dues_of (None ∷ more) l) none ∙ ap (λ l. dues_of more l) (sym none) in
          rw (w.writer-is, w.answers-is) (record {
            going = loop.invariant.going;
            left = subst (λ left. AreLeft c.args.track.now WriteFailed c.args.dues.now.dues left (g.W.Sink.written c.args.writer.now) (g.W.Sink.written loop.writer)) same loop.invariant.left;
          }))
    ]

pub returns : goal.returns
returns g c =
    let loop = c.loop-reply in
    let none_left = ap (λ l. dues_of l loop.answers.now) (at_drop_all (λ l. l) c.parts.result.0.now loop.reply-index c.loop-reply-test.false) in
    let left = loop.invariant.left in
    left.whole _ _ (Ok tt) [] (subst (λ l. AreSaidOf c.args.track.now l []) (sym none_left) refl) (prints_nothing _ _ [] refl loop.invariant.going)
