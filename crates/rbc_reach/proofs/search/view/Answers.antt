-- The book's train of this number is the scene's.
use Rattle.std.proofs.Common.{List, ap, sym, ◌∙◌, subst}
use Rattle.std.specs.Prelude.{◌==◌, find}
use Rattle.rbc_model.specs.Answers.{AnswersOrMemory}
use Rattle.rbc_model.specs.Trains.{Train}
use Rattle.rbc_scene.proofs.GrantingLemmas.{found}
use Rattle.rbc_reach.proofs.FoundLemmas.{viewed}
use Rattle.rbc_reach.proofs.search.view.Goals as goal

pub returns-in-Some-clause-view : goal.returns-in-Some-clause-view
returns-in-Some-clause-view c =
    let scene = c.args.scene.now in
    let book = c.book.result.now in
    let shown = c.book-in-Some.ensures in
    let f = found book c.args.train c.get.result c.get.ensures c.in-Some.known c.in-Some.is in
    subst (AnswersOrMemory c.view_of.result)
    (viewed scene.track scene.scene c.book-in-Some.result.now.track c.locks.result.now c.book-in-Some.result.now.trains c.in-Some.known.now.train c.args.train shown.track c.locks.ensures.locks shown.trains
    (ap (λ (trains : List Train). find (λ (t : Train). t.report.train == c.args.train) trains) (shown.trains ∙ sym c.book.ensures.trains) ∙ f.there))
    c.view_of.ensures
