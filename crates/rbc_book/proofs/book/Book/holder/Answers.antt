use Rattle.std.proofs.Common.{◌∙◌}
use Rattle.std.specs.Arc.{arc_value}
use Rattle.rbc_model.specs.Scenes.{authority_has}
use Rattle.rbc_book.proofs.EntryLemmas.{got-first}
use Rattle.rbc_book.proofs.book.Book.holder.Goals as goal

pub returns : goal.returns
returns c = c.first_holder.ensures ∙ got-first (arc_value c.self.inside.track) c.args.self.now c.self.inside.trains.entries c.self.view_is c.self.invariant.0 (λ track train. authority_has track c.args.metre train)
