use Rattle.std.proofs.Common.{◌∙◌}
use Rattle.std.specs.Arc.{arc_value}
use Rattle.rbc_book.proofs.EntryLemmas.{got-trains}
use Rattle.rbc_book.proofs.book.Book.trains.Goals as goal

pub returns-clause-trains : goal.returns-clause-trains
returns-clause-trains c = c.values.ensures.rest ∙ got-trains (arc_value c.self.inside.track) c.args.self.now c.self.inside.trains.entries c.self.view_is c.self.invariant.0
