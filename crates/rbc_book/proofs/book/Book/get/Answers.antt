use Rattle.std.proofs.Common.{◌∙◌}
use Rattle.std.specs.Arc.{arc_value}
use Rattle.rbc_book.proofs.EntryLemmas.{got}
use Rattle.rbc_book.proofs.book.Book.get.Goals as goal

pub returns : goal.returns
returns c = (rw c.number.ensures at c.get.ensures.value) ∙ got (arc_value c.self.inside.track) c.args.self.now c.self.inside.trains.entries c.self.view_is c.self.invariant.0 c.args.id
