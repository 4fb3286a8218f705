use Rattle.std.proofs.Common.{◌∙◌}
use Rattle.std.specs.Arc.{arc_value}
use Rattle.rbc_model.specs.Events.{stands_on}
use Rattle.rbc_book.proofs.EntryLemmas.{got-first}
use Rattle.rbc_book.proofs.PresenceLemmas.{nobody_stands}
use Rattle.rbc_book.proofs.book.Book.standing_on.Goals as goal

pub returns : goal.returns
returns c = c.first_standing_on.ensures ∙ got-first (arc_value c.self.inside.track) c.args.self.now c.self.inside.trains.entries c.self.view_is c.self.invariant.0 (λ track train. stands_on track c.args.section train)

pub returns-then-tally_at-eq0 : goal.returns-then-tally_at-eq0
returns-then-tally_at-eq0 c =
    nobody_stands (arc_value c.self.inside.track) c.args.self.now c.self.inside.trains.entries c.self.view_is c.self.invariant.0 c.self.inside.presence.items c.self.invariant.1 c.args.section c.tally_at.result
    c.tally_at.ensures c.if-tally_at-eq0.true
