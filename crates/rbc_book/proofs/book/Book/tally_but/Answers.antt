use Rattle.std.proofs.Common.{◌∙◌, ap, sym}
use Rattle.std.specs.Option.{option_copied}
use Rattle.std.specs.Arc.{arc_value}
use Rattle.rbc_book.specs.Presence.{tally_less}
use Rattle.rbc_book.proofs.PresenceLemmas.{but, only}
use Rattle.rbc_book.proofs.book.Book.tally_but.Goals as goal

pub returns-then-tally-gt1 : goal.returns-then-tally-gt1
returns-then-tally-gt1 c =
    c.less.ensures ∙ ap (tally_less (option_copied c.get-own.result) c.args.section) c.tally_at-tally.ensures
    ∙ but (arc_value c.self.inside.track) c.args.self.now c.self.inside.trains.entries c.self.view_is c.self.invariant.0 c.self.inside.presence.items c.self.invariant.1 c.args.id c.args.section
    (option_copied c.get-own.result) (rw c.number.ensures at c.get-own.ensures.value)

-- where one train is there at most, its number tells whether it is the one that is left out
pub returns-then-tally-from : goal.returns-then-tally-from
returns-then-tally-from c =
    let one = only (arc_value c.self.inside.track) c.args.self.now c.self.inside.trains.entries c.self.view_is c.self.invariant.0 c.self.inside.presence.items c.self.invariant.1 c.args.id c.args.section c.tally_at-tally.result c.tally_at-tally.ensures c.if-tally-gt1.false in
    c.nobody.ensures ∙ sym (one.same (c.if-tally-from.true ∙ c.from.ensures ∙ c.number-2.ensures))

pub returns-else-tally-from : goal.returns-else-tally-from
returns-else-tally-from c =
    let one = only (arc_value c.self.inside.track) c.args.self.now c.self.inside.trains.entries c.self.view_is c.self.invariant.0 c.self.inside.presence.items c.self.invariant.1 c.args.id c.args.section c.tally_at-tally.result c.tally_at-tally.ensures c.if-tally-gt1.false in
    sym (one.other (λ same. c.if-tally-from.false (same ∙ sym (c.from.ensures ∙ c.number-2.ensures))))
