-- A train alone is found by the sum of the numbers, which is its own.
use Rattle.std.proofs.Common.{◌≡◌, ℕ, ◌≤◌, ◌∙◌, Bor, None, Option, Some, ap, arith, refl, sym}
use Rattle.std.specs.Prelude.{is_some}
use Rattle.std.specs.Option.{option_copied}
use Rattle.std.specs.Arc.{arc_value}
use Rattle.rbc_book.proofs.PresenceLemmas.{none_else, one_else, one_there, small_sum, two_else}
use Rattle.rbc_book.proofs.book.Book.others_along.Goals as goal

copied_some : {X : Type 0} (o : Option (Bor X)) → is_some o ≡ is_some (option_copied o)
copied_some None = refl
copied_some (Some x) = refl

one : (n : ℕ) → ((n ≡ 0) → ⊥) → n ≤ 1 → n ≡ 1
one n some few = grind (arith, some, few)

pub returns-then-tally-eq0 : goal.returns-then-tally-eq0
returns-then-tally-eq0 c =
    none_else (arc_value c.self.inside.track) c.args.self.now c.self.inside.trains.entries c.self.view_is c.self.invariant.0 c.self.inside.presence.items c.self.invariant.1 c.args.id c.args.section
    c.tally_but-tally.result c.tally_but-tally.ensures c.if-tally-eq0.true

pub returns-then-tally-gt1 : goal.returns-then-tally-gt1
returns-then-tally-gt1 c =
    two_else (arc_value c.self.inside.track) c.args.self.now c.self.inside.trains.entries c.self.view_is c.self.invariant.0 c.self.inside.presence.items c.self.invariant.1 c.args.id c.args.section
    c.tally_but-tally.result c.tally_but-tally.ensures c.if-tally-gt1.true

pub overflow_cast-alone : goal.overflow_cast-alone
overflow_cast-alone c =
    let small = small_sum (arc_value c.self.inside.track) c.args.self.now c.self.inside.trains.entries c.self.view_is c.self.invariant.0 c.self.inside.presence.items c.self.invariant.1 c.args.id c.args.section
    c.tally_but-tally.result c.tally_but-tally.ensures (one c.tally_but-tally.result.trains c.if-tally-eq0.false c.if-tally-gt1.false) in
    omega arith

pub unwrap-requires : goal.unwrap-requires
unwrap-requires c =
    let there = one_there (arc_value c.self.inside.track) c.args.self.now c.self.inside.trains.entries c.self.view_is c.self.invariant.0 c.self.inside.presence.items c.self.invariant.1 c.args.id c.args.section
    c.tally_but-tally.result c.tally_but-tally.ensures (one c.tally_but-tally.result.trains c.if-tally-eq0.false c.if-tally-gt1.false) in
    copied_some c.get.result ∙ ap is_some (c.get.ensures.value ∙ there.1)

pub returns : goal.returns
returns c =
    one_else (arc_value c.self.inside.track) c.args.self.now c.self.inside.trains.entries c.self.view_is c.self.invariant.0 c.self.inside.presence.items c.self.invariant.1 c.args.id c.args.section
    c.tally_but-tally.result c.tally_but-tally.ensures (one c.tally_but-tally.result.trains c.if-tally-eq0.false c.if-tally-gt1.false) c.unwrap.result.now (sym (ap option_copied c.unwrap.ensures) ∙ c.get.ensures.value)
