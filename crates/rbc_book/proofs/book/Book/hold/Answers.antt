-- The train is found by its number, and the entries after its authority is another are the entries of the book with it.
use Rattle.std.proofs.Common.{◌≡◌, Option, Some, None, MutBor, nat_eq, refl, ◌∙◌, ap, sym, subst}
use Rattle.std.specs.Prelude.{is_some}
use Rattle.std.specs.Map.{lookup}
use Rattle.std.specs.Option.{option_copied_mut}
use Rattle.std.specs.Arc.{arc_value}
use Rattle.rbc_model.specs.Events.{with_authority}
use Rattle.rbc_model.specs.Tracks.{Track}
use Rattle.rbc_model.specs.Trains.{Train}
use Rattle.rbc_scene_laws.specs.Good.{IsGoodTrain}
use Rattle.rbc_scene_laws.proofs.BasicLemmas.{the_some}
use Rattle.rbc_book.specs.Books.{book_with}
use Rattle.rbc_book.proofs.EntryLemmas.{AreThoseOf, IsFound, found, got-some, held, mut_some}
use Rattle.rbc_book.proofs.PresenceLemmas.{kept_present}
use Rattle.rbc_book.proofs.book.Book.hold.Goals as goal
use Rattle.rbc_book.proofs.book.Book.hold.Goals.{After-self-1, After-unwrap-train}

pub unwrap-train-requires : goal.unwrap-train-requires
unwrap-train-requires c =
    mut_some c.get_mut.result ∙ ap is_some (rw c.number.ensures at c.get_mut.ensures.value)
    ∙ got-some (arc_value c.self.inside.track) c.args.self.now c.self.inside.trains.entries c.self.view_is c.self.invariant.0 c.args.id
    ∙ c.requires.known

there : (c : After-unwrap-train) → Some c.unwrap-train.result.now ≡ lookup (nat_eq c.args.id) c.self.inside.trains.entries
there c = sym (ap option_copied_mut c.unwrap-train.ensures) ∙ (rw c.number.ensures at c.get_mut.ensures.value)

was : (c : After-unwrap-train) → IsFound c.args.self.now c.args.id c.unwrap-train.result.now
was c = found (arc_value c.self.inside.track) c.args.self.now c.self.inside.trains.entries c.self.view_is c.self.invariant.0 c.args.id c.unwrap-train.result.now (there c)

pub hold-requires : goal.hold-requires
hold-requires c =
    let f = was (goal.at.hold-requires c).After-unwrap-train in
    let train = c.unwrap-train.result.now.train in
    record { good = subst (λ (t : Track). IsGoodTrain t (with_authority train train.line c.args.from c.args.to)) (sym f.of_track) (c.requires.good train f.there) }

put : (c : After-self-1) → AreThoseOf (arc_value c.self.inside.track) (book_with c.args.self.now c.hold.new.self.train) (c.get_mut.follows.lender c.hold.new.self).entries
put c =
    let f = was (goal.at.invariant_of-self c).After-unwrap-train in
    held (arc_value c.self.inside.track) c.args.self.now c.self.inside.trains.entries c.self.view_is c.self.invariant.0 (c.get_mut.follows.lender c.hold.new.self).entries c.args.id
    c.unwrap-train.result.now c.hold.new.self c.args.from c.args.to f c.hold.ensures.train c.known.ensures c.hold.ensures.track (c.requires.apart c.unwrap-train.result.now.train f.there)
    (rw c.number.ensures at (c.get_mut.follows.holds c.hold.new.self).0)

pub invariant_of-self : goal.invariant_of-self
invariant_of-self c =
    let p = put c in
    let a = (goal.at.invariant_of-self c).After-unwrap-train in
    let f = was a in (
      p.are,
      kept_present (arc_value c.self.inside.track) c.args.self.now c.self.inside.trains.entries c.self.view_is c.self.invariant.0 c.self.inside.presence.items c.self.invariant.1 c.args.id
          c.unwrap-train.result.now c.hold.new.self.train (c.get_mut.follows.lender c.hold.new.self).entries (there a)
          (ap (λ (t : Train). t.report.train) c.hold.ensures.train ∙ sym f.numbered) (ap (λ (t : Train). t.line) c.hold.ensures.train) p,
    )

pub returns : goal.returns
returns c train e =
    let p = put c in
    let f = was (goal.at.invariant_of-self c).After-unwrap-train in
    p.of_book ∙ ap (book_with c.args.self.now) c.hold.ensures.train
    ∙ ap (λ (t : Train). book_with c.args.self.now (with_authority t t.line c.args.from c.args.to)) (the_some c.unwrap-train.result.now.train train (sym f.there ∙ e))
