-- The entries after the train is taken out are the entries of the book without it, and so is what is counted.
use Rattle.std.proofs.Common.{◌≡◌, ap, length, sym, ◌∙◌}
use Rattle.std.specs.Prelude.{is_some}
use Rattle.std.specs.Arc.{arc_value}
use Rattle.rbc_model.specs.Tracks.{Track}
use Rattle.rbc_book.specs.Books.{book_without, train_in}
use Rattle.rbc_book.proofs.EntryLemmas.{AreThoseOf, IsFound, found, got-some, taken}
use Rattle.rbc_book.proofs.PresenceLemmas.{sized, without_present}
use Rattle.rbc_book.proofs.book.Book.leave.Goals as goal
use Rattle.rbc_book.proofs.book.Book.leave.Goals.{After-shift_remove, In-Some}

left : (c : After-shift_remove) → AreThoseOf (arc_value c.self.inside.track) (book_without c.args.self.now c.args.id) c.shift_remove.new.self.entries
left c = taken (arc_value c.self.inside.track) c.args.self.now c.self.inside.trains.entries c.self.view_is c.self.invariant.0 c.shift_remove.new.self.entries c.args.id (rw c.number.ensures at c.shift_remove.ensures.entries)

known : (c : After-shift_remove) → is_some c.shift_remove.result ≡ is_some (train_in c.args.self.now c.args.id)
known c =
    ap is_some (rw c.number.ensures at c.shift_remove.ensures.value)
    ∙ got-some (arc_value c.self.inside.track) c.args.self.now c.self.inside.trains.entries c.self.view_is c.self.invariant.0 c.args.id

was : (c : In-Some) → IsFound c.args.self.now c.args.id c.in-Some.train
was c =
    found (arc_value c.self.inside.track) c.args.self.now c.self.inside.trains.entries c.self.view_is c.self.invariant.0 c.args.id c.in-Some.train
    (rw c.number.ensures at c.in-Some.ensures.value)

pub count_out-requires : goal.count_out-requires
count_out-requires c =
    let f = was (goal.at.count_out-requires c).In-Some in
    record {
      size =
          sized (arc_value c.self.inside.track) c.args.self.now c.self.inside.trains.entries c.self.view_is c.self.invariant.0 c.self.inside.presence.items c.self.invariant.1
          ∙ ap (λ (t : Track). length t.sections) (sym f.of_track);
    }

pub invariant_of-self : goal.invariant_of-self
invariant_of-self c =
    let l = left (goal.at.invariant_of-self c).After-shift_remove in (
      l.are,
      without_present (arc_value c.self.inside.track) c.args.self.now c.self.inside.trains.entries c.self.view_is c.self.invariant.0 c.self.inside.presence.items c.self.invariant.1 c.args.id c.in-Some.train
          c.shift_remove.new.self.entries c.count_out.new.presence.items (rw c.number.ensures at c.in-Some.ensures.value) l c.count_out.ensures.size c.count_out.ensures.counted,
    )

pub returns-in-Some-clause-left : goal.returns-in-Some-clause-left
returns-in-Some-clause-left c = let l = left (goal.at.returns-in-Some-clause-left c).After-shift_remove in l.of_book

pub returns-in-Some-clause-known : goal.returns-in-Some-clause-known
returns-in-Some-clause-known c = ap is_some (sym c.in-Some.is) ∙ known (goal.at.returns-in-Some-clause-known c).After-shift_remove

pub returns-in-None-clause-left : goal.returns-in-None-clause-left
returns-in-None-clause-left c = let l = left (goal.at.returns-in-None-clause-left c).After-shift_remove in l.of_book

pub returns-in-None-clause-known : goal.returns-in-None-clause-known
returns-in-None-clause-known c = ap is_some (sym c.in-None.is) ∙ known (goal.at.returns-in-None-clause-known c).After-shift_remove
