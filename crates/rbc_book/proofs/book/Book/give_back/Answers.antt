-- The train is found by its number, and the entries after its authority is cut are the entries of the book with it.
use Rattle.std.proofs.Common.{◌≡◌, length, subst, Some, nat_eq, ◌∙◌, ap, sym}
use Rattle.std.specs.Prelude.{is_some}
use Rattle.std.specs.Map.{lookup}
use Rattle.std.specs.Option.{option_copied_mut}
use Rattle.std.specs.Arc.{arc_value}
use Rattle.rbc_model.specs.Events.{cut_at}
use Rattle.rbc_model.specs.Tracks.{Track}
use Rattle.rbc_scene_laws.proofs.BasicLemmas.{the_some}
use Rattle.rbc_scene_laws.proofs.GivingBackLemmas.{IsCut}
use Rattle.rbc_book.specs.Books.{book_with}
use Rattle.rbc_book.proofs.EntryLemmas.{AreThoseOf, IsFound, cut, found, got-some, mut_some, number_cut}
use Rattle.rbc_book.proofs.PresenceLemmas.{recounted-room, recounted_present, sized}
use Rattle.rbc_book.proofs.book.Book.give_back.Goals as goal
use Rattle.rbc_book.proofs.book.Book.give_back.Goals.{After-self-1, After-unwrap-train}

pub unwrap-train-requires : goal.unwrap-train-requires
unwrap-train-requires c =
    mut_some c.get_mut.result ∙ ap is_some (rw c.number.ensures at c.get_mut.ensures.value)
    ∙ got-some (arc_value c.self.inside.track) c.args.self.now c.self.inside.trains.entries c.self.view_is c.self.invariant.0 c.args.id
    ∙ c.requires.known

before : (c : After-unwrap-train) → IsFound c.args.self.now c.args.id c.unwrap-train.result.now
before c =
    found (arc_value c.self.inside.track) c.args.self.now c.self.inside.trains.entries c.self.view_is c.self.invariant.0 c.args.id c.unwrap-train.result.now
    (sym (ap option_copied_mut c.unwrap-train.ensures) ∙ (rw c.number.ensures at c.get_mut.ensures.value))

pub cut_at-requires-clause-front : goal.cut_at-requires-clause-front
cut_at-requires-clause-front c = let f = before (goal.at.cut_at-requires-clause-front c).After-unwrap-train in c.requires.front c.unwrap-train.result.now.train f.there

pub cut_at-requires-clause-from : goal.cut_at-requires-clause-from
cut_at-requires-clause-from c = let f = before (goal.at.cut_at-requires-clause-from c).After-unwrap-train in c.requires.from c.unwrap-train.result.now.train f.there

pub cut_at-requires-clause-to : goal.cut_at-requires-clause-to
cut_at-requires-clause-to c = let f = before (goal.at.cut_at-requires-clause-to c).After-unwrap-train in c.requires.to c.unwrap-train.result.now.train f.there

was : (c : After-self-1) → IsFound c.args.self.now c.args.id c.unwrap-train.result.now
was c =
    found (arc_value c.self.inside.track) c.args.self.now c.self.inside.trains.entries c.self.view_is c.self.invariant.0 c.args.id c.unwrap-train.result.now
    (sym (ap option_copied_mut c.unwrap-train.ensures) ∙ (rw c.number.ensures at c.get_mut.ensures.value))

shortens : (c : After-self-1) → IsCut c.unwrap-train.result.now.train c.args.to
shortens c =
    let f = was c in
    let train = c.unwrap-train.result.now.train in
    record { short = c.requires.to train f.there; front = c.requires.front train f.there; from = c.requires.from train f.there }

put : (c : After-self-1)
    → AreThoseOf (arc_value c.self.inside.track) (book_with c.args.self.now (cut_at c.args.self.now.track c.unwrap-train.result.now.train c.args.to)) (c.get_mut.follows.lender c.cut_at.new.self).entries
put c =
    cut (arc_value c.self.inside.track) c.args.self.now c.self.inside.trains.entries c.self.view_is c.self.invariant.0 (c.get_mut.follows.lender c.cut_at.new.self).entries c.args.id
    c.unwrap-train.result.now c.cut_at.new.self c.args.to (was c) (shortens c) c.cut_at.ensures.train c.known.ensures c.cut_at.ensures.track (rw c.number.ensures at (c.get_mut.follows.holds c.cut_at.new.self).0)

there : (c : After-unwrap-train) → Some c.unwrap-train.result.now ≡ lookup (nat_eq c.args.id) c.self.inside.trains.entries
there c = sym (ap option_copied_mut c.unwrap-train.ensures) ∙ (rw c.number.ensures at c.get_mut.ensures.value)

-- ---- what is counted

pub count_out-requires : goal.count_out-requires
count_out-requires c =
    let f = found (arc_value c.self.inside.track) c.args.self.now c.self.inside.trains.entries c.self.view_is c.self.invariant.0 c.args.id c.unwrap-train.result.now
    (sym (ap option_copied_mut c.unwrap-train.ensures) ∙ (rw c.number.ensures at c.get_mut.ensures.value)) in
    record { size = sized (arc_value c.self.inside.track) c.args.self.now c.self.inside.trains.entries c.self.view_is c.self.invariant.0 c.self.inside.presence.items c.self.invariant.1 ∙ ap (λ (t : Track). length t.sections) (sym f.of_track) }

pub count_in-requires-clause-size : goal.count_in-requires-clause-size
count_in-requires-clause-size c =
    let f = before (goal.at.count_in-requires-clause-size c).After-unwrap-train in
    c.count_out.ensures.size ∙ sized (arc_value c.self.inside.track) c.args.self.now c.self.inside.trains.entries c.self.view_is c.self.invariant.0 c.self.inside.presence.items c.self.invariant.1
    ∙ ap (λ (t : Track). length t.sections) (sym (c.cut_at.ensures.track ∙ f.of_track))

pub count_in-requires-clause-room : goal.count_in-requires-clause-room
count_in-requires-clause-room c s has =
    let a = (goal.at.count_in-requires-clause-room c).After-unwrap-train in
    recounted-room (arc_value c.self.inside.track) c.args.self.now c.self.inside.trains.entries c.self.view_is c.self.invariant.0 c.self.inside.presence.items c.self.invariant.1 c.args.id c.unwrap-train.result.now c.cut_at.new.self.train c.count_out.new.presence.items
    (there a) (number_cut c.args.self.now c.args.id c.unwrap-train.result.now c.cut_at.new.self c.args.to (before a) c.cut_at.ensures.train) c.count_out.ensures.counted s

pub invariant_of-self : goal.invariant_of-self
invariant_of-self c =
    let p = put c in
    let f = was c in
    let a = (goal.at.invariant_of-self c).After-unwrap-train in
    let same = ap (λ (t : Track). cut_at t c.unwrap-train.result.now.train c.args.to) (sym f.of_track) ∙ sym c.cut_at.ensures.train in (
      p.are,
      recounted_present (arc_value c.self.inside.track) c.args.self.now c.self.inside.trains.entries c.self.view_is c.self.invariant.0 c.self.inside.presence.items c.self.invariant.1 c.args.id c.unwrap-train.result.now c.cut_at.new.self.train c.count_out.new.presence.items
          (there a) (number_cut c.args.self.now c.args.id c.unwrap-train.result.now c.cut_at.new.self c.args.to f c.cut_at.ensures.train) c.count_out.ensures.counted (c.get_mut.follows.lender c.cut_at.new.self).entries
          c.count_in.new.presence.items (subst (λ t. AreThoseOf (arc_value c.self.inside.track) (book_with c.args.self.now t) (c.get_mut.follows.lender c.cut_at.new.self).entries) same p) c.count_out.ensures.size c.count_in.ensures.size
          c.count_in.ensures.counted,
    )

pub returns : goal.returns
returns c train e =
    let p = put c in
    let f = was c in
    p.of_book ∙ ap (λ t. book_with c.args.self.now (cut_at c.args.self.now.track t c.args.to)) (the_some c.unwrap-train.result.now.train train (sym f.there ∙ e))
