-- The train is found by its number, and put in with its new authority.
use Rattle.std.proofs.Common.{◌≡◌, ℕ, Option, Some, None, Bor, refl, ◌∙◌, ap, sym, subst}
use Rattle.std.specs.Prelude.{is_some}
use Rattle.std.specs.Option.{option_copied}
use Rattle.rbc_model.specs.Events.{with_authority, with_train}
use Rattle.rbc_model.specs.Histories.{AuthoritiesAreApart}
use Rattle.rbc_model.specs.Trains.{Train}
use Rattle.rbc_scene_laws.specs.Good.{IsGoodTrain}
use Rattle.rbc_scene_laws.proofs.BasicLemmas.{the_some}
use Rattle.rbc_book.specs.Books.{Book, book_with, scene_of, train_in}
use Rattle.rbc_book.proofs.EntryLemmas.{IsFound, found_as, some_on}
use Rattle.rbc_book.proofs.book.Book.set_held.Goals as goal
use Rattle.rbc_book.proofs.book.Book.set_held.Goals.{After-unwrap-train}

copied_some : {X : Type 0} (o : Option (Bor X)) → is_some o ≡ is_some (option_copied o)
copied_some None = refl
copied_some (Some x) = refl

pub unwrap-train-requires : goal.unwrap-train-requires
unwrap-train-requires c = copied_some c.get.result ∙ ap is_some c.get.ensures ∙ some_on c.args.self.now.track (train_in c.args.self.now c.args.id) ∙ c.requires.known

was : (c : After-unwrap-train) → IsFound c.args.self.now c.args.id c.unwrap-train.result.now
was c = found_as c.args.self.now c.args.id c.unwrap-train.result.now (train_in c.args.self.now c.args.id) refl (sym (ap option_copied c.unwrap-train.ensures) ∙ c.get.ensures)

pub with_authority-held-requires-clause-track : goal.with_authority-held-requires-clause-track
with_authority-held-requires-clause-track c = let f = was c in c.requires.track ∙ sym f.of_track

pub with_authority-held-requires-clause-good : goal.with_authority-held-requires-clause-good
with_authority-held-requires-clause-good c =
    let f = was c in
    subst (λ t. IsGoodTrain t (with_authority c.unwrap-train.result.now.train c.args.line.legs c.args.from c.args.to)) (sym c.requires.track) (c.requires.good c.unwrap-train.result.now.train f.there)

-- a train that is there is not new
not_new : (book : Book) (id n : ℕ) (train : Train) → train_in book id ≡ Some train → n ≡ id → train_in book n ≡ None → ⊥
not_new book id n train there same none = both train (sym there ∙ ap (train_in book) (sym same) ∙ none)
  where
    both : (train : Train) → Some train ≡ None → ⊥
    both train h = cc

pub set_place-requires-clause-track : goal.set_place-requires-clause-track
set_place-requires-clause-track c = let f = was (goal.at.set_place-requires-clause-track c).After-unwrap-train in c.with_authority-held.ensures.track ∙ f.of_track

pub set_place-requires-clause-room : goal.set_place-requires-clause-room
set_place-requires-clause-room c none =
    let f = was (goal.at.set_place-requires-clause-room c).After-unwrap-train in
    absurd (not_new c.args.self.now c.args.id c.with_authority-held.result.train.report.train c.unwrap-train.result.now.train f.there (ap (λ (t : Train). t.report.train) c.with_authority-held.ensures.train ∙ sym f.numbered) none)

pub set_place-requires-clause-apart : goal.set_place-requires-clause-apart
set_place-requires-clause-apart c =
    let f = was (goal.at.set_place-requires-clause-apart c).After-unwrap-train in
    subst (λ t. AuthoritiesAreApart c.args.self.now.track (with_train (scene_of c.args.self.now.trains) t)) (sym c.with_authority-held.ensures.train) (c.requires.apart c.unwrap-train.result.now.train f.there)

pub unreachable-requires : goal.unreachable-requires
unreachable-requires c =
    let f = was (goal.at.unreachable-requires c).After-unwrap-train in
    not_new c.args.self.now c.args.id c.with_authority-held.result.train.report.train c.unwrap-train.result.now.train f.there (ap (λ (t : Train). t.report.train) c.with_authority-held.ensures.train ∙ sym f.numbered) c.in-Err.ensures.new

pub returns : goal.returns
returns c train there =
    let f = was (goal.at.returns c).After-unwrap-train in
    c.in-Ok.ensures.placed
    ∙ ap (book_with c.args.self.now) (c.with_authority-held.ensures.train ∙ ap (λ (t : Train). with_authority t c.args.line.legs c.args.from c.args.to) (the_some c.unwrap-train.result.now.train train (sym f.there ∙ there)))
