-- The entries after the train is put in are the entries of the book with it, and so is what is counted.
use Rattle.std.proofs.Common.{◌≡◌, ◌≤◌, length, Option, Some, None, Result, Ok, Err, Bor, ◌∙◌, ap, sym, subst, nat_eq}
use Rattle.std.specs.Prelude.{IfSome, OnErr, option_map}
use Rattle.std.specs.Option.{option_copied}
use Rattle.std.specs.Map.{lookup}
use Rattle.std.specs.Arc.{arc_value}
use Rattle.rbc_extent.specs.TrainsOnTracks.{TrainOnTrack}
use Rattle.rbc_model.specs.Reports.{Report}
use Rattle.rbc_model.specs.Tracks.{Track}
use Rattle.rbc_model.specs.Trains.{Train}
use Rattle.rbc_model.specs.declared.limits.TheConstants.{LAST_TRAIN}
use Rattle.rbc_scene_laws.proofs.BasicLemmas.{the_some}
use Rattle.rbc_book.specs.Books.{book_with, train_in}
use Rattle.rbc_book.specs.Entries.{on_track}
use Rattle.rbc_book.specs.Presence.{tally_at, tally_less, tally_with}
use Rattle.rbc_book.proofs.EntryLemmas.{AreThoseOf, got, got-none, placed}
use Rattle.rbc_book.proofs.PresenceLemmas.{room, sized, with_present}
use Rattle.rbc_book.proofs.book.Book.set_place.Goals as goal
use Rattle.rbc_book.proofs.book.Book.set_place.Goals.{After-as_ref}

on_err : {A E P : Type 0} (r : Result A E) → P → OnErr r P
on_err (Ok x) p = tt
on_err (Err e) p = p

pub returns-in_err-before-clause-new : goal.returns-in_err-before-clause-new
returns-in_err-before-clause-new c =
    on_err c.from_residual.result
    (got-none (arc_value c.self.inside.track) c.args.self.now c.self.inside.trains.entries c.self.view_is c.self.invariant.0 c.args.train.train.report.train
    (ap (λ n. lookup (nat_eq n) c.self.inside.trains.entries) (sym (c.number-number.ensures ∙ c.id.ensures)) ∙ c.in_err-before.ensures.absent))

-- the train that is lent after it was put in, and the one that was there before
now : (c : After-as_ref) → c.unwrap-after.result.now ≡ c.args.train
now c = the_some c.unwrap-after.result.now c.args.train (sym (ap option_copied c.unwrap-after.ensures) ∙ c.get.ensures.value ∙ c.in_ok-before.ensures.updates.1)

was : (c : After-as_ref) → option_copied c.as_ref.result ≡ lookup (nat_eq c.number-number.result) c.self.inside.trains.entries
was c = c.as_ref.ensures.value ∙ c.in_ok-before.ensures.old

number : (c : After-as_ref) → c.number-number.result ≡ c.args.train.train.report.train
number c = c.number-number.ensures ∙ c.id.ensures

put : (c : After-as_ref) → AreThoseOf (arc_value c.self.inside.track) (book_with c.args.self.now c.args.train.train) c.insert.new.self.entries
put c =
    placed (arc_value c.self.inside.track) c.args.self.now c.self.inside.trains.entries c.self.view_is c.self.invariant.0 c.insert.new.self.entries c.number-number.result c.args.train (number c) c.requires.track
    c.known.ensures c.requires.apart c.in_ok-before.ensures.entries

of_track : (track : Track) (o : Option (Bor TrainOnTrack)) (p : Option Train) (own : Track) → own ≡ track → option_copied o ≡ option_map (on_track track) p → IfSome o (λ (t : Bor TrainOnTrack). t.now.track ≡ own)
of_track track None p own same h = tt
of_track track (Some t) None own same h = cc
of_track track (Some t) (Some x) own same h = ap (λ (y : TrainOnTrack). y.track) (the_some t.now (on_track track x) h) ∙ sym same

pub recount-requires-clause-size : goal.recount-requires-clause-size
recount-requires-clause-size c =
    sized (arc_value c.self.inside.track) c.args.self.now c.self.inside.trains.entries c.self.view_is c.self.invariant.0 c.self.inside.presence.items c.self.invariant.1
    ∙ ap (λ (t : Track). length t.sections) (sym (ap (λ (t : TrainOnTrack). t.track) (now c) ∙ c.requires.track))

pub recount-requires-clause-track : goal.recount-requires-clause-track
recount-requires-clause-track c =
    of_track c.args.self.now.track c.as_ref.result (train_in c.args.self.now c.number-number.result) c.unwrap-after.result.now.track (ap (λ (t : TrainOnTrack). t.track) (now c) ∙ c.requires.track)
    (was c ∙ got (arc_value c.self.inside.track) c.args.self.now c.self.inside.trains.entries c.self.view_is c.self.invariant.0 c.number-number.result)

pub recount-requires-clause-room : goal.recount-requires-clause-room
recount-requires-clause-room c s has =
    room (arc_value c.self.inside.track) c.args.self.now c.self.inside.trains.entries c.self.view_is c.self.invariant.0 c.self.inside.presence.items c.self.invariant.1 c.args.train.train c.number-number.result
    (option_copied c.as_ref.result) (number c) (was c) c.requires.room s

pub invariant_of-self-2 : goal.invariant_of-self-2
invariant_of-self-2 c =
    let a = (goal.at.invariant_of-self-2 c).After-as_ref in
    let p = put a in (
      p.are,
      with_present (arc_value c.self.inside.track) c.args.self.now c.self.inside.trains.entries c.self.view_is c.self.invariant.0 c.self.inside.presence.items c.self.invariant.1 c.args.train.train c.number-number.result
          (option_copied c.as_ref.result) c.insert.new.self.entries c.recount.new.presence.items (number a) (was a) (subst (λ (r : Report). r.train ≤ LAST_TRAIN) c.report.ensures c.known-2.ensures.train) c.requires.room p c.recount.ensures.size
          (λ s. c.recount.ensures.counted s ∙ ap (λ (t : TrainOnTrack). tally_with t.train s (tally_less (option_copied c.as_ref.result) s (tally_at c.self.inside.presence.items s))) (now a)),
    )

pub returns-clause-placed : goal.returns-clause-placed
returns-clause-placed c = let p = put (goal.at.returns-clause-placed c).After-as_ref in p.of_book
