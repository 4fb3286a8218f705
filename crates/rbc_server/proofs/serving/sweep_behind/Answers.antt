use Rattle.std.proofs.Common.{◌≡◌, ◌<◌, ◌++◌, List, length, map, rules, refl, sym, subst, take, arith}
use Rattle.std.specs.Prelude.{All, IsPermutation}
use Rattle.rbc_model.specs.SoundTracks.{IsSound}
use Rattle.rbc_sessions.specs.Closing.{all_receipts}
use Rattle.rbc_sessions.specs.Outcomes.{AreTrainsOfFirst, IsToldToOne, granted, train_of}
use Rattle.rbc_sessions.specs.Seats.{Seated}
use Rattle.std.specs.List.{AllZip}
use Rattle.rbc_server.specs.Serving.{AreKept, IsBrought, IsTellable, TellsAll}
use Rattle.rbc_server.proofs.OutcomeLemmas.{all_tellable}
use Rattle.rbc_server.proofs.ServingLemmas.{swept_by, swept_with}
use Rattle.rbc_server.proofs.serving.sweep_behind.Goals as goal

pub keep_swept-requires-clause-told : goal.keep_swept-requires-clause-told
keep_swept-requires-clause-told g c =
    let brought = c.bring_all-workers.result.items in
    let told : All (IsToldToOne brought c.sweep-workers.result.0.items) c.in_ok-outcomes.outcomes.items = search rules in (
      brought,
      subst (λ has. All (IsToldToOne brought has) c.as_slice-4.result.now) (sym c.as_slice-3.ensures.value)
          (subst (λ os. All (IsToldToOne brought c.sweep-workers.result.0.items) os) (sym c.as_slice-4.ensures.value) told),
    )

pub print_outcomes-requires-clause-tellable : goal.print_outcomes-requires-clause-tellable
print_outcomes-requires-clause-tellable g c =
    let track = g.L.DeskName.opened.track in
    let of_desk = c.args.context.now.of_desk in
    let brought = c.bring_all-workers.result.items in
    let outcomes = c.in_ok-outcomes.outcomes.items in
    let told : All (IsToldToOne brought c.sweep-workers.result.0.items) outcomes = search rules in
    let sound = subst IsSound of_desk c.known.ensures.sound in
    let on = subst (All (λ (seat : Seated). seat.told.track ≡ track)) c.as_slice-2.ensures.value c.are_on_track.ensures in
    subst (λ track. All (IsTellable track) c.as_slice-5.result.now) (sym of_desk)
    (subst (All (IsTellable track)) (sym c.as_slice-5.ensures.value) (all_tellable track brought c.sweep-workers.result.0.items outcomes sound on told))

pub returns-clause-attended : goal.returns-clause-attended
returns-clause-attended g c =
    let track = g.L.DeskName.opened.track in
    let of_desk = c.args.context.now.of_desk in
    let served = c.args.visited.now.seats.items in
    let committers = c.args.visited.now.committers.items in
    let brought = c.bring_all-workers.result.items in
    let swept = c.sweep-workers.result.0.items in
    let some : 0 < length c.args.workers.items = omega (arith, c.args.workers.ok.0, c.requires.workers) in
    let outcomes = c.in_ok-outcomes.outcomes.items in
    let heard = c.keep_swept.new.visited.seats.items in
    let last = c.keep_swept.new.visited.committers.items in
    let others = c.as_slice.result.now in
    let trains : AreTrainsOfFirst brought swept (map train_of outcomes) = search rules in
    let answered : All (IsToldToOne brought swept) outcomes = search rules in
    let gained : IsPermutation (all_receipts brought ++ granted outcomes) (all_receipts swept) = search rules in
    let is_kept : AreKept g.K.Keeper.kept swept served committers outcomes heard last = search rules in
    let printed = c.in_ok-print_outcomes.ensures.text in
    let all : c.append.new.self.items ≡ heard ++ swept = search rules in
    λ coming partings staff same parted. record {
      outcomes = outcomes;
      sweep = swept_by g.K.Keeper.kept coming partings staff c.append.new.self.items last outcomes staff.workers.items (subst (λ (l : List Seated). 0 < length l) (sym same) some)
          (swept_with g.K.Keeper.kept coming partings staff served others brought swept heard c.append.new.self.items committers last outcomes parted c.as_slice.ensures.value
          (subst (λ workers. AllZip (IsBrought others) workers brought) (sym same) c.bring_all-workers.ensures.brought) c.sweep-workers.ensures.seats trains answered gained is_kept all);
      told = printed.0;
      tells = subst (λ track. TellsAll track outcomes printed.0) of_desk (subst (λ l. TellsAll c.args.context.now.track.now l printed.0) c.as_slice-5.ensures.value printed.1);
      written = printed.2;
    }

pub returns-in_err-print_outcomes-clause-cut_off : goal.returns-in_err-print_outcomes-clause-cut_off
returns-in_err-print_outcomes-clause-cut_off g c =
    let track = g.L.DeskName.opened.track in
    let of_desk = c.args.context.now.of_desk in
    let served = c.args.visited.now.seats.items in
    let committers = c.args.visited.now.committers.items in
    let brought = c.bring_all-workers.result.items in
    let swept = c.sweep-workers.result.0.items in
    let some : 0 < length c.args.workers.items = omega (arith, c.args.workers.ok.0, c.requires.workers) in
    let outcomes = c.in_ok-outcomes.outcomes.items in
    let heard = c.keep_swept.new.visited.seats.items in
    let last = c.keep_swept.new.visited.committers.items in
    let others = c.as_slice.result.now in
    let trains : AreTrainsOfFirst brought swept (map train_of outcomes) = search rules in
    let answered : All (IsToldToOne brought swept) outcomes = search rules in
    let gained : IsPermutation (all_receipts brought ++ granted outcomes) (all_receipts swept) = search rules in
    let is_kept : AreKept g.K.Keeper.kept swept served committers outcomes heard last = search rules in
    let part = c.in_err-print_outcomes.ensures.part in
    λ fault coming partings staff same parted. record {
      seats = heard ++ swept;
      outcomes = outcomes;
      sweep = swept_by g.K.Keeper.kept coming partings staff (heard ++ swept) last outcomes staff.workers.items (subst (λ (l : List Seated). 0 < length l) (sym same) some)
          (swept_with g.K.Keeper.kept coming partings staff served others brought swept heard (heard ++ swept) committers last outcomes parted c.as_slice.ensures.value
          (subst (λ workers. AllZip (IsBrought others) workers brought) (sym same) c.bring_all-workers.ensures.brought) c.sweep-workers.ensures.seats trains answered gained is_kept refl);
      count = part.0;
      told = part.1;
      tells = subst (λ track. TellsAll track (take part.0 outcomes) part.1) of_desk (subst (λ l. TellsAll c.args.context.now.track.now (take part.0 l) part.1) c.as_slice-5.ensures.value part.2);
      written = part.3;
    }
