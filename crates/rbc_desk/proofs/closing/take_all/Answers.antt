use Rattle.std.proofs.Common.{rules, ◌≡◌, ◌∷◌, ◌++◌, ◌-◌, [], All, subst, sym, ap, ◌∙◌, arith, length, length-append}
use Rattle.std.proofs.lemmas.List.Elements.{All-cons}
use Rattle.std.specs.Vec.Iter.{into_iter_items}
use Rattle.rbc_snap.specs.Later.{IsLater}
use Rattle.rbc_desk.specs.Closing.{all_receipts, FindsAll}
use Rattle.rbc_desk.specs.Seats.{Seated}
use Rattle.rbc_desk.proofs.ClosingLemmas.{receipts_behind}
use Rattle.rbc_desk.proofs.closing.take_all.Goals as goal

pub loop-seat-preserved : goal.loop-seat-preserved
loop-seat-preserved g c =
    let P : Seated → Type 0 = λ seat. IsLater seat.told c.args.press.now.told in
    let seats = c.loop-seat.yielded in
    let seat = c.in-Some.seat in
    let start = c.version.result - c.len.result in
    record {
      size = c.find_more-misplaced.ensures.length ∙ c.loop-seat.invariant.size;
      parts = omega (arith, c.take_in-receipts.ensures.parts, c.loop-seat.invariant.parts, length-append seats (seat ∷ []));
      amount = omega (arith, c.take_in-receipts.ensures.amount, c.loop-seat.invariant.amount, ap length (receipts_behind seats seat), length-append (all_receipts seats) seat.receipts);
      told = λ h. c.loop-seat.invariant.told (subst (All P) (sym c.in-Some.ensures.steps.0) (All-cons P seat (into_iter_items c.next.new.self) c.take_in-receipts.ensures.told h));
      found =
          subst (λ xs. FindsAll c.args.log.now.entries start [] xs c.find_more-misplaced.new.marks.items c.find_more-misplaced.result) (sym (receipts_behind seats seat))
          (subst (λ xs. FindsAll c.args.log.now.entries start [] (all_receipts seats ++ xs) c.find_more-misplaced.new.marks.items c.find_more-misplaced.result) c.take_in-receipts.ensures.receipts
          (c.find_more-misplaced.ensures.finds (all_receipts seats) c.loop-seat.invariant.found));
    }

pub returns-clause-told : goal.returns-clause-told
returns-clause-told g c =
    let P : Seated → Type 0 = λ seat. IsLater seat.told c.args.press.now.told in
    let none : length (into_iter_items c.loop-seat.seat-iterator) ≡ 0 = search rules in
    subst (All P) c.into_iter-seat-iterator.ensures.into_iter_gives.0 (c.loop-seat.invariant.told (λ k d lt. absurd (omega (arith, none, lt))))
