use Rattle.std.proofs.Common.{ap, length, map, refl, ◌∙◌, ◌++◌, ◌≡◌, List, [], arith}
use Rattle.std.proofs.lemmas.List.{length-take}
use Rattle.rbc_server.proofs.staff.Staff.new.Goals as goal

none_mapped : {A B : Type 0} (f : A → B) (xs : List A) (ys : List B) → xs ≡ [] → map f xs ++ ys ≡ ys
none_mapped f xs ys e = ap (λ l. map f l ++ ys) e

pub push_reserved-requires : goal.push_reserved-requires
push_reserved-requires g c =
    let inv = c.loop-seat.invariant in
    let next = ap (λ l. length l) c.in-Some.ensures.steps.0 in
    let all = ap (λ l. length l) (c.into_iter-seat-iterator.ensures.into_iter_gives.0 ∙ c.in_ok-workers.ensures.items) in
    omega (arith, next, all, inv.count, inv.room, length-take c.len-2.result c.args.seats.items, c.loop-seat.sittings.ok.0, c.in_ok-sittings.ensures.capacity, c.requires)

pub loop-seat-init : goal.loop-seat-init
loop-seat-init g c =
    let all = ap (λ l. length l) (c.into_iter-seat-iterator.ensures.into_iter_gives.0 ∙ c.in_ok-workers.ensures.items) in
    let committers = ap (λ l. length l) c.into_iter-committers.ensures.rest in
    let none = ap (λ l. length l) c.in_ok-sittings.ensures.items in
    record {
      seats = none_mapped _ _ _ c.in_ok-sittings.ensures.items;
      committers = none_mapped _ _ _ c.in_ok-sittings.ensures.items;
      left = omega (arith, all, committers, length-take c.len-2.result c.args.seats.items, c.args.committers.ok.0, c.args.seats.ok.0, c.requires);
      room = refl;
      count = omega (arith, none);
    }
