use Rattle.std.proofs.Common.{Global, Vec, ◌<◌, ℕ, ap, length, subst, ◌∙◌, arith}
use Rattle.std.proofs.lemmas.List.{get_or_read}
use Rattle.rbc_desk.specs.Later.{IsLater}
use Rattle.rbc_desk.specs.Seats.{Seated}
use Rattle.rbc_sweep.specs.Outcomes.{Begins}
use Rattle.rbc_sweep.proofs.CrewLemmas.{HaveGained-first, receipts_each-first, trains_told}
use Rattle.rbc_sweep.proofs.WorkLemmas.{begins_later}
use Rattle.rbc_sweep.proofs.sweeping.list_trains.Goals as goal

pub returns-clause-gained : goal.returns-clause-gained
returns-clause-gained g c =
    let seats = c.args.seats.items in
    let first = c.index_mut-first.result.now in
    let has = c.trains-trains.new.seat in
    let some : 0 < length seats = omega (arith, c.args.seats.ok.0, c.requires) in
    let is = get_or_read seats 0 _ some c.index_mut-first.ensures.value first in
    HaveGained-first seats first has some (c.trains-trains.ensures.receipts ∙ ap (λ (s : Seated). s.receipts) is)
    (subst (λ (s : Seated). Begins s.told has.told) is (begins_later first.told has.told c.trains-trains.ensures.later))

pub returns-clause-receipts : goal.returns-clause-receipts
returns-clause-receipts g c =
    let seats = c.args.seats.items in
    let first = c.index_mut-first.result.now in
    let some : 0 < length seats = omega (arith, c.args.seats.ok.0, c.requires) in
    let is = get_or_read seats 0 _ some c.index_mut-first.ensures.value first in
    receipts_each-first seats first c.trains-trains.new.seat some (c.trains-trains.ensures.receipts ∙ ap (λ (s : Seated). s.receipts) is)

pub returns-clause-trains : goal.returns-clause-trains
returns-clause-trains g c =
    let seats = c.args.seats.items in
    let first = c.index_mut-first.result.now in
    let has = c.trains-trains.new.seat in
    let some : 0 < length seats = omega (arith, c.args.seats.ok.0, c.requires) in
    let is = get_or_read seats 0 _ some c.index_mut-first.ensures.value first in
    trains_told c.trains-trains.result (λ (v : Vec ℕ Global). v.items) seats first has some
    (subst (λ (s : Seated). IsLater s.told has.told) is c.trains-trains.ensures.later) c.trains-trains.ensures.trains
