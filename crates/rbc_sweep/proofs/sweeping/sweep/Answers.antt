use Rattle.std.proofs.Common.{Global, Vec, ℕ, subst, sym}
use Rattle.rbc_sweep.specs.declared.outcome.Outcome.{Outcome}
use Rattle.rbc_sweep.specs.Outcomes.{AreTrainsOfFirst, granted}
use Rattle.rbc_sweep.proofs.CrewLemmas.{just_gained}
use Rattle.rbc_sweep.proofs.SweepLemmas.{known_ok, swept_gained, swept_kept, swept_refused, swept_told, swept_trains}
use Rattle.rbc_sweep.proofs.sweeping.sweep.Goals as goal

pub returns-in-Ok-clause-seats : goal.returns-in-Ok-clause-seats
returns-in-Ok-clause-seats g c =
    swept_kept c.sweep_list.result.1 c.args.seats.items c.list_trains-seats.result.0.items c.sweep_list.result.0.items (λ (v : Vec Outcome Global). granted v.items) c.list_trains-seats.ensures.gained
    c.sweep_list.ensures.gained c.sweep_list.ensures.refused

pub returns-in-Ok-clause-told : goal.returns-in-Ok-clause-told
returns-in-Ok-clause-told g c =
    swept_told c.sweep_list.result.1 c.args.seats.items c.list_trains-seats.result.0.items c.sweep_list.result.0.items (λ (v : Vec Outcome Global). v.items) c.list_trains-seats.ensures.gained c.sweep_list.ensures.told

pub returns-in-Ok-clause-gained : goal.returns-in-Ok-clause-gained
returns-in-Ok-clause-gained g c =
    just_gained c.sweep_list.result.1 c.args.seats.items c.sweep_list.result.0.items (λ (v : Vec Outcome Global). granted v.items)
    (swept_gained c.sweep_list.result.1 c.args.seats.items c.list_trains-seats.result.0.items c.sweep_list.result.0.items (λ (v : Vec Outcome Global). granted v.items) c.list_trains-seats.ensures.gained
    c.sweep_list.ensures.gained)

pub returns-in-Ok-clause-refused : goal.returns-in-Ok-clause-refused
returns-in-Ok-clause-refused g c =
    swept_refused c.sweep_list.result.1 c.args.seats.items c.list_trains-seats.result.0.items c.sweep_list.result.0.items c.list_trains-seats.ensures.receipts c.sweep_list.ensures.refused

pub returns-in-Ok-clause-trains : goal.returns-in-Ok-clause-trains
returns-in-Ok-clause-trains g c =
    let mid = c.list_trains-seats.result.0.items in
    let told = known_ok (λ (v : Vec ℕ Global). AreTrainsOfFirst c.args.seats.items mid v.items) c.list_trains-seats.result.1 c.in-Ok.trains c.in-Ok.is c.list_trains-seats.ensures.trains in
    let trains = subst (AreTrainsOfFirst c.args.seats.items mid) (sym c.as_slice.ensures.value) told in
    swept_trains c.sweep_list.result.1 c.args.seats.items mid c.sweep_list.result.0.items c.as_slice.result.now (λ (v : Vec Outcome Global). v.items) (λ (v : Vec Outcome Global). granted v.items)
    trains c.sweep_list.ensures.gained c.sweep_list.ensures.trains

pub returns-in-Err-clause-seats : goal.returns-in-Err-clause-seats
returns-in-Err-clause-seats g c = let first = c.list_trains-seats.ensures.gained in first.kept
