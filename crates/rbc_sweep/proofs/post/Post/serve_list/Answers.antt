use Rattle.std.proofs.Common.{◌≡◌, ◌++◌, List, ap, length, subst, sym, ◌∙◌, arith}
use Rattle.std.proofs.lemmas.List.{length-append}
use Rattle.rbc_sweep.specs.declared.jobs.Tally.{Tally}
use Rattle.rbc_sweep.specs.declared.order.Done.{Done}
use Rattle.rbc_sweep.specs.Jobs.{numbered, AreSameJobs}
use Rattle.rbc_sweep.specs.Serving.{all_of, jobs, tally_of}
use Rattle.rbc_sweep.proofs.SweepLemmas.{outcomes_told, same_count, same_jobs, seats_gained}
use Rattle.rbc_sweep.proofs.post.Post.serve_list.Goals as goal

pub finish-seats-requires-clause-all : goal.finish-seats-requires-clause-all
finish-seats-requires-clause-all g c κs within = ap (λ (t : Tally). t.parts) c.work-seats.ensures.worked.together

pub finish-seats-requires-clause-some : goal.finish-seats-requires-clause-some
finish-seats-requires-clause-some g c κs within =
    omega (arith, c.work-seats.ensures.worked.as_many, c.args.seats.ok.0, c.work-seats.result.0.ok.0, c.requires.some)

pub put_together-done-requires : goal.put_together-done-requires
put_together-done-requires g c =
    let last = c.finish-seats.result.1.items in
    let others = all_of c.work-seats.result.1.items in
    let same : AreSameJobs (numbered 0 c.args.trains.now) (jobs (last ++ others)) =
    same_jobs c.args.trains.now (tally_of c.put_all.new.pass) (tally_of c.work-seats.new.pass) last others c.put_all.ensures.all c.work-seats.ensures.worked.together c.finish-seats.ensures.settled in
    let many : length (last ++ others) ≡ length c.args.trains.now = same_count c.args.trains.now (last ++ others) same in
    omega (arith, many, length-append last others, c.finish-seats.result.1.ok.0, c.finish-seats.ensures.room, c.args.room.room_for_done, c.requires.trains)

pub in_order-requires-clause-room : goal.in_order-requires-clause-room
in_order-requires-clause-room g c =
    let last = c.finish-seats.result.1.items in
    let others = all_of c.work-seats.result.1.items in
    let same : AreSameJobs (numbered 0 c.args.trains.now) (jobs (last ++ others)) =
    same_jobs c.args.trains.now (tally_of c.put_all.new.pass) (tally_of c.work-seats.new.pass) last others c.put_all.ensures.all c.work-seats.ensures.worked.together c.finish-seats.ensures.settled in
    let many : length (last ++ others) ≡ length c.args.trains.now = same_count c.args.trains.now (last ++ others) same in
    omega (arith, many, ap (λ (l : List Done). length l) c.put_together-done.ensures, c.put_together-done.result.ok.0, c.args.room.room_for_outcomes, c.requires.trains)

pub returns-clause-gained : goal.returns-clause-gained
returns-clause-gained g c =
    seats_gained c.args.seats.items c.work-seats.result.0.items c.finish-seats.result.0.items c.finish-seats.result.1.items (all_of c.work-seats.result.1.items)
    c.put_together-done.result.items c.in_order.result.items c.work-seats.ensures.worked.gained c.finish-seats.ensures.gained c.put_together-done.ensures c.in_order.ensures.permutation

pub returns-clause-trains : goal.returns-clause-trains
returns-clause-trains g c =
    let last = c.finish-seats.result.1.items in
    let others = all_of c.work-seats.result.1.items in
    let same : AreSameJobs (numbered 0 c.args.trains.now) (jobs (last ++ others)) =
    same_jobs c.args.trains.now (tally_of c.put_all.new.pass) (tally_of c.work-seats.new.pass) last others c.put_all.ensures.all c.work-seats.ensures.worked.together c.finish-seats.ensures.settled in
    c.in_order.ensures.trains c.args.trains.now
    (subst (λ (l : List Done). AreSameJobs (numbered 0 c.args.trains.now) (jobs l)) (sym c.put_together-done.ensures) same)

pub returns-clause-told : goal.returns-clause-told
returns-clause-told g c =
    outcomes_told c.args.seats.items c.work-seats.result.0.items c.finish-seats.result.0.items _ _ c.finish-seats.result.1.items (all_of c.work-seats.result.1.items)
    c.put_together-done.result.items c.in_order.result.items
    c.work-seats.ensures.worked.gained c.finish-seats.ensures.gained c.finish-seats.ensures.told c.work-seats.ensures.worked.told c.put_together-done.ensures c.in_order.ensures.permutation
