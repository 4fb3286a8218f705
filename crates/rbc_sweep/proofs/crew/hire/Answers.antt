use Rattle.std.proofs.Common.{◌≡◌, ◌++◌, ◌∷◌, [], IfSome, List, Option, Vec, Global, ap, length, map, rules, subst, ◌∙◌, arith}
use Rattle.std.specs.Option.{option_to_list}
use Rattle.std.proofs.lemmas.List.{length_push, map_push}
use Rattle.std.proofs.lemmas.List.Elements.{All-pop, All-push, All-same}
use Rattle.crossbeam_queue.specs.Passes.{IsPassOf}
use Rattle.rbc_sweep.specs.declared.order.Done.{Done}
use Rattle.rbc_sweep.specs.declared.worker.Worker.{Worker}
use Rattle.rbc_sweep.specs.Jobs.{tally}
use Rattle.rbc_sweep.specs.Serving.{tally_of}
use Rattle.rbc_sweep.proofs.CrewLemmas.{left_more}
use Rattle.rbc_sweep.proofs.crew.hire.Goals as goal

pub loop-seat-preserved : goal.loop-seat-preserved
loop-seat-preserved g c =
    let so_far = c.loop-seat.yielded in
    let mine = c.in-Some.seat in
    let one : Worker g.row.L.Denot = record { seat = mine; pass = c.part_of-pass.result; done = c.unwrap-done.result } in
    let popped = All-pop (λ (list : Vec Done Global). list.items ≡ []) c.loop-seat.lists.items c.pop.new.self.items c.pop.result c.pop.ensures.items c.loop-seat.invariant.empty in
    let none : c.unwrap-done.result.items ≡ [] = subst (λ (o : Option (Vec Done Global)). IfSome o (λ (list : Vec Done Global). list.items ≡ [])) c.unwrap-done.ensures popped.1 in
    let taken = ap (λ (o : Option (Vec Done Global)). length (option_to_list o)) c.unwrap-done.ensures in
    record {
      pass = c.part_of-pass.ensures.pass;
      left = left_more (tally_of c.args.pass.now) (tally_of c.loop-seat.pass) (tally_of c.part_of-pass.new.pass) (length so_far) (length (so_far ++ mine ∷ []))
          c.loop-seat.invariant.left c.part_of-pass.ensures.left (length_push so_far mine);
      seats = ap (λ (l : List (Worker g.row.L.Denot)). map (λ (w : Worker g.row.L.Denot). w.seat) l) c.push_reserved.ensures.items
          ∙ map_push (λ (w : Worker g.row.L.Denot). w.seat) c.loop-seat.workers.items one ∙ ap (λ l. l ++ mine ∷ []) c.loop-seat.invariant.seats;
      ready = All-same (λ (w : Worker g.row.L.Denot). IsPassOf c.args.queue.now w.pass × (tally_of w.pass ≡ tally 1 [] []) × (w.done.items ≡ []))
          c.push_reserved.new.self.items (c.loop-seat.workers.items ++ one ∷ []) c.push_reserved.ensures.items
          (All-push (λ (w : Worker g.row.L.Denot). IsPassOf c.args.queue.now w.pass × (tally_of w.pass ≡ tally 1 [] []) × (w.done.items ≡ []))
          c.loop-seat.workers.items one c.loop-seat.invariant.ready (c.part_of-pass.ensures.part, c.part_of-pass.ensures.right, none));
      empty = popped.0;
      lists = omega (arith, c.pop.ensures.len, taken, c.in-Some.ensures.steps.1);
      room = search rules;
      count = search rules;
      yielded = omega (arith, length_push so_far mine, c.in-Some.ensures.steps.1);
    }
