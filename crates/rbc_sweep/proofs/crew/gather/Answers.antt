use Rattle.std.proofs.Common.{◌++◌, ◌∷◌, [], List, ap, fold, map, rules, sym, ◌∙◌}
use Rattle.std.specs.Vec.Iter.{into_iter_items}
use Rattle.std.proofs.lemmas.List.{map_push}
use Rattle.std.proofs.lemmas.List.Elements.{All-rest}
use Rattle.std.proofs.lemmas.List.Sums.{fold_push}
use Rattle.crossbeam_queue.specs.Passes.{IsPassOf}
use Rattle.rbc_sweep.specs.declared.jobs.Tally.{Tally}
use Rattle.rbc_sweep.specs.declared.worker.Worker.{Worker}
use Rattle.rbc_sweep.specs.Serving.{joined, tally_of}
use Rattle.rbc_sweep.proofs.crew.gather.Goals as goal

pub loop-worker-preserved : goal.loop-worker-preserved
loop-worker-preserved g c =
    let w = c.in-Some.worker in
    let so_far = c.loop-worker.yielded in
    let first = tally_of c.args.pass.now in
    record {
      pass = c.join.ensures.pass;
      joined = c.join.ensures.joined ∙ ap (λ (t : Tally). joined t (tally_of w.pass)) c.loop-worker.invariant.joined
          ∙ sym (fold_push joined first (map (λ (v : Worker g.row.L.Denot). tally_of v.pass) so_far) (tally_of w.pass))
          ∙ ap (λ (l : List Tally). fold joined first l) (sym (map_push (λ (v : Worker g.row.L.Denot). tally_of v.pass) so_far w));
      seats = c.push_reserved.ensures.items ∙ ap (λ l. l ++ w.seat ∷ []) c.loop-worker.invariant.seats
          ∙ sym (map_push (λ (v : Worker g.row.L.Denot). v.seat) so_far w);
      lists = c.push_reserved-in-loop-worker.ensures.items ∙ ap (λ l. l ++ w.done ∷ []) c.loop-worker.invariant.lists
          ∙ sym (map_push (λ (v : Worker g.row.L.Denot). v.done) so_far w);
      passes = All-rest (λ (v : Worker g.row.L.Denot). IsPassOf c.args.queue.now v.pass) w (into_iter_items c.next.new.self)
          (into_iter_items c.loop-worker.worker-iterator) c.in-Some.ensures.steps.0 c.loop-worker.invariant.passes;
      room = search rules;
      room_for_lists = search rules;
      count = search rules;
      list_count = search rules;
    }
