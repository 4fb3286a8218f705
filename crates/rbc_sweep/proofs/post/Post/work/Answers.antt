use Rattle.std.proofs.Common.{◌≡◌, List, Vec, Global, ap, sym, ◌∙◌, arith}
use Rattle.std.specs.List.{flat_map}
use Rattle.rbc_sweep.specs.declared.order.Done.{Done}
use Rattle.rbc_sweep.specs.declared.worker.Worker.{Worker}
use Rattle.rbc_sweep.specs.Serving.{all_of, tally_of}
use Rattle.rbc_sweep.proofs.SweepLemmas.{gathered}
use Rattle.rbc_sweep.proofs.post.Post.work.Goals as goal
use Rattle.std.proofs.lemmas.List.Folds.{flat_map-map}

pub returns-clause-worked : goal.returns-clause-worked
returns-clause-worked g c =
    let seat = λ (w : Worker g.row.L.Denot). w.seat in
    let known = λ (w : Worker g.row.L.Denot). tally_of w.pass in
    let done = λ (w : Worker g.row.L.Denot). w.done.items in
    let vs = c.serve_all-workers.result.items in
    let lists : all_of c.gather.result.1.items ≡ flat_map done vs =
    ap (λ (l : List (Vec Done Global)). all_of l) c.gather.ensures.lists
    ∙ flat_map-map (λ (l : Vec Done Global). l.items) (λ (w : Worker g.row.L.Denot). w.done) vs in
    gathered seat known done c.args.seats.items c.gather.result.0.items c.hire-workers.result.items vs (all_of c.gather.result.1.items)
    (tally_of c.args.pass.now) (tally_of c.hire-workers.new.pass) (tally_of c.gather.new.pass) c.args.seats.len
    c.serve_all-workers.ensures.served c.hire-workers.ensures.seats (sym c.args.seats.ok.0) (omega (arith, c.args.seats.ok.1)) c.requires.all c.requires.none c.hire-workers.ensures.left
    c.gather.ensures.joined c.gather.ensures.seats lists
