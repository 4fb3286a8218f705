use Rattle.std.proofs.Common.{subst}
use Rattle.std.specs.Prelude.{IsTrue}
use Rattle.std.proofs.lemmas.List.Elements.{All-from_recursion}
use Rattle.rbc_model.specs.Names.{is_name}
use Rattle.rbc_model.specs.Tracks.{Route}
use Rattle.rbc_lines.proofs.OfTrackLemmas.{all-next, all-end}
use Rattle.rbc_lines.proofs.track.routes_known.Goals as goal

pub loop-route-preserved : goal.loop-route-preserved
loop-route-preserved c =
    let loop = c.loop-route in
    let item = c.route-item in
    let here = subst (λ text. IsTrue (is_name text)) c.name.ensures c.known.ensures.name in
    record {
      whole = λ rest. loop.invariant.whole (all-next (λ (route : Route). IsTrue (is_name route.name)) c.args.routes.now loop.route-index item.result c.loop-route-test.true item.is here rest);
    }

pub returns : goal.returns
returns c =
    let loop = c.loop-route in
    All-from_recursion (λ (route : Route). IsTrue (is_name route.name)) c.args.routes.now (loop.invariant.whole (all-end (λ (route : Route). IsTrue (is_name route.name)) c.args.routes.now loop.route-index c.loop-route-test.false))
