use Rattle.std.proofs.Common.{drop}
use Rattle.std.specs.Prelude.{IsTrue}
use Rattle.std.specs.List.{AllByRecursion}
use Rattle.rbc_model.specs.Names.{is_name}
use Rattle.rbc_model.specs.Tracks.{Route}
use Rattle.rbc_lines.proofs.track.routes_known.Given as goal

-- if it holds of those that are left it holds of all
abbrev pub invariant-loop-route : goal.invariant-loop-route
invariant-loop-route l = record {
  whole : AllByRecursion (λ (route : Route). IsTrue (is_name route.name)) (drop l.route-index l.routes) → AllByRecursion (λ (route : Route). IsTrue (is_name route.name)) l.routes;
}
