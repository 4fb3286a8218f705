use Rattle.std.proofs.Common.{◌≡◌, List, Some, bytes_eq, position, ap, sym, ◌∙◌}
use Rattle.rbc_model.specs.Tracks.{Route}
use Rattle.rbc_track.proofs.FindingLemmas.{position-named}
use Rattle.rbc_track.proofs.route_table.Routes.find.Goals as goal

pub returns-in_err-index : goal.returns-in_err-index
returns-in_err-index c =
    let place : position (λ other. bytes_eq other c.args.name) c.self.inside.names ≡ position (λ route. bytes_eq route.name c.args.name) c.self.inside.routes.items = position-named (λ other. bytes_eq other c.args.name) (λ route. route.name) c.self.inside.names c.self.inside.routes.items c.self.invariant.listed in
    c.from_residual.ensures ∙ sym c.in_err-index.was ∙ c.position.ensures ∙ place ∙ ap (λ (routes : List Route). position (λ route. bytes_eq route.name c.args.name) routes) c.self.view_is

pub returns : goal.returns
returns c =
    let place : position (λ other. bytes_eq other c.args.name) c.self.inside.names ≡ position (λ route. bytes_eq route.name c.args.name) c.self.inside.routes.items = position-named (λ other. bytes_eq other c.args.name) (λ route. route.name) c.self.inside.names c.self.inside.routes.items c.self.invariant.listed in
    ap Some c.new.ensures ∙ sym c.in_ok-index.was ∙ c.position.ensures ∙ place ∙ ap (λ (routes : List Route). position (λ route. bytes_eq route.name c.args.name) routes) c.self.view_is
