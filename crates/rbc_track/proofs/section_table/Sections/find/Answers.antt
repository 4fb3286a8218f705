use Rattle.std.proofs.Common.{◌≡◌, List, Some, bytes_eq, position, ap, sym, ◌∙◌}
use Rattle.rbc_model.specs.Tracks.{Section}
use Rattle.rbc_track.proofs.FindingLemmas.{position-named}
use Rattle.rbc_track.proofs.section_table.Sections.find.Goals as goal

pub returns-in_err-index : goal.returns-in_err-index
returns-in_err-index c =
    let place : position (λ other. bytes_eq other c.args.name) c.self.inside.names ≡ position (λ section. bytes_eq section.name c.args.name) c.self.inside.sections.items = position-named (λ other. bytes_eq other c.args.name) (λ section. section.name) c.self.inside.names c.self.inside.sections.items c.self.invariant.listed in
    c.from_residual.ensures ∙ sym c.in_err-index.was ∙ c.position.ensures ∙ place ∙ ap (λ (sections : List Section). position (λ section. bytes_eq section.name c.args.name) sections) c.self.view_is

pub returns : goal.returns
returns c =
    let place : position (λ other. bytes_eq other c.args.name) c.self.inside.names ≡ position (λ section. bytes_eq section.name c.args.name) c.self.inside.sections.items = position-named (λ other. bytes_eq other c.args.name) (λ section. section.name) c.self.inside.names c.self.inside.sections.items c.self.invariant.listed in
    ap Some c.new.ensures ∙ sym c.in_ok-index.was ∙ c.position.ensures ∙ place ∙ ap (λ (sections : List Section). position (λ section. bytes_eq section.name c.args.name) sections) c.self.view_is
