use Rattle.std.proofs.Common.{ℕ, nat_eq, ◌&&◌, List, position, ap, ◌∙◌}
use Rattle.rbc_model.specs.GroupNames.{GroupName}
use Rattle.rbc_model.specs.Tracks.{group_name_eq}
use Rattle.rbc_track.proofs.FindingLemmas.{position_key}
use Rattle.rbc_track.proofs.lookup.GroupNames.position.Goals as goal

pub returns : goal.returns
returns c =
    let keys = c.self.inside.keys in
    c.place.ensures
    ∙ ap (λ (of : ℕ × ℕ). position (λ key. nat_eq of.0 key.0 && nat_eq of.1 key.1) keys) c.group_key.ensures
    ∙ position_key c.args.name keys
    ∙ ap (λ (names : List GroupName). position (λ other. group_name_eq other c.args.name) names) c.self.view_is
