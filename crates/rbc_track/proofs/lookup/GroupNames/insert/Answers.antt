use Rattle.std.proofs.Common.{◌≡◌, ℕ, nat_eq, ◌&&◌, List, map, not, false, ap, subst, ◌∙◌}
use Rattle.std.specs.Prelude.{IfOk, OnErr}
use Rattle.std.specs.List.{list_any}
use Rattle.rbc_model.specs.GroupNames.{GroupName}
use Rattle.rbc_model.specs.Tracks.{group_name_eq}
use Rattle.rbc_track.specs.GroupKeys.{group_name}
use Rattle.rbc_track.proofs.FindingLemmas.{any_key}
use Rattle.rbc_track.proofs.lookup.GroupNames.insert.Goals as goal

-- whether the identity is among those of the keys
there : (name : GroupName) (key : ℕ × ℕ) (keys : List (ℕ × ℕ)) (names : List GroupName) → key ≡ (name.country, name.number)
    → map group_name keys ≡ names → list_any (λ other. nat_eq key.0 other.0 && nat_eq key.1 other.1) keys ≡ list_any (λ other. group_name_eq other name) names
there name key keys names is view =
    ap (λ (of : ℕ × ℕ). list_any (λ other. nat_eq of.0 other.0 && nat_eq of.1 other.1) keys) is ∙ any_key name keys
    ∙ ap (list_any (λ other. group_name_eq other name)) view

pub returns-clause-new : goal.returns-clause-new
returns-clause-new c =
    subst (λ found. IfOk c.insert.result (λ new. new ≡ not found)) (there c.args.name c.group_key.result c.self.inside.keys c.args.self.now c.group_key.ensures c.self.view_is) c.insert.ensures.new

pub returns-clause-memory : goal.returns-clause-memory
returns-clause-memory c =
    subst (λ found. OnErr c.insert.result (found ≡ false)) (there c.args.name c.group_key.result c.self.inside.keys c.args.self.now c.group_key.ensures c.self.view_is) c.insert.ensures.absent
