use Rattle.std.proofs.Common.{rules}
use Rattle.std.proofs.lemmas.Fn.{dedup_same}
use Rattle.rbc_model.specs.Levels.{is_same}
use Rattle.rbc_steps.proofs.rows.join.Goals as goal

pub returns : goal.returns
returns g c = dedup_same _ (λ next kept. is_same g.V.Level.levels next.1 kept.1) _ (λ x y b f' x' y' k. search rules) _ _ c.dedup_by.ensures.filtered
