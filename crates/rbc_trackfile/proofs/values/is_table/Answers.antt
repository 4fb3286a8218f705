use Rattle.std.proofs.Common.{◌≡◌, Option, Some, None, option_map, is_some, refl, ◌∙◌}
use Rattle.toml.specs.Data.{as_table}
use Rattle.toml.specs.View.{view}
use Rattle.rbc_trackfile.specs.TomlFile.{member_list}
use Rattle.rbc_trackfile.specs.Told.{table_sort}
use Rattle.rbc_trackfile.proofs.values.is_table.Goals as goal

mapped : {A B : Type 0} (f : A → B) (o : Option A) → is_some o ≡ is_some (option_map f o)
mapped f None = refl
mapped f (Some x) = refl

pub returns : goal.returns
unfolding table_sort
returns c = c.is_table.ensures ∙ mapped member_list (as_table (view c.args.value.now))
