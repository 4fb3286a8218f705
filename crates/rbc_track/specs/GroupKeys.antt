-- The keys by which balise groups are looked up.
use Rattle.std.specs.Prelude.{ℕ}
use Rattle.rbc_model.specs.GroupNames.{GroupName}

-- the identity of this country and this number
abbrev pub group_name : ℕ × ℕ → GroupName
group_name key = record { country = key.0; number = key.1 }
