-- The identity of a balise group (NID_C and NID_BG).
use Rattle.std.specs.Prelude.{ℕ, ◌≤◌}
use Rattle.rbc_model.specs.declared.limits.TheConstants.{LAST_COUNTRY, LAST_GROUP}

-- the group's country or region, and its number there
pub record GroupName : Type 0 where
  pub country : ℕ
  pub number : ℕ

-- a message can name the group
pub record IsGroupName (group : GroupName) : Type 0 where
  pub country : group.country ≤ LAST_COUNTRY
  pub number : group.number ≤ LAST_GROUP
