-- Names of sections and routes, and legs as they are written.
use Rattle.std.specs.Prelude.{ℕ, ◌-◌, ◌&&◌, ◌||◌, Bool, List, [], ◌∷◌, ◌++◌, length, take, drop, Option, Some, None, ◌==◌, if◌then◌else◌}
use Rattle.std.specs.List.{list_all}
use Rattle.rbc_model.specs.declared.limits.TheConstants.{LONGEST_NAME}
use Rattle.rbc_model.specs.Results.{is_from_to}
use Rattle.rbc_model.specs.declared.places.Direction.{Direction}
use Rattle.rbc_model.specs.declared.places.Direction.TheVariants.{Rising, Falling}

-- `A` to `Z`, `a` to `z`, `0` to `9` or `_`
abbrev pub is_name_byte : ℕ → Bool
is_name_byte byte = is_from_to 65 90 byte || is_from_to 97 122 byte || is_from_to 48 57 byte || byte == 95

-- a name has 1 to 16 of them
abbrev pub is_name : List ℕ → Bool
is_name text = is_from_to 1 LONGEST_NAME (length text) && list_all is_name_byte text

-- the name that a text is
abbrev pub name_in : List ℕ → Option (List ℕ)
name_in text = if is_name text then Some text else None

-- a leg as it is written: its section's name, and its direction
pub record LegName : Type 0 where
  pub section : List ℕ
  pub direction : Direction

-- rising offsets are written `+` (43), falling ones `-` (45)
abbrev pub direction_text : Direction → List ℕ
direction_text Rising = 43 ∷ []
direction_text Falling = 45 ∷ []

-- the direction that a text is
abbrev pub direction_in : List ℕ → Option Direction
direction_in (sign ∷ []) = if sign == 43 then Some Rising else if sign == 45 then Some Falling else None
direction_in _ = None

-- the text of a leg
abbrev pub leg_text : LegName → List ℕ
leg_text leg = leg.section ++ direction_text leg.direction

-- a name and a direction that are there
abbrev pub leg_with : Option (List ℕ) → Option Direction → Option LegName
leg_with (Some section) (Some direction) = Some (record { section = section; direction = direction })
leg_with _ _ = None

-- the leg that a text is: all but its last byte, and this
abbrev pub leg_in : List ℕ → Option LegName
leg_in text = leg_with (name_in (take (length text - 1) text)) (direction_in (drop (length text - 1) text))
