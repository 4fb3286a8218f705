-- Columns of a table of prices, begun from the breaks up to one.
use Rattle.std.specs.Prelude.{◌≡◌, ℕ, zero, suc, ◌+◌, ◌-◌, ◌*◌, ◌/◌, ◌<◌, min, List, Some, map, length, slice_get, slice_index}
use Rattle.std.specs.Global.{Vec}
use Rattle.rbc_model.specs.Levels.{Levels}
use Rattle.rbc_model.specs.Profiles.{StepFunction}
use Rattle.rbc_model.specs.Scales.{unit_of}
use Rattle.rbc_table_laws.specs.Stretches.{cost_of_step}
use Rattle.rbc_costs.specs.Stretches.{AreCosts}
use Rattle.rbc_costs.specs.declared.sums.Four.{Four}
use Rattle.rbc_reduce.specs.Rows.{IsCheapest, price_up_to, row_in}
use Rattle.rbc_reduce.specs.declared.parts.Group.{Group}

-- the columns have what one step costs up to the break of a number, and up to each one behind
pub record AreCostsFrom {N : Type 0} (number : N → ℕ) (cost : ℕ → ℕ → ℕ) (known : ℕ) (columns : List (Vec N)) : Type 0 where
  pub width : (q : ℕ) (column : Vec N) → slice_get columns q ≡ Some column → length column.items ≡ known + q
  pub costs : (q : ℕ) (column : Vec N) → slice_get columns q ≡ Some column → AreCosts cost (map number column.items)

-- The list has what one step costs up to a break: from break 0, and then from each one behind that of the number `cut`.
pub record AreCut (cost : ℕ → ℕ → ℕ) (cut to : ℕ) (costs : List ℕ) : Type 0 where
  pub count : cut + length costs ≡ to
  pub first : slice_index costs 0 ≡ cost 0 to
  pub behind : (i : ℕ) → cut < i → i < to → slice_index costs (i - cut) ≡ cost i to

-- the total of an index
abbrev pub nth_of : {N : Type 0} → Four N → ℕ → N
nth_of four zero = four.first
nth_of four (suc zero) = four.second
nth_of four (suc (suc zero)) = four.third
nth_of four (suc (suc (suc k))) = four.fourth

module _ {N : Type 0} (number : N → ℕ) (rows : List (Vec N)) where
  -- for each row but the last the least price with one step more, from as many breaks as have prices, where that step
  -- costs so much
  abbrev pub ArePricesOf : List N → ℕ → List (Four N) → Type 0
  ArePricesOf costs k group = (j : ℕ) (four : Four N) → slice_get group j ≡ Some four
      → IsCheapest (price_up_to (row_in number rows j)) (slice_index (map number costs)) (length (row_in number rows j) + 1) (number (nth_of four k))

  -- The prices are the prices of the four columns behind the first one.
  pub record IsGroup (columns : List (Vec N)) (group : List (Four N)) : Type 0 where
    pub count : length group + 1 ≡ length rows
    pub prices : (k : ℕ) (column : Vec N) → k < 4 → slice_get columns (1 + k) ≡ Some column → ArePricesOf column.items k group

  module _ (cost : ℕ → ℕ → ℕ) (known : ℕ) where
    -- For each row but the last the total of an index is the least price with one step more up to a break, from the breaks
    -- up to the one of the number `known`.
    pub record AreLeast (to k : ℕ) (least : List (Four N)) : Type 0 where
      pub count : length least + 1 ≡ length rows
      pub prices : (j : ℕ) (four : Four N) → slice_get least j ≡ Some four
          → IsCheapest (price_up_to (row_in number rows j)) (λ i. cost i to) (known + 1) (number (nth_of four k))

    -- Up to four columns behind break `from`, but none behind `end`, are begun.
    pub record IsBegun (from end : ℕ) (group : Group N) : Type 0 where
      pub count : length group.columns.items ≡ min 4 (end - from)
      pub costs : (k : ℕ) (column : Vec N) → slice_get group.columns.items k ≡ Some column → AreCut cost known (from + k + 1) (map number column.items)
      pub least : (k : ℕ) → k < length group.columns.items → AreLeast (from + k + 1) k group.least.items

    -- all columns behind break `from` up to `end` are begun, four by four
    pub record AreBegun (from end : ℕ) (groups : List (Group N)) : Type 0 where
      pub count : length groups ≡ (end - from + 3) / 4
      pub each : (g : ℕ) (group : Group N) → slice_get groups g ≡ Some group → IsBegun (from + 4 * g) end group

    -- all columns behind break `known` up to `end` are begun, in parts of 32
    pub record ArePartsOf (end : ℕ) (parts : List (Vec (Group N))) : Type 0 where
      pub count : length parts ≡ (end - known + 31) / 32
      pub each : (p : ℕ) (part : Vec (Group N)) → slice_get parts p ≡ Some part → AreBegun (known + 32 * p) (min end (known + 32 * p + 32)) part.items

-- The groups are the columns of a track behind break `from` up to `end`, begun from the breaks up to `known`.
pub record IsPart {V N : Type 0} (levels : Levels V) (track : StepFunction V) (number : N → ℕ) (rows : List (Vec N)) (known from end : ℕ) (groups : List (Group N)) : Type 0 where
  pub begun : AreBegun number rows (cost_of_step levels (unit_of track.end) track) known from end groups
