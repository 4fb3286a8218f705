-- How the text of a name is kept: at the front of `LONGEST_NAME` bytes, with zeros behind it.
use Rattle.std.specs.Prelude.{◌≡◌, ℕ, ◌-◌, ◌≤◌, IsTrue, List, ◌++◌, length, take, replicate}
use Rattle.rbc_model.specs.Names.{is_name}
use Rattle.rbc_model.specs.declared.limits.TheConstants.{LONGEST_NAME}

-- the text and the zeros behind it
abbrev pub filled : List ℕ → List ℕ
filled text = text ++ replicate (LONGEST_NAME - length text) 0

-- the first `count` bytes are a name's text, and the others are zeros
pub record IsKept (bytes : List ℕ) (count : ℕ) : Type 0 where
  pub name : IsTrue (is_name (take count bytes))
  pub short : count ≤ LONGEST_NAME
  pub zeros : filled (take count bytes) ≡ bytes
  pub counted : length (take count bytes) ≡ count
