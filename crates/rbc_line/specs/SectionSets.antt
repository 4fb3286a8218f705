-- A set of a track's sections.
use Rattle.std.specs.Prelude.{ℕ, Bool, false, List, slice_index_or}

-- whether the section is in the set, which is kept as an answer for each section
abbrev pub is_in : List Bool → ℕ → Bool
is_in set section = slice_index_or set section false
