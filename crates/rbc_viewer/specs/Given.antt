-- Bytes that were given to be written.
use Rattle.std.specs.Prelude.{ℕ, List, [], ◌∷◌, ◌++◌, length, Option, Some, None}
use Rattle.rbc_viewer.specs.declared.given.Given.{Given}
use Rattle.rbc_viewer.specs.declared.given.Given.TheVariants.{Nothing, Then'}

-- these bytes, the first of them first
abbrev pub listed : Given → List ℕ
listed Nothing = []
listed (Then' m before byte) = listed before ++ byte ∷ []

-- what a writer inside a page counts as written, where it is known what stood in the page's writer before: how many bytes these are, these, and what
-- was given, unescaped. So no two writers inside pages count the same but where both stand behind the same bytes and were given the same.
abbrev pub inside : Option (List ℕ) → List ℕ → Option (List ℕ)
inside None given = None
inside (Some before) given = Some (length before ∷ (before ++ given))
