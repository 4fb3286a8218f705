-- Whoever knows which history it is knows that of the published value, and how many of its entries are published at least.
use Rattle.std.specs.Prelude.{◌≡◌, ℕ, ◌≤◌, true, false, List, length}
use mathlib.Core.Option.{some}
use lib.ListN.{get_elem?}
use Rattle.logbook.specs.Pages.{Book}
use Rattle.rbc_snap.specs.Sights.{SeenOf}
use Rattle.rbc_snap.specs.declared.rule.Known.{Known}

abbrev pub stranger : Known
stranger = record { knows = false; number = 0; log_name = 0; cells_name = 0; entries = 0 }

abbrev pub knower : Book → ℕ → Known
knower book entries = record { knows = true; number = book.number; log_name = book.log_name; cells_name = book.cells_name; entries = entries }

-- what is known of what is published by whoever saw it
abbrev pub knower_of : SeenOf → Known
knower_of sight = knower sight.book (length sight.history.entries)

abbrev pub Knows : SeenOf → Known → Type 0
Knows sight known = (known.knows ≡ true → known ≡ knower sight.book known.entries) × (known.entries ≤ length sight.history.entries)

abbrev pub Agree : SeenOf → List Known → Type 0
Agree sight views = (seat : ℕ) (known : Known) → get_elem? views seat ≡ some known → Knows sight known
