-- The rule of the word that counts the entries of a log, and what its one step tells.
use Rattle.std.specs.Prelude.{ℕ, ◌≡◌, ◌==◌, true, List, [], ◌∷◌, ◌++◌, length}
use Rattle.logbook.specs.Pages.{Cell, Step, View, Book, Named}

-- the first word is the number of entries; a book has two words, of which this one leaves the second at 0
abbrev pub IsCounted : {E : Type 0} → List Cell → List E → Type 0
IsCounted cells log = cells ≡ (length log, true) ∷ (0, true) ∷ []

-- the word of this book
abbrev pub head_of : Book → Named
head_of book = record { tracked = true; key = 0; book = book }

-- where there were as many entries as had been seen, one was added
abbrev pub Adds : {E : Type 0} → Step E → View E ℕ → ℕ → View E ℕ → Type 0
Adds step before found after = (found == step.old) ≡ true → after.0 ≡ before.0 ++ step.ask ∷ []
