-- The words behind a command that wants several.
use Rattle.std.proofs.Common.{◌≡◌, ℕ, List, [], ◌∷◌, Err, ℤ, ap}
use Rattle.rbc_model.specs.declared.refusals.LineFault.{LineFault}
use Rattle.rbc_model.specs.declared.refusals.LineFault.TheVariants.{Words}
use Rattle.rbc_model.specs.Reports.{Report}
use Rattle.rbc_model.specs.SessionText.{only_word}
use Rattle.rbc_model.specs.Tracks.{Track}
use Rattle.rbc_scene_words.specs.SceneLine.{SceneLine, distances_in, locked_in, size_spelled}

-- without a last word of its own, or with more behind it, there is no locked leg
pub locked_in-no_last : (track : Track) (a b : List ℕ) (rest : List (List ℕ)) (fault : LineFault) → only_word rest ≡ Err fault → locked_in track (a ∷ b ∷ rest) ≡ Err fault
locked_in-no_last track a b [] fault none = let same : Words ≡ fault = cc in ap Err same
locked_in-no_last track a b (c ∷ []) fault none = absurd cc
locked_in-no_last track a b (c ∷ d ∷ more) fault none = let same : Words ≡ fault = cc in ap Err same

-- no two distances
pub distances_in-no_last : (say : ℕ → ℤ → ℤ → SceneLine) (a b : List ℕ) (rest : List (List ℕ)) (fault : LineFault) → only_word rest ≡ Err fault → distances_in say (a ∷ b ∷ rest) ≡ Err fault
distances_in-no_last say a b [] fault none = let same : Words ≡ fault = cc in ap Err same
distances_in-no_last say a b (c ∷ []) fault none = absurd cc
distances_in-no_last say a b (c ∷ d ∷ more) fault none = let same : Words ≡ fault = cc in ap Err same

-- and no length and time
pub size_spelled-no_last : (report : Report) (a : List ℕ) (rest : List (List ℕ)) (fault : LineFault) → only_word rest ≡ Err fault → size_spelled (a ∷ rest) report ≡ Err fault
size_spelled-no_last report a [] fault none = let same : Words ≡ fault = cc in ap Err same
size_spelled-no_last report a (b ∷ []) fault none = absurd cc
size_spelled-no_last report a (b ∷ c ∷ more) fault none = let same : Words ≡ fault = cc in ap Err same
