-- The text gives back how a name is kept.
use Rattle.std.specs.Prelude.{◌≡◌, ℕ, List, length, take}
use Rattle.std.proofs.Common.{ap, ◌∙◌}
use Rattle.rbc_track.specs.Kept.{filled, IsKept}
use Rattle.rbc_track.specs.declared.name.Name.TheInside.{Inside}

abbrev fields : List ℕ → ℕ → Inside
fields bytes count = record { bytes = bytes; count = count }

pub kept_back : (a : Inside) → IsKept a.bytes a.count → fields (filled (take a.count a.bytes)) (length (take a.count a.bytes)) ≡ a
kept_back a kept = ap (λ bytes. fields bytes (length (take a.count a.bytes))) kept.zeros ∙ ap (λ count. fields a.bytes count) kept.counted
