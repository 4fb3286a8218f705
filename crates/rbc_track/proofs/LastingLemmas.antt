-- Steps that last long enough, start by start.
use Rattle.std.proofs.Common.{◌≡◌, ℕ, ◌+◌, ◌-◌, ◌≤◌, Bool, ◌&&◌, nat_le, List, [], ◌∷◌, length, take, drop, get_or, refl, ap, ◌∙◌, arith}
use Rattle.std.proofs.Math.Seq.{take-length}
use Rattle.rbc_model.specs.declared.limits.TheConstants.{SHORTEST_RUN}
use Rattle.rbc_model.specs.Profiles.{starts_of}
use Rattle.rbc_model.specs.SoundTracks.{are_long}

-- runs are long enough, by their starts alone, from the first one on
abbrev pub are_apart : ℕ → ℕ → List ℕ → Bool
are_apart metres start [] = nat_le (start + SHORTEST_RUN) metres
are_apart metres start (next ∷ later) = nat_le (start + SHORTEST_RUN) next && are_apart metres next later

pub are_apart-long : {V : Type 0} (metres : ℕ) (first : ℕ × V) (later : List (ℕ × V)) → are_apart metres first.0 (starts_of later) ≡ are_long metres (first ∷ later)
are_apart-long metres first [] = refl
are_apart-long metres first (next ∷ later) = ap (λ b. nat_le (first.0 + SHORTEST_RUN) next.0 && b) (are_apart-long metres next later)

-- from the first start of a list that has one
pub first_apart : {V : Type 0} (metres : ℕ) (runs : List (ℕ × V)) (first : ℕ × V) → 1 ≤ length runs → first ≡ get_or runs 0 first
    → are_apart metres first.0 (starts_of (take (length runs - 1) (drop 1 runs))) ≡ are_long metres runs
first_apart metres [] first some is = absurd (omega arith)
first_apart metres (run ∷ later) first some is =
    let fewer : length (run ∷ later) - 1 ≡ length later = omega arith in
    ap (λ n. are_apart metres first.0 (starts_of (take n later))) fewer
    ∙ ap (λ runs. are_apart metres first.0 (starts_of runs)) (take-length later)
    ∙ ap (λ from. are_apart metres from.0 (starts_of later)) is
    ∙ are_apart-long metres run later
