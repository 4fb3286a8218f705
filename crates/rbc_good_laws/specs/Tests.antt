-- Whether a scene is a good one, by tests that go over sections and legs and not over metres.
use Rattle.std.specs.Prelude.{ℕ, ◌+◌, Bool, true, not, ◌&&◌, ◌||◌, max, min, nat_lt, [], ◌∷◌, None}
use Rattle.std.specs.List.{list_any}
use Rattle.rbc_model.specs.declared.places.Direction.TheVariants.{Rising}
use Rattle.rbc_model.specs.Tracks.{Track, metres_of}
use Rattle.rbc_model.specs.Lines.{Line}
use Rattle.rbc_model.specs.Locks.{Locks}
use Rattle.rbc_model.specs.Trains.{Train}
use Rattle.rbc_model.specs.Obstacles.{is_locked}
use Rattle.rbc_reach_laws.specs.Spans.{authority_span}

-- ---- no metre held twice

-- which offsets of a section a train's authority has: from the first number up to the second
abbrev pub offsets_held : Track → ℕ → Train → ℕ × ℕ
offsets_held track section train = authority_span track train (record { section = section; direction = Rising })

-- whether some number lies in both spans
abbrev pub meet : ℕ × ℕ → ℕ × ℕ → Bool
meet a b = nat_lt (max a.0 b.0) (min a.1 b.1)

-- whether two trains hold a metre of the section
abbrev pub hold_both : Track → ℕ → Train → Train → Bool
hold_both track section a b = meet (offsets_held track section a) (offsets_held track section b)

-- whether they do so on a section of the first one's line
abbrev pub share_metre : Track → Train → Train → Bool
share_metre track a b = list_any (λ leg. hold_both track leg.section a b) a.line

-- ---- held metres locked

-- whether each leg is locked that begins at p or later on a line and has a metre at the places from a up to b
abbrev pub legs_locked : Track → Locks → ℕ → ℕ → ℕ → Line → Bool
legs_locked track locks a b p [] = true
legs_locked track locks a b p (leg ∷ legs) =
    (not (nat_lt (max a p) (min b (p + metres_of track leg.section))) || is_locked locks None leg)
    && legs_locked track locks a b (p + metres_of track leg.section) legs
