-- Whether a scene is a good one, as it is tested.
use Rattle.std.specs.Prelude.{ℕ, ◌+◌, Bool, true, false, not, ◌&&◌, ◌==◌, nat_lt, nat_le, List, [], ◌∷◌, length, Option, Some, None}
use Rattle.std.specs.List.{list_all}
use Rattle.rbc_model.specs.declared.places.Leg.{Leg}
use Rattle.rbc_model.specs.declared.tracks.Lock.{Lock}
use Rattle.rbc_model.specs.Tracks.{Track, leg_eq, is_linked}
use Rattle.rbc_model.specs.SoundTracks.{sections_differ, are_linked}
use Rattle.rbc_model.specs.Lines.{Line, line_length}
use Rattle.rbc_model.specs.Locks.{Locks, next}
use Rattle.rbc_model.specs.Trains.{Train}
use Rattle.rbc_model.specs.Scenes.{Scene}
use Rattle.rbc_good_laws.specs.Tests.{share_metre, legs_locked}
use Rattle.rbc_good_laws.specs.Told.{own_leg}

-- ---- rows

-- whether this leg was found
abbrev pub is_found : Leg → Option Leg → Bool
is_found leg None = false
is_found leg (Some other) = leg_eq other leg

-- a row's leg is linked to the leg before it, and is the one that is found behind that
abbrev pub is_good_before : Track → Locks → Leg → Option Leg → Bool
is_good_before track locks own None = true
is_good_before track locks own (Some before) = is_linked track before own && is_found own (next locks before)

abbrev pub is_good_row : Track → Locks → ℕ → Option Lock → Bool
is_good_row track locks section None = true
is_good_row track locks section (Some lock) = is_good_before track locks (own_leg section lock) lock.before

-- the rows from this section's on
abbrev pub are_good_rows : Track → Locks → ℕ → Locks → Bool
are_good_rows track locks section [] = true
are_good_rows track locks section (row ∷ rows) = is_good_row track locks section row && are_good_rows track locks (section + 1) rows

-- a row for each section
abbrev pub are_good_locks : Track → Locks → Bool
are_good_locks track locks = length locks == length track.sections && are_good_rows track locks 0 locks

-- ---- trains

abbrev pub is_good_line : Track → Line → Bool
is_good_line track line = nat_lt 0 (length line) && list_all (λ leg. nat_lt leg.section (length track.sections)) line && sections_differ line && are_linked track line

abbrev pub is_good_train : Track → Train → Bool
is_good_train track train =
    is_good_line track train.line
    && nat_le train.origin train.front
    && nat_le train.rear train.front
    && nat_le train.front (line_length track train.line)
    && nat_le train.rear train.from
    && nat_le train.from train.to
    && nat_le train.to (line_length track train.line)

-- ---- all of it

-- whether the test passes on each two of a list
abbrev pub pass_pairwise : {X : Type 0} → (X → X → Bool) → List X → Bool
pass_pairwise test [] = true
pass_pairwise test (x ∷ xs) = list_all (test x) xs && pass_pairwise test xs

abbrev pub is_good_scene : Track → Scene → Bool
is_good_scene track scene =
    are_good_locks track scene.locks
    && list_all (is_good_train track) scene.trains
    && pass_pairwise (λ a b. not (a.report.train == b.report.train)) scene.trains
    && pass_pairwise (λ a b. not (share_metre track a b)) scene.trains
    && list_all (λ train. legs_locked track scene.locks train.from train.to 0 train.line) scene.trains
