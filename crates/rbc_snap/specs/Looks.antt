-- What a look at the published scene answers.
use Rattle.std.specs.Prelude.{◌≡◌, ◌<◌, ℕ, true, length, Result, Ok, Err}
use Rattle.rbc_model.specs.declared.memory.OrMemory.{OrMemory}
use Rattle.rbc_model.specs.declared.memory.OrMemory.TheVariants.{Refused, Memory}
use Rattle.rbc_model.specs.Views.{View, view}
use Rattle.rbc_record.specs.Present.{has_train}
use Rattle.rbc_record.specs.Records.{HistoryOnTrack, scene_now}
use Rattle.rbc_snap.specs.declared.faults.Behind.{Behind as BehindFault}
use Rattle.rbc_snap.specs.declared.faults.EyeFault.{EyeFault}
use Rattle.rbc_snap.specs.declared.faults.EyeFault.TheVariants.{Behind, Unshown}

-- What is then told shows the train this view, or this reason why it shows none, and has as many entries as the version says; or there was no
-- memory to see which, and what is then told has the train; or the version is below what had been told, and nothing more is told.
abbrev pub IsSeenIn : HistoryOnTrack → HistoryOnTrack → ℕ → Result (View × ℕ) (OrMemory EyeFault) → Type 0
IsSeenIn old new train (Ok seen) = (view new.track (scene_now new) train ≡ Ok seen.0) × (seen.1 ≡ length new.entries)
IsSeenIn old new train (Err (Refused (Unshown fault version))) = (view new.track (scene_now new) train ≡ Err fault) × (version ≡ length new.entries)
IsSeenIn old new train (Err (Refused (Behind version))) = (new ≡ old) × (version < length old.entries)
IsSeenIn old new train (Err Memory) = has_train new train ≡ true

-- so many entries are published: this is the version that is answered, and where memory was refused what is then told has as many
abbrev pub IsOfVersion : ℕ → HistoryOnTrack → Result (View × ℕ) (OrMemory EyeFault) → Type 0
IsOfVersion published new (Ok seen) = seen.1 ≡ published
IsOfVersion published new (Err (Refused (Unshown fault version))) = version ≡ published
IsOfVersion published new (Err (Refused (Behind version))) = version ≡ published
IsOfVersion published new (Err Memory) = length new.entries ≡ published

-- The whole scene is not shown: what is published has fewer entries than had been told, and nothing more is told; or it can't be shared once more,
-- and what is then told has as many entries as are published.
abbrev pub IsUnshared : HistoryOnTrack → HistoryOnTrack → ℕ → OrMemory BehindFault → Type 0
IsUnshared old new published (Refused fault) = (new ≡ old) × (fault.version < length old.entries) × (fault.version ≡ published)
IsUnshared old new published Memory = length new.entries ≡ published
