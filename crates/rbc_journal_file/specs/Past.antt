-- What a file holds, and what a crash may leave of it, by what was asked of it.
use Rattle.std.specs.Prelude.{◌≡◌, ◌⊎◌, ℕ, ◌+◌, ◌≤◌, List, [], ◌∷◌, ◌++◌, length, take, drop, if◌then◌else◌, nat_le, true, false}
use Rattle.rbc_journal.specs.Device.{Torn}
use Rattle.rbc_journal_file.specs.declared.past.Bytes.{Bytes}
use Rattle.rbc_journal_file.specs.declared.past.Bytes.TheVariants.{Empty, Then'}
use Rattle.rbc_journal_file.specs.declared.past.Past.{Past}
use Rattle.rbc_journal_file.specs.declared.past.Past.TheVariants.{Opened, Wrote', Synced', Replaced'}

-- these bytes, the first of them first
abbrev pub listed : Bytes → List ℕ
listed Empty = []
listed (Then' m bytes byte) = listed bytes ++ byte ∷ []

-- these bytes written over others, from an offset in them or at their end on
abbrev pub overwritten : List ℕ → ℕ → List ℕ → List ℕ
overwritten file at bytes = if nat_le at (length file) then take at file ++ bytes ++ drop (at + length bytes) file else file

-- what a read would return; a call that fails is taken as not seen
abbrev pub seen : Past → List ℕ
seen (Opened bytes) = listed bytes.value
seen (Wrote' m past at bytes is_done) = if is_done then overwritten (seen past) at (listed bytes.value) else seen past
seen (Synced' m past is_done) = seen past
seen (Replaced' m past bytes is_done) = if is_done then listed bytes.value else seen past

-- what a crash may leave: each write since the last sync may have left anything in its range, also one that failed; a new file that failed may have taken its place or not
abbrev pub may_leave : Past → List ℕ → Type 0
may_leave (Opened bytes) c = c ≡ listed bytes.value
may_leave (Wrote' m past at bytes is_done) c = (d : List ℕ) × may_leave past d × Torn at (length (listed bytes.value)) d c
may_leave (Synced' m past true) c = c ≡ seen past
may_leave (Synced' m past false) c = may_leave past c
may_leave (Replaced' m past bytes true) c = c ≡ listed bytes.value
may_leave (Replaced' m past bytes false) c = may_leave past c ⊎ (c ≡ listed bytes.value)

-- how many calls there were
abbrev pub moment : Past → ℕ
moment (Opened bytes) = 0
moment (Wrote' m past at bytes is_done) = moment past + 1
moment (Synced' m past is_done) = moment past + 1
moment (Replaced' m past bytes is_done) = moment past + 1

-- and how many of them failed
abbrev pub faults : Past → ℕ
faults (Opened bytes) = 0
faults (Wrote' m past at bytes is_done) = if is_done then faults past else faults past + 1
faults (Synced' m past is_done) = if is_done then faults past else faults past + 1
faults (Replaced' m past bytes is_done) = if is_done then faults past else faults past + 1

-- how often the file was synced
abbrev pub syncs : Past → ℕ
syncs (Opened bytes) = 0
syncs (Wrote' m past at bytes is_done) = syncs past
syncs (Synced' m past is_done) = if is_done then syncs past + 1 else syncs past
syncs (Replaced' m past bytes is_done) = syncs past

-- what a crash since that moment might have left: now, or before the last call
abbrev pub left_since : Past → ℕ → List ℕ → Type 0
left_since (Opened bytes) t c = c ≡ listed bytes.value
left_since (Wrote' m past at bytes is_done) t c = may_leave (Wrote' m past at bytes is_done) c ⊎ ((t ≤ moment past) × left_since past t c)
left_since (Synced' m past is_done) t c = may_leave (Synced' m past is_done) c ⊎ ((t ≤ moment past) × left_since past t c)
left_since (Replaced' m past bytes is_done) t c = may_leave (Replaced' m past bytes is_done) c ⊎ ((t ≤ moment past) × left_since past t c)
