-- What comes of loading a track from a reader.
use Rattle.std.specs.Prelude.{◌≡◌, ℕ, ◌<◌, ◌≤◌, ◌⊎◌, Bool, true, false, List, Option, Result, Ok, Err, length}
use Rattle.std.specs.Io.KnownBytes.{Consumes, IsAtEnd}
use Rattle.rbc_model.specs.declared.files.FileFault.{FileFault}
use Rattle.rbc_model.specs.declared.limits.TheConstants.{LONGEST_FILE}
use Rattle.rbc_model.specs.declared.memory.OrMemory.{OrMemory}
use Rattle.rbc_model.specs.declared.memory.OrMemory.TheVariants.{Refused, Memory as NoFileMemory}
use Rattle.rbc_model.specs.Tracks.{Track}
use Rattle.rbc_trackfile.specs.Told.{track_told}
use Rattle.rbc_streams.specs.declared.whole.WholeFault.{WholeFault}
use Rattle.rbc_streams.specs.declared.whole.WholeFault.TheVariants.{Read, TooLong, Memory as NoMemory}
use Rattle.rbc_trackfile.specs.declared.loading.LoadFault.{LoadFault}
use Rattle.rbc_trackfile.specs.declared.loading.LoadFault.TheVariants.{Unreadable, File, Memory}

-- bytes that could not be read whole
abbrev pub load_fault : WholeFault → LoadFault
load_fault Read = Unreadable
load_fault TooLong = Unreadable
load_fault NoMemory = Memory

-- bytes that tell no track
abbrev pub file_fault : OrMemory FileFault → LoadFault
file_fault (Refused fault) = File fault
file_fault NoFileMemory = Memory

-- for a reader with these bytes before and after, which failed or did not, and whose last read found the end or did not
module _ (before after : Option (List ℕ)) (failed ended : Bool) where
  -- These bytes were read, and nothing is left: the last read found the end.
  pub record IsReadWhole (bytes : List ℕ) : Type 0 where
    pub read : Consumes before after bytes
    pub at_end : IsAtEnd after
    pub found_end : ended ≡ true
    pub short : length bytes ≤ LONGEST_FILE
    pub works : failed ≡ false

  -- The bytes that were read are too many for a track file.
  pub record IsTooLong (bytes : List ℕ) : Type 0 where
    pub read : Consumes before after bytes
    pub long : LONGEST_FILE < length bytes

  -- What is answered is the track or the first fault that the bytes tell, or that the file is unreadable: the reader failed, or there are too
  -- many bytes. Want of memory is told of a reader alone that did not fail.
  abbrev pub IsLoaded : Result Track LoadFault → Type 0
  IsLoaded (Ok track) = (bytes : List ℕ) × IsReadWhole bytes × (track_told bytes ≡ Ok track)
  IsLoaded (Err (File fault)) = (bytes : List ℕ) × IsReadWhole bytes × (track_told bytes ≡ Err fault)
  IsLoaded (Err Unreadable) = (failed ≡ true) ⊎ ((bytes : List ℕ) × IsTooLong bytes)
  IsLoaded (Err Memory) = failed ≡ false
