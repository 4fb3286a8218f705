-- The entries of the program, as the definitions have them.
use Rattle.rbc_model.specs.Histories.{Entry, Heard, Granted}
use Rattle.rbc_record.specs.declared.entry.Entry.{Entry as EntryHeld}
use Rattle.rbc_record.specs.declared.entry.Entry.TheVariants.{Heard as HeardHeld, Granted as GrantedHeld}

-- an entry that a record holds, as a history has it
abbrev pub entry_of : EntryHeld → Entry
entry_of (HeardHeld told) = Heard told
entry_of (GrantedHeld grant) = Granted grant
