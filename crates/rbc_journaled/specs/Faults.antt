-- Why a journal is not opened, where its file refuses that.
use Rattle.rbc_journal.specs.declared.fault.JournalFault.{JournalFault}
use Rattle.rbc_journal.specs.declared.fault.JournalFault.TheVariants.{Memory, Full, Device}
use Rattle.rbc_journaled.specs.declared.fault.OpeningFault.{OpeningFault}
use Rattle.rbc_journaled.specs.declared.fault.OpeningFault.TheVariants.{Memory as NoMemory, Full as TooLong, Device as File}

abbrev pub opening_fault : JournalFault → OpeningFault
opening_fault Memory = NoMemory
opening_fault Full = TooLong
opening_fault Device = File
