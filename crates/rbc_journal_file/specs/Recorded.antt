use Rattle.rbc_journal_file.specs.declared.past.Past.{Past}
use Rattle.rbc_journal_file.specs.declared.recorded.Recorded.{Recorded}

-- what was asked of a file
abbrev pub past_of : {C : Type 0} → Recorded C → Past
past_of file = file.past.value
