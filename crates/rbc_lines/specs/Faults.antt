-- Why lines are not written to their end.
use Rattle.rbc_model.specs.declared.sessions.SessionFault.{SessionFault}
use Rattle.rbc_model.specs.declared.sessions.SessionFault.TheVariants.{Memory, Write}
use Rattle.rbc_lines.specs.declared.scene.LinesFault.{LinesFault}
use Rattle.rbc_lines.specs.declared.scene.LinesFault.TheVariants.{Memory as NoMemory, Write as NoWrite}

-- the fault that a session ends with then
abbrev pub session_fault : LinesFault → SessionFault
session_fault NoMemory = Memory
session_fault NoWrite = Write
