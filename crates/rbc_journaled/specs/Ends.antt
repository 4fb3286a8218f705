-- How a session with a journal ends.
use Rattle.std.specs.Prelude.{Bool, true, false, Result, Ok, Err}
use Rattle.rbc_model.specs.declared.sessions.SessionFault.{SessionFault}
use Rattle.rbc_journaled.specs.declared.fault.RunFault.{RunFault}
use Rattle.rbc_journaled.specs.declared.fault.RunFault.TheVariants.{Session, Journal}

-- as the session over the record did, unless the journal failed
abbrev pub run_end : Bool → Result (Unit {0}) SessionFault → Result (Unit {0}) RunFault
run_end true ended = Err Journal
run_end false (Ok done) = Ok done
run_end false (Err fault) = Err (Session fault)
