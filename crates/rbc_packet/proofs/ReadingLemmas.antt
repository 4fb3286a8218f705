-- Readers one after another.
use Rattle.std.proofs.Common.{◌≡◌, List, Bool, Result, Err, ap}
use Rattle.rbc_model.specs.declared.messages.Fault.{Fault}
use Rattle.rbc_model.specs.Readers.{Reader, rest_of_reading}

-- the first one's fault is the fault of all
pub reads_fault : {A B : Type 0} {t : Result (A × List Bool) Fault} (next : A → Reader B) {fault : Fault} → t ≡ Err fault → rest_of_reading t next ≡ Err fault
reads_fault next e = ap (λ u. rest_of_reading u next) e
