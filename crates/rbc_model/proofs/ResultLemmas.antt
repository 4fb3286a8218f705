-- Results that are not the same, and what is known of each.
use Rattle.std.proofs.Common.{◌≡◌, Result, Ok, Err}
use Rattle.std.specs.Prelude.{OnErr}
use Rattle.rbc_model.specs.declared.sessions.SessionFault.{SessionFault}
use Rattle.rbc_model.specs.declared.sessions.SessionFault.TheVariants.{Read, Write}

pub ok_is_no_err : {V E : Type 0} {result : Result V E} {value : V} {fault : E} → result ≡ Ok value → result ≡ Err fault → ⊥
ok_is_no_err is_ok is_err = cc

pub read_is_not_write : {V : Type 0} {result : Result V SessionFault} → result ≡ Err Read → result ≡ Err Write → ⊥
read_is_not_write read write = cc

pub on_err : {V E : Type 0} (result : Result V E) (P : Type 0) → P → OnErr result P
on_err (Ok value) P p = tt
on_err (Err fault) P p = p
