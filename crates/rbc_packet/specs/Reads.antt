-- What a call makes of the bits that it reads from.
use Rattle.std.specs.Prelude.{◌≡◌, Bool, List, Result, Ok, Err}
use Rattle.rbc_model.specs.declared.messages.Fault.{Fault}
use Rattle.rbc_model.specs.Readers.{Reader}

-- the call does as a reader: on Ok the reader's value, and the bits after it are left; on Err the reader's fault
abbrev pub Reads : {A : Type 0} → Reader A → List Bool → List Bool → Result A Fault → Type 0
Reads reader old new (Ok x) = reader old ≡ Ok (x, new)
Reads reader old new (Err fault) = reader old ≡ Err fault

-- the call does as a reader, and its value is seen as the reader's
abbrev pub ReadsAs : {A B : Type 0} → (B → A) → Reader A → List Bool → List Bool → Result B Fault → Type 0
ReadsAs view reader old new (Ok x) = reader old ≡ Ok (view x, new)
ReadsAs view reader old new (Err fault) = reader old ≡ Err fault
