-- What the parts of a message wrote is read: how a proof goes from field to field.
use Rattle.std.proofs.Common.{◌≡◌, ℕ, ◌≤◌, Bool, true, List, ap, ◌∙◌, Result, Ok}
use Rattle.std.proofs.lemmas.Bool.{le-leb}
use Rattle.rbc_model.specs.Results.{is_from_to}
use Rattle.rbc_model.specs.Readers.{Reader, rest_of_reading}
use Rattle.rbc_model.specs.declared.messages.Fault.{Fault}

-- a reader's answer goes on
pub go_on : {A B : Type 0} {t : Result (A × List Bool) Fault} (f : A → Reader B) {x : A} {rest : List Bool} {z : Result (B × List Bool) Fault} → t ≡ Ok (x, rest) → f x rest ≡ z → rest_of_reading t f ≡ z
go_on f e next = ap (λ u. rest_of_reading u f) e ∙ next

-- a value within its range passes the test
pub within : (low high v : ℕ) → low ≤ v → v ≤ high → is_from_to low high v ≡ true
within low high v below above = cc (le-leb low v below, le-leb v high above)
