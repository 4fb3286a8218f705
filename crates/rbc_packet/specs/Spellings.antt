-- Messages have one spelling.
use Rattle.std.specs.Prelude.{◌≡◌, ◌↔◌, ℕ, List, Result, Ok}
use Rattle.rbc_model.specs.declared.places.Format.TheVariants.{Far}
use Rattle.rbc_model.specs.declared.messages.Fault.{Fault}
use Rattle.rbc_model.specs.Messages.{Authority, IsAuthority, message_bytes}

-- An authority was read if the bytes are its message, and only then: what was written is read back, and nothing else is read.
unfoldable pub IsOneSpelling : List ℕ → Result Authority Fault → Type 0
IsOneSpelling bytes result = (a : Authority) → (result ≡ Ok a) ↔ (IsAuthority Far a × (bytes ≡ message_bytes a))
