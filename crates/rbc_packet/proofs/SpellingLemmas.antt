-- What is read of a message is its one spelling.
use Rattle.std.proofs.Common.{◌≡◌, ◌↔◌, ℕ, List, Result, Ok, sym, subst}
use Rattle.rbc_model.specs.declared.places.Format.TheVariants.{Far}
use Rattle.rbc_model.specs.declared.messages.Fault.{Fault}
use Rattle.rbc_model.specs.Bits.{IsBytes}
use Rattle.rbc_model.specs.Messages.{Authority, IsAuthority, message_bytes}
use Rattle.rbc_model.specs.Reading.{read_message}
use Rattle.rbc_model.proofs.RoundTripLemmas.{round_trip_far}
use Rattle.rbc_packet.specs.Spellings.{IsOneSpelling}

pub spelled_once : (bytes : List ℕ) (result : Result Authority Fault) → IsBytes bytes → result ≡ read_message Far bytes → IsOneSpelling bytes result
unfolding IsOneSpelling
spelled_once bytes result are read = λ a. subst (λ r. (r ≡ Ok a) ↔ (IsAuthority Far a × (bytes ≡ message_bytes a))) (sym read) (round_trip_far bytes a are)
