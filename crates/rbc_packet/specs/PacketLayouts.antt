-- Packets 21 and 27 have the fields that their layouts say.
use Rattle.std.proofs.Common.{◌≡◌, ℕ, suc, Bool, ℤ, List, [], ◌∷◌, length, refl, append_assoc}
use Rattle.rbc_model.specs.declared.messages.FieldName.TheVariants.{N_ITER}
use Rattle.rbc_model.specs.Messages.{packet_21, gradient_fields, gradient_elements, packet_27, speed_elements}
use Rattle.rbc_model.specs.Scales.{unit_of}
use Rattle.rbc_packet.specs.Layouts.{elements, profile_fields, gradient_layout, speed_layout}

gradient_elements-laid_out : (unit end from : ℕ) (later : List (ℕ × ℤ))
    → gradient_elements unit end from later ≡ elements gradient_layout unit end from later
gradient_elements-laid_out unit end from [] = refl
gradient_elements-laid_out unit end from (step ∷ later) = rw (gradient_elements-laid_out unit end step.0 later) refl

pub packet_21-laid_out : (nominal : Bool) (end : ℕ) (steps : List (ℕ × ℤ))
    → packet_21 nominal end steps ≡ profile_fields gradient_layout nominal end steps
packet_21-laid_out nominal end [] = refl
packet_21-laid_out nominal end (first ∷ later) =
    let last = elements gradient_layout (unit_of end) end 0 later in
    rw (
      gradient_elements-laid_out (unit_of end) end 0 later,
      append_assoc (gradient_fields first.1) ((N_ITER, suc (length later)) ∷ []) last,
    ) refl

speed_elements-laid_out : (unit end from : ℕ) (later : List (ℕ × ℕ))
    → speed_elements unit end from later ≡ elements speed_layout unit end from later
speed_elements-laid_out unit end from [] = refl
speed_elements-laid_out unit end from (step ∷ later) = rw (speed_elements-laid_out unit end step.0 later) refl

pub packet_27-laid_out : (nominal : Bool) (end : ℕ) (steps : List (ℕ × ℕ))
    → packet_27 nominal end steps ≡ profile_fields speed_layout nominal end steps
packet_27-laid_out nominal end [] = refl
packet_27-laid_out nominal end (first ∷ later) = rw (speed_elements-laid_out (unit_of end) end 0 later) refl
