-- The fields of a profile's packet, step by step.
use Rattle.std.proofs.Common.{◌≡◌, ℕ, ◌+◌, ◌-◌, ◌/◌, ◌<◌, ◌≤◌, Bool, List, [], ◌∷◌, ◌++◌, length, refl, arith, take, drop, get_or}
use Rattle.std.proofs.lemmas.List.{take_rest, drop_all}
use Rattle.rbc_model.specs.Messages.{direction_of}
use Rattle.rbc_model.specs.Scales.{unit_of, scale_of}
use Rattle.rbc_packet.specs.Layouts.{Layout, elements, profile_head, profile_fields}
use Rattle.rbc_packet.proofs.RestLemmas.{drop_at_step}

module _ {V : Type 0} (layout : Layout V) (end : ℕ) where
  pub profile-parts : (nominal : Bool) (steps : List (ℕ × V)) (first : ℕ × V)
      → 0 < length steps → first ≡ get_or steps 0 first
      → profile_fields layout nominal end steps ≡ profile_head layout (direction_of nominal) (scale_of end) first.1 (length steps)
      ++ elements layout (unit_of end) end 0 (take (length steps - 1) (drop 1 steps))
  profile-parts nominal [] first some is = absurd (omega arith)
  profile-parts nominal (step ∷ later) first some is = rw (is, take_rest (step ∷ later) 1) refl

  -- one step more
  pub elements-at : (unit from : ℕ) (later : List (ℕ × V)) (i : ℕ) (step : ℕ × V) → i < length later → step ≡ get_or later i step
      → elements layout unit end from (drop i later)
      ≡ ((layout.distance, (step.0 - from) / unit) ∷ layout.value_fields step.1) ++ elements layout unit end step.0 (drop (i + 1) later)
  elements-at unit from later i step inside is = rw (drop_at_step later i step inside is) refl

  -- no step more
  pub elements-end : (unit from : ℕ) (later : List (ℕ × V)) (i : ℕ) → length later ≤ i
      → elements layout unit end from (drop i later) ≡ (layout.distance, (end - from) / unit) ∷ layout.mark_fields
  elements-end unit from later i past = rw (drop_all i later past) refl
