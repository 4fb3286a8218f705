-- The parts that were read of a message make its authority.
use Rattle.std.proofs.Common.{◌≡◌, ℕ, ℤ, ◌*◌, ◌/◌, Bool, true, List, [], length, Option, Some, Result, Ok, sym, ap, ap₂, ◌∙◌, subst}
use Rattle.rbc_model.specs.declared.messages.Fault.{Fault}
use Rattle.rbc_model.specs.declared.places.Format.TheVariants.{Far}
use Rattle.rbc_model.specs.Bits.{byte_bits}
use Rattle.rbc_model.specs.Levels.{Levels, speed_levels, grade_levels}
use Rattle.rbc_model.specs.Messages.{Authority, is_writable, authority_of}
use Rattle.rbc_model.specs.Profiles.{StepFunction, IsProfile}
use Rattle.rbc_model.specs.Reading.{header_at, packet_15_at, packet_21_at, packet_27_at, filling_at, value_of, read_message}
use Rattle.rbc_model.specs.Scales.{is_expressible, unit_of, scale_of, unit_of_scale}
use Rattle.rbc_model.proofs.FrameLemmas.{frame_of_end}
use Rattle.rbc_model.proofs.MessageReadLemmas.{packet_15-read, packet_21-read, packet_27-read}
use Rattle.rbc_model.proofs.ScaleLemmas.{writable, makes_authority}
use Rattle.rbc_model.proofs.RoundTripLemmas.{nominal_said}
use Rattle.rbc_model.proofs.SpellingLemmas.{go_on}
use Rattle.rbc_packet.proofs.PacketLemmas.{unit_said}
use Rattle.rbc_packet.specs.Authorities.{authority_with}
use Rattle.rbc_packet.specs.Frames.{header_view, frame_view}
use Rattle.rbc_packet.specs.declared.header.Header.{Header as TrainHeader}
use Rattle.rbc_packet.specs.declared.packet_15.Frame.{Frame as TrainFrame}

-- the end in metres is told by its scale and count
end_told : (end : ℕ) → is_expressible Far end ≡ true → unit_of_scale (scale_of end) * (end / unit_of end) ≡ end
end_told end far = ap (λ u. u * (end / unit_of end)) (unit_said end) ∙ (frame_of_end Far end far).end_is

-- a profile that ends at a metre that a message can give, with steps in units of it, is one that the message can give
writable_to : {V : Type 0} (levels : Levels V) (end told : ℕ) (profile : StepFunction V) → is_expressible Far end ≡ true → profile.end ≡ end → told ≡ end
    → IsProfile levels (unit_of told) 31 told profile.steps → is_writable profile ≡ true
writable_to levels end told profile far ends same is =
    writable levels 31 profile (subst (λ n. is_expressible Far n ≡ true) (sym ends) far)
    (subst (λ n. IsProfile levels (unit_of n) 31 n profile.steps) (same ∙ sym ends) is)

module _ (header : TrainHeader) (frame : TrainFrame) (speeds : StepFunction ℕ) (grades : StepFunction ℤ) where
  -- The parts stand one behind the other in the bits that are left.
  pub record AreRead (all b₁ b₂ b₃ b₄ : List Bool) (bytes : ℕ) : Type 0 where
    pub header_read : header_at bytes all ≡ Ok (header_view header, b₁)
    pub frame_read : packet_15_at Far b₁ ≡ Ok (frame_view frame, b₂)
    pub far : is_expressible Far frame.end ≡ true
    pub grades_read : packet_21_at (frame_view frame) b₂ ≡ Ok (grades.steps, b₃)
    pub grades_end : grades.end ≡ frame.end
    pub speeds_read : packet_27_at (frame_view frame) b₃ ≡ Ok (speeds.steps, b₄)
    pub speeds_end : speeds.end ≡ frame.end
    pub filling_read : filling_at b₄ ≡ Ok (tt, [])

  -- they make an authority
  pub makes_theirs : (all b₁ b₂ b₃ b₄ : List Bool) (bytes : ℕ) → AreRead all b₁ b₂ b₃ b₄ bytes
      → authority_of header.time header.group frame.nominal speeds grades ≡ Some (authority_with header.time header.group frame.nominal speeds grades)
  makes_theirs all b₁ b₂ b₃ b₄ bytes are =
      let ended = packet_15-read Far b₁ are.frame_read in
      let sloped = packet_21-read (frame_view frame) ended b₂ are.grades_read in
      let fast = packet_27-read (frame_view frame) ended b₃ are.speeds_read in
      let told = unit_of_scale (scale_of frame.end) * (frame.end / unit_of frame.end) in
      makes_authority header.time header.group frame.nominal speeds grades (are.grades_end ∙ sym are.speeds_end)
      (writable_to speed_levels frame.end told speeds are.far are.speeds_end (end_told frame.end are.far) fast.profile)
      (writable_to grade_levels frame.end told grades are.far are.grades_end (end_told frame.end are.far) sloped.profile)

  -- and the message tells it
  pub message_tells : (message : List ℕ) (b₁ b₂ b₃ b₄ : List Bool) → AreRead (byte_bits message) b₁ b₂ b₃ b₄ (length message)
      → read_message Far message ≡ Ok (authority_with header.time header.group frame.nominal speeds grades)
  message_tells message b₁ b₂ b₃ b₄ are =
      ap value_of (go_on _ are.header_read (go_on _ are.frame_read (go_on _ are.grades_read (go_on _ are.speeds_read (go_on _ are.filling_read
      (ap₂ (λ (nominal : Bool) (end : ℕ). Ok (record { time = header.time; group = header.group; nominal = nominal; end = end; speeds = speeds.steps; grades = grades.steps }, []))
      (nominal_said frame.nominal) (end_told frame.end are.far ∙ sym are.speeds_end)))))))

  -- so what is made of them is what the message tells
  pub tells_made : (message : List ℕ) (b₁ b₂ b₃ b₄ : List Bool) (made : Option Authority) (authority : Authority) → AreRead (byte_bits message) b₁ b₂ b₃ b₄ (length message)
      → made ≡ authority_of header.time header.group frame.nominal speeds grades → made ≡ Some authority → Ok authority ≡ read_message Far message
  tells_made message b₁ b₂ b₃ b₄ made authority are is some =
      same made authority (authority_with header.time header.group frame.nominal speeds grades) some (is ∙ makes_theirs (byte_bits message) b₁ b₂ b₃ b₄ (length message) are)
      ∙ sym (message_tells message b₁ b₂ b₃ b₄ are)
    where
      read : Authority → Result Authority Fault
      read a = Ok a

      one : (made : Option Authority) (a b : Authority) → made ≡ Some a → made ≡ Some b → a ≡ b
      one made a b h k = cc

      same : (made : Option Authority) (a b : Authority) → made ≡ Some a → made ≡ Some b → read a ≡ read b
      same made a b h k = ap read (one made a b h k)
