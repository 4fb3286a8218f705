-- Certificates that are printed, as text.
use Rattle.std.specs.Prelude.{◌≡◌, ℕ, ℤ, ◌<◌, IsTrue, List}
use Rattle.rbc_model.specs.Kinds.{Kind}
use Rattle.rbc_model.specs.Levels.{Levels}
use Rattle.rbc_model.specs.Messages.{Authority}
use Rattle.rbc_model.specs.Profiles.{StepFunction, value_at, loss}
use Rattle.rbc_model.specs.StepsReply.{certificate}
use Rattle.rbc_words.specs.PriceText.{prices_of}
use Rattle.rbc_words.specs.declared.steps_reply.Basis.{Basis}

-- the certificate of a profile with this end and these steps
abbrev pub certificate_text : {V : Type 0} → Kind V → ℕ → List (ℕ × V) → Basis V → List ℕ
certificate_text kind end steps basis =
    certificate kind (record { limit = basis.limit; runs = basis.track.now.steps; end = end }) steps (prices_of basis.prices.now)

-- The profile ends where the track does, and loses this.
pub record IsLossOn {V : Type 0} (levels : Levels V) (profile track : StepFunction V) (lost : ℕ) : Type 0 where
  pub ends : track.end ≡ profile.end
  pub loss : lost ≡ loss levels profile.end (value_at track.steps) profile.steps

-- the profiles of an authority
abbrev pub speeds_of : Authority → StepFunction ℕ
speeds_of authority = record { steps = authority.speeds; end = authority.end }

abbrev pub grades_of : Authority → StepFunction ℤ
grades_of authority = record { steps = authority.grades; end = authority.end }
