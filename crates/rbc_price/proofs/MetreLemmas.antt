-- A walk over a track and a profile, and the first metre at which the profile is above.
use Rattle.std.proofs.Common.{◌≡◌, refl, ◌∙◌, arith, ℕ, ◌<◌, ◌≤◌, inl, inr, true, List, get_or, Option, Some, None}
use Rattle.std.proofs.lemmas.Bool.{cases_lt}
use Rattle.rbc_model.specs.declared.prices.Reason.TheVariants.{Above}
use Rattle.rbc_model.specs.Levels.{Levels}
use Rattle.rbc_model.specs.Profiles.{StepFunction, value_at, is_within}
use Rattle.rbc_model.specs.PriceChecks.{above_at, first_above}
use Rattle.rbc_steps.proofs.PlaceLemmas.{value_at-index}
use Rattle.rbc_steps.proofs.StretchLemmas.{Holds}
use Rattle.rbc_price.specs.Metres.{AreWithin, IsFirstAbove}
use Rattle.rbc_price.proofs.SearchLemmas.{first_from-none, first_from-some, or_none, or_some}

-- the value at a metre is that of the row that holds it
pub value_now : {V : Type 0} (n : ℕ) (rows : List (ℕ × V)) (i x : ℕ) (d : ℕ × V) → Holds n rows i x → x < n → value_at rows x ≡ Some (get_or rows i d).1
value_now n rows i x d holds inside = value_at-index rows i x d (holds.within inside) (holds.begun d inside) (λ k h l. holds.later k d h l)

module _ {V : Type 0} (levels : Levels V) where
  pub within_is : (o p : Option V) (track given : V) → o ≡ Some track → p ≡ Some given → is_within levels o p ≡ levels.at_most given track
  within_is o p track given e f = rw (e, f) refl

  -- a stretch further
  pub within_on : (runs steps : List (ℕ × V)) (from to : ℕ) (track given : V) → AreWithin levels runs steps from
      → ((y : ℕ) → from ≤ y → y < to → value_at runs y ≡ Some track) → ((y : ℕ) → from ≤ y → y < to → value_at steps y ≡ Some given)
      → levels.at_most given track ≡ true → AreWithin levels runs steps to
  within_on runs steps from to track given before r s h = λ x below. elim (cases_lt x from) [
    | inl early ↦ before x early
    | inr late ↦ within_is (value_at runs x) (value_at steps x) track given (r x late below) (s x late below) ∙ h
  ]

  module _ (track profile : StepFunction V) where
    pub none_above : IsFirstAbove levels track.steps profile.steps track.end None → first_above levels track profile ≡ None
    none_above f = first_from-none 0 track.end (above_at levels track profile)
        (λ x low high. or_none (is_within levels (value_at track.steps x) (value_at profile.steps x)) (Above x) (f x (omega arith)))

    pub some_above : (x : ℕ) → IsFirstAbove levels track.steps profile.steps track.end (Some x) → first_above levels track profile ≡ Some (Above x)
    some_above x f = first_from-some 0 track.end x (above_at levels track profile) (Above x) (omega arith) (omega (arith, f.0))
        (or_some (is_within levels (value_at track.steps x) (value_at profile.steps x)) (Above x) f.1)
        (λ y low high. or_none (is_within levels (value_at track.steps y) (value_at profile.steps y)) (Above y) (f.2 y high))
