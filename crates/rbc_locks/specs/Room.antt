-- Why a route can't be locked, and when the rows that it needs can be added, one after the other, so that no row is lost and no leg stands before two rows.
use Rattle.std.specs.Prelude.{◌≡◌, ℕ, ◌<◌, List, [], ◌∷◌, length, Option, Some, None, option_map}
use Rattle.std.specs.Option.{option_or}
use Rattle.rbc_model.specs.declared.places.Leg.{Leg}
use Rattle.rbc_model.specs.declared.refusals.Refusal.{Refusal}
use Rattle.rbc_model.specs.declared.refusals.Refusal.TheVariants.{Clash, LinkTaken}
use Rattle.rbc_model.specs.Tracks.{Route}
use Rattle.rbc_model.specs.Locks.{Locks, row, next, clash, taken_link, with_row}

-- a leg, which is not locked, can be locked behind a leg that no section is locked behind yet, or behind none
pub record HasRoom (locks : Locks) (need : Leg × Option Leg) : Type 0 where
  pub of_track : need.0.section < length locks
  pub not_locked : row locks need.0.section ≡ None
  pub before_of_track : (before : Leg) → need.1 ≡ Some before → before.section < length locks
  pub free : (before : Leg) → need.1 ≡ Some before → next locks before ≡ None

-- each leg can be locked, once those before it are
abbrev pub HaveRoom : ℕ → Locks → List (Leg × Option Leg) → Type 0
HaveRoom route locks [] = Unit {0}
HaveRoom route locks (need ∷ needs) = HasRoom locks need × HaveRoom route (with_row route locks need) needs

-- why a route can't be locked
abbrev pub lock_refusal : Locks → Route → Option Refusal
lock_refusal locks route = option_or (option_map Clash (clash locks route)) (option_map LinkTaken (taken_link locks route))
