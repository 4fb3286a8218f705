-- Worked checks of price tables: a certificate, and forgeries of it.
use Rattle.std.proofs.Common.{◌≡◌, ℕ, List, [], ◌∷◌, refl, Result, Ok, Err}
use Rattle.rbc_model.specs.declared.prices.Reason.{Reason}
use Rattle.rbc_model.specs.declared.prices.Reason.TheVariants.{Shape, Above, Inequality, NotAttained, Steps}
use Rattle.rbc_model.specs.Levels.{speed_levels}
use Rattle.rbc_model.specs.Profiles.{StepFunction}
use Rattle.rbc_model.specs.PriceChecks.{price_check}

-- ---- 0:160 100:120 150:160 end 300, of which two steps lose 4,000

abbrev dip : StepFunction ℕ
dip = record { steps = (0, 160) ∷ (100, 120) ∷ (150, 160) ∷ []; end = 300 }

abbrev dip_steps : StepFunction ℕ
dip_steps = record { steps = (0, 120) ∷ (150, 160) ∷ []; end = 300 }

abbrev dip_prices : List (List ℕ)
dip_prices = (0 ∷ 4000 ∷ 10000 ∷ []) ∷ (0 ∷ 0 ∷ 4000 ∷ []) ∷ []

pub certified : price_check speed_levels 2 dip dip_steps dip_prices ≡ Ok tt
certified = refl

-- the last price is too low
pub not_attained : price_check speed_levels 2 dip dip_steps ((0 ∷ 4000 ∷ 10000 ∷ []) ∷ (0 ∷ 0 ∷ 3999 ∷ []) ∷ []) ≡ Err NotAttained
not_attained = refl

-- each price is 0
pub all_zero : price_check speed_levels 2 dip dip_steps ((0 ∷ 0 ∷ 0 ∷ []) ∷ (0 ∷ 0 ∷ 0 ∷ []) ∷ []) ≡ Err NotAttained
all_zero = refl

-- a price of one step is too high
pub too_high : price_check speed_levels 2 dip dip_steps ((0 ∷ 4001 ∷ 10000 ∷ []) ∷ (0 ∷ 0 ∷ 4000 ∷ []) ∷ []) ≡ Err (Inequality 1 0 150)
too_high = refl

-- of several prices that are too high the one in the first row is told, and there the one up to the first break
pub first_too_high : price_check speed_levels 2 dip dip_steps ((0 ∷ 4000 ∷ 10001 ∷ []) ∷ (1 ∷ 0 ∷ 4000 ∷ []) ∷ []) ≡ Err (Inequality 1 0 300)
first_too_high = refl

-- the second step is above the track
pub above : price_check speed_levels 2 dip (record { steps = (0, 120) ∷ (150, 165) ∷ []; end = 300 }) dip_prices ≡ Err (Above 150)
above = refl

-- two steps where one is allowed
pub steps : price_check speed_levels 1 dip dip_steps ((0 ∷ 4000 ∷ 4000 ∷ []) ∷ []) ≡ Err Steps
steps = refl

-- a row too few, a price too many, no step, and another end; the shape is told before a step above the track
pub row_too_few : price_check speed_levels 2 dip (record { steps = (0, 120) ∷ (150, 165) ∷ []; end = 300 }) ((0 ∷ 4000 ∷ 10000 ∷ []) ∷ []) ≡ Err Shape
row_too_few = refl

pub price_too_many : price_check speed_levels 2 dip dip_steps ((0 ∷ 4000 ∷ 10000 ∷ 10000 ∷ []) ∷ (0 ∷ 0 ∷ 4000 ∷ []) ∷ []) ≡ Err Shape
price_too_many = refl

pub no_step : price_check speed_levels 0 dip dip_steps [] ≡ Err Shape
no_step = refl

pub other_end : price_check speed_levels 2 dip (record dip_steps { end = 299 }) dip_prices ≡ Err Shape
other_end = refl

-- ---- 0:100 100:115 200:125 300:140 end 400

abbrev rise : StepFunction ℕ
rise = record { steps = (0, 100) ∷ (100, 115) ∷ (200, 125) ∷ (300, 140) ∷ []; end = 400 }

-- a price of two steps that only a step over three runs shows to be too high
pub over_three_runs : price_check speed_levels 2 rise (record { steps = (0, 100) ∷ (300, 140) ∷ []; end = 400 })
    ((0 ∷ 1500 ∷ 4000 ∷ 8000 ∷ []) ∷ (0 ∷ 0 ∷ 1000 ∷ 4000 ∷ []) ∷ []) ≡ Err (Inequality 2 100 400)
over_three_runs = refl

-- ---- tens of metres: beyond 32,000 m the end and the cuts are multiples of ten

-- a track that changes at one metre, and a profile that is cut at another, with a table that has two rows of prices for three breaks
abbrev tens : ℕ → ℕ → Result (Unit {0}) Reason
tens end cut =
    price_check speed_levels 2 (record { steps = (0, 160) ∷ (31998, 120) ∷ []; end = end }) (record { steps = (0, 160) ∷ (cut, 120) ∷ []; end = end })
    ((0 ∷ 0 ∷ 0 ∷ []) ∷ (0 ∷ 0 ∷ 0 ∷ []) ∷ [])

pub uneven_end : tens 32013 31990 ≡ Err Shape
uneven_end = refl

-- though it is the track itself, and loses nothing
pub uneven_cut : tens 32010 31998 ≡ Err Shape
uneven_cut = refl

pub even_cut : tens 32010 31990 ≡ Err NotAttained
even_cut = refl
