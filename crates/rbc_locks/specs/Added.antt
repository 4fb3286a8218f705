-- One section locked, or why it can't be.
use Rattle.std.specs.Prelude.{ℕ, Option, Result, Ok, option_map, option_and_then}
use Rattle.rbc_model.specs.declared.places.Leg.{Leg}
use Rattle.rbc_model.specs.declared.refusals.Refusal.{Refusal}
use Rattle.rbc_model.specs.declared.refusals.Refusal.TheVariants.{Clash, LinkTaken}
use Rattle.rbc_model.specs.Locks.{Locks, row, next, with_row}
use Rattle.rbc_model.specs.Results.{unless}

-- the leg before, where a section is locked behind it already
abbrev pub taken_before : Locks → Option Leg → Option Leg
taken_before locks before = option_and_then (λ leg. option_map (λ _. leg) (next locks leg)) before

-- the locks with one row more, unless the section of the leg has one, or a section is locked behind the leg before
abbrev pub added : Locks → ℕ → Leg → Option Leg → Result Locks Refusal
added locks route leg before =
    unless (option_map (λ _. Clash leg.section) (row locks leg.section))
    (unless (option_map LinkTaken (taken_before locks before)) (Ok (with_row route locks (leg, before))))
