use Rattle.std.proofs.Common.{◌≡◌, ◌≤◌, length, map}
use Rattle.rbc_model.specs.Scales.{unit_of}
use Rattle.rbc_table_laws.specs.PriceRows.{prices_of}
use Rattle.rbc_table_laws.specs.Stretches.{cost_of_step}
use Rattle.rbc_costs.specs.Stretches.{AreCosts}
use Rattle.rbc_price.specs.Places.{IsTooHigh}
use Rattle.rbc_price.specs.declared.places.PricePlace.{PricePlace}
use Rattle.rbc_price.proofs.sound.is_sound_in.Given as goal

abbrev pub invariant-loop-column : goal.invariant-loop-column
invariant-loop-column g l =
    record {
      width : length l.before.items ≡ l._column;
      costs : AreCosts (cost_of_step g.V.Level.levels (unit_of l.track.end) l.track) (map g.N.Total.number l.before.items);
      sound : (place : PricePlace) → place.to ≤ l._column → IsTooHigh g.V.Level.levels l.track (prices_of l.rows) place → ⊥;
    }
