-- The laws of price tables, for each lawful kind of level.
use Rattle.std.proofs.Common.{◌∙◌}
use Rattle.rbc_model.specs.Levels.{Levels, IsLawful}
use Rattle.rbc_model.specs.Profiles.{starts_of}
use Rattle.rbc_table_laws.specs.TableLaws.{SoundTablesBound, GreatestTablesAreReached}
use Rattle.rbc_table_laws.specs.Tracebacks.{ShortestAreAtBreaks, BestHaveFloors, ChosenAreOne, SearchesAreFound, TablesAreReadable, ReadOffAreChosen}
use Rattle.rbc_table_laws.proofs.BoundLemmas.{price_at_most_loss, row_price_at_most_loss, best_of_price}
use Rattle.rbc_table_laws.proofs.AttainedPriceLemmas.{attained, price_of_best}
use Rattle.rbc_table_laws.proofs.TraceLemmas.{shortest_at_breaks, chosen_of_read}
use Rattle.rbc_table_laws.proofs.FloorLemmas.{best_has_floors, chosen_are_one}
use Rattle.rbc_table_laws.proofs.SearchLemmas.{is_found}
use Rattle.rbc_table_laws.proofs.ReadOffLemmas.{readable}
use Rattle.rbc_table_laws.specs.Stretches.{BreaksAreWalked}
use Rattle.rbc_table_laws.proofs.WalkedBreakLemmas.{are_breaks_for, are_walked}
use Rattle.rbc_table_laws.proofs.TrackBreakLemmas.{breaks_are}

module _ {V : Type 0} (levels : Levels V) (lawful : IsLawful levels) where
  pub sound_tables_bound : SoundTablesBound levels
  sound_tables_bound = λ unit limit n some whole runs track rows sound. record {
    least = price_at_most_loss levels lawful unit limit n some whole runs track rows sound;
    least_of_row = row_price_at_most_loss levels lawful unit limit n some whole runs track rows sound;
    best = best_of_price levels lawful unit limit n some whole runs track rows sound;
  }

  pub greatest_tables_are_reached : GreatestTablesAreReached levels
  greatest_tables_are_reached = λ unit limit n some whole some_steps runs track rows greatest.
      let there = attained levels lawful unit limit n some whole some_steps runs track rows greatest in
      record {
        steps = there.steps;
        reached = (there.best, there.price);
        of_best = price_of_best levels lawful unit limit n some whole some_steps runs track rows greatest;
      }

  pub shortest_are_at_breaks : ShortestAreAtBreaks levels
  shortest_are_at_breaks = λ unit limit n some whole runs track. shortest_at_breaks levels lawful unit limit n some whole runs track

  pub best_have_floors : BestHaveFloors levels
  best_have_floors = λ unit limit n some whole runs track. best_has_floors levels lawful unit limit n some whole runs track

  pub one_chosen : ChosenAreOne levels
  one_chosen = λ unit limit n some whole runs track. chosen_are_one levels lawful unit limit n some whole runs track

  pub searches_are_found : SearchesAreFound levels
  searches_are_found = λ unit limit n some whole runs track rows greatest. is_found levels unit limit n runs rows greatest lawful some whole track

  pub tables_are_readable : TablesAreReadable levels
  tables_are_readable = λ unit limit n some whole some_steps runs track rows greatest. readable levels lawful unit limit n some whole runs track rows greatest some_steps

  pub read_off_are_chosen : ReadOffAreChosen levels
  read_off_are_chosen = λ unit limit n some whole runs track rows greatest steps read. chosen_of_read levels lawful unit limit n some whole runs track rows greatest steps read

  pub breaks_walked : BreaksAreWalked levels
  breaks_walked = λ unit some track whole function edges are. (
    are_breaks_for levels lawful unit some track.end whole track.steps function,
    are_walked levels lawful unit some track.end whole track.steps function edges
        (are.are ∙ breaks_are track.end (starts_of track.steps) function.starts.rising function.starts.inside),
  )
