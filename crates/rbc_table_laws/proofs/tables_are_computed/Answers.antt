use Rattle.rbc_model.specs.Levels.{speed_levels, grade_levels}
use Rattle.rbc_model.proofs.LevelLemmas.{speed_lawful, grade_lawful}
use Rattle.rbc_table_laws.proofs.LeastTableLemmas.{greatest_tables_are_one, least_prices_are_greatest, steps_read_are_chosen}
use Rattle.rbc_table_laws.proofs.tables_are_computed.Goals as goal

pub returns-clause-speeds_one : goal.returns-clause-speeds_one
returns-clause-speeds_one c = greatest_tables_are_one speed_levels speed_lawful

pub returns-clause-grades_one : goal.returns-clause-grades_one
returns-clause-grades_one c = greatest_tables_are_one grade_levels grade_lawful

pub returns-clause-speeds_greatest : goal.returns-clause-speeds_greatest
returns-clause-speeds_greatest c = least_prices_are_greatest speed_levels speed_lawful

pub returns-clause-grades_greatest : goal.returns-clause-grades_greatest
returns-clause-grades_greatest c = least_prices_are_greatest grade_levels grade_lawful

pub returns-clause-speeds_chosen : goal.returns-clause-speeds_chosen
returns-clause-speeds_chosen c = steps_read_are_chosen speed_levels speed_lawful

pub returns-clause-grades_chosen : goal.returns-clause-grades_chosen
returns-clause-grades_chosen c = steps_read_are_chosen grade_levels grade_lawful
