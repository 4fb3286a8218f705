use Rattle.rbc_model.specs.Levels.{speed_levels, grade_levels}
use Rattle.rbc_model.proofs.LevelLemmas.{speed_lawful, grade_lawful}
use Rattle.rbc_table_laws.proofs.TableLawLemmas.{sound_tables_bound, greatest_tables_are_reached}
use Rattle.rbc_table_laws.proofs.price_tables_show.Goals as goal

pub returns-clause-speeds_bound : goal.returns-clause-speeds_bound
returns-clause-speeds_bound c = sound_tables_bound speed_levels speed_lawful

pub returns-clause-grades_bound : goal.returns-clause-grades_bound
returns-clause-grades_bound c = sound_tables_bound grade_levels grade_lawful

pub returns-clause-speeds_reached : goal.returns-clause-speeds_reached
returns-clause-speeds_reached c = greatest_tables_are_reached speed_levels speed_lawful

pub returns-clause-grades_reached : goal.returns-clause-grades_reached
returns-clause-grades_reached c = greatest_tables_are_reached grade_levels grade_lawful
