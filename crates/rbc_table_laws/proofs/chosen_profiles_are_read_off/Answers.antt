use Rattle.rbc_model.specs.Levels.{speed_levels, grade_levels}
use Rattle.rbc_model.proofs.LevelLemmas.{speed_lawful, grade_lawful}
use Rattle.rbc_table_laws.proofs.TableLawLemmas.{searches_are_found, tables_are_readable, read_off_are_chosen}
use Rattle.rbc_table_laws.proofs.chosen_profiles_are_read_off.Goals as goal

pub returns-clause-speeds_found : goal.returns-clause-speeds_found
returns-clause-speeds_found c = searches_are_found speed_levels speed_lawful

pub returns-clause-grades_found : goal.returns-clause-grades_found
returns-clause-grades_found c = searches_are_found grade_levels grade_lawful

pub returns-clause-speeds_readable : goal.returns-clause-speeds_readable
returns-clause-speeds_readable c = tables_are_readable speed_levels speed_lawful

pub returns-clause-grades_readable : goal.returns-clause-grades_readable
returns-clause-grades_readable c = tables_are_readable grade_levels grade_lawful

pub returns-clause-speeds_chosen : goal.returns-clause-speeds_chosen
returns-clause-speeds_chosen c = read_off_are_chosen speed_levels speed_lawful

pub returns-clause-grades_chosen : goal.returns-clause-grades_chosen
returns-clause-grades_chosen c = read_off_are_chosen grade_levels grade_lawful
