use Rattle.rbc_model.specs.Levels.{speed_levels, grade_levels}
use Rattle.rbc_model.proofs.LevelLemmas.{speed_lawful, grade_lawful}
use Rattle.rbc_table_laws.proofs.TableLawLemmas.{shortest_are_at_breaks, best_have_floors, one_chosen}
use Rattle.rbc_table_laws.proofs.best_profiles_are.Goals as goal

pub returns-clause-speeds_at_breaks : goal.returns-clause-speeds_at_breaks
returns-clause-speeds_at_breaks c = shortest_are_at_breaks speed_levels speed_lawful

pub returns-clause-grades_at_breaks : goal.returns-clause-grades_at_breaks
returns-clause-grades_at_breaks c = shortest_are_at_breaks grade_levels grade_lawful

pub returns-clause-speeds_floors : goal.returns-clause-speeds_floors
returns-clause-speeds_floors c = best_have_floors speed_levels speed_lawful

pub returns-clause-grades_floors : goal.returns-clause-grades_floors
returns-clause-grades_floors c = best_have_floors grade_levels grade_lawful

pub returns-clause-speeds_one : goal.returns-clause-speeds_one
returns-clause-speeds_one c = one_chosen speed_levels speed_lawful

pub returns-clause-grades_one : goal.returns-clause-grades_one
returns-clause-grades_one c = one_chosen grade_levels grade_lawful
