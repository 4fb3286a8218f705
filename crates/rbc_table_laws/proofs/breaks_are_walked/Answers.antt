use Rattle.rbc_model.specs.Levels.{speed_levels, grade_levels}
use Rattle.rbc_model.proofs.LevelLemmas.{speed_lawful, grade_lawful}
use Rattle.rbc_table_laws.proofs.TableLawLemmas.{breaks_walked}
use Rattle.rbc_table_laws.proofs.breaks_are_walked.Goals as goal

pub returns-clause-speeds : goal.returns-clause-speeds
returns-clause-speeds c = breaks_walked speed_levels speed_lawful

pub returns-clause-grades : goal.returns-clause-grades
returns-clause-grades c = breaks_walked grade_levels grade_lawful
