use Rattle.rbc_good_laws.proofs.ScenesStayLemmas.{empty_scenes_are_told, led_scenes_pass, scenes_stay_told}
use Rattle.rbc_good_laws.proofs.ToldLemmas.{told_scenes_decided, told_trains_decided}
use Rattle.rbc_good_laws.proofs.scenes_stay_told.Goals as goal

pub returns-clause-trains : goal.returns-clause-trains
returns-clause-trains c = told_trains_decided

pub returns-clause-scenes : goal.returns-clause-scenes
returns-clause-scenes c = told_scenes_decided

pub returns-clause-empty : goal.returns-clause-empty
returns-clause-empty c = empty_scenes_are_told

pub returns-clause-kept : goal.returns-clause-kept
returns-clause-kept c = scenes_stay_told

pub returns-clause-histories : goal.returns-clause-histories
returns-clause-histories c = led_scenes_pass
