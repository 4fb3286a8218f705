-- The train after its report is apart from the others, so the book takes it and the scene stays good.
use Rattle.std.proofs.Common.{◌∙◌, sym}
use Rattle.rbc_scene.proofs.KeepingLemmas.{apart_then, kept_placed, steps_placed}
use Rattle.rbc_scene.proofs.scene.Scene.report.Goals as goal

pub set_place-requires-clause-apart : goal.set_place-requires-clause-apart
set_place-requires-clause-apart c =
    apart_then c.self.inside.locks c.self.inside.book c.args.self.now c.self.view_is c.self.invariant c.args.report.now c.in_ok-train.train.train (sym c.is_crowded.ensures ∙ c.if-is_crowded.false)
    c.in_ok-train.ensures.reported

pub invariant_of-self-2 : goal.invariant_of-self-2
invariant_of-self-2 c =
    kept_placed c.self.inside.locks c.self.inside.book c.args.self.now c.self.view_is c.self.invariant c.args.report.now c.in_ok-train.train.train (sym c.is_crowded.ensures ∙ c.if-is_crowded.false)
    c.in_ok-train.ensures.reported c.set_place.new.self c.in_ok-set_place.ensures.placed

pub returns-clause-reported : goal.returns-clause-reported
returns-clause-reported c =
    steps_placed c.self.inside.locks c.self.inside.book c.args.self.now c.self.view_is c.self.invariant c.args.report.now c.in_ok-train.train.train (sym c.is_crowded.ensures ∙ c.if-is_crowded.false)
    c.in_ok-train.ensures.reported c.set_place.new.self c.in_ok-set_place.ensures.placed
