use Rattle.std.proofs.Common.{◌≡◌, ◌∙◌, Ok, ap, arith, subst, sym}
use Rattle.rbc_scene_reading.specs.Reading.{locks_with}
use Rattle.rbc_scene_reading.specs.Stages.{may_be_of}
use Rattle.rbc_scene_reading.proofs.AdditionLemmas.{row_small, so_row}
use Rattle.rbc_scene_reading.proofs.reading.Reading.add_row.Goals as goal

pub overflow_add-section : goal.overflow_add-section
overflow_add-section c =
    let track = c.deref.ensures ∙ c.track.ensures.track in
    let small =
    row_small c.self.inside.book.track c.self.inside.locks c.add_needed.new.locks c.args.leg c.args.route c.args.before c.self.invariant.sound
    (subst (λ t. locks_with t c.self.inside.locks c.args.leg c.args.route c.args.before ≡ Ok c.add_needed.new.locks) track c.in_ok-add_needed.ensures) in
    let index = c.index-section.ensures in
    omega (arith, small, index)

pub invariant_of-self-2 : goal.invariant_of-self-2
invariant_of-self-2 c =
    so_row c.self.inside.version c.self.inside.locks c.self.inside.book c.self.inside.stage c.self.invariant c.add_needed.new.locks c.args.leg c.args.route c.args.before _
    (ap (λ n. may_be_of n c.self.inside.stage) (sym c.index-section.ensures) ∙ sym c.may_be_of.ensures ∙ c.if-not-may_be_of.false)
    (subst (λ t. locks_with t c.self.inside.locks c.args.leg c.args.route c.args.before ≡ Ok c.add_needed.new.locks) (c.deref.ensures ∙ c.track.ensures.track) c.in_ok-add_needed.ensures)
