use Rattle.std.proofs.Common.{sym, ◌∙◌}
use Rattle.rbc_extent.proofs.JudgeLemmas.{dropping-begin, dropping-more}
use Rattle.rbc_extent.proofs.judge.drop_legs_behind.Goals as goal

pub loop-dropped-init : goal.loop-dropped-init
loop-dropped-init c =
    let n = c.section_count-dropped-end in
    dropping-begin c.args.told c.args.walk.now c.args.rear n.result c.requires.none_behind c.requires.told c.known.ensures.line n.ensures.count

pub loop-dropped-preserved : goal.loop-dropped-preserved
loop-dropped-preserved c =
    let l = c.loop-dropped in
    dropping-more c.args.told c.args.walk.now c.args.rear c.section_count-dropped-end.result l._dropped l.left c.first_metres-metres.result l.walk c.drop_first.new.self c.first-first.result l.invariant c.first-first.ensures
    (sym c.is_same_leg.ensures ∙ c.if-is_same_leg.false) (c.first_metres-metres.ensures c.first-first.result c.first-first.ensures) c.if-left-metres.false
    c.drop_first.ensures.way c.drop_first.ensures.none_behind c.drop_first.ensures.legs
