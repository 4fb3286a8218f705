use Rattle.std.proofs.Common.{◌<◌, ◌∙◌, IfSome, sym, subst}
use Rattle.rbc_model.specs.declared.places.Leg.{Leg}
use Rattle.rbc_scene_reading.proofs.RowLemmas.{IsRowOf, row_of}
use Rattle.rbc_scene_reading.proofs.rows.add_needed.Goals as goal

row : (c : goal.After-add-arg-1) → IsRowOf c.args.track.now c.args.leg c.args.route c.args.before
row c = row_of c.args.track.now c.known.ensures.sound c.args.leg c.args.route c.args.before (sym c.is_needed.ensures ∙ c.if-not-is_needed.false)

pub add-requires-clause-leg : goal.add-requires-clause-leg
add-requires-clause-leg c = subst (λ n. c.args.leg.section < n) (sym c.requires) (row c).within

pub add-requires-clause-before : goal.add-requires-clause-before
add-requires-clause-before c = subst (λ n. IfSome c.args.before (λ (b : Leg). b.section < n)) (sym c.requires) (row c).behind
