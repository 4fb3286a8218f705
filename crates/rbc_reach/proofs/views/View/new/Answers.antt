use Rattle.std.proofs.Common.{sym, ◌∙◌}
use Rattle.rbc_reach.proofs.FormLemmas.{in_form-parts}
use Rattle.rbc_reach.proofs.views.View.new.Goals as goal

pub invariant_of-result : goal.invariant_of-result
invariant_of-result c =
    in_form-parts c.args.parts (sym c.are_in_form.ensures ∙ c.if-are_in_form.true) c.known.ensures.track c.known-2.ensures.track
