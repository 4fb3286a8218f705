use Rattle.std.proofs.Common.{ℕ, List, ◌++◌, length, drop, replicate, subst, sym, ◌∙◌}
use Rattle.rbc_model.specs.declared.limits.TheConstants.{LONGEST_NAME}
use Rattle.rbc_track.specs.Kept.{IsKept}
use Rattle.rbc_track.proofs.KeepingLemmas.{kept}
use Rattle.rbc_track.proofs.name.Name.new.Goals as goal

pub invariant_of-result : goal.invariant_of-result
invariant_of-result c =
    let text = c.args.text.now in
    subst (λ (bytes : List ℕ). IsKept (bytes ++ drop (length text) (replicate LONGEST_NAME 0)) (length text)) (sym c.copy_from_slice.ensures.after)
    (kept text (sym c.is_name.ensures ∙ c.if-not-is_name.false))
