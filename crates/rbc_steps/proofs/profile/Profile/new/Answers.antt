use Rattle.std.proofs.Common.{sym, ◌∙◌}
use Rattle.rbc_steps.proofs.MadeLemmas.{profile_made}
use Rattle.rbc_steps.proofs.profile.Profile.new.Goals as goal

pub invariant_of-result : goal.invariant_of-result
invariant_of-result g c =
    profile_made g.V.Level.levels c.args.end c.args.rows.now
    (sym c.rise_from_zero.ensures.rise ∙ c.if-not-rise_from_zero.false)
    (sym c.lie_below.ensures ∙ c.if-not-lie_below.false)
    (c.rise_from_zero.ensures.in_range c.if-not-rise_from_zero.false)
    c.copy_from_slice.new.self _
    c.copy_from_slice.ensures.after
    c.if-rows-gt-MOST_STEPS.false
    (sym c.expressible.ensures ∙ c.if-not-expressible.false)
