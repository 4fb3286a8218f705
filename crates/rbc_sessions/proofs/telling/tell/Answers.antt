use Rattle.std.proofs.Common.{length, subst, ◌∙◌, arith}
use Rattle.rbc_model.specs.SoundTracks.{IsSound}
use Rattle.rbc_sweep.specs.Entering.{refused_at_once}
use Rattle.rbc_sessions.proofs.SeatLemmas.{below_most}
use Rattle.rbc_sessions.proofs.TellingLemmas.{entered_free, told_comes, memory_needed, not_told_comes, not_told_named}
use Rattle.rbc_sessions.proofs.telling.tell.Goals as goal

pub overflow_add-result : goal.overflow_add-result
overflow_add-result c =
    let now = c.args.history.now in
    let entered = c.in-Ok.ensures.entered in
    let right = c.right.ensures in
    let below = below_most now.most (length now.entries) right.bounded (entered_free now c.args.told.now c.in-Ok.receipt.entry entered.0) in
    omega (arith, c.place.ensures, entered.1, below)

pub returns-in-Ok-clause-comes : goal.returns-in-Ok-clause-comes
returns-in-Ok-clause-comes c =
    told_comes c.args.history.now c.args.told.now c.in-Ok.receipt c.apply.new.self c.place.result c.in-Ok.ensures.entered c.place.ensures

pub returns-in-Err-clause-comes : goal.returns-in-Err-clause-comes
returns-in-Err-clause-comes c =
    not_told_comes c.args.history.now c.args.told.now c.in-Err.fault c.refusal_of.result c.apply.new.self c.in-Err.ensures.entered.0
    (memory_needed (refused_at_once c.args.history.now c.args.told.now) c.apply.result c.in-Err.fault c.apply.ensures.at_once c.in-Err.is)
    c.refusal_of.ensures c.in-Err.ensures.entered.1

pub returns-in-Err-clause-whole : goal.returns-in-Err-clause-whole
returns-in-Err-clause-whole c =
    let sound = subst IsSound (c.deref.ensures ∙ c.track.ensures) c.known.ensures.sound in
    rw c.refusal_of.ensures (not_told_named c.args.history.now c.args.told.now c.in-Err.fault sound c.requires c.in-Err.ensures.entered.0)
