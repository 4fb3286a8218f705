use Rattle.std.proofs.Common.{subst, ◌∙◌, ◌+◌}
use Rattle.rbc_model.specs.SoundTracks.{IsSound}
use Rattle.rbc_sessions.proofs.AskingLemmas.{shown_named, shown_full, full_to_grants, never_stale, told_whole, granted_comes}
use Rattle.rbc_sessions.proofs.asking.commit.Goals as goal

pub unreachable-requires : goal.unreachable-requires
unreachable-requires c =
    never_stale c.args.history.now c.args.candidate.now _ c.requires
    (rw (c.in-Err-Refused-Stale.field-0-is, c.in-Err-Refused-Stale.field-0-0-is) at c.in-Err-Refused-Stale.ensures.entered.0)

pub returns-in-Ok-clause-comes : goal.returns-in-Ok-clause-comes
returns-in-Ok-clause-comes c =
    granted_comes c.args.history.now c.grant.new.self c.args.candidate.now c.in-Ok.receipt c.place.result c.told_of.result
    c.in-Ok.ensures.entered c.place.ensures c.told_of.ensures.told c.told_of.ensures.best c.told_of.ensures.chosen c.known-2.ensures.form c.requires

pub returns-in-Ok-clause-whole : goal.returns-in-Ok-clause-whole
returns-in-Ok-clause-whole c =
    let sound = subst IsSound (c.deref.ensures ∙ c.track.ensures) c.known.ensures.sound in
    told_whole c.args.history.now.track c.args.candidate.now (c.place.result + 1) c.told_of.result c.told_of.ensures.told c.told_of.ensures.best c.told_of.ensures.chosen
    (shown_named c.args.history.now c.args.candidate.now.view.train c.args.candidate.now.view c.right.ensures sound c.requires)

pub returns-in-Err-Refused-Full-clause-comes : goal.returns-in-Err-Refused-Full-clause-comes
returns-in-Err-Refused-Full-clause-comes c =
    shown_full c.args.history.now c.args.candidate.now.view.train c.args.candidate.now.view c.requires c.grant.new.self c.in-Err-Refused-Full.ensures.entered.1
    (full_to_grants c.args.history.now c.args.candidate.now (rw (c.in-Err-Refused-Full.field-0-is, c.in-Err-Refused-Full.field-0-0-is) at c.in-Err-Refused-Full.ensures.entered.0))
