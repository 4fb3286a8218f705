use Rattle.std.proofs.Common.{subst, ◌∙◌}
use Rattle.rbc_model.specs.SoundTracks.{IsSound}
use Rattle.rbc_sessions.proofs.AskingLemmas.{blocked_named}
use Rattle.rbc_sessions.proofs.asking.stopped.Goals as goal

pub returns-in-Refused-Blocked-clause-whole : goal.returns-in-Refused-Blocked-clause-whole
returns-in-Refused-Blocked-clause-whole c =
    let sound = subst IsSound (c.deref.ensures ∙ c.track.ensures) c.known.ensures.sound in
    blocked_named c.args.history.now c.args.train c.in-Refused-Blocked.obstacle c.in-Refused-Blocked.at c.right.ensures sound (rw (c.in-Refused-Blocked.is, c.in-Refused-Blocked.field-0-is) at c.requires.fault)
