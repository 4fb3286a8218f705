use Rattle.std.proofs.Common.{◌∙◌}
use Rattle.rbc_sessions.proofs.CentreLemmas.{command_is}
use Rattle.rbc_session_laws.specs.declared.command.Command.TheVariants.{Event, Authority}
use Rattle.rbc_journaled.proofs.FollowingLemmas.{says_nothing, is_refused, said_follows, shows}
use Rattle.rbc_journaled.proofs.following.follow.Goals as goal

pub returns-in-Ok-Event-clause-followed : goal.returns-in-Ok-Event-clause-followed
returns-in-Ok-Event-clause-followed g c =
    said_follows c.hear.result c.deref.result.now c.args.history.now c.hear.new.history c.args.line.now (Event c.in-Ok-Event.told) (c.deref.ensures ∙ c.track.ensures)
    (command_is c.deref.result.now c.args.line.now c.in-Ok-Event.field-0 (Event c.in-Ok-Event.told) c.in-Ok-Event.field-0-is c.in-Ok-Event.ensures.command) c.hear.ensures.followed

pub returns-in-Ok-Authority-clause-followed : goal.returns-in-Ok-Authority-clause-followed
returns-in-Ok-Authority-clause-followed g c =
    said_follows c.ask.result c.deref.result.now c.args.history.now c.ask.new.history c.args.line.now (Authority c.in-Ok-Authority.number) (c.deref.ensures ∙ c.track.ensures)
    (command_is c.deref.result.now c.args.line.now c.in-Ok-Authority.field-0 (Authority c.in-Ok-Authority.number) c.in-Ok-Authority.field-0-is c.in-Ok-Authority.ensures.command) (rw c.new.ensures at c.ask.ensures.followed)

pub returns-in-Ok-Nothing-clause-followed : goal.returns-in-Ok-Nothing-clause-followed
returns-in-Ok-Nothing-clause-followed g c =
    says_nothing c.deref.result.now c.args.history.now c.args.line.now c.in-Ok-Nothing.field-0 (c.deref.ensures ∙ c.track.ensures) c.in-Ok-Nothing.field-0-is c.in-Ok-Nothing.ensures.command

pub returns-in-Ok-Show-clause-followed : goal.returns-in-Ok-Show-clause-followed
returns-in-Ok-Show-clause-followed g c =
    shows c.deref.result.now c.args.history.now c.args.line.now _ c.in-Ok-Show.field-0 (c.deref.ensures ∙ c.track.ensures) c.in-Ok-Show.field-0-is c.in-Ok-Show.ensures.command

pub returns-in-Err-clause-followed : goal.returns-in-Err-clause-followed
returns-in-Err-clause-followed g c = is_refused c.deref.result.now c.args.history.now c.args.line.now _ (c.deref.ensures ∙ c.track.ensures) c.in-Err.ensures.command
