use Rattle.std.proofs.Common.{[], refl}
use Rattle.rbc_show.proofs.EndLemmas.{none_written}
use Rattle.rbc_show.proofs.FollowingLemmas.{line_followed}
use Rattle.rbc_show.proofs.last.FollowingLineHandlerUnit.answer.Goals as goal

pub returns-in-Ok-clause-reply : goal.returns-in-Ok-clause-reply
returns-in-Ok-clause-reply g c =
    let before = c.args.self.now in (
      [],
      line_followed before (record { history = c.follow.new.history; lost = before.lost }) c.args.line.now c.in-Ok._is_added c.requires.ready c.in-Ok.ensures.followed refl,
      none_written _ before.lost _ c.requires.ready c.requires.going,
    )
