use Rattle.std.proofs.Common.{[]}
use Rattle.rbc_show.proofs.EndLemmas.{none_written}
use Rattle.rbc_show.proofs.FollowingLemmas.{too_long}
use Rattle.rbc_show.proofs.last.FollowingLineHandlerUnit.refuse.Goals as goal

pub returns-clause-reply : goal.returns-clause-reply
returns-clause-reply g c = ([], λ line long. too_long c.args.self.now line c.requires.ready long, none_written _ c.args.self.now.lost _ c.requires.ready c.requires.going)
