use Rattle.std.proofs.Common.{◌∙◌, ap}
use Rattle.rbc_search.specs.Reaches.{ReachOnTrack}
use Rattle.rbc_search.proofs.EndLemmas.{granted_is}
use Rattle.rbc_search.proofs.found.Reach.may_end_at.Goals as goal

pub returns-clause-granted : goal.returns-clause-granted
returns-clause-granted c = λ scene at.
    c.may_end.ensures.granted
    ∙ granted_is c.args.train.now.track scene c.args.train.now.train c.self.inside.place c.args.end c.known.ensures
    (ap (λ (r : ReachOnTrack). r.place) c.self.view_is ∙ at)
