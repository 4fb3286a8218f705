use Rattle.std.proofs.Common.{arith}
use Rattle.rbc_search.proofs.EndLemmas.{end_is, none_is}
use Rattle.rbc_search.proofs.found.Reach.greatest_end.Goals as goal

pub returns-then-is_ahead-clause-greatest : goal.returns-then-is_ahead-clause-greatest
returns-then-is_ahead-clause-greatest c = λ scene at.
    end_is c.args.train.now.track scene c.args.train.now.train c.args.self.now.place c.nearest_end-end.result at (let least = c.self.view_is in grind arith) (grind arith)

pub returns-else-is_ahead-clause-greatest : goal.returns-else-is_ahead-clause-greatest
returns-else-is_ahead-clause-greatest c = λ scene at.
    none_is c.args.train.now.track scene c.args.train.now.train c.args.self.now.place c.nearest_end-end.result at (let least = c.self.view_is in grind arith) (grind arith)
