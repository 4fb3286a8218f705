use Rattle.std.proofs.Common.{◌∙◌}
use Rattle.rbc_book.proofs.LegPlaceLemmas.{stands_by, stands_nowhere}
use Rattle.rbc_book.proofs.places.stands_on.Goals as goal

pub returns-in-Some : goal.returns-in-Some
returns-in-Some c = c.meets.ensures ∙ stands_by c.line.result.now c.args.train.now c.args.section c.line.ensures.track c.line.ensures.legs c.in-Some.place c.known.ensures c.in-Some.ensures.place

pub returns-in-None : goal.returns-in-None
returns-in-None c = stands_nowhere c.line.result.now c.args.train.now c.args.section c.line.ensures.track c.line.ensures.legs c.in-None.ensures.place
