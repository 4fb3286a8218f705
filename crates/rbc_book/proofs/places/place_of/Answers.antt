use Rattle.std.proofs.Common.{arith}
use Rattle.rbc_book.proofs.LegPlaceLemmas.{place_there, place_nowhere}
use Rattle.rbc_book.proofs.places.place_of.Goals as goal

pub returns-in_err-place : goal.returns-in_err-place
returns-in_err-place c = grind (arith, place_nowhere c.args.line.now.track c.args.line.now.legs c.args.metre c.in_err-place.ensures.place)

pub returns : goal.returns
returns c = grind (arith, place_there c.args.line.now.track c.args.line.now.legs c.args.metre c.in_ok-place.place c.in_ok-place.ensures.place)
