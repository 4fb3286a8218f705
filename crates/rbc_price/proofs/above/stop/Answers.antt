use Rattle.std.proofs.Common.{◌≡◌, ◌<◌, ◌+◌, length, get_or, arith, ap}
use Rattle.rbc_steps.proofs.PlaceLemmas.{below_end}
use Rattle.rbc_price.proofs.above.stop.Goals as goal

pub returns-in-Some-clause-before_end : goal.returns-in-Some-clause-before_end
returns-in-Some-clause-before_end g c =
    let h = c.in-Some.ensures.lookup in
    let rows = c.args.rows.now in
    let next = c.in-Some.next.now in
    let inside : c.args.index + 1 < length rows = h.3.0 in
    let start : next.0 ≡ (get_or rows (c.args.index + 1) next).0 = ap (λ row. row.0) h.1 in
    omega (arith, start, below_end c.args.end rows (c.args.index + 1) next c.requires.listed.inside inside)
