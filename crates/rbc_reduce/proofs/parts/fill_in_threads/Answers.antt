use Rattle.std.proofs.Common.{arith, ◌≡◌, length, subst}
use Rattle.rbc_model.specs.Scales.{unit_of}
use Rattle.rbc_table_laws.specs.Stretches.{cost_of_step}
use Rattle.rbc_reduce.specs.Rows.{AreFilled, row_in}
use Rattle.rbc_reduce.proofs.parts.fill_in_threads.Goals as goal

pub returns-clause-filled : goal.returns-clause-filled
returns-clause-filled g c =
    let inside = c.loop-known.invariant.inside in
    let all : c.loop-known.known ≡ length c.args.stretches.now = omega (arith, c.loop-known-test.false) in
    subst (AreFilled (cost_of_step g.V.Level.levels (unit_of c.args.track.now.end) c.args.track.now) (length c.args.rows.now.items) (row_in g.N.Total.number c.loop-known.rows.items)) all c.loop-known.invariant.filled
