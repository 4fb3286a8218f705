use Rattle.std.proofs.Common.{arith, ◌≡◌, ℕ, length, ap, sym, ◌∙◌, subst}
use Rattle.rbc_model.specs.Scales.{unit_of}
use Rattle.rbc_table_laws.specs.Stretches.{cost_of_step}
use Rattle.rbc_reduce.specs.Rows.{AreFilled, row_at, row_in}
use Rattle.rbc_reduce.proofs.RowLemmas.{same_filled, some_min}
use Rattle.rbc_reduce.proofs.fill.fill_in.Goals as goal

pub filled-requires-clause-some : goal.filled-requires-clause-some
filled-requires-clause-some g c κs within =
    let all = c.requires.stretches.count in
    let two = c.requires.stretches.breaks.some in
    let some = some_min c.args.limit (length c.args.stretches.now) c.requires.limit (omega arith) in
    omega (arith, some, c.min-count.ensures)

pub returns-clause-count : goal.returns-clause-count
returns-clause-count g c = c.in_ok-widened.ensures.count ∙ ap length c.deref.ensures.value ∙ c.in_ok-rows.ensures.count ∙ c.min-count.ensures

pub returns-clause-filled : goal.returns-clause-filled
returns-clause-filled g c =
    let count : length c.in_ok-widened.field-0.items ≡ c.min-count.result = c.in_ok-widened.ensures.count ∙ ap length c.deref.ensures.value ∙ c.in_ok-rows.ensures.count in
    let same : (j : ℕ) → row_at c.in_ok-widened.field-0.items j ≡ row_in g.N.Total.number c.in_ok-rows.rows.items j =
    λ j. c.in_ok-widened.ensures.rows j ∙ ap (λ rows. row_in g.N.Total.number rows j) c.deref.ensures.value in
    let filled = same_filled (cost_of_step g.V.Level.levels (unit_of c.args.track.now.end) c.args.track.now) c.min-count.result (row_in g.N.Total.number c.in_ok-rows.rows.items) (row_at c.in_ok-widened.field-0.items)
    (length c.args.stretches.now) same c.in_ok-rows.ensures.filled in
    subst (λ n. AreFilled (cost_of_step g.V.Level.levels (unit_of c.args.track.now.end) c.args.track.now) n (row_at c.in_ok-widened.field-0.items) (length c.args.stretches.now)) (sym count) filled
