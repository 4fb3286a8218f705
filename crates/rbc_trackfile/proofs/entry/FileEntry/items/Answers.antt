use Rattle.std.proofs.Common.{◌≡◌, ◌+◌, length, map, drop, refl, sym, ap, ◌∙◌, arith}
use Rattle.std.proofs.lemmas.Result.{err_from_is_err_and}
use Rattle.toml.specs.View.{view}
use Rattle.rbc_trackfile.specs.TomlFile.{entry_view}
use Rattle.rbc_trackfile.specs.Told.{each_told}
use Rattle.rbc_trackfile.proofs.WalkLemmas.{told_before, values_from, refused, taken, all_read}
use Rattle.rbc_trackfile.proofs.entry.FileEntry.items.Goals as goal

pub returns-in_err-item : goal.returns-in_err-item
returns-in_err-item g c =
    let p = err_from_is_err_and c.from_residual.result c.from_residual.ensures.1 in
    let read = g.T.ListItem.item_at (entry_view c.args.self) c.args.key in
    let values = c.args.values.now in
    let front = c.loop-value.items.items in
    let next = values_from values c.loop-value.value-index c.value-item.result c.loop-value-test.true c.value-item.is in
    let counted : length front + 1 ≡ c.len.result + 1 = omega (arith, c.len.ensures, c.loop-value.items.ok) in
    rw (p.1, p.2)
    (refused read (each_told read 1 (map view values)) front c.in_err-item.field-0.0 (c.len.result + 1) _ _ (view c.value-item.result) next
    (sym (ap (λ n. told_before front (each_told read n (map view (drop c.loop-value.value-index values)))) counted) ∙ c.loop-value.invariant) c.in_err-item.ensures)

pub loop-value-preserved : goal.loop-value-preserved
loop-value-preserved g c =
    let read = g.T.ListItem.item_at (entry_view c.args.self) c.args.key in
    let values = c.args.values.now in
    let front = c.loop-value.items.items in
    let next = values_from values c.loop-value.value-index c.value-item.result c.loop-value-test.true c.value-item.is in
    let counted : length front + 1 ≡ c.len.result + 1 = omega (arith, c.len.ensures, c.loop-value.items.ok) in
    taken read (each_told read 1 (map view values)) front (c.len.result + 1) (length c.push.new.self.items + 1) _ _ (view c.value-item.result) c.in_ok-item.item c.push.new.self.items next
    (sym counted) refl c.in_ok-push.ensures.items
    (sym (ap (λ n. told_before front (each_told read n (map view (drop c.loop-value.value-index values)))) counted) ∙ c.loop-value.invariant) c.in_ok-item.ensures

pub returns : goal.returns
returns g c =
    let read = g.T.ListItem.item_at (entry_view c.args.self) c.args.key in
    let values = c.args.values.now in
    let front = c.loop-value.items.items in
    all_read read (each_told read 1 (map view values)) front (length front + 1) values c.loop-value.value-index c.loop-value-test.false c.loop-value.invariant
