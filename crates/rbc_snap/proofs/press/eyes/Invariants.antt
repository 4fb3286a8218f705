use Rattle.std.proofs.Common.{◌≡◌, ◌≤◌, replicate}
use Rattle.left_right.specs.Sides.{view}
use Rattle.rbc_snap.specs.Ends.{watching}
use Rattle.rbc_snap.proofs.press.eyes.Given as goal

abbrev pub invariant-loop-reader : goal.invariant-loop-reader
invariant-loop-reader g l =
    (view l.writer.desk.place ≡ view l.fn.writer.desk.place) × (l.writer.desk.shown.value ≡ l.fn.writer.desk.shown.value)
    × (l.eyes.items ≡ replicate l._reader (watching l.sight.history (view l.fn.writer.desk.place).entries)) × (l.readers ≤ l.eyes.cap)
