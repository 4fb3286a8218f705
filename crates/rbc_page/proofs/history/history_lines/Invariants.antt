use Rattle.std.proofs.Common.{◌≡◌, ◌++◌, length, false}
use Rattle.rbc_page.specs.Histories.{end_of, lines_between, lines_from}
use Rattle.rbc_page.proofs.history.history_lines.Given as goal

-- With the lines that are left the text is whole.
abbrev pub invariant-loop-place : goal.invariant-loop-place
invariant-loop-place g l =
    (l.text.failed ≡ false)
    × (l.text.bytes.items ++ lines_between l.seat.told l.place (end_of l.from (length l.seat.told.entries)) ≡ lines_from l.seat.told l.from)
