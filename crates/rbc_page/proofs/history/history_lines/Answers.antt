use Rattle.std.proofs.Common.{length, rules, ◌∙◌}
use Rattle.rbc_page.specs.Histories.{end_of, lines_from}
use Rattle.rbc_page.proofs.HistoryLemmas.{line_told, lines_told}
use Rattle.rbc_page.proofs.history.history_lines.Goals as goal

pub loop-place-preserved : goal.loop-place-preserved
loop-place-preserved g c =
    let told = c.in_ok-put_line.ensures in
    let history = c.args.seat.now.told in (
      told.going,
      line_told c.args.track.now history c.loop-place.place (end_of c.args.from (length history.entries)) c.loop-place.text.bytes.items c.put_line.new.text.bytes.items
          c.requires.track (search rules) told.line
          ∙ c.loop-place.invariant.1,
    )

pub returns : goal.returns
returns g c =
    let history = c.args.seat.now.told in
    lines_told history c.loop-place.place (end_of c.args.from (length history.entries)) c.loop-place.text.bytes.items (lines_from history c.args.from)
    (search rules) c.loop-place.invariant.1
