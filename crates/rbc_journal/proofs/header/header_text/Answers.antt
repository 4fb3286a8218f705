use Rattle.std.proofs.Common.{[], ◌∙◌, ap}
use Rattle.rbc_journal.specs.Seals.{seal_of_bytes}
use Rattle.rbc_journal.proofs.ReadingLemmas.{laid_out}
use Rattle.rbc_journal.proofs.header.header_text.Goals as goal

pub returns-clause-bytes : goal.returns-clause-bytes
returns-clause-bytes c =
    laid_out c.args.track.now c.new-lines.result.items c.push_line.new.file.items c.track_line.result c.push_line-2.new.file.items c.seal_of-seal.result c.line_of.result
    c.push_line-3.new.file.items
    c.new-lines.ensures.items c.in_ok-push_line.ensures c.track_line.ensures c.in_ok-push_line-2.ensures
    (c.seal_of-seal.ensures ∙ ap (seal_of_bytes []) c.as_slice.ensures.value) c.line_of.ensures c.in_ok-push_line-3.ensures
