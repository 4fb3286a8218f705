use Rattle.std.proofs.Common.{◌≡◌, ◌<◌, length, ap, ◌∙◌}
use Rattle.std.specs.Prelude.{IfSome, Some}
use Rattle.rbc_journal_report.specs.Telling.{telling, told_lines, told_digest}
use Rattle.rbc_journal_report.proofs.CopyLemmas.{at_ok, named_line, never_few, same_digest}
use Rattle.rbc_journal_report.proofs.copying.copy_first.Goals as goal

pub copy_lines-requires-clause-track : goal.copy_lines-requires-clause-track
copy_lines-requires-clause-track g c = named_line c.in-Ok.told.text.now c.in-Ok-track_of.track c.in-Ok-track_of.ensures.ok

pub returns-clause-track : goal.returns-clause-track
returns-clause-track g c =
    at_ok c.copy_lines.result (IfSome c.args.given (λ digest. told_digest (telling c.args.bytes.now) ≡ Some digest))
    (same_digest c.args.given c.in-Ok-track_of.track (told_digest (telling c.args.bytes.now)) (ap told_digest c.in-Ok.ensures.ok ∙ c.in-Ok-track_of.ensures.ok)
    c.in-Ok-track_of.ensures.same)

pub returns-clause-few : goal.returns-clause-few
returns-clause-few g c =
    never_few c.copy_lines.result (λ count. count ≡ length (told_lines (telling c.args.bytes.now)) × count < c.args.lines) c.copy_lines.ensures.new
