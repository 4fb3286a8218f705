use Rattle.std.proofs.Common.{ap, ◌∙◌, refl, get_or}
use Rattle.rbc_table_laws.proofs.TrackBreakLemmas.{at_run}
use Rattle.rbc_price.proofs.ColumnLemmas.{column_of_run, stop_is}
use Rattle.rbc_price.proofs.columns.column_of_run.Goals as goal

pub returns-clause-column : goal.returns-clause-column
returns-clause-column g c =
    let levels = g.V.Level.levels in
    let track = c.args.track.now in
    let function = c.known.ensures.track in
    let run = c.index-runs-run.result in
    let stop = rw c.runs-runs.ensures at c.stop.ensures in
    column_of_run levels track function c.requires.unit _ c.requires.inside refl
    (ap (λ rows. (get_or rows c.args.run run).0) c.runs-runs.ensures ∙ at_run levels track.end track.steps function c.args.run run c.requires.inside)
    (stop_is levels track function c.args.run c.stop.result run c.requires.inside (stop.next run) (λ h. stop.last h ∙ c.end.ensures))
