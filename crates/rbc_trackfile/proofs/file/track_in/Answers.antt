use Rattle.std.proofs.Common.{◌≡◌, Result, Err, sym, ◌∙◌}
use Rattle.std.proofs.lemmas.Result.{err_from_is_err_and}
use Rattle.toml.specs.View.{table_view}
use Rattle.rbc_model.specs.declared.files.FileFault.{FileFault}
use Rattle.rbc_model.specs.declared.memory.OrMemory.{OrMemory}
use Rattle.rbc_model.specs.declared.memory.OrMemory.TheVariants.{Memory}
use Rattle.rbc_model.specs.Tracks.{Track}
use Rattle.rbc_track.specs.declared.parts.Parts.{Parts}
use Rattle.rbc_track.specs.PartsView.{parts_view}
use Rattle.rbc_trackfile.proofs.TextLemmas.{table_utf8, no_memory_for_keys, parts_not_blank}
use Rattle.rbc_trackfile.proofs.file.track_in.Goals as goal

same_fault : (result : Result Track (OrMemory FileFault)) (fault : OrMemory FileFault) → result ≡ Err fault → result ≡ Err Memory → fault ≡ Memory
same_fault result fault e memory = cc

pub returns-in_err-parts-clause-memory : goal.returns-in_err-parts-clause-memory
returns-in_err-parts-clause-memory c memory =
    let p = err_from_is_err_and c.from_residual-in_err-parts.result c.from_residual-in_err-parts.ensures.1 in (
      table_utf8 c.args.text.now (table_view c.in_ok-table.table) c.in_ok-table.ensures.table,
      no_memory_for_keys c.args.text.now (table_view c.in_ok-table.table) c.in_ok-table.ensures.table Parts c.in_err-parts.field-0.0 (sym p.2 ∙ same_fault c.from_residual-in_err-parts.result p.0 p.1 memory) c.in_err-parts.ensures.keys,
    )

pub returns-clause-memory : goal.returns-clause-memory
returns-clause-memory c memory = (
  table_utf8 c.args.text.now (table_view c.in_ok-table.table) c.in_ok-table.ensures.table,
  parts_not_blank c.args.text.now (table_view c.in_ok-table.table) c.in_ok-table.ensures.table (parts_view c.in_ok-parts.parts) c.in_ok-parts.ensures.parts,
)
