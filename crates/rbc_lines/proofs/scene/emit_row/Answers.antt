use Rattle.rbc_model.specs.SceneLines.{locked_line}
use Rattle.rbc_streams.proofs.EmittingLemmas.{emits_as, emits_nothing}
use Rattle.rbc_lines.proofs.LineTextLemmas.{one_line}
use Rattle.rbc_lines.proofs.scene.emit_row.Goals as goal

pub returns-in-Some : goal.returns-in-Some
returns-in-Some g c = rw c.in-Some.is (emits_as (one_line (locked_line c.args.track.now c.args.section c.in-Some.lock)) c.emit_locked.ensures)

pub returns-in-None : goal.returns-in-None
returns-in-None g c = rw c.in-None.is (emits_nothing _)
