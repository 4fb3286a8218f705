use Rattle.std.proofs.Common.{ap}
use Rattle.rbc_model.specs.SessionText.{said_words}
use Rattle.rbc_model.specs.Words.{line_of}
use Rattle.rbc_streams.proofs.EmittingLemmas.{emits_as}
use Rattle.rbc_sessions.proofs.histories.emit_entry.Goals as goal

pub returns-in-Heard : goal.returns-in-Heard
returns-in-Heard g c =
    rw c.in-Heard.is (emits_as (ap (λ said. line_of (said_words said)) c.told_request.ensures) c.emit_request.ensures)
