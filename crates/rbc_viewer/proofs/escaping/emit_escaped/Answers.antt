use Rattle.std.proofs.Common.{sym, ◌∙◌}
use Rattle.rbc_streams.proofs.EmittingLemmas.{emits_then, emits_as, emits_nothing}
use Rattle.rbc_viewer.proofs.EscapeLemmas.{escaped_cut, escaped_none}
use Rattle.rbc_viewer.proofs.escaping.emit_escaped.Goals as goal

pub loop-rest-preserved : goal.loop-rest-preserved
loop-rest-preserved g c =
    let loop = c.loop-rest in
    λ end rest. loop.invariant end (emits_as (sym (escaped_cut c.emit_run-count.result loop.rest.now)) (emits_then c.emit_run-count.ensures.text rest))

pub returns : goal.returns
returns g c =
    let none_left = escaped_none c.loop-rest.rest.now (sym c.is_empty.ensures ∙ c.loop-rest-test.false) in
    c.loop-rest.invariant _ (emits_as (sym none_left) (emits_nothing _))
