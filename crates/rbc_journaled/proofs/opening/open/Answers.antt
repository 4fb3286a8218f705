use Rattle.std.proofs.Common.{sym, ◌∙◌}
use Rattle.rbc_journaled.proofs.OpeningLemmas.{as_many_lines, as_many_opened, told_at_opening}
use Rattle.rbc_journaled.proofs.opening.open.Goals as goal

pub returns-in-Err-clause-lines : goal.returns-in-Err-clause-lines
returns-in-Err-clause-lines g c =
    let journaled = c.args.journaled in
    as_many_opened g.D.Device.seen g.D.Device.may_leave journaled.history journaled.journal c.requires.ready.is_kept g.L.DeskName.opened c.requires.opened

pub returns-in-Ok-open-clause-lines : goal.returns-in-Ok-open-clause-lines
returns-in-Ok-open-clause-lines g c =
    let journaled = c.args.journaled in
    as_many_opened g.D.Device.seen g.D.Device.may_leave journaled.history journaled.journal c.requires.ready.is_kept g.L.DeskName.opened c.requires.opened

pub returns-in-Err-open-clause-lines : goal.returns-in-Err-open-clause-lines
returns-in-Err-open-clause-lines g c =
    let journaled = c.args.journaled in
    as_many_opened g.D.Device.seen g.D.Device.may_leave journaled.history journaled.journal c.requires.ready.is_kept g.L.DeskName.opened c.requires.opened

pub open-requires-clause-count : goal.open-requires-clause-count
open-requires-clause-count g c =
    let parts = c.into_parts-history in
    c.version-lines.ensures.count ∙ sym (as_many_lines g.D.Device.seen g.D.Device.may_leave parts.result.0 parts.result.1 parts.ensures.kept)

pub open-requires-clause-told : goal.open-requires-clause-told
open-requires-clause-told g c =
    let parts = c.into_parts-history in
    told_at_opening g.D.Device.seen g.D.Device.may_leave parts.result.0 parts.result.1 parts.ensures.kept c.told_first-told.result
    (c.told_first-told.ensures ∙ sym c.requires.opened ∙ sym parts.ensures.history)
