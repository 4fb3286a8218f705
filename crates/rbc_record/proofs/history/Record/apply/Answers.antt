use Rattle.std.proofs.Common.{[], ◌∷◌, ◌++◌, map, ap, sym, ◌∙◌}
use Rattle.rbc_record.specs.declared.entry.Entry.TheVariants.{Heard}
use Rattle.rbc_record.specs.Entries.{entry_of}
use Rattle.rbc_record.specs.Records.{IsKept}
use Rattle.rbc_record.proofs.KeepingLemmas.{kept_after_told, not_full}
use Rattle.rbc_record.proofs.history.Record.apply.Goals as goal
use Rattle.rbc_record.proofs.history.Record.apply.Goals.{After-append-place}

-- with what was told the record keeps what it keeps
kept : (c : After-append-place) → IsKept c.tell.new.self c.self.inside.begin.scene c.self.inside.most (map entry_of c.append-place.new.entries.items)
kept c =
    kept_after_told c.self.inside.scene c.tell.new.self c.self.inside.begin.scene c.self.inside.most c.self.inside.entries.items c.append-place.new.entries.items c.args.self.now c.self.view_is c.self.invariant
    (not_full c.args.self.now c.args.told.now (sym c.refusal.ensures.at_once ∙ c.in_default.is)) c.in-Ok.ensures.told.1 c.args.told.now
    (c.append-place.ensures.items ∙ ap (λ items. items ++ Heard c.args.told.now ∷ []) c.reserve.ensures.items) c.in-Ok.ensures.told.0

pub invariant_of-self-in-Ok : goal.invariant_of-self-in-Ok
invariant_of-self-in-Ok c = kept (goal.at.invariant_of-self-in-Ok c).After-append-place
