use Rattle.std.proofs.Common.{[], ◌∷◌, ◌++◌, map, ap, ◌∙◌}
use Rattle.rbc_model.specs.Messages.{Authority}
use Rattle.rbc_model.specs.Views.{View}
use Rattle.rbc_record.specs.declared.entry.Entry.TheVariants.{Granted}
use Rattle.rbc_record.specs.Entries.{entry_of}
use Rattle.rbc_record.specs.Records.{IsKept}
use Rattle.rbc_record.proofs.KeepingLemmas.{accepted, kept_after_granted, leading}
use Rattle.rbc_record.proofs.history.Record.enter.Goals as goal
use Rattle.rbc_record.proofs.history.Record.enter.Goals.{After-append-place}

-- with what was granted the record keeps what it keeps
kept : (c : After-append-place) → IsKept c.grant_along.new.self c.self.inside.begin.scene c.self.inside.most (map entry_of c.append-place.new.entries.items)
kept c =
    kept_after_granted c.self.inside.scene c.grant_along.new.self c.self.inside.begin.scene c.self.inside.most c.self.inside.entries.items c.append-place.new.entries.items c.args.self.now c.self.view_is c.self.invariant
    c.requires.room c.in_ok-grant_along.ensures.granted.1 c.args.candidate.now.view c.args.candidate.now.grant c.known.ensures.best
    c.requires.shown
    c.train.result c.new-end.result c.train.ensures (c.new-end.ensures ∙ c.end.ensures ∙ ap (λ (a : Authority). a.end) c.authority.ensures.authority)
    (c.append-place.ensures.items ∙ (λ i. c.reserve.ensures.items i ++ Granted (c.in_ok-grant.ensures i) ∷ [])) c.in_ok-grant_along.ensures.granted.0

pub invariant_of-self-2 : goal.invariant_of-self-2
invariant_of-self-2 c = kept (goal.at.invariant_of-self-2 c).After-append-place

pub grant_along-requires-clause-accepted : goal.grant_along-requires-clause-accepted
grant_along-requires-clause-accepted c =
    accepted c.self.inside.scene c.self.inside.begin.scene c.self.inside.most (map entry_of c.self.inside.entries.items) c.args.self.now c.self.view_is c.self.invariant c.args.candidate.now.view c.args.candidate.now.grant
    c.known.ensures.best c.requires.shown c.train.result c.new-end.result c.train.ensures (c.new-end.ensures ∙ c.end.ensures ∙ ap (λ (a : Authority). a.end) c.authority.ensures.authority)

pub grant_along-requires-clause-along : goal.grant_along-requires-clause-along
grant_along-requires-clause-along c =
    leading c.self.inside.scene c.self.inside.begin.scene c.self.inside.most (map entry_of c.self.inside.entries.items) c.args.self.now c.self.view_is c.self.invariant c.args.candidate.now.view c.args.candidate.now.grant
    c.known.ensures.best c.requires.shown c.train.result c.new-end.result c.train.ensures (c.new-end.ensures ∙ c.end.ensures ∙ ap (λ (a : Authority). a.end) c.authority.ensures.authority)
    c.legs-legs.result.now (c.legs-legs.ensures ∙ ap (λ (v : View). v.line) c.view.ensures.view)
