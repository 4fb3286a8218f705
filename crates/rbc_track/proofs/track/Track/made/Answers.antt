use Rattle.std.proofs.Common.{All, ◌≡◌, Ok, List, sym, subst, ◌∙◌, rules}
use Rattle.rbc_model.specs.Answers.{RefusesOrMemory}
use Rattle.rbc_model.specs.Tracks.{Section}
use Rattle.rbc_track.specs.Making.{later_tables, made_of}
use Rattle.rbc_track.specs.PartsView.{parts_view}
use Rattle.rbc_track.specs.Tables.{IsSectionInForm, track_with}
use Rattle.rbc_track.specs.declared.track.Track.{Track}
use Rattle.rbc_track.proofs.MakingLemmas.{IsTold, sound_made, told_of_sections, told_of_later}
use Rattle.rbc_track.proofs.track.Track.made.Goals.{After-told, After-told-in-Err-tables_of}
use Rattle.rbc_track.proofs.track.Track.made.Goals as goal

-- the sections were refused
of_sections : (c : After-told) → IsTold Track c.told.result (made_of (parts_view c.args.parts))
of_sections c =
    told_of_sections Track (parts_view c.args.parts) c.deref-in-Err.result.now c.deref-in-Err-2.result.now c.deref-in-Err-3.result.now c.deref-in-Err-4.result.now
    c.deref-in-Err.ensures.value c.deref-in-Err-2.ensures.value c.deref-in-Err-3.ensures.value c.deref-in-Err-4.ensures.value
    c.in-Err.fault c.told.result c.told.ensures (sym c.in_ok-judge_sizes.ensures) c.deref.result.now c.deref.ensures.value c.in-Err.ensures.judged

pub returns-in-Err-clause-made : goal.returns-in-Err-clause-made
returns-in-Err-clause-made c = (of_sections (goal.at.returns-in-Err-clause-made c).After-told).0

pub returns-in-Err-clause-refused : goal.returns-in-Err-clause-refused
returns-in-Err-clause-refused c = (of_sections (goal.at.returns-in-Err-clause-refused c).After-told).1

-- a later table was refused
of_later : (c : After-told-in-Err-tables_of) → IsTold Track c.told-in-Err-tables_of.result (made_of (parts_view c.args.parts))
of_later c =
    told_of_later Track (parts_view c.args.parts) c.as_slice.result.now c.deref-in-Err-tables_of.result.now c.deref-in-Err-tables_of-2.result.now c.deref-in-Err-tables_of-3.result.now
    (c.as_slice.ensures ∙ c.of-sections.ensures) c.deref-in-Err-tables_of.ensures.value c.deref-in-Err-tables_of-2.ensures.value c.deref-in-Err-tables_of-3.ensures.value
    c.in-Err-tables_of.fault c.told-in-Err-tables_of.result c.told-in-Err-tables_of.ensures (sym c.in_ok-judge_sizes.ensures)
    c.deref.result.now c.deref.ensures.value c.in-Ok.ensures.judged c.deref-2.result.now c.deref-2.ensures.value c.deref-3.result.now c.deref-3.ensures.value c.deref-4.result.now c.deref-4.ensures.value
    (subst (λ (s : List Section). RefusesOrMemory c.in-Err-tables_of.fault (later_tables s c.deref-2.result.now c.deref-3.result.now c.deref-4.result.now)) c.of-sections.ensures c.in-Err-tables_of.ensures)

pub returns-in-Err-tables_of-clause-made : goal.returns-in-Err-tables_of-clause-made
returns-in-Err-tables_of-clause-made c = (of_later (goal.at.returns-in-Err-tables_of-clause-made c).After-told-in-Err-tables_of).0

pub returns-in-Err-tables_of-clause-refused : goal.returns-in-Err-tables_of-clause-refused
returns-in-Err-tables_of-clause-refused c = (of_later (goal.at.returns-in-Err-tables_of-clause-refused c).After-told-in-Err-tables_of).1

pub invariant_of-result : goal.invariant_of-result
unfolding made_of later_tables
invariant_of-result c =
    let parts = parts_view c.args.parts in
    let tables = c.in-Ok-tables_of.tables in
    let track = track_with c.args.parts.format c.steps.result c.steps-2.result c.of-sections.result tables.links tables.groups tables.routes in
    let made : made_of parts ≡ Ok track = search rules in
    sound_made parts track made (subst (λ (s : List Section). All IsSectionInForm s) (c.deref.ensures.value ∙ sym c.of-sections.ensures) c.in-Ok.ensures.form)
    c.steps.ensures.at_least c.steps.ensures.at_most c.steps-2.ensures.at_least c.steps-2.ensures.at_most
