use Rattle.std.proofs.Common.{All, ◌+◌, ◌≤◌, [], ◌∷◌, List, map, take, length, bytes_eq, Result, ap, sym, subst, ◌∙◌, arith, rules}
use Rattle.std.proofs.lemmas.List.{length-take-le, take_all}
use Rattle.std.proofs.lemmas.List.Elements.{All-append, All-cons, All-nil}
use Rattle.std.proofs.lemmas.Result.{err_from_is_err_and}
use Rattle.rbc_model.specs.Answers.{RefusesOrMemory}
use Rattle.rbc_model.specs.declared.tracks.TrackRefusal.{TrackRefusal}
use Rattle.rbc_model.specs.declared.tracks.TrackRefusal.TheVariants.{TwiceNamed, ShortRun}
use Rattle.rbc_model.specs.declared.tracks.Table.TheVariants.{Sections}
use Rattle.rbc_model.specs.SoundTracks.{section_refusal, has_long_runs}
use Rattle.rbc_model.specs.Tracks.{Section}
use Rattle.rbc_track.specs.Making.{sound_sections}
use Rattle.rbc_track.specs.Tables.{IsSectionInForm}
use Rattle.rbc_track.proofs.JudgingLemmas.{split_at, joined_at, named_next, refused, passed, judged_by_names}
use Rattle.rbc_track.proofs.section_table.names_of.Goals as goal

pub loop-earlier-init : goal.loop-earlier-init
unfolding sound_sections
loop-earlier-init c = search rules

pub returns-in_err-note-clause-judged : goal.returns-in_err-note-clause-judged
returns-in_err-note-clause-judged c =
    let p = err_from_is_err_and c.from_residual.result c.from_residual.ensures.1 in
    let l = c.loop-earlier in
    let sections = c.args.sections.now in
    let done = take l.earlier sections in
    let section = c.index-sections-earlier.result in
    let many : l.earlier ≤ length sections = omega arith in
    let counted = ap (λ n. n + 1) (sym (length-take-le l.earlier sections many)) in
    let same = judged_by_names bytes_eq (λ s. s.name) has_long_runs (TwiceNamed Sections) ShortRun done l.names section (l.earlier + 1) l.invariant.named counted in
    let next = split_at sections l.earlier section c.loop-earlier-test.true c.index-sections-earlier.is in
    rw (p.1, p.2)
    (refused section_refusal (sound_sections c.args.sections.now) done c.in_err-note.field-0.0 _ _ section next (l.invariant.so_far)
    (subst (λ (answer : Result (Unit {0}) TrackRefusal). RefusesOrMemory c.in_err-note.field-0.0 answer) same c.in_err-note.ensures.judged))

pub loop-earlier-preserved : goal.loop-earlier-preserved
loop-earlier-preserved c =
    let l = c.loop-earlier in
    let sections = c.args.sections.now in
    let done = take l.earlier sections in
    let section = c.index-sections-earlier.result in
    let many : l.earlier ≤ length sections = omega arith in
    let counted = ap (λ n. n + 1) (sym (length-take-le l.earlier sections many)) in
    let same = judged_by_names bytes_eq (λ s. s.name) has_long_runs (TwiceNamed Sections) ShortRun done l.names section (l.earlier + 1) l.invariant.named counted in
    let next = split_at sections l.earlier section c.loop-earlier-test.true c.index-sections-earlier.is in
    let joined = joined_at sections l.earlier section c.loop-earlier-test.true c.index-sections-earlier.is in
    record {
      so_far = passed section_refusal (sound_sections sections) done _ _ (take (l.earlier + 1) sections) section next l.invariant.so_far joined (sym same ∙ c.in_ok-note.ensures.judged);
      named = c.in_ok-note.ensures.named ∙ named_next (λ (s : Section). s.name) done (take (l.earlier + 1) sections) l.names section l.invariant.named joined;
      form =
          subst (λ (done : List Section). All IsSectionInForm done) (sym joined)
          (All-append IsSectionInForm done (section ∷ []) l.invariant.form (All-cons IsSectionInForm section [] c.in_ok-note.ensures.form (All-nil IsSectionInForm)));
    }

pub returns-clause-named : goal.returns-clause-named
returns-clause-named c =
    let l = c.loop-earlier in
    let whole = take_all l.earlier c.args.sections.now c.loop-earlier-test.false in
    l.invariant.named ∙ ap (map (λ (s : Section). s.name)) whole

pub returns-clause-form : goal.returns-clause-form
returns-clause-form c =
    let whole = take_all c.loop-earlier.earlier c.args.sections.now c.loop-earlier-test.false in
    subst (λ (done : List Section). All IsSectionInForm done) whole c.loop-earlier.invariant.form
