use Rattle.std.proofs.Common.{[], take, sym}
use Rattle.std.proofs.lemmas.Result.{err_from_is_err_and}
use Rattle.rbc_model.specs.SoundTracks.{first_refusal, section_refusal}
use Rattle.rbc_track.proofs.JudgingLemmas.{split_at, told_next}
use Rattle.rbc_track.proofs.judge.judge_sections.Goals as goal

pub returns-in_err-judge_section : goal.returns-in_err-judge_section
returns-in_err-judge_section c =
    let p = err_from_is_err_and c.from_residual.result c.from_residual.ensures.1 in
    let sections = c.args.sections.now in
    let i = c.loop-earlier.earlier in
    let section = c.index-sections-earlier.result in
    let next = split_at sections i section c.loop-earlier-test.true c.index-sections-earlier.is in
    rw (p.1, p.2)
    (sym (told_next section_refusal (first_refusal section_refusal [] sections) (take i sections) _ _ section next c.loop-earlier.invariant c.in_err-judge_section.field-0.0 (sym c.in_err-judge_section.ensures)))
