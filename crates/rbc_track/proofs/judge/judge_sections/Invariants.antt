use Rattle.std.proofs.Common.{◌≡◌, [], take, drop}
use Rattle.rbc_model.specs.SoundTracks.{first_refusal, section_refusal}
use Rattle.rbc_track.proofs.judge.judge_sections.Given as goal

abbrev pub invariant-loop-earlier : goal.invariant-loop-earlier
invariant-loop-earlier l = first_refusal section_refusal (take l.earlier l.sections) (drop l.earlier l.sections) ≡ first_refusal section_refusal [] l.sections
