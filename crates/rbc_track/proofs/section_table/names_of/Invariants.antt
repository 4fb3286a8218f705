use Rattle.std.proofs.Common.{All, ◌≡◌, take, drop, map}
use Rattle.rbc_model.specs.SoundTracks.{section_refusal}
use Rattle.rbc_track.specs.Making.{sound_sections}
use Rattle.rbc_track.specs.Tables.{IsSectionInForm}
use Rattle.rbc_track.proofs.JudgingLemmas.{judged_from}
use Rattle.rbc_track.proofs.section_table.names_of.Given as goal

abbrev pub invariant-loop-earlier : goal.invariant-loop-earlier
invariant-loop-earlier l = record {
  so_far : judged_from section_refusal (take l.earlier l.sections) (drop l.earlier l.sections) ≡ sound_sections l.sections;
  named : l.names ≡ map (λ section. section.name) (take l.earlier l.sections);
  form : All IsSectionInForm (take l.earlier l.sections);
}
