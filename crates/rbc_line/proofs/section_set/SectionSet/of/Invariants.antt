use Rattle.std.proofs.Common.{◌≡◌, ℕ, length, take}
use Rattle.rbc_model.specs.Lines.{has_section}
use Rattle.rbc_line.specs.SectionSets.{is_in}
use Rattle.rbc_line.proofs.section_set.SectionSet.of.Given as goal

abbrev pub invariant-loop-leg : goal.invariant-loop-leg
invariant-loop-leg l = record {
  size : length l.set ≡ length l.line.track.sections;
  sections : (section : ℕ) → is_in l.set section ≡ has_section (take l.leg-index l.legs) section;
}
