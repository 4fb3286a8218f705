use Rattle.std.proofs.Common.{drop}
use Rattle.std.specs.Prelude.{IsTrue}
use Rattle.std.specs.List.{AllByRecursion}
use Rattle.rbc_model.specs.Names.{is_name}
use Rattle.rbc_model.specs.Tracks.{Section}
use Rattle.rbc_lines.proofs.track.sections_known.Given as goal

-- if it holds of those that are left it holds of all
abbrev pub invariant-loop-section : goal.invariant-loop-section
invariant-loop-section l = record {
  whole : AllByRecursion (λ (section : Section). IsTrue (is_name section.name)) (drop l.section-index l.sections) → AllByRecursion (λ (section : Section). IsTrue (is_name section.name)) l.sections;
}
