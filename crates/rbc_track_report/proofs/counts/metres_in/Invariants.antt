use Rattle.std.proofs.Common.{◌≡◌, ◌+◌, ◌*◌, ◌≤◌, drop}
use Rattle.rbc_model.specs.declared.limits.TheConstants.{LONGEST_TRACK}
use Rattle.rbc_track_report.specs.Report.{metres_in}
use Rattle.rbc_track_report.proofs.counts.metres_in.Given as goal

-- so many so far, with the metres of the sections that are left
abbrev pub invariant-loop-section : goal.invariant-loop-section
invariant-loop-section l = record {
  whole : l.metres + metres_in (drop l.section-index l.sections) ≡ metres_in l.sections;
  few : l.metres ≤ l.section-index * LONGEST_TRACK;
}
