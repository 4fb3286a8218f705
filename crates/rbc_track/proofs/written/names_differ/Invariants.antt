use Rattle.std.proofs.Common.{◌≡◌, drop}
use Rattle.rbc_track.specs.Written.{names_differ}
use Rattle.rbc_track.proofs.written.names_differ.Given as goal

abbrev pub invariant-loop-index : goal.invariant-loop-index
invariant-loop-index l = names_differ (drop l.index l.legs) ≡ names_differ l.legs
