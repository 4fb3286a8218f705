use Rattle.std.proofs.Common.{◌≡◌, drop}
use Rattle.rbc_model.specs.Profiles.{starts_of}
use Rattle.rbc_model.specs.SoundTracks.{are_long}
use Rattle.rbc_track.proofs.LastingLemmas.{are_apart}
use Rattle.rbc_track.proofs.long_runs.are_long.Given as goal

abbrev pub invariant-loop-next : goal.invariant-loop-next
invariant-loop-next g l = are_apart l.end l.start (starts_of (drop l.next-index l.later)) ≡ are_long l.end l.runs
