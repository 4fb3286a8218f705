use Rattle.rbc_track.proofs.LastingLemmas.{first_apart}
use Rattle.rbc_track.proofs.long_runs.are_long.Goals as goal

pub loop-next-init : goal.loop-next-init
loop-next-init g c = first_apart c.args.end c.args.runs.now c.first-item.result c.in-len1-up.len_at_least c.first-item.is
