use Rattle.std.proofs.Common.{arith}
use Rattle.rbc_reduce.proofs.TileLemmas.{min_low, min_high}
use Rattle.rbc_reduce.proofs.parts.fn.begin_in_threads.map.Goals as goal
