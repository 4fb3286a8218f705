use Rattle.std.proofs.Common.{take}
use Rattle.rbc_server.specs.Serving.{IsBrought}
use Rattle.rbc_server.proofs.bringing.bring.Given as goal

-- the seat was told what those so far were told
abbrev pub invariant-loop-other : goal.invariant-loop-other
invariant-loop-other g l = IsBrought (take l.other-index l.others) l.fn.seat l.seat
