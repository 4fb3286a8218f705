use Rattle.std.proofs.Common.{◌+◌, ◌≤◌, arith}
use Rattle.rbc_bits.proofs.CutLemmas.{bits_of-joined, joined_number, joined_number-below}
use Rattle.rbc_packet.proofs.fields.Row.and.Goals as goal

pub returns-clause-fits : goal.returns-clause-fits
returns-clause-fits c =
    let row = c.args.self in
    let joined = joined_number row.width c.args.width row.number c.args.value c.requires.fits c.requires.value_fits (omega (arith, c.requires.few)) in
    rw (c.from.ensures, joined) (joined_number-below row.width c.args.width row.number c.args.value c.requires.fits c.requires.value_fits)

pub returns-clause-bits : goal.returns-clause-bits
returns-clause-bits c =
    let row = c.args.self in
    let joined = joined_number row.width c.args.width row.number c.args.value c.requires.fits c.requires.value_fits (omega (arith, c.requires.few)) in
    rw (c.from.ensures, joined) (bits_of-joined row.width c.args.width row.number c.args.value c.requires.value_fits)
