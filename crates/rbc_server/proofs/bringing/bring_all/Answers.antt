use Rattle.std.proofs.Common.{◌<◌, List, length, slice_index_or, subst, arith}
use Rattle.rbc_sessions.specs.Seats.{Seated}
use Rattle.rbc_sessions.proofs.CrewLemmas.{zip_written}
use Rattle.rbc_server.specs.Serving.{IsBrought}
use Rattle.rbc_server.proofs.bringing.bring_all.Goals as goal

pub returns-clause-brought : goal.returns-clause-brought
returns-clause-brought g c =
    let others = c.args.others.now in
    let new = c.bring_each.new.seats in
    zip_written (IsBrought others) c.args.seats.items new c.args.seats.len (omega (arith, c.args.seats.ok.0, c.as_mut_slice.ensures.len)) (omega (arith, c.args.seats.ok.0)) (λ i d inside.
    subst (λ (items : List Seated). i < length items → IsBrought others (slice_index_or items i d) (slice_index_or new i d)) c.as_mut_slice.ensures.value
    (λ within. c.bring_each.ensures i d within) inside)
