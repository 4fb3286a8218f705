use Rattle.std.proofs.Common.{arith, ◌≡◌, ◌+◌, ◌-◌, ◌*◌, ◌/◌, ◌<◌, ◌∙◌, ℕ, ap, length, min, subst}
use Rattle.std.specs.Prelude.{IfOk}
use Rattle.std.specs.List.{AllZip}
use Rattle.std.specs.Global.{Vec}
use Rattle.rayon.specs.Lists.{min_len_base, range_end, range_start}
use Rattle.rayon.specs.Numbers.{nat_range}
use Rattle.rayon.proofs.ToStd.{nat_range-All}
use Rattle.rbc_reduce.specs.Tiles.{IsPart}
use Rattle.rbc_reduce.specs.declared.parts.Group.{Group}
use Rattle.rbc_reduce.proofs.TileLemmas.{all_ok, parts_of}
use Rattle.rbc_reduce.proofs.parts.begin_in_threads.Goals as goal

pub collect-requires-clause-ready : goal.collect-requires-clause-ready
collect-requires-clause-ready g c κs within =
    let ends = c.into_par_iter.ensures in
    let inside = nat_range-All (λ i. i < ((c.args.tile.end - c.args.tile.known + 32 - 1) / 32)) 0 ((c.args.tile.end - c.args.tile.known + 32 - 1) / 32) (λ i low high. high) in
    rw (c.map.ensures.base, c.map.ensures.f, c.with_min_len.ensures.base, ends.0, ends.1) (λ k d lt.
    let at = inside k d lt in
    ((c.requires.stretches, (c.requires.room, (c.requires.firsts, (c.requires.some, (c.requires.filled, (omega (arith, at), (c.requires.inside, (c.requires.small, (c.type_bounds.send-V, c.type_bounds.send-N, c.type_bounds.sync-V, c.type_bounds.sync-N))))))))), λ y p. tt))

pub returns : goal.returns
returns g c =
    let ends = c.into_par_iter.ensures in
    let made = c.in_ok-parts.ensures in
    let zipped = rw c.map.ensures.f at made.1.2 in
    let count = ((c.args.tile.end - c.args.tile.known + 32 - 1) / 32) in
    let places : made.1.0 ≡ nat_range 0 count = made.1.1 ∙ ap (λ m. nat_range (range_start (min_len_base m)) (range_end (min_len_base m))) c.map.ensures.base
    ∙ ap (λ r. nat_range (range_start r) (range_end r)) c.with_min_len.ensures.base ∙ (λ i. nat_range (ends.0 i) (ends.1 i)) in
    let R : ℕ → Vec (Group g.row.N.Denot) → Type 0 = λ k part. IsPart g.V.Level.levels c.args.track.now g.N.Total.number c.args.rows.now c.args.tile.known (c.args.tile.known + 32 * k) (min c.args.tile.end (c.args.tile.known + 32 * k + 32)) part.items in
    let found = subst (λ l. IfOk c.in_ok-parts.parts (λ parts. AllZip R l parts.items)) places (all_ok R made.1.0 made.0 c.in_ok-parts.parts zipped made.2) in
    parts_of g.V.Level.levels c.args.track.now g.N.Total.number c.args.tile.known c.args.rows.now c.args.tile.end (count - 0) c.in_ok-parts.parts (omega arith) found
