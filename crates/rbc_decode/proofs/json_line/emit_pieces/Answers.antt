use Rattle.std.proofs.Common.{sym}
use Rattle.std.proofs.lemmas.List.{at_drop_all}
use Rattle.std.specs.List.{flat_map}
use Rattle.rbc_streams.proofs.EmittingLemmas.{emits_then, emits_as, emits_nothing}
use Rattle.rbc_decode.specs.JsonParts.{piece_text}
use Rattle.rbc_decode.proofs.PartsLemmas.{flat_map-next}
use Rattle.rbc_decode.proofs.json_line.emit_pieces.Goals as goal

pub loop-piece-preserved : goal.loop-piece-preserved
loop-piece-preserved g c =
    let loop = c.loop-piece in
    let next = flat_map-next piece_text c.args.pieces.now loop.piece-index _ c.loop-piece-test.true in
    λ end rest. loop.invariant end (emits_as (sym next) (emits_then c.emit_piece.ensures rest))

pub returns : goal.returns
returns g c =
    let loop = c.loop-piece in
    let none_left = at_drop_all (λ pieces. flat_map piece_text pieces) c.args.pieces.now loop.piece-index c.loop-piece-test.false in
    loop.invariant _ (emits_as (sym none_left) (emits_nothing _))
