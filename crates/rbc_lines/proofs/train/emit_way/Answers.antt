use Rattle.std.proofs.Common.{◌<◌, length, sym, subst, ◌∙◌}
use Rattle.std.specs.Prelude.{All}
use Rattle.rbc_model.specs.declared.places.Leg.{Leg}
use Rattle.rbc_model.specs.Lines.{Line}
use Rattle.rbc_model.specs.Tracks.{Track}
use Rattle.rbc_streams.proofs.EmittingLemmas.{emits_then, emits_as}
use Rattle.rbc_lines.proofs.PieceLemmas.{each_of_piece, way_lines-cut}
use Rattle.rbc_lines.proofs.train.emit_way.Goals as goal

pub returns : goal.returns
returns g c =
    let whole = way_lines-cut c.args.track.now c.args.train.now.train _ _ _ _ _ (sym (c.legs-legs.ensures.legs ∙ c.line-line.ensures.legs)) (c.number.ensures ∙ c.id.ensures) c.origin.ensures.origin
    c.first_piece.ensures.front c.first_piece.ensures.back in
    emits_as (sym whole) (emits_then c.emit_leg_line.ensures c.emit_later_legs.ensures)

pub emit_leg_line-requires : goal.emit_leg_line-requires
emit_leg_line-requires g c =
    let known = subst (λ (t : Track). All (λ (leg : Leg). leg.section < length t.sections) c.args.train.now.train.line) c.requires.track c.known.ensures.line.of_track in
    let of = subst (λ (l : Line). All (λ (leg : Leg). leg.section < length c.args.track.now.sections) l) (sym (c.legs-legs.ensures.legs ∙ c.line-line.ensures.legs)) known in
    record { of_track = (each_of_piece (λ (leg : Leg). leg.section < length c.args.track.now.sections) c.legs-legs.result.now c.first_piece.result.0.now c.first_piece.result.1.now of c.first_piece.ensures.front c.first_piece.ensures.back).0 }

pub emit_later_legs-requires : goal.emit_later_legs-requires
emit_later_legs-requires g c =
    let known = subst (λ (t : Track). All (λ (leg : Leg). leg.section < length t.sections) c.args.train.now.train.line) c.requires.track c.known.ensures.line.of_track in
    let of = subst (λ (l : Line). All (λ (leg : Leg). leg.section < length c.args.track.now.sections) l) (sym (c.legs-legs.ensures.legs ∙ c.line-line.ensures.legs)) known in
    record { of_track = (each_of_piece (λ (leg : Leg). leg.section < length c.args.track.now.sections) c.legs-legs.result.now c.first_piece.result.0.now c.first_piece.result.1.now of c.first_piece.ensures.front c.first_piece.ensures.back).1 }
