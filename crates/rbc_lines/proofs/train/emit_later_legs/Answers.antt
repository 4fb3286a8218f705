use Rattle.std.proofs.Common.{◌∷◌, sym, ap, ◌∙◌, ◌<◌, length, codes, map}
use Rattle.std.specs.Prelude.{decimal}
use Rattle.rbc_model.specs.declared.places.Leg.{Leg}
use Rattle.rbc_model.specs.SessionReply.{leg_word}
use Rattle.rbc_model.specs.Words.{line_of}
use Rattle.rbc_streams.proofs.EmittingLemmas.{emits_then, emits_as, emits_nothing}
use Rattle.rbc_lines.proofs.PieceLemmas.{each_of_piece, later_lines-next, later_lines-end, later_shorter}
use Rattle.rbc_lines.proofs.train.emit_later_legs.Goals as goal

pub loop-rest-preserved : goal.loop-rest-preserved
loop-rest-preserved g c =
    let loop = c.loop-rest in
    let cut = later_lines-next c.args.track.now c.args.train.now.train loop.rest.now _ _ (sym c.is_empty.ensures ∙ c.loop-rest-test.true) c.first_piece.ensures.front c.first_piece.ensures.back in
    let same = ap (λ n. line_of (codes "along" ∷ decimal n ∷ map (leg_word c.args.track.now) c.first_piece.result.0.now)) (c.number.ensures ∙ c.id.ensures) in
    record {
      of_track = (each_of_piece (λ (leg : Leg). leg.section < length c.args.track.now.sections) loop.rest.now c.first_piece.result.0.now c.first_piece.result.1.now loop.invariant.of_track c.first_piece.ensures.front c.first_piece.ensures.back).1;
      whole = λ end rest. loop.invariant.whole end (emits_as (sym cut) (emits_then (emits_as same c.emit_leg_line.ensures) rest));
    }

pub returns : goal.returns
returns g c =
    let none_left = later_lines-end c.args.track.now c.args.train.now.train c.loop-rest.rest.now (sym c.is_empty.ensures ∙ c.loop-rest-test.false) in
    c.loop-rest.invariant.whole _ (emits_as (sym none_left) (emits_nothing _))

pub loop-rest-smaller : goal.loop-rest-smaller
loop-rest-smaller g c = later_shorter c.loop-rest.rest.now c.first_piece.result.1.now (sym c.is_empty.ensures ∙ c.loop-rest-test.true) c.first_piece.ensures.back
