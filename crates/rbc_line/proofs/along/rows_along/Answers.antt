use Rattle.std.proofs.Common.{◌≡◌, ◌+◌, drop, arith, ap, sym, subst, ◌∙◌}
use Rattle.std.proofs.lemmas.List.Sums.{sum_by-drop_more}
use Rattle.rbc_model.specs.declared.places.Leg.{Leg}
use Rattle.rbc_model.specs.Lines.{line_length}
use Rattle.rbc_model.specs.Tracks.{metres_of}
use Rattle.rbc_line.specs.Along.{Tells, level_at, levels_from}
use Rattle.rbc_line.proofs.AlongLemmas.{after_leg, before_leg, beside_leg, inside_leg, level_there, place_on_leg}
use Rattle.rbc_line.proofs.along.rows_along.Goals as goal
use Rattle.rbc_line.proofs.along.rows_along.Goals.{then-first-last+in_ok-push_leg, else-first-last}

pub loop-leg-preserved : goal.loop-leg-preserved
loop-leg-preserved g c =
    let l = c.loop-leg in
    let track = c.args.track.now in
    let legs = c.args.legs.now in
    let leg = c.leg-item.result in
    let from = c.args.from in
    let to = c.args.to in
    let begin = l.begin in
    let metres = c.metres_of.result in
    let first = c.max-first.result in
    let last = c.min-last.result in
    let steps_of = g.V.TrackLevel.steps_of in
    let met = g.V.TrackLevel.met in
    let level = levels_from steps_of met track legs from in
    let step : line_length track (drop l.leg-index legs) ≡ metres_of track leg.section + line_length track (drop (l.leg-index + 1) legs) =
    sum_by-drop_more (λ (x : Leg). metres_of track x.section) legs l.leg-index leg c.loop-leg-test.true
    ∙ ap (λ (x : Leg). metres_of track x.section + line_length track (drop (l.leg-index + 1) legs)) (sym c.leg-item.is) in
    elim c.if-first-last.branch [
      | then-first-last+in_ok-push_leg w ↦
          rw w.rows-is
          (record {
            metres = omega (arith, step, w.begin-is, l.invariant.metres, c.metres_of.ensures);
            tells = subst (λ n. Tells w.push_leg.new.rows.items n level) (after_leg from to begin metres first last c.if-first-last.begin c.if-to-begin.false c.max-first.ensures c.min-last.ensures w.if-first-last.true w.begin-is)
                (w.in_ok-push_leg.ensures level
                (subst (λ n. Tells l.rows.items n level) (before_leg from to begin (begin + metres) first last c.if-to-begin.false c.max-first.ensures c.min-last.ensures w.if-first-last.true) l.invariant.tells)
                (λ x a b.
                ap (level_at steps_of met track legs) (place_on_leg from begin first x c.max-first.ensures a)
                ∙ level_there steps_of met track legs l.leg-index begin x leg c.loop-leg-test.true c.leg-item.is l.invariant.metres (inside_leg to begin metres last x (metres_of track leg.section) c.min-last.ensures b c.metres_of.ensures)));
          })
      | else-first-last w ↦
          rw w.rows-is
          (record {
            metres = omega (arith, step, w.begin-is, l.invariant.metres, c.metres_of.ensures);
            tells = subst (λ n. Tells l.rows.items n level) (beside_leg from to begin metres first last c.if-first-last.begin c.if-to-begin.false c.max-first.ensures c.min-last.ensures w.if-first-last.false w.begin-is) l.invariant.tells;
          })
    ]
