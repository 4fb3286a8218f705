use Rattle.std.proofs.Common.{◌+◌, ◌-◌, ◌++◌, [], ◌∷◌, arith, ap, sym, subst, ◌∙◌, min}
use Rattle.rbc_model.specs.declared.places.Direction.TheVariants.{Rising}
use Rattle.rbc_line.specs.Along.{Tells}
use Rattle.rbc_line.proofs.AlongLemmas.{after_rising, all_rising, told_rising}
use Rattle.rbc_line.proofs.along.push_rising.Goals as goal

pub loop-index-init : goal.loop-index-init
loop-index-init g c = record {
  next = record {
    ahead = omega arith;
    within = λ h. c.run_at-index.ensures.within;
    begun = λ d h. c.run_at-index.ensures.begun d;
    later = c.run_at-index.ensures.later;
  };
  tells = λ level t are. subst (λ n. Tells c.args.rows.now.items n level) (omega (arith, c.requires.some)) t;
}

pub returns-then-high-reached : goal.returns-then-high-reached
returns-then-high-reached g c = λ level t are.
    let l = c.loop-index in
    subst (λ n. Tells l.rows.items n level) (omega arith) (l.invariant.tells level t are)

pub loop-index-preserved : goal.loop-index-preserved
loop-index-preserved g c =
    let l = c.loop-index in
    let runs = c.args.runs.now in
    let met = g.V.TrackLevel.met Rising in
    let next = c.stop-reached.result in
    let stops = c.stop-reached.ensures in
    let row = c.index-runs-index.result in
    let n = c.args.told + (l.reached - c.args.low) in
    let after = after_rising runs c.requires.runs c.args.low c.args.high c.args.told met l.index l.reached next l.invariant.next c.if-high-reached.false stops.next stops.last in
    record {
      next = after.0;
      tells = λ level t are.
          subst (λ rows. Tells rows (c.args.told + (min next c.args.high - c.args.low)) level) (sym (c.in_ok-push.ensures.items ∙ ap (λ v. l.rows.items ++ (n, v) ∷ []) c.met.ensures))
          (told_rising runs c.requires.runs c.args.low c.args.high c.args.told met level l.rows.items l.index l.reached next row are l.invariant.next c.if-high-reached.false stops.next stops.last (l.invariant.tells level t are));
    }

pub returns : goal.returns
returns g c = λ level t are.
    let l = c.loop-index in
    let all = all_rising c.args.runs.now c.requires.runs c.args.low c.args.high c.args.told (g.V.TrackLevel.met Rising) l.index l.reached l.invariant.next c.loop-index-test.false in
    subst (λ n. Tells l.rows.items n level) (omega arith) (l.invariant.tells level t are)
