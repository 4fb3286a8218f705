use Rattle.std.proofs.Common.{◌≡◌, suc, ◌+◌, ◌-◌, ◌<◌, ◌++◌, [], ◌∷◌, get_or, max, arith, ap, sym, subst, ◌∙◌}
use Rattle.rbc_model.specs.declared.places.Direction.TheVariants.{Falling}
use Rattle.rbc_line.specs.Along.{Tells}
use Rattle.rbc_line.proofs.AlongLemmas.{AreMetFrom, before_falling, told_falling}
use Rattle.rbc_line.proofs.along.push_falling.Goals as goal

pub loop-index-init : goal.loop-index-init
loop-index-init g c = record {
  met = record {
    top = omega arith;
    within = omega (arith, c.run_at-index.ensures.within);
    begun = λ k d h.
        let same : c.run_at-index.result ≡ k = omega arith in
        subst (λ i. (get_or c.args.runs.now i d).0 < c.args.high) same (omega (arith, c.run_at-index.ensures.begun d, c.requires.some));
    later = λ k d h l. omega (arith, c.run_at-index.ensures.later k d (omega arith) l, c.requires.some);
    all = λ h. absurd (omega arith);
  };
  tells = λ level t are. subst (λ n. Tells c.args.rows.now.items n level) (omega (arith, c.requires.some)) t;
}

pub returns-then-reached-low : goal.returns-then-reached-low
returns-then-reached-low g c = λ level t are.
    let l = c.loop-index in
    subst (λ n. Tells l.rows.items n level) (omega arith) (l.invariant.tells level t are)

pub loop-index-preserved : goal.loop-index-preserved
loop-index-preserved g c =
    let l = c.loop-index in
    let runs = c.args.runs.now in
    let met = g.V.TrackLevel.met Falling in
    let k = l.index - 1 in
    let run = c.index-runs-index.result in
    let n = c.args.told + (c.args.high - l.reached) in
    let whole : l.index ≡ suc k = omega (arith, c.loop-index-test.true) in
    let from : AreMetFrom runs c.args.high (suc k) l.reached = subst (λ i. AreMetFrom runs c.args.high i l.reached) whole l.invariant.met in
    let start : (get_or runs k run).0 ≡ run.0 = ap (λ r. r.0) (sym c.index-runs-index.is) in
    let value : c.met.result ≡ met (get_or runs k run).1 = cc (c.met.ensures, ap (λ r. met r.1) c.index-runs-index.is) in
    record {
      met = subst (λ s. AreMetFrom runs c.args.high k s) start (before_falling runs c.requires.runs c.args.low c.args.high c.args.told met k run l.reached from);
      tells = λ level t are.
          subst (λ s. Tells c.push.new.self.items (c.args.told + (c.args.high - max s c.args.low)) level) start
          (subst (λ rows. Tells rows (c.args.told + (c.args.high - max (get_or runs k run).0 c.args.low)) level) (sym (c.in_ok-push.ensures.items ∙ ap (λ v. l.rows.items ++ (n, v) ∷ []) value))
          (told_falling runs c.requires.runs c.args.low c.args.high c.args.told met level l.rows.items k l.reached run are from c.if-reached-low.false (l.invariant.tells level t are)));
    }

pub returns : goal.returns
returns g c = λ level t are.
    let l = c.loop-index in
    let none = l.invariant.met.all (omega (arith, c.loop-index-test.false)) in
    subst (λ n. Tells l.rows.items n level) (omega arith) (l.invariant.tells level t are)
