use Rattle.std.proofs.Common.{◌≡◌, suc, ◌+◌, ◌-◌, ◌<◌, ◌++◌, ◌∷◌, [], length, drop, get_or, arith, ap, subst, sym, ◌∙◌}
use Rattle.rbc_steps.specs.Mirrored.{mirrored}
use Rattle.rbc_steps.proofs.TurnedLemmas.{mirrored_more}
use Rattle.rbc_steps.proofs.rows.reversed.Goals as goal

pub loop-index-preserved : goal.loop-index-preserved
loop-index-preserved g c =
    let rows = c.args.rows.now in
    let k = c.loop-index.index - 1 in
    let next : k + 1 ≡ suc k = omega arith in
    let here : c.loop-index.index ≡ suc k = omega arith in
    let more = mirrored_more c.args.end rows k c.stop.result c.index-rows-index.result (omega arith) c.index-rows-index.is
    (λ d. subst (λ j. j < length rows → c.stop.result ≡ (get_or rows j d).0) next (c.stop.ensures.next d))
    (λ l. c.stop.ensures.last (omega arith)) in
    let row = c.index-rows-index.result in
    c.in_ok-push.ensures.items
    ∙ ap (λ v. c.loop-index.back.items ++ (c.args.end - c.stop.result, v) ∷ []) (ap (λ r. r.1) (sym c.index-rows-index.is))
    ∙ ap (λ b. b ++ (c.args.end - c.stop.result, row.1) ∷ []) (c.loop-index.invariant ∙ ap (λ j. mirrored c.args.end (drop j rows)) here)
    ∙ more
