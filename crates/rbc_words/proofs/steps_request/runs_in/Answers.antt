use Rattle.std.proofs.Common.{◌≡◌, ◌∷◌, ◌++◌, [], false, subst, arith}
use Rattle.std.specs.Result.{is_ok}
use Rattle.rbc_model.specs.declared.places.Format.TheVariants.{Far}
use Rattle.rbc_model.specs.Words.{words_of}
use Rattle.rbc_model.specs.StepsText.{runs_in}
use Rattle.rbc_words.proofs.RequestLemmas.{IsSoFar, pushed, one_more}
use Rattle.rbc_words.proofs.steps_request.runs_in.Goals.{then-refused, else-refused}
use Rattle.rbc_words.proofs.steps_request.runs_in.Goals as goal

pub loop-last-preserved : goal.loop-last-preserved
loop-last-preserved g c =
    let kind = g.V.Spelled.kind in
    let all = runs_in kind Far c.args.limit 3 (c.args.first.now ∷ c.args.second.now ∷ words_of c.args.words.now) in
    let here = subst (λ words. IsSoFar all (runs_in kind Far c.args.limit c.loop-last.index (c.loop-last.word.now ∷ c.loop-last.next.now ∷ words)) c.loop-last.refused c.loop-last.runs.items) c.in-Some.ensures.words c.loop-last.invariant.0 in
    let kept : c.if-refused.refused ≡ false → (c.loop-last.refused ≡ false) × (c.if-refused.runs.items ≡ c.loop-last.runs.items ++ c.in_ok-run.run' ∷ []) =
    elim c.if-refused.branch [
      | then-refused w ↦ λ e. absurd (cc)
      | else-refused w ↦ λ e. (w.if-refused.false, rw w.runs-is (pushed (is_ok w.push.result) w.is_err-refused.result c.loop-last.runs.items w.push.new.self.items c.in_ok-run.run' w.is_err-refused.ensures.negation w.push.ensures.items (cc)))
    ] in
    (one_more kind c.args.limit c.loop-last.index c.loop-last.word.now c.loop-last.next.now all c.in-Some.last.now (words_of c.in-Some.more.now) c.loop-last.refused c.if-refused.refused c.loop-last.runs.items c.if-refused.runs.items c.in_ok-run.run' c.in_ok-run.ensures kept here, omega (arith, c.loop-last.invariant.1, c.in-Some.ensures.shorter))
