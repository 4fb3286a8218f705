use Rattle.std.proofs.Common.{ℕ, ◌∙◌, ap, subst, sym}
use Rattle.rbc_model.specs.Lines.{IsLine}
use Rattle.rbc_book.specs.Presence.{without_one}
use Rattle.rbc_book.proofs.PresenceLemmas.{changed_more}
use Rattle.rbc_book.proofs.presence.count_out.Goals as goal

pub loop-leg-preserved : goal.loop-leg-preserved
loop-leg-preserved c =
    let number = c.args.train.now.train.report.train in
    let track = c.line-line.result.now.track in
    let legs = c.legs-legs.result.now in
    let leg = c.leg-item.result in
    let line : IsLine track legs = subst (IsLine track) (sym c.legs-legs.ensures.legs) c.known.ensures.line in
    let within = c.loop-leg-test.true in
    record {
      size = c.put.ensures.size ∙ c.loop-leg.invariant.size;
      counted = changed_more (without_one number) track legs c.loop-leg.leg-index leg line within c.leg-item.is c.args.presence.now.items c.loop-leg.presence.items c.loop-leg.invariant.counted c.put.new.presence.items
          (c.put.ensures.put ∙ c.without-tally.ensures ∙ ap (λ (n : ℕ). without_one n c.tally_at.result) c.id.ensures ∙ ap (without_one number) c.tally_at.ensures) c.put.ensures.others;
    }
