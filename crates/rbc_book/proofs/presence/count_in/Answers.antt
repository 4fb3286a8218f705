use Rattle.std.proofs.Common.{ℕ, ◌∙◌, ap, subst, sym}
use Rattle.rbc_model.specs.Lines.{IsLine}
use Rattle.rbc_book.specs.Presence.{HasRoom, with_one}
use Rattle.rbc_book.proofs.PresenceLemmas.{changed_more, not_yet, stands}
use Rattle.rbc_book.proofs.presence.count_in.Goals as goal

pub loop-leg-preserved : goal.loop-leg-preserved
loop-leg-preserved c =
    let number = c.args.train.now.train.report.train in
    let track = c.line-line.result.now.track in
    let legs = c.legs-legs.result.now in
    let leg = c.leg-item.result in
    let line : IsLine track legs = subst (IsLine track) (sym c.legs-legs.ensures.legs) c.known-2.ensures.line in
    let within = c.loop-leg-test.true in
    record {
      size = c.put.ensures.size ∙ c.loop-leg.invariant.size;
      counted = changed_more (with_one number) track legs c.loop-leg.leg-index leg line within c.leg-item.is c.args.presence.now.items c.loop-leg.presence.items c.loop-leg.invariant.counted c.put.new.presence.items
          (c.put.ensures.put ∙ c.with-tally.ensures ∙ ap (λ (n : ℕ). with_one n c.tally_at.result) c.id.ensures ∙ ap (with_one number) c.tally_at.ensures) c.put.ensures.others;
    }

pub with-tally-requires-clause-room : goal.with-tally-requires-clause-room
with-tally-requires-clause-room c =
    let track = c.line-line.result.now.track in
    let legs = c.legs-legs.result.now in
    let leg = c.leg-item.result in
    let line : IsLine track legs = subst (IsLine track) (sym c.legs-legs.ensures.legs) c.known-2.ensures.line in
    let within = c.loop-leg-test.true in
    let now = c.tally_at.ensures ∙ not_yet (with_one c.args.train.now.train.report.train) track legs c.loop-leg.leg-index leg line within c.leg-item.is c.args.presence.now.items c.loop-leg.presence.items c.loop-leg.invariant.counted in
    subst HasRoom (sym now) (c.requires.room leg.section (stands legs c.loop-leg.leg-index leg within c.leg-item.is c.args.train.now.train.line (c.legs-legs.ensures.legs ∙ c.line-line.ensures.legs)))
