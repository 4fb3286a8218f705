use Rattle.std.proofs.Common.{sym, subst}
use Rattle.rbc_streams.proofs.EmittingLemmas.{emits_then, emits_as, emits_nothing}
use Rattle.rbc_model.specs.SessionReply.{leg_word}
use Rattle.rbc_words.specs.LineWords.{word_text}
use Rattle.rbc_words.proofs.SpacedLemmas.{spaced-end}
use Rattle.rbc_lines.specs.TrackText.{IsLegOf}
use Rattle.rbc_lines.proofs.TrackTextLemmas.{legs-next}
use Rattle.rbc_lines.proofs.track.emit_legs.Goals as goal

pub leg_word-requires : goal.leg_word-requires
leg_word-requires g c =
    let item = c.leg-item in
    subst (IsLegOf c.args.track.now) (sym item.is) (c.requires.of_track c.loop-leg.leg-index item.result c.loop-leg-test.true)

pub loop-leg-preserved : goal.loop-leg-preserved
loop-leg-preserved g c =
    let loop = c.loop-leg in
    let item = c.leg-item in
    let next = legs-next c.args.track.now c.args.legs.now loop.leg-index item.result (word_text c.leg_word.result) c.loop-leg-test.true item.is c.leg_word.ensures in
    λ end rest. loop.invariant end (emits_as (sym next) (emits_then c.emit_words.ensures rest))

pub returns : goal.returns
returns g c =
    let loop = c.loop-leg in
    let none_left = spaced-end (leg_word c.args.track.now) c.args.legs.now loop.leg-index c.loop-leg-test.false in
    loop.invariant _ (emits_as (sym none_left) (emits_nothing _))
