use Rattle.std.proofs.Common.{◌≡◌, ◌∷◌, ◌∙◌, ap, arith, of_z, to_z, to_z-of_z, w64}
use Rattle.std.specs.Prelude.{decimal, codes}
use Rattle.std.specs.Fmt.{signed_decimal}
use Rattle.rbc_model.specs.Words.{line_of}
use Rattle.rbc_model.specs.SceneLines.{end_word, distance_word}
use Rattle.rbc_model.specs.SessionReply.{obstacle_words}
use Rattle.rbc_streams.proofs.EmittingLemmas.{emits_as}
use Rattle.rbc_lines.proofs.train.emit_next.Goals as goal

pub returns : goal.returns
returns g c = λ scene told.
    let train = c.args.train.now.train in
    let number = c.number.ensures ∙ c.id.ensures in
    let end = c.end_word.ensures ∙ (λ j. end_word train (told j).end) in
    let fits = c.from_group.type_inv in
    let at : to_z w64 (of_z w64 c.from_group.result) ≡ c.from_group.result = grind (arith, to_z-of_z) in
    let reach = ap signed_decimal (at ∙ c.from_group.ensures) ∙ (λ j. distance_word train (told j).reach) in
    emits_as (λ j. line_of (codes "next" ∷ decimal (number j) ∷ end j ∷ reach j ∷ obstacle_words c.args.track.now (told j).obstacle)) c.emit_stopped.ensures
