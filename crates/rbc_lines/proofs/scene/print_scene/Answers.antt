use Rattle.std.proofs.Common.{ℕ, List, Option, Result, Ok, Err, ◌∙◌}
use Rattle.std.specs.Result.{IsErr}
use Rattle.rbc_model.specs.Sessions.{WritesPart, WritesText}
use Rattle.rbc_model.specs.SceneLines.{scene_lines}
use Rattle.rbc_streams.proofs.EmittingLemmas.{emits_as}
use Rattle.rbc_lines.proofs.scene.print_scene.Goals as goal

part_of : {E : Type 0} (a b : Option (List ℕ)) (x : List ℕ) (r : Result (Unit {0}) E) → WritesPart a b x → IsErr r → WritesText a b x r
part_of a b x (Ok done) wrote stopped = absurd cc
part_of a b x (Err fault) wrote stopped = wrote

pub returns-in_err-outcome-clause-text : goal.returns-in_err-outcome-clause-text
returns-in_err-outcome-clause-text g c =
    let track = c.deref.ensures ∙ c.track.ensures in
    let emits = emits_as (λ j. scene_lines (track j) c.args.version c.args.scene.now.scene) c.emit_all.ensures in
    part_of _ _ _ _ (c.in_err-outcome.ensures.printed _ _ c.requires emits).text c.from_residual-in_err-outcome.ensures.0

pub returns-clause-text : goal.returns-clause-text
returns-clause-text g c =
    let track = c.deref.ensures ∙ c.track.ensures in
    let emits = emits_as (λ j. scene_lines (track j) c.args.version c.args.scene.now.scene) c.emit_all.ensures in
    (c.in_ok-outcome.ensures.printed _ _ c.requires emits).text
