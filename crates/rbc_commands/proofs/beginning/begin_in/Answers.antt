use Rattle.std.proofs.Common.{rules, ◌≡◌, ℕ, List, [], ◌∷◌, Ok, sym, ap, ◌∙◌, subst}
use Rattle.std.specs.Arc.{arc_value}
use Rattle.rbc_journal.specs.Beginnings.{beginning_of, joined}
use Rattle.rbc_journal.specs.Gates.{counted}
use Rattle.rbc_model.specs.Scenes.{Scene}
use Rattle.rbc_model.specs.Sessions.{lines_of}
use Rattle.rbc_model.specs.Tracks.{Track}
use Rattle.rbc_scene_reading.specs.Reading.{read_scene}
use Rattle.rbc_commands.specs.Beginnings.{Begins}
use Rattle.rbc_commands.proofs.beginning.begin_in.Goals as goal

-- what is read as a scene has a line, so it is what a history begins with
begins_as_read : (track : Track) (bytes : List ℕ) (version : ℕ) (scene : Scene) → read_scene track (lines_of bytes) ≡ Ok (version, scene) → Begins track bytes scene
begins_as_read track [] version scene is = search rules
begins_as_read track (byte ∷ bytes) version scene is = (version, is)

pub returns-in-Ok-clause-begins : goal.returns-in-Ok-clause-begins
returns-in-Ok-clause-begins c =
    let track = arc_value c.args.track in
    let read = c.in-Ok.scene.scene in
    subst (Begins track (joined (beginning_of (counted c.args.text.now)))) (sym (ap (λ history. history.begin) c.in_ok-from-in-Ok.ensures))
    (subst (λ bytes. Begins track bytes read) (c.as_slice.ensures.value ∙ c.in_ok-lines.ensures.bytes)
    (begins_as_read track c.as_slice.result.now c.in-Ok.version read c.in-Ok.ensures.scene))
