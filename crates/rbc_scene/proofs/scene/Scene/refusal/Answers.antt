use Rattle.std.proofs.Common.{◌≡◌, ◌∙◌, Err, ap, sym, subst}
use Rattle.std.specs.Prelude.{IfSome}
use Rattle.rbc_model.specs.Events.{after_told}
use Rattle.rbc_scene.specs.Steps.{told_at_once}
use Rattle.rbc_scene.proofs.KeepingLemmas.{refuses_at_once}
use Rattle.rbc_scene.proofs.scene.Scene.refusal.Goals as goal

pub returns-in-Report-clause-refused : goal.returns-in-Report-clause-refused
returns-in-Report-clause-refused c =
    let now = c.args.self.now in
    subst (λ found. IfSome found (λ refusal. after_told now.track now.scene c.args.told.now ≡ Err refusal))
    (sym (c.report_refusal.ensures ∙ ap (told_at_once now.track now.scene) (sym c.in-Report.is)))
    (refuses_at_once now.track now.scene c.args.told.now)
