use Rattle.std.proofs.Common.{Err, ap, inl, refl}
use Rattle.rbc_model.specs.SceneLines.{scene_lines}
use Rattle.rbc_lines.proofs.inquiry.print_shown.Goals as goal

pub returns-in-Err-Write : goal.returns-in-Err-Write
returns-in-Err-Write g c = (
  scene_lines c.args.scene.now.track c.args.version c.args.scene.now.scene,
  inl refl,
  record { text = c.in-Err-Write.ensures.text; failed = c.in-Err-Write.ensures.write (ap Err c.in-Err-Write.field-0-is) },
)
