-- Each scene that was written is read back.
use Rattle.std.proofs.Common.{[], ◌∷◌, ◌++◌, refl, sym, subst, append_assoc}
use Rattle.std.specs.Prelude.{flat_map}
use Rattle.rbc_model.specs.SceneLines.{scene_lines}
use Rattle.rbc_model.specs.Sessions.{lines_of}
use Rattle.rbc_model.specs.Locks.{no_locks}
use Rattle.rbc_scene_words.specs.Laws.{ScenesAreParsedBack}
use Rattle.rbc_scene_words.specs.SceneLine.{Done}
use Rattle.rbc_scene_words.specs.SaidScenes.{said_locks, said_scene, said_train}
use Rattle.rbc_scene_reading.specs.Laws.{WrittenScenesAreRead}
use Rattle.rbc_scene_reading.specs.Reading.{begun}
use Rattle.rbc_scene_reading.proofs.StepLemmas.{Ends, ends_read}
use Rattle.rbc_scene_reading.proofs.WrittenRowLemmas.{rows_end, rows_read}
use Rattle.rbc_scene_reading.proofs.WrittenTrainLemmas.{trains_end}

pub written_are_read : ScenesAreParsedBack → WrittenScenesAreRead
written_are_read parsed track version scene form sound names good told tellable small =
    ends_read track version scene (begun track) (said_scene version scene) (lines_of (scene_lines track version scene)) 1 refl (parsed track version scene form sound names good tellable small) (
      rows_read track version scene good.locks told.rows (no_locks track) 0,
      refl,
      refl,
      subst (Ends track version scene (rows_read track version scene good.locks told.rows (no_locks track) 0)) (sym (append_assoc (said_locks 0 scene.locks) (flat_map said_train scene.trains) (Done ∷ [])))
          (rows_end track version scene good.locks told.rows (flat_map said_train scene.trains ++ Done ∷ []) (trains_end track version scene good told)),
    )
