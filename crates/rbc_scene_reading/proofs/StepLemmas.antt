-- Lines that are read one after the other, up to the end.
use Rattle.std.proofs.Common.{◌≡◌, ℕ, ◌+◌, List, [], ◌∷◌, map, Result, Ok, ap, ◌∙◌}
use Rattle.std.specs.Result.{result_map_both}
use Rattle.rbc_model.specs.declared.refusals.LineFault.{LineFault}
use Rattle.rbc_model.specs.Results.{◌>>=◌}
use Rattle.rbc_model.specs.Tracks.{Track}
use Rattle.rbc_model.specs.Scenes.{Scene}
use Rattle.rbc_scene_words.specs.SceneLine.{SceneLine, parse_scene_line}
use Rattle.rbc_scene_reading.specs.declared.fault.SceneFault.{SceneFault}
use Rattle.rbc_scene_reading.specs.declared.fault.SceneFault.TheVariants.{Line as LineAtFault}
use Rattle.rbc_scene_reading.specs.declared.stage.Stage.TheVariants.{Ended}
use Rattle.rbc_scene_reading.specs.Readings.{Reading}
use Rattle.rbc_scene_reading.specs.Reading.{at_line, read_from, whole, with_said, with_text}

-- what was read of the whole scene
abbrev pub ended_with : Track → ℕ → Scene → Reading
ended_with track version scene = record { track = track; version = version; scene = scene; stage = Ended }

module _ (track : Track) (version : ℕ) (scene : Scene) where
  -- lines that say this lead to the whole scene
  abbrev pub Ends : Reading → List SceneLine → Type 0
  Ends reading [] = reading ≡ ended_with track version scene
  Ends reading (said ∷ lines) = (next : Reading) × (with_said said reading ≡ Ok next) × (next.track ≡ track) × Ends next lines

  pub ends_read : (reading : Reading) (said : List SceneLine) (lines : List (List ℕ)) (n : ℕ) → reading.track ≡ track → map (parse_scene_line track) lines ≡ map Ok said → Ends reading said
      → read_from n reading lines ≡ Ok (version, scene)
  ends_read reading [] [] n on parsed ends = ap (λ (r : Reading). at_line n (whole r)) ends
  ends_read reading [] (line ∷ lines) n on parsed ends = absurd (let never : ⊥ = cc in never)
  ends_read reading (first ∷ said) [] n on parsed ends = absurd (let never : ⊥ = cc in never)
  ends_read reading (first ∷ said) (line ∷ lines) n on parsed ends =
      let one : parse_scene_line track line ≡ Ok first = cc in
      let rest : map (parse_scene_line track) lines ≡ map Ok said = cc in
      let step : with_text line reading ≡ Ok ends.0 =
      ap (λ (r : Result SceneLine LineFault). result_map_both (λ said. said) LineAtFault r >>= (λ said. with_said said reading)) (ap (λ (t : Track). parse_scene_line t line) on ∙ one) ∙ ends.1 in
      ap (λ (r : Result Reading SceneFault). at_line n r >>= (λ next. read_from (n + 1) next lines)) step
      ∙ ends_read ends.0 said lines (n + 1) ends.2 rest ends.3
