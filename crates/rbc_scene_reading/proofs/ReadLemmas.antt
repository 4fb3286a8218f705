-- Each scene that is read is a good one.
use Rattle.std.proofs.Common.{◌≡◌, ℕ, ◌+◌, List, [], ◌∷◌, Result, Ok, Err, refl, ap, subst, arith}
use Rattle.std.specs.Result.{result_map_both}
use Rattle.rbc_model.specs.SoundTracks.{IsSound}
use Rattle.rbc_model.specs.Tracks.{Track}
use Rattle.rbc_model.specs.Scenes.{Scene}
use Rattle.rbc_model.specs.SceneLines.{IsTellable}
use Rattle.rbc_scene_laws.specs.Good.{IsGoodScene}
use Rattle.rbc_scene_laws.proofs.KeptLemmas.{good_empty_scene, no_row}
use Rattle.rbc_good_laws.specs.Told.{IsToldScene}
use Rattle.rbc_good_laws.proofs.ScenesStayLemmas.{empty_scenes_are_told}
use Rattle.rbc_scene_words.specs.SceneLine.{SceneLine, parse_scene_line}
use Rattle.rbc_scene_reading.specs.declared.fault.FaultyLine.{FaultyLine}
use Rattle.rbc_scene_reading.specs.declared.fault.SceneFault.{SceneFault}
use Rattle.rbc_scene_reading.specs.declared.fault.SceneFault.TheVariants.{Line as LineAtFault, NoEnd}
use Rattle.rbc_scene_reading.specs.declared.stage.Stage.{Stage}
use Rattle.rbc_scene_reading.specs.declared.stage.Stage.TheVariants.{Start, Rows, Told, Running as RunningTrain, Standing, Held, Between, Ended}
use Rattle.rbc_scene_reading.specs.Readings.{Reading}
use Rattle.rbc_scene_reading.specs.Reading.{at_line, begun, read_from, whole, with_said, with_text}
use Rattle.rbc_scene_reading.specs.Laws.{ReadScenesAreGood}
use Rattle.rbc_model.proofs.SaidLineLemmas.{bound}
use Rattle.rbc_scene_reading.proofs.KeptLemmas.{IsRead, kept_ok, kept_said}
use Rattle.rbc_scene_reading.proofs.SaidLemmas.{parsed_said}

-- before the first line
pub read_begun : (track : Track) → IsSound track → IsRead track (begun track)
read_begun track sound = record {
  of_track = refl;
  so = record { sound = sound; good = good_empty_scene track; stage = refl };
  told = empty_scenes_are_told track;
  tellable = record { routes = λ section lock there. absurd (no_row track.sections section lock there); reports = λ k d h. absurd (omega arith) };
  train = tt;
}

-- what a scene that is read is
abbrev pub IsWhole : Track → Scene → Type 0
IsWhole track scene = IsGoodScene track scene × IsToldScene track scene × IsTellable track scene

no_whole : (n : ℕ) (read : ℕ × Scene) → at_line n (let r : Result (ℕ × Scene) SceneFault = Err NoEnd in r) ≡ Ok read → ⊥
no_whole n read h = cc

the_whole : (read whole : ℕ × Scene) → (let r : Result (ℕ × Scene) FaultyLine = Ok read in r) ≡ Ok whole → read ≡ whole
the_whole read whole h = cc

ended : (on : Track) (reading : Reading) (n version : ℕ) (scene : Scene) → IsRead on reading → at_line n (whole reading) ≡ Ok (version, scene) → IsWhole on scene
ended on reading n version scene now h = subst (λ (t : Track). IsWhole t scene) now.of_track (by_stage reading.stage h)
  where
    whole_at : Stage → Result (ℕ × Scene) SceneFault
    whole_at stage = whole (record { track = reading.track; version = reading.version; scene = reading.scene; stage = stage })

    by_stage : (stage : Stage) → at_line n (whole_at stage) ≡ Ok (version, scene) → IsWhole reading.track scene
    by_stage Ended e = let same : reading.scene ≡ scene = ap (λ (read : ℕ × Scene). read.1) (the_whole (reading.version, reading.scene) (version, scene) e) in subst (IsWhole reading.track) same (now.so.good, now.told, now.tellable)
    by_stage Start e = absurd (no_whole n (version, scene) e)
    by_stage (Rows first) e = absurd (no_whole n (version, scene) e)
    by_stage (Told report) e = absurd (no_whole n (version, scene) e)
    by_stage (RunningTrain running) e = absurd (no_whole n (version, scene) e)
    by_stage (Standing standing) e = absurd (no_whole n (version, scene) e)
    by_stage Held e = absurd (no_whole n (version, scene) e)
    by_stage Between e = absurd (no_whole n (version, scene) e)

-- a line more
pub record IsNext (reading : Reading) (line : List ℕ) (next : Reading) : Type 0 where
  pub said : SceneLine
  pub parsed : parse_scene_line reading.track line ≡ Ok said
  pub is : with_said said reading ≡ Ok next

pub text_read : (reading next : Reading) (line : List ℕ) → with_text line reading ≡ Ok next → IsNext reading line next
text_read reading next line h =
    let parsed : Result SceneLine SceneFault = result_map_both (λ said. said) LineAtFault (parse_scene_line reading.track line) in
    let b = bound parsed (λ said. with_said said reading) next h in
    record { said = b.0; parsed = kept_ok LineAtFault (parse_scene_line reading.track line) b.0 b.1; is = b.2 }

-- an answer at a line
pub at_line_ok : {A : Type 0} (n : ℕ) (r : Result A SceneFault) (x : A) → at_line n r ≡ Ok x → r ≡ Ok x
at_line_ok n (Ok y) x h = let e : y ≡ x = cc in ap Ok e
at_line_ok n (Err fault) x h = absurd (let never : ⊥ = cc in never)

pub lines_read : (on : Track) (lines : List (List ℕ)) (n : ℕ) (reading : Reading) (version : ℕ) (scene : Scene) → IsRead on reading → read_from n reading lines ≡ Ok (version, scene) → IsWhole on scene
lines_read on [] n reading version scene now h = ended on reading n version scene now h
lines_read on (line ∷ lines) n reading version scene now h =
    let a = bound (at_line n (with_text line reading)) (λ next. read_from (n + 1) next lines) (version, scene) h in
    let t = text_read reading a.0 line (at_line_ok n (with_text line reading) a.0 a.1) in
    lines_read on lines (n + 1) a.0 version scene (kept_said on reading a.0 now t.said (parsed_said reading.track line t.said t.parsed) t.is) a.2

pub read_are_good : ReadScenesAreGood
read_are_good track lines version scene sound h = lines_read track lines 1 (begun track) version scene (read_begun track sound) h
