-- The lines that tell a scene are those in which it is written, but for what trains would be granted.
use Rattle.std.proofs.Common.{◌≡◌, ℕ, ◌+◌, ◌<◌, ◌^◌, not, cond, List, [], ◌∷◌, ◌++◌, map, Some, None, Result, Ok, Err, refl, sym, ap, ap₂, ◌∙◌, subst, append_assoc, append-nil}
use Rattle.std.specs.Prelude.{◌≢◌, flat_map}
use Rattle.std.specs.List.{AllByRecursion, join_with_byte}
use Rattle.rbc_model.specs.declared.refusals.LineFault.{LineFault}
use Rattle.rbc_model.specs.Tracks.{Track}
use Rattle.rbc_model.specs.Locks.{Locks}
use Rattle.rbc_model.specs.Trains.{Train}
use Rattle.rbc_model.specs.Scenes.{Scene}
use Rattle.rbc_model.specs.SceneLines.{pieces_of, scene_lines}
use Rattle.rbc_model.specs.Sessions.{lines_of}
use Rattle.rbc_model.proofs.SaidLineLemmas.{bound}
use Rattle.rbc_model.specs.Views.{from_group}
use Rattle.rbc_model.specs.Lines.{Line}
use Rattle.rbc_scene_words.specs.Laws.{ReadLinesAreWritten, ScenesAreParsedBack}
use Rattle.rbc_scene_words.specs.SceneLine.{SceneLine, Version, Locked, Reported, Along, More, Stands, Holds, Next, Done, parse_scene_line, scene_row}
use Rattle.rbc_scene_words.specs.SaidScenes.{said_locks, said_scene, said_train, said_way}
use Rattle.rbc_scene_reading.specs.declared.fault.FaultyLine.{FaultyLine}
use Rattle.rbc_scene_reading.specs.declared.fault.SceneFault.{SceneFault}
use Rattle.rbc_scene_reading.specs.declared.fault.SceneFault.TheVariants.{NoEnd}
use Rattle.rbc_scene_reading.specs.declared.stage.Stage.{Stage}
use Rattle.rbc_scene_reading.specs.declared.stage.Stage.TheVariants.{Start, Rows, Told, Running as RunningTrain, Standing, Held, Between, Ended}
use Rattle.rbc_scene_reading.specs.Readings.{Reading}
use Rattle.rbc_scene_reading.specs.Reading.{at_line, begun, read_from, whole, with_text}
use Rattle.rbc_scene_reading.specs.Laws.{OneTextIsRead, tells_next, without_next}
use Rattle.rbc_scene_reading.proofs.HistoryLemmas.{InOrder, history, history_at, kept, said_kept, step, told_so_far}
use Rattle.rbc_scene_reading.proofs.KeptLemmas.{IsRead, IsSaid, kept_said}
use Rattle.rbc_scene_reading.proofs.ReadLemmas.{at_line_ok, lines_read, read_begun, text_read}
use Rattle.rbc_scene_reading.proofs.SaidLemmas.{parsed_said}

-- ---- lines that say something

-- a list of lines but for what trains would be granted
abbrev kept_all : List SceneLine → List SceneLine
kept_all said = flat_map kept said

-- how it is written
abbrev text_of : Track → SceneLine → List ℕ
text_of track said = join_with_byte 32 (scene_row track said)

not_next : (said : SceneLine) → kept said ≡ said ∷ [] → said ≢ Next
not_next said e f = let g : kept Next ≡ Next ∷ [] = subst (λ s. kept s ≡ s ∷ []) f e in let never : ⊥ = cc in never

module _ (track : Track) (written : ReadLinesAreWritten) where
  -- lines that say this are written so, but for what trains would be granted
  lines_written : (lines : List (List ℕ)) (said : List SceneLine) → map (parse_scene_line track) lines ≡ map Ok said → without_next track lines ≡ map (text_of track) (kept_all said)
  lines_written [] [] e = refl
  lines_written [] (first ∷ said) e = absurd (let never : ⊥ = cc in never)
  lines_written (line ∷ lines) [] e = absurd (let never : ⊥ = cc in never)
  lines_written (line ∷ lines) (first ∷ said) e =
      let one : parse_scene_line track line ≡ Ok first = cc in
      let rest : map (parse_scene_line track) lines ≡ map Ok said = cc in
      ap (λ (r : Result SceneLine LineFault). cond (not (tells_next r)) (line ∷ without_next track lines) (without_next track lines)) one
      ∙ by_said first one (lines_written lines said rest)
    where
      plain : (first : SceneLine) → parse_scene_line track line ≡ Ok first → first ≢ Next → without_next track lines ≡ map (text_of track) (kept_all said)
          → line ∷ without_next track lines ≡ text_of track first ∷ map (text_of track) (kept_all said)
      plain first one other rest = ap (λ l. l ∷ without_next track lines) (written track line first one other) ∙ ap (λ rest. text_of track first ∷ rest) rest

      by_said : (first : SceneLine) → parse_scene_line track line ≡ Ok first → without_next track lines ≡ map (text_of track) (kept_all said)
          → cond (not (tells_next (Ok first))) (line ∷ without_next track lines) (without_next track lines) ≡ map (text_of track) (kept first ++ kept_all said)
      by_said (Version version) one rest = plain (Version version) one (not_next (Version version) refl) rest
      by_said (Locked leg route before) one rest = plain (Locked leg route before) one (not_next (Locked leg route before) refl) rest
      by_said (Reported report) one rest = plain (Reported report) one (not_next (Reported report) refl) rest
      by_said (Along train origin legs) one rest = plain (Along train origin legs) one (not_next (Along train origin legs) refl) rest
      by_said (More train legs) one rest = plain (More train legs) one (not_next (More train legs) refl) rest
      by_said (Stands train rear front) one rest = plain (Stands train rear front) one (not_next (Stands train rear front) refl) rest
      by_said (Holds train from to) one rest = plain (Holds train from to) one (not_next (Holds train from to) refl) rest
      by_said Next one rest = rest
      by_said Done one rest = plain Done one (not_next Done refl) rest

-- ---- what was read says these lines

-- what the lines of a scene that was read say
record SaySo (track : Track) (lines : List (List ℕ)) (before after : List SceneLine) : Type 0 where
  said : List SceneLine
  parsed : map (parse_scene_line track) lines ≡ map Ok said
  is : after ≡ before ++ kept_all said

whole_history : (reading : Reading) (n version : ℕ) (scene : Scene) → at_line n (whole reading) ≡ Ok (version, scene) → history reading ≡ told_so_far version scene ++ Done ∷ []
whole_history reading n version scene h = by_stage reading.stage h
  where
    whole_at : Stage → Result (ℕ × Scene) SceneFault
    whole_at stage = whole (record { track = reading.track; version = reading.version; scene = reading.scene; stage = stage })

    no_whole : (let r : Result (ℕ × Scene) FaultyLine = Err (record { line = n; fault = NoEnd }) in r) ≡ Ok (version, scene) → ⊥
    no_whole e = cc

    the_whole : (read : ℕ × Scene) → (let r : Result (ℕ × Scene) FaultyLine = Ok read in r) ≡ Ok (version, scene) → read ≡ (version, scene)
    the_whole read e = cc

    by_stage : (stage : Stage) → at_line n (whole_at stage) ≡ Ok (version, scene) → history_at reading.version reading.scene stage ≡ told_so_far version scene ++ Done ∷ []
    by_stage Ended e = ap (λ (read : ℕ × Scene). told_so_far read.0 read.1 ++ Done ∷ []) (the_whole (reading.version, reading.scene) e)
    by_stage Start e = absurd (no_whole e)
    by_stage (Rows first) e = absurd (no_whole e)
    by_stage (Told report) e = absurd (no_whole e)
    by_stage (RunningTrain running) e = absurd (no_whole e)
    by_stage (Standing standing) e = absurd (no_whole e)
    by_stage Held e = absurd (no_whole e)
    by_stage Between e = absurd (no_whole e)

lines_say : (on : Track) (lines : List (List ℕ)) (n : ℕ) (reading : Reading) (version : ℕ) (scene : Scene) → IsRead on reading → InOrder reading.track reading.scene reading.stage → read_from n reading lines ≡ Ok (version, scene)
    → SaySo on lines (history reading) (told_so_far version scene ++ Done ∷ [])
lines_say on [] n reading version scene now order h = record { said = []; parsed = refl; is = sym (whole_history reading n version scene h) ∙ sym (append-nil (history reading)) }
lines_say on (line ∷ lines) n reading version scene now order h =
    let a = bound (at_line n (with_text line reading)) (λ next. read_from (n + 1) next lines) (version, scene) h in
    let t = text_read reading a.0 line (at_line_ok n (with_text line reading) a.0 a.1) in
    let s = step on reading a.0 now order t.said t.is in
    let rest = lines_say on lines (n + 1) a.0 version scene (kept_said on reading a.0 now t.said (parsed_said reading.track line t.said t.parsed) t.is) s.order a.2 in
    record {
      said = t.said ∷ rest.said;
      parsed = ap₂ (λ (r : Result SceneLine LineFault) (l : List (Result SceneLine LineFault)). r ∷ l) (ap (λ k. parse_scene_line k line) (sym now.of_track) ∙ t.parsed) rest.parsed;
      is = rest.is ∙ ap (λ l. l ++ kept_all rest.said) s.told ∙ append_assoc (history reading) (kept t.said) (kept_all rest.said);
    }

-- ---- the lines in which a scene is written

flat_then : (a b : List SceneLine) → kept_all (a ++ b) ≡ kept_all a ++ kept_all b
flat_then [] b = refl
flat_then (said ∷ a) b = ap (λ l. kept said ++ l) (flat_then a b) ∙ sym (append_assoc (kept said) (kept_all a) (kept_all b))

locks_kept : (section : ℕ) (locks : Locks) → kept_all (said_locks section locks) ≡ said_locks section locks
locks_kept section [] = refl
locks_kept section (None ∷ locks) = locks_kept (section + 1) locks
locks_kept section (Some lock ∷ locks) = ap (λ l. Locked (record { section = section; direction = lock.direction }) lock.route lock.before ∷ l) (locks_kept (section + 1) locks)

way_kept : (train : Train) (pieces : List Line) → kept_all (said_way train pieces) ≡ said_way train pieces
way_kept train [] = refl
way_kept train (first ∷ later) = ap (λ l. Along train.report.train train.origin first ∷ l) (later_kept later)
  where
    later_kept : (pieces : List Line) → kept_all (map (More train.report.train) pieces) ≡ map (More train.report.train) pieces
    later_kept [] = refl
    later_kept (piece ∷ pieces) = ap (λ l. More train.report.train piece ∷ l) (later_kept pieces)

train_kept : (train : Train) → kept_all (said_train train) ≡ said_kept train
train_kept train =
    let last : List SceneLine = Stands train.report.train (from_group train train.rear) (from_group train train.front) ∷ Holds train.report.train (from_group train train.from) (from_group train train.to) ∷ Next ∷ [] in
    ap (λ l. Reported train.report ∷ l) (flat_then (said_way train (pieces_of 64 train.line)) last ∙ ap (λ l. l ++ kept_all last) (way_kept train (pieces_of 64 train.line)))

trains_kept : (trains : List Train) → kept_all (flat_map said_train trains) ≡ flat_map said_kept trains
trains_kept [] = refl
trains_kept (train ∷ trains) = flat_then (said_train train) (flat_map said_train trains) ∙ ap₂ (λ (a b : List SceneLine). a ++ b) (train_kept train) (trains_kept trains)

scene_kept : (version : ℕ) (scene : Scene) → kept_all (said_scene version scene) ≡ told_so_far version scene ++ Done ∷ []
scene_kept version scene =
    ap (λ l. Version version ∷ l)
    (flat_then (said_locks 0 scene.locks ++ flat_map said_train scene.trains) (Done ∷ [])
    ∙ ap (λ l. l ++ Done ∷ []) (flat_then (said_locks 0 scene.locks) (flat_map said_train scene.trains) ∙ ap₂ (λ (a b : List SceneLine). a ++ b) (locks_kept 0 scene.locks) (trains_kept scene.trains)))

-- what each line says can be said
each_said : (track : Track) (lines : List (List ℕ)) (said : List SceneLine) → map (parse_scene_line track) lines ≡ map Ok said → AllByRecursion IsSaid said
each_said track lines [] e = tt
each_said track [] (first ∷ said) e = absurd (let never : ⊥ = cc in never)
each_said track (line ∷ lines) (first ∷ said) e =
    let one : parse_scene_line track line ≡ Ok first = cc in
    let rest : map (parse_scene_line track) lines ≡ map Ok said = cc in
    (parsed_said track line first one, each_said track lines said rest)

each_kept : (said : List SceneLine) → AllByRecursion IsSaid said → AllByRecursion IsSaid (kept_all said)
each_kept [] each = tt
each_kept (Version version ∷ said) each = (each.0, each_kept said each.1)
each_kept (Locked leg route before ∷ said) each = (each.0, each_kept said each.1)
each_kept (Reported report ∷ said) each = (each.0, each_kept said each.1)
each_kept (Along train origin legs ∷ said) each = (each.0, each_kept said each.1)
each_kept (More train legs ∷ said) each = (each.0, each_kept said each.1)
each_kept (Stands train rear front ∷ said) each = (each.0, each_kept said each.1)
each_kept (Holds train from to ∷ said) each = (each.0, each_kept said each.1)
each_kept (Next ∷ said) each = each_kept said each.1
each_kept (Done ∷ said) each = (each.0, each_kept said each.1)

pub one_text : ScenesAreParsedBack → ReadLinesAreWritten → OneTextIsRead
one_text parsed written track lines version scene form sound names h =
    let good = lines_read track lines 1 (begun track) version scene (read_begun track sound) h in
    let s = lines_say track lines 1 (begun track) version scene (read_begun track sound) refl h in
    let small : version < 10 ^ 10 = (subst (AllByRecursion IsSaid) (sym s.is) (each_kept s.said (each_said track lines s.said s.parsed))).0 in
    let text = lines_of (scene_lines track version scene) in
    lines_written track written lines s.said s.parsed
    ∙ ap (map (text_of track)) (sym s.is ∙ sym (scene_kept version scene))
    ∙ sym (lines_written track written text (said_scene version scene) (parsed track version scene form sound names good.0 good.2 small))
