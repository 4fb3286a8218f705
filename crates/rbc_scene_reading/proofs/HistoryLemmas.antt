-- What was read of a scene says which lines told it.
use Rattle.std.proofs.Common.{◌≡◌, ℕ, zero, suc, ◌+◌, ◌<◌, ◌≤◌, true, ◌&&◌, cond, List, [], ◌∷◌, ◌++◌, length, map, nat_lt, Option, Some, None, Result, Ok, ℤ, refl, sym, ap, ◌∙◌, subst, arith, append_assoc, append-nil}
use Rattle.std.specs.Prelude.{◌==◌, ◌-ℤ◌, ◌+ℤ◌, pos, negsuc, flat_map, is_some, slice_set}
use Rattle.std.specs.Option.{ok_or, option_and_then}
use Rattle.std.specs.Result.{result_map_both}
use Rattle.std.proofs.Math.IntN.{+ℤ-neg_ℤ_cancel}
use Rattle.std.proofs.lemmas.Bool.{eqb-true, leb-true, ltb-true}
use Rattle.std.proofs.lemmas.List.{map-append}
use Rattle.rbc_model.specs.declared.places.Leg.{Leg}
use Rattle.rbc_model.specs.declared.tracks.Lock.{Lock}
use Rattle.rbc_model.specs.Results.{demand, unless, ◌>>=◌, ◌>>◌}
use Rattle.rbc_model.specs.Reports.{Report}
use Rattle.rbc_model.specs.Tracks.{Track}
use Rattle.rbc_model.specs.Lines.{Line}
use Rattle.rbc_model.specs.Locks.{Locks, no_locks, row}
use Rattle.rbc_model.specs.Trains.{Train}
use Rattle.rbc_model.specs.Scenes.{Scene}
use Rattle.rbc_model.specs.Events.{with_authority, with_locks, with_train}
use Rattle.rbc_model.specs.SceneLines.{in_front, pieces_of, place_in}
use Rattle.rbc_model.specs.Views.{from_group}
use Rattle.rbc_model.proofs.SaidLineLemmas.{bound}
use Rattle.rbc_scene_laws.proofs.BasicLemmas.{and_left, and_right}
use Rattle.rbc_scene_laws.proofs.KeptLemmas.{no_row}
use Rattle.rbc_scene_laws.proofs.LockingLemmas.{the_lock}
use Rattle.rbc_good_laws.specs.Good.{is_good_line, is_good_train}
use Rattle.rbc_good_laws.specs.Told.{is_needed, stands_as_told}
use Rattle.rbc_scene.specs.Added.{added}
use Rattle.rbc_scene.specs.Entries.{on_track}
use Rattle.rbc_scene_words.specs.SceneLine.{SceneLine, Version, Locked, Reported, Along, More, Stands, Holds, Next, Done}
use Rattle.rbc_scene_words.specs.SaidScenes.{said_locks, said_row, said_way}
use Rattle.rbc_scene_reading.specs.Pieces.{fits, is_full, may_go_on, with_legs}
use Rattle.rbc_scene_reading.specs.Running.{Running}
use Rattle.rbc_scene_reading.specs.Stages.{is_between, is_held, is_start, may_be_of, running_in, standing_in, told_in}
use Rattle.rbc_scene_reading.specs.Readings.{FitsStage, IsNew, Reading}
use Rattle.rbc_scene_reading.specs.Reading.{at_stage, held_fault, holding, if_good, if_stands, locks_with, place_at, report_fault, row_fault, standing_at, stands_on_line, where_held, where_told, with_end, with_extent, with_held, with_line, with_next, with_piece, with_report, with_row_told, with_said, with_version}
use Rattle.rbc_scene_reading.specs.declared.fault.SceneFault.{SceneFault}
use Rattle.rbc_scene_reading.specs.declared.fault.SceneFault.TheVariants.{Order, NotOfRoute, NoLine, NotAsTold, OffLine}
use Rattle.rbc_scene_reading.specs.declared.stage.Stage.{Stage}
use Rattle.rbc_scene_reading.specs.declared.stage.Stage.TheVariants.{Start, Rows, Told, Running as RunningTrain, Standing, Held, Between, Ended}
use Rattle.rbc_scene_reading.proofs.KeptLemmas.{IsRead, and_then_found, at_rows as at_rows_kept, demanded, found, if_found, kept_ok, the_ok, unrefused}
use Rattle.rbc_scene_reading.proofs.RowLemmas.{each_row, is_with_row, row_of}

-- ---- pieces

-- legs that fill the room, and then pieces of 64
abbrev pub FullTo : ℕ → Line → Type 0
FullTo zero [] = Unit {0}
FullTo (suc room) [] = ⊥
FullTo zero (leg ∷ legs) = FullTo 63 legs
FullTo (suc room) (leg ∷ legs) = FullTo room legs

one_piece : (room : ℕ) (legs : Line) → length legs ≤ room → pieces_of room legs ≡ legs ∷ []
one_piece room [] h = refl
one_piece zero (leg ∷ legs) h = absurd (omega arith)
one_piece (suc room) (leg ∷ legs) h = ap (in_front leg) (one_piece room legs (omega arith))

some_in_front : (leg : Leg) (pieces : List Line) → 0 < length (in_front leg pieces)
some_in_front leg [] = omega arith
some_in_front leg (piece ∷ pieces) = omega arith

some_pieces : (room : ℕ) (legs : Line) → 0 < length (pieces_of room legs)
some_pieces room [] = omega arith
some_pieces zero (leg ∷ legs) = omega arith
some_pieces (suc room) (leg ∷ legs) = some_in_front leg (pieces_of room legs)

-- a list of pieces with one more
in_front-more : (leg : Leg) (room : ℕ) (legs : Line) (piece : Line) → in_front leg (pieces_of room legs ++ piece ∷ []) ≡ in_front leg (pieces_of room legs) ++ piece ∷ []
in_front-more leg room legs piece = by_pieces (pieces_of room legs) (some_pieces room legs)
  where
    by_pieces : (pieces : List Line) → 0 < length pieces → in_front leg (pieces ++ piece ∷ []) ≡ in_front leg pieces ++ piece ∷ []
    by_pieces [] h = absurd (omega arith)
    by_pieces (first ∷ pieces) h = refl

pub more_pieces : (room : ℕ) (legs piece : Line) → FullTo room legs → 0 < length piece → length piece ≤ 64 → pieces_of room (legs ++ piece) ≡ pieces_of room legs ++ piece ∷ []
more_pieces zero [] [] full some short = absurd (omega arith)
more_pieces zero [] (leg ∷ piece) full some short = ap (λ pieces. [] ∷ in_front leg pieces) (one_piece 63 piece (omega arith))
more_pieces (suc room) [] piece full some short = absurd full
more_pieces zero (leg ∷ legs) piece full some short = ap (λ pieces. [] ∷ in_front leg pieces) (more_pieces 63 legs piece full some short) ∙ ap (λ pieces. [] ∷ pieces) (in_front-more leg 63 legs piece)
more_pieces (suc room) (leg ∷ legs) piece full some short = ap (in_front leg) (more_pieces room legs piece full some short) ∙ in_front-more leg room legs piece

full_first : (room : ℕ) (legs : Line) → length legs ≡ room → FullTo room legs
full_first zero [] h = tt
full_first (suc room) [] h = absurd (omega arith)
full_first zero (leg ∷ legs) h = absurd (omega arith)
full_first (suc room) (leg ∷ legs) h = full_first room legs (omega arith)

-- behind full pieces
full_later : (legs : Line) → length legs ≡ 64 → FullTo 0 legs
full_later [] h = absurd (omega arith)
full_later (leg ∷ legs) h = full_first 63 legs (omega arith)

pub full_more : (room : ℕ) (legs piece : Line) → FullTo room legs → length piece ≡ 64 → FullTo room (legs ++ piece)
full_more zero [] piece full h = full_later piece h
full_more (suc room) [] piece full h = absurd full
full_more zero (leg ∷ legs) piece full h = full_more 63 legs piece full h
full_more (suc room) (leg ∷ legs) piece full h = full_more room legs piece full h

-- ---- rows

none_said : (k : ℕ) (locks : Locks) → ((s : ℕ) (lock : Lock) → row locks s ≡ Some lock → ⊥) → said_locks k locks ≡ []
none_said k [] h = refl
none_said k (None ∷ locks) h = none_said (k + 1) locks (λ s lock e. h (suc s) lock e)
none_said k (Some lock ∷ locks) h = absurd (h 0 lock refl)

-- a row behind all others is told last
row_said : (k : ℕ) (locks : Locks) (s : ℕ) (new : Lock) → s < length locks → ((t : ℕ) (lock : Lock) → row locks t ≡ Some lock → t < s)
    → said_locks k (slice_set locks s (Some new)) ≡ said_locks k locks ++ Locked (record { section = k + s; direction = new.direction }) new.route new.before ∷ []
row_said k [] s new within below = absurd (omega arith)
row_said k (Some old ∷ locks) zero new within below = absurd (let never = below 0 old refl in omega (arith, never))
row_said k (None ∷ locks) zero new within below =
    ap (λ n. Locked (record { section = n; direction = new.direction }) new.route new.before ∷ said_locks (k + 1) locks) (let e : k ≡ k + 0 = omega arith in e)
    ∙ ap (λ rest. Locked (record { section = k + 0; direction = new.direction }) new.route new.before ∷ rest) none
    ∙ ap (λ rest. rest ++ Locked (record { section = k + 0; direction = new.direction }) new.route new.before ∷ []) (sym none)
  where
    none : said_locks (k + 1) locks ≡ []
    none = none_said (k + 1) locks (λ t lock e. let never = below (suc t) lock e in omega (arith, never))
row_said k (old ∷ locks) (suc s) new within below =
    ap (λ rest. said_row k old ++ rest) (row_said (k + 1) locks s new (omega arith) (λ t lock e. let h = below (suc t) lock e in omega (arith, h)))
    ∙ ap (λ n. said_row k old ++ (said_locks (k + 1) locks ++ Locked (record { section = n; direction = new.direction }) new.route new.before ∷ [])) (let e : k + 1 + s ≡ k + suc s = omega arith in e)
    ∙ sym (append_assoc (said_row k old) (said_locks (k + 1) locks) (Locked (record { section = k + suc s; direction = new.direction }) new.route new.before ∷ []))

-- ---- trains

-- the lines of a train, but for what it would be granted
abbrev pub said_kept : Train → List SceneLine
said_kept train =
    Reported train.report
    ∷ (said_way train (pieces_of 64 train.line)
    ++ Stands train.report.train (from_group train train.rear) (from_group train train.front)
    ∷ Holds train.report.train (from_group train train.from) (from_group train train.to)
    ∷ [])

way_more : (train : Train) (pieces : List Line) (piece : Line) → 0 < length pieces → said_way train (pieces ++ piece ∷ []) ≡ said_way train pieces ++ More train.report.train piece ∷ []
way_more train [] piece some = absurd (omega arith)
way_more train (first ∷ later) piece some = ap (λ rest. Along train.report.train train.origin first ∷ rest) (map-append (More train.report.train) later (piece ∷ []))

kept_trains : (trains : List Train) (last : Train) → flat_map said_kept (trains ++ last ∷ []) ≡ flat_map said_kept trains ++ said_kept last
kept_trains [] last = append-nil (said_kept last)
kept_trains (train ∷ trains) last =
    ap (λ rest. said_kept train ++ rest) (kept_trains trains last) ∙ sym (append_assoc (said_kept train) (flat_map said_kept trains) (said_kept last))

-- a place is told by its distance
the_distance : (origin place : ℕ) (distance : ℤ) → place_at origin distance ≡ Some place → pos place -ℤ pos origin ≡ distance
the_distance origin place distance h = by_sum (distance +ℤ pos origin) refl h
  where
    by_sum : (sum : ℤ) → distance +ℤ pos origin ≡ sum → place_in sum ≡ Some place → pos place -ℤ pos origin ≡ distance
    by_sum (negsuc n) e g = absurd (let never : ⊥ = cc in never)
    by_sum (pos n) e g =
        let same : n ≡ place = cc in
        ap (λ m. pos m -ℤ pos origin) (sym same) ∙ ap (λ z. z -ℤ pos origin) (sym e) ∙ +ℤ-neg_ℤ_cancel distance (pos origin)

-- ---- what was read of all

-- the version, the locks and the trains
abbrev pub told_so_far : ℕ → Scene → List SceneLine
told_so_far version scene = Version version ∷ (said_locks 0 scene.locks ++ flat_map said_kept scene.trains)

-- the lines of a train that stands on its line
abbrev pub standing_told : Train → List SceneLine
standing_told train =
    Reported train.report
    ∷ (said_way train (pieces_of 64 train.line)
    ++ Stands train.report.train (from_group train train.rear) (from_group train train.front) ∷ [])

-- the lines of the train that is being told
abbrev pub told_of_last : Stage → List SceneLine
told_of_last (Told report) = Reported report ∷ []
told_of_last (RunningTrain running) = Reported running.report ∷ said_way (standing_at running 0 0) (pieces_of 64 running.legs)
told_of_last (Standing standing) = standing_told standing.train
told_of_last Ended = Done ∷ []
told_of_last _ = []

-- the lines that were read, but for what trains would be granted
abbrev pub history_at : ℕ → Scene → Stage → List SceneLine
history_at version scene Start = []
history_at version scene (Rows first) = told_so_far version scene
history_at version scene (Told report) = told_so_far version scene ++ told_of_last (Told report)
history_at version scene (RunningTrain running) = told_so_far version scene ++ told_of_last (RunningTrain running)
history_at version scene (Standing standing) = told_so_far version scene ++ told_of_last (Standing standing)
history_at version scene Held = told_so_far version scene
history_at version scene Between = told_so_far version scene
history_at version scene Ended = told_so_far version scene ++ Done ∷ []

abbrev pub history : Reading → List SceneLine
history reading = history_at reading.version reading.scene reading.stage

-- a line, but for what a train would be granted
abbrev pub kept : SceneLine → List SceneLine
kept Next = []
kept said = said ∷ []

-- how it was read so far: no row from the next section on, and each piece of a line but the last one full
abbrev pub InOrder : Track → Scene → Stage → Type 0
InOrder track scene Start = scene.locks ≡ no_locks track
InOrder track scene (Rows first) = (section : ℕ) (lock : Lock) → row scene.locks section ≡ Some lock → section < first
InOrder track scene (RunningTrain running) = running.full ≡ true → FullTo 64 running.legs
InOrder track scene _ = Unit {0}

-- ---- what was found

-- two places that were found
record ArePlaces (origin : ℕ) (low high : ℤ) (make : ℕ → ℕ → Train) (train : Train) : Type 0 where
  rear : ℕ
  front : ℕ
  rear_is : place_at origin low ≡ Some rear
  front_is : place_at origin high ≡ Some front
  is : make rear front ≡ train

places_found : (track : Track) (running : Running) (rear front : ℤ) (standing : Train) → stands_on_line track running rear front ≡ Ok standing → ArePlaces running.origin rear front (standing_at running) standing
places_found track running rear front standing h =
    let a = demanded (is_good_line track running.legs) (NoLine running.report.train) (ok_or (where_told track running rear front) (NotAsTold running.report.train)) standing h in
    let b = and_then_found (place_at running.origin rear) (λ rear. option_and_then (λ front. if_stands track (standing_at running rear front)) (place_at running.origin front)) standing
    (found (where_told track running rear front) (NotAsTold running.report.train) standing a.1) in
    let c = and_then_found (place_at running.origin front) (λ front. if_stands track (standing_at running b.0 front)) standing b.2 in
    let train = standing_at running b.0 c.0 in
    record { rear = b.0; front = c.0; rear_is = b.1; front_is = c.1; is = (if_found (is_good_train track train && stands_as_told track train) train standing c.2).1 }

held_places_found : (track : Track) (scene : Scene) (standing : Train) (from to : ℤ) (held : Train) → holding track scene standing from to ≡ Ok held → ArePlaces standing.origin from to (with_authority standing standing.line) held
held_places_found track scene standing from to held h =
    let a = bound (ok_or (where_held track standing from to) (OffLine standing.report.train)) (λ held. unless (held_fault track scene held) (Ok held)) held h in
    let b = unrefused (held_fault track scene a.0) (Ok a.0) held a.2 in
    let c = and_then_found (place_at standing.origin from) (λ from. option_and_then (λ to. if_good track (with_authority standing standing.line from to)) (place_at standing.origin to)) a.0
    (found (where_held track standing from to) (OffLine standing.report.train) a.0 a.1) in
    let d = and_then_found (place_at standing.origin to) (λ to. if_good track (with_authority standing standing.line c.0 to)) a.0 c.2 in
    let train = with_authority standing standing.line c.0 d.0 in
    record { rear = c.0; front = d.0; rear_is = c.1; front_is = d.1; is = (if_found (is_good_train track train) train a.0 d.2).1 ∙ the_ok a.0 held b.1 }

-- a new train is last
last_train : (scene : Scene) (train : Train) → IsNew scene train.report → (with_train scene train).trains ≡ scene.trains ++ train ∷ []
last_train scene train new =
    ap (λ (o : Option Train). cond (is_some o) (map (λ (other : Train). cond (other.report.train == train.report.train) train other) scene.trains) (scene.trains ++ train ∷ [])) new.new

-- ---- what stands before a line

at_start : (track : Track) (version : ℕ) (scene : Scene) (stage : Stage) → is_start stage ≡ true → InOrder track scene stage → (history_at version scene stage ≡ []) × (scene.locks ≡ no_locks track)
at_start track version scene Start e order = (refl, order)
at_start track version scene (Rows first) e order = absurd (let never : ⊥ = cc in never)
at_start track version scene (Told report) e order = absurd (let never : ⊥ = cc in never)
at_start track version scene (RunningTrain running) e order = absurd (let never : ⊥ = cc in never)
at_start track version scene (Standing standing) e order = absurd (let never : ⊥ = cc in never)
at_start track version scene Held e order = absurd (let never : ⊥ = cc in never)
at_start track version scene Between e order = absurd (let never : ⊥ = cc in never)
at_start track version scene Ended e order = absurd (let never : ⊥ = cc in never)

at_rows : (track : Track) (version : ℕ) (scene : Scene) (stage : Stage) (section : ℕ) → may_be_of section stage ≡ true → InOrder track scene stage → (history_at version scene stage ≡ told_so_far version scene) × ((s : ℕ) (lock : Lock) → row scene.locks s ≡ Some lock → s < section)
at_rows track version scene Start section e order = absurd (let never : ⊥ = cc in never)
at_rows track version scene (Rows first) section e order = (refl, λ s lock there. let a = order s lock there in let b = leb-true first section e in omega (arith, a, b))
at_rows track version scene (Told report) section e order = absurd (let never : ⊥ = cc in never)
at_rows track version scene (RunningTrain running) section e order = absurd (let never : ⊥ = cc in never)
at_rows track version scene (Standing standing) section e order = absurd (let never : ⊥ = cc in never)
at_rows track version scene Held section e order = absurd (let never : ⊥ = cc in never)
at_rows track version scene Between section e order = absurd (let never : ⊥ = cc in never)
at_rows track version scene Ended section e order = absurd (let never : ⊥ = cc in never)

at_between : (track : Track) (version : ℕ) (scene : Scene) (stage : Stage) → is_between stage ≡ true → InOrder track scene stage → history_at version scene stage ≡ told_so_far version scene
at_between track version scene Start e order = absurd (let never : ⊥ = cc in never)
at_between track version scene (Rows first) e order = refl
at_between track version scene (Told report) e order = absurd (let never : ⊥ = cc in never)
at_between track version scene (RunningTrain running) e order = absurd (let never : ⊥ = cc in never)
at_between track version scene (Standing standing) e order = absurd (let never : ⊥ = cc in never)
at_between track version scene Held e order = refl
at_between track version scene Between e order = refl
at_between track version scene Ended e order = absurd (let never : ⊥ = cc in never)

at_told : (track : Track) (version : ℕ) (scene : Scene) (stage : Stage) (report : Report) → told_in stage ≡ Some report → InOrder track scene stage → history_at version scene stage ≡ told_so_far version scene ++ told_of_last (Told report)
at_told track version scene Start report e order = absurd (let never : ⊥ = cc in never)
at_told track version scene (Rows first) report e order = absurd (let never : ⊥ = cc in never)
at_told track version scene (Told other) report e order = let same : other ≡ report = cc in ap (λ r. told_so_far version scene ++ told_of_last (Told r)) same
at_told track version scene (RunningTrain running) report e order = absurd (let never : ⊥ = cc in never)
at_told track version scene (Standing standing) report e order = absurd (let never : ⊥ = cc in never)
at_told track version scene Held report e order = absurd (let never : ⊥ = cc in never)
at_told track version scene Between report e order = absurd (let never : ⊥ = cc in never)
at_told track version scene Ended report e order = absurd (let never : ⊥ = cc in never)

at_running : (track : Track) (version : ℕ) (scene : Scene) (stage : Stage) (running : Running) → running_in stage ≡ Some running → InOrder track scene stage → (history_at version scene stage ≡ told_so_far version scene ++ told_of_last (RunningTrain running)) × (running.full ≡ true → FullTo 64 running.legs)
at_running track version scene Start running e order = absurd (let never : ⊥ = cc in never)
at_running track version scene (Rows first) running e order = absurd (let never : ⊥ = cc in never)
at_running track version scene (Told report) running e order = absurd (let never : ⊥ = cc in never)
at_running track version scene (RunningTrain other) running e order =
    let same : other ≡ running = cc in (ap (λ r. told_so_far version scene ++ told_of_last (RunningTrain r)) same, subst (λ (r : Running). r.full ≡ true → FullTo 64 r.legs) same order)
at_running track version scene (Standing standing) running e order = absurd (let never : ⊥ = cc in never)
at_running track version scene Held running e order = absurd (let never : ⊥ = cc in never)
at_running track version scene Between running e order = absurd (let never : ⊥ = cc in never)
at_running track version scene Ended running e order = absurd (let never : ⊥ = cc in never)

at_standing : (track : Track) (version : ℕ) (scene : Scene) (stage : Stage) (standing : Train) → standing_in stage ≡ Some standing → InOrder track scene stage → history_at version scene stage ≡ told_so_far version scene ++ standing_told standing
at_standing track version scene Start standing e order = absurd (let never : ⊥ = cc in never)
at_standing track version scene (Rows first) standing e order = absurd (let never : ⊥ = cc in never)
at_standing track version scene (Told report) standing e order = absurd (let never : ⊥ = cc in never)
at_standing track version scene (RunningTrain running) standing e order = absurd (let never : ⊥ = cc in never)
at_standing track version scene (Standing other) standing e order = let same : other.train ≡ standing = cc in ap (λ t. told_so_far version scene ++ standing_told t) same
at_standing track version scene Held standing e order = absurd (let never : ⊥ = cc in never)
at_standing track version scene Between standing e order = absurd (let never : ⊥ = cc in never)
at_standing track version scene Ended standing e order = absurd (let never : ⊥ = cc in never)

at_held : (track : Track) (version : ℕ) (scene : Scene) (stage : Stage) → is_held stage ≡ true → InOrder track scene stage → history_at version scene stage ≡ told_so_far version scene
at_held track version scene Start e order = absurd (let never : ⊥ = cc in never)
at_held track version scene (Rows first) e order = absurd (let never : ⊥ = cc in never)
at_held track version scene (Told report) e order = absurd (let never : ⊥ = cc in never)
at_held track version scene (RunningTrain running) e order = absurd (let never : ⊥ = cc in never)
at_held track version scene (Standing standing) e order = absurd (let never : ⊥ = cc in never)
at_held track version scene Held e order = refl
at_held track version scene Between e order = absurd (let never : ⊥ = cc in never)
at_held track version scene Ended e order = absurd (let never : ⊥ = cc in never)

trains_at_start : (track : Track) (scene : Scene) (stage : Stage) → is_start stage ≡ true → FitsStage track scene stage → scene.trains ≡ []
trains_at_start track scene Start e fit = fit
trains_at_start track scene (Rows first) e fit = fit
trains_at_start track scene (Told report) e fit = absurd (let never : ⊥ = cc in never)
trains_at_start track scene (RunningTrain running) e fit = absurd (let never : ⊥ = cc in never)
trains_at_start track scene (Standing standing) e fit = absurd (let never : ⊥ = cc in never)
trains_at_start track scene Held e fit = absurd (let never : ⊥ = cc in never)
trains_at_start track scene Between e fit = absurd (let never : ⊥ = cc in never)
trains_at_start track scene Ended e fit = absurd (let never : ⊥ = cc in never)

new_standing : (track : Track) (scene : Scene) (stage : Stage) (standing : Train) → standing_in stage ≡ Some standing → FitsStage track scene stage → IsNew scene standing.report
new_standing track scene Start standing e fit = absurd (let never : ⊥ = cc in never)
new_standing track scene (Rows first) standing e fit = absurd (let never : ⊥ = cc in never)
new_standing track scene (Told report) standing e fit = absurd (let never : ⊥ = cc in never)
new_standing track scene (RunningTrain running) standing e fit = absurd (let never : ⊥ = cc in never)
new_standing track scene (Standing other) standing e fit = let same : other.train ≡ standing = cc in subst (λ (t : Train). IsNew scene t.report) same fit.0
new_standing track scene Held standing e fit = absurd (let never : ⊥ = cc in never)
new_standing track scene Between standing e fit = absurd (let never : ⊥ = cc in never)
new_standing track scene Ended standing e fit = absurd (let never : ⊥ = cc in never)

-- ---- a line more

-- a line that was read: it stands behind the others, and what comes is in order
pub record IsStep (reading next : Reading) (said : SceneLine) : Type 0 where
  pub told : history next ≡ history reading ++ kept said
  pub order : InOrder next.track next.scene next.stage

module _ (on : Track) (reading next : Reading) (now : IsRead on reading) (order : InOrder reading.track reading.scene reading.stage) where
  abbrev track : Track
  track = reading.track

  abbrev scene : Scene
  scene = reading.scene

  -- the lines so far, and one more
  abbrev Behind : List SceneLine → SceneLine → List SceneLine → Type 0
  Behind before said after = after ≡ before ++ kept said

  stepped : (said : SceneLine) (after : Reading) (before : List SceneLine) → after ≡ next → history reading ≡ before → history after ≡ before ++ kept said → InOrder after.track after.scene after.stage → IsStep reading next said
  stepped said after before is was told in_order =
      record {
        told = ap history (sym is) ∙ told ∙ ap (λ b. b ++ kept said) (sym was);
        order = subst (λ (r : Reading). InOrder r.track r.scene r.stage) is in_order;
      }

  no_trains : scene.trains ≡ [] → flat_map said_kept scene.trains ≡ []
  no_trains e = ap (flat_map said_kept) e

  version_step : (version : ℕ) → with_version version reading ≡ Ok next → IsStep reading next (Version version)
  version_step version h =
      let after : Reading = record { track = track; version = version; scene = scene; stage = Rows 0 } in
      let d = demanded (is_start reading.stage) Order (Ok after) next h in
      let s = at_start track reading.version scene reading.stage d.0 order in
      let none = no_rows_of s.1 in
      stepped (Version version) after [] (the_ok after next d.1) s.0
      (ap (λ l. Version version ∷ (l ++ flat_map said_kept scene.trains)) (none_said 0 scene.locks none)
      ∙ ap (λ l. Version version ∷ l) (no_trains (trains_at_start track scene reading.stage d.0 now.so.stage)))
      (λ section lock there. absurd (none section lock there))
    where
      no_rows_of : scene.locks ≡ no_locks track → (s : ℕ) (lock : Lock) → row scene.locks s ≡ Some lock → ⊥
      no_rows_of e s lock there = no_row track.sections s lock (ap (λ (l : Locks). row l s) (sym e) ∙ there)

  row_step : (leg : Leg) (route : ℕ) (before : Option Leg) → with_row_told leg route before reading ≡ Ok next → IsStep reading next (Locked leg route before)
  row_step leg route before h =
      let after : Locks → Reading = λ locks. record { track = track; version = reading.version; scene = with_locks scene locks; stage = Rows (leg.section + 1) } in
      let b = demanded (may_be_of leg.section reading.stage) Order (locks_with track scene.locks leg route before >>= (λ locks. Ok (after locks))) next h in
      let c = bound (locks_with track scene.locks leg route before) (λ locks. Ok (after locks)) next b.1 in
      let d = demanded (is_needed track leg.section (the_lock route (leg, before))) (NotOfRoute leg.section route) (result_map_both (λ locks. locks) row_fault (added scene.locks route leg before)) c.0 c.1 in
      let is = is_with_row scene.locks c.0 leg route before (kept_ok row_fault (added scene.locks route leg before) c.0 d.1) in
      let of = row_of track now.so.sound leg route before d.0 in
      let s = at_rows track reading.version scene reading.stage leg.section b.0 order in
      let within : leg.section < length scene.locks = let w = of.within in let m = now.so.good.locks.as_many in omega (arith, w, m) in
      let new = the_lock route (leg, before) in
      let none = no_trains (at_rows_kept track scene reading.stage leg.section b.0 now.so.stage) in
      stepped (Locked leg route before) (after c.0) (told_so_far reading.version scene) (the_ok (after c.0) next c.2) s.0
      (ap (λ l. Version reading.version ∷ (said_locks 0 l ++ flat_map said_kept scene.trains)) (sym is)
      ∙ ap (λ l. Version reading.version ∷ (l ++ flat_map said_kept scene.trains)) (row_said 0 scene.locks leg.section new within s.1)
      ∙ ap (λ n. Version reading.version ∷ ((said_locks 0 scene.locks ++ Locked (record { section = n; direction = leg.direction }) route before ∷ []) ++ flat_map said_kept scene.trains)) (let e : 0 + leg.section ≡ leg.section = omega arith in e)
      ∙ ap (λ l. Version reading.version ∷ ((said_locks 0 scene.locks ++ Locked leg route before ∷ []) ++ l)) none
      ∙ ap (λ l. Version reading.version ∷ l) (append-nil (said_locks 0 scene.locks ++ Locked leg route before ∷ []))
      ∙ ap (λ l. Version reading.version ∷ (l ++ Locked leg route before ∷ [])) (sym (append-nil (said_locks 0 scene.locks)))
      ∙ ap (λ l. Version reading.version ∷ ((said_locks 0 scene.locks ++ l) ++ Locked leg route before ∷ [])) (sym none))
      (each_row scene.locks c.0 leg route before (kept_ok row_fault (added scene.locks route leg before) c.0 d.1) (λ section lock. section < leg.section + 1)
      (λ section lock there. let a = s.1 section lock there in omega (arith, a)) (omega arith))

  report_step : (report : Report) → with_report report reading ≡ Ok next → IsStep reading next (Reported report)
  report_step report h =
      let after : Result Reading SceneFault = Ok (at_stage reading (Told report)) in
      let a = demanded (is_between reading.stage) Order (unless (report_fault track scene report) after) next h in
      let b = unrefused (report_fault track scene report) after next a.1 in
      stepped (Reported report) (at_stage reading (Told report)) (told_so_far reading.version scene) (the_ok (at_stage reading (Told report)) next b.1)
      (at_between track reading.version scene reading.stage a.0 order) refl tt

  line_step : (train origin : ℕ) (legs : Line) → with_line train origin legs reading ≡ Ok next → IsStep reading next (Along train origin legs)
  line_step train origin legs h =
      let running : Report → Running = λ report. record { report = report; origin = origin; legs = legs; full = is_full legs } in
      let a = bound (ok_or (told_in reading.stage) Order) (λ report. demand (train == report.train && fits legs) Order >> Ok (at_stage reading (RunningTrain (running report)))) next h in
      let b = demanded (train == a.0.train && fits legs) Order (Ok (at_stage reading (RunningTrain (running a.0)))) next a.2 in
      let whose : train ≡ a.0.train = eqb-true train a.0.train (and_left (train == a.0.train) (fits legs) b.0) in
      let short : length legs ≤ 64 = leb-true (length legs) 64 (and_right (train == a.0.train) (fits legs) b.0) in
      stepped (Along train origin legs) (at_stage reading (RunningTrain (running a.0))) (told_so_far reading.version scene ++ told_of_last (Told a.0))
      (the_ok (at_stage reading (RunningTrain (running a.0))) next b.1)
      (at_told track reading.version scene reading.stage a.0 (found (told_in reading.stage) Order a.0 a.1) order)
      (ap (λ pieces. told_so_far reading.version scene ++ (Reported a.0 ∷ said_way (standing_at (running a.0) 0 0) pieces)) (one_piece 64 legs short)
      ∙ ap (λ n. told_so_far reading.version scene ++ (Reported a.0 ∷ Along n origin legs ∷ [])) (sym whose)
      ∙ sym (append_assoc (told_so_far reading.version scene) (Reported a.0 ∷ []) (Along train origin legs ∷ [])))
      (λ full. full_first 64 legs (eqb-true (length legs) 64 full))

  piece_step : (train : ℕ) (legs : Line) → with_piece train legs reading ≡ Ok next → IsStep reading next (More train legs)
  piece_step train legs h =
      let a = bound (ok_or (running_in reading.stage) Order) (λ (running : Running). demand (may_go_on train running legs) Order >> Ok (at_stage reading (RunningTrain (with_legs running legs)))) next h in
      let b = demanded (may_go_on train a.0 legs) Order (Ok (at_stage reading (RunningTrain (with_legs a.0 legs)))) next a.2 in
      let s = at_running track reading.version scene reading.stage a.0 (found (running_in reading.stage) Order a.0 a.1) order in
      let three = train == a.0.report.train && a.0.full && nat_lt 0 (length legs) in
      let two = train == a.0.report.train && a.0.full in
      let short : length legs ≤ 64 = leb-true (length legs) 64 (and_right three (fits legs) b.0) in
      let some : 0 < length legs = ltb-true 0 (length legs) (and_right two (nat_lt 0 (length legs)) (and_left three (fits legs) b.0)) in
      let full = and_right (train == a.0.report.train) a.0.full (and_left two (nat_lt 0 (length legs)) (and_left three (fits legs) b.0)) in
      let whose : train ≡ a.0.report.train = eqb-true train a.0.report.train (and_left (train == a.0.report.train) a.0.full (and_left two (nat_lt 0 (length legs)) (and_left three (fits legs) b.0))) in
      let who = standing_at a.0 0 0 in
      stepped (More train legs) (at_stage reading (RunningTrain (with_legs a.0 legs))) (told_so_far reading.version scene ++ told_of_last (RunningTrain a.0))
      (the_ok (at_stage reading (RunningTrain (with_legs a.0 legs))) next b.1) s.0
      (ap (λ pieces. told_so_far reading.version scene ++ (Reported a.0.report ∷ said_way who pieces)) (more_pieces 64 a.0.legs legs (s.1 full) some short)
      ∙ ap (λ lines. told_so_far reading.version scene ++ (Reported a.0.report ∷ lines)) (way_more who (pieces_of 64 a.0.legs) legs (some_pieces 64 a.0.legs))
      ∙ ap (λ n. told_so_far reading.version scene ++ (Reported a.0.report ∷ (said_way who (pieces_of 64 a.0.legs) ++ More n legs ∷ []))) (sym whose)
      ∙ sym (append_assoc (told_so_far reading.version scene) (Reported a.0.report ∷ said_way who (pieces_of 64 a.0.legs)) (More train legs ∷ [])))
      (λ again. full_more 64 a.0.legs legs (s.1 full) (eqb-true (length legs) 64 again))

  extent_step : (train : ℕ) (rear front : ℤ) → with_extent train rear front reading ≡ Ok next → IsStep reading next (Stands train rear front)
  extent_step train rear front h =
      let after : Train → Result Reading SceneFault = λ standing. Ok (at_stage reading (Standing (on_track track standing))) in
      let a = bound (ok_or (running_in reading.stage) Order) (λ (running : Running). demand (train == running.report.train) Order >> (stands_on_line track running rear front >>= after)) next h in
      let b = demanded (train == a.0.report.train) Order (stands_on_line track a.0 rear front >>= after) next a.2 in
      let c = bound (stands_on_line track a.0 rear front) after next b.1 in
      let s = at_running track reading.version scene reading.stage a.0 (found (running_in reading.stage) Order a.0 a.1) order in
      let p = places_found track a.0 rear front c.0 c.1 in
      let whose : train ≡ a.0.report.train = eqb-true train a.0.report.train b.0 in
      let standing = standing_at a.0 p.rear p.front in
      let way = said_way standing (pieces_of 64 a.0.legs) in
      stepped (Stands train rear front) (at_stage reading (Standing (on_track track c.0))) (told_so_far reading.version scene ++ told_of_last (RunningTrain a.0))
      (the_ok (at_stage reading (Standing (on_track track c.0))) next c.2) s.0
      (ap (λ (t : Train). told_so_far reading.version scene ++ standing_told t) (sym p.is)
      ∙ ap (λ n. told_so_far reading.version scene ++ (Reported a.0.report ∷ (way ++ Stands n (from_group standing p.rear) (from_group standing p.front) ∷ []))) (sym whose)
      ∙ ap (λ d. told_so_far reading.version scene ++ (Reported a.0.report ∷ (way ++ Stands train d (from_group standing p.front) ∷ []))) (the_distance a.0.origin p.rear rear p.rear_is)
      ∙ ap (λ d. told_so_far reading.version scene ++ (Reported a.0.report ∷ (way ++ Stands train rear d ∷ []))) (the_distance a.0.origin p.front front p.front_is)
      ∙ sym (append_assoc (told_so_far reading.version scene) (Reported a.0.report ∷ way) (Stands train rear front ∷ [])))
      tt

  held_step : (train : ℕ) (from to : ℤ) → with_held train from to reading ≡ Ok next → IsStep reading next (Holds train from to)
  held_step train from to h =
      let after : Train → Reading = λ held. record { track = track; version = reading.version; scene = with_train scene held; stage = Held } in
      let a = bound (ok_or (standing_in reading.stage) Order) (λ (standing : Train). demand (train == standing.report.train) Order >> (holding track scene standing from to >>= (λ held. Ok (after held)))) next h in
      let b = demanded (train == a.0.report.train) Order (holding track scene a.0 from to >>= (λ held. Ok (after held))) next a.2 in
      let c = bound (holding track scene a.0 from to) (λ held. Ok (after held)) next b.1 in
      let there = found (standing_in reading.stage) Order a.0 a.1 in
      let s = at_standing track reading.version scene reading.stage a.0 there order in
      let p = held_places_found track scene a.0 from to c.0 c.1 in
      let whose : train ≡ a.0.report.train = eqb-true train a.0.report.train b.0 in
      let held = with_authority a.0 a.0.line p.rear p.front in
      let way = said_way a.0 (pieces_of 64 a.0.line) in
      let stood = Stands a.0.report.train (from_group a.0 a.0.rear) (from_group a.0 a.0.front) in
      let so_far = told_so_far reading.version scene in
      stepped (Holds train from to) (after c.0) (so_far ++ standing_told a.0) (the_ok (after c.0) next c.2) s
      (ap (λ (t : Train). told_so_far reading.version (with_train scene t)) (sym p.is)
      ∙ ap (λ (trains : List Train). Version reading.version ∷ (said_locks 0 scene.locks ++ flat_map said_kept trains)) (last_train scene held (new_standing track scene reading.stage a.0 there now.so.stage))
      ∙ ap (λ lines. Version reading.version ∷ (said_locks 0 scene.locks ++ lines)) (kept_trains scene.trains held)
      ∙ ap (λ lines. Version reading.version ∷ lines) (sym (append_assoc (said_locks 0 scene.locks) (flat_map said_kept scene.trains) (said_kept held)))
      ∙ ap (λ n. so_far ++ (Reported a.0.report ∷ (way ++ stood ∷ Holds n (from_group a.0 p.rear) (from_group a.0 p.front) ∷ []))) (sym whose)
      ∙ ap (λ d. so_far ++ (Reported a.0.report ∷ (way ++ stood ∷ Holds train d (from_group a.0 p.front) ∷ []))) (the_distance a.0.origin p.rear from p.rear_is)
      ∙ ap (λ d. so_far ++ (Reported a.0.report ∷ (way ++ stood ∷ Holds train from d ∷ []))) (the_distance a.0.origin p.front to p.front_is)
      ∙ ap (λ lines. so_far ++ (Reported a.0.report ∷ lines)) (sym (append_assoc way (stood ∷ []) (Holds train from to ∷ [])))
      ∙ sym (append_assoc so_far (standing_told a.0) (Holds train from to ∷ [])))
      tt

  next_step : with_next reading ≡ Ok next → IsStep reading next Next
  next_step h =
      let a = demanded (is_held reading.stage) Order (Ok (at_stage reading Between)) next h in
      stepped Next (at_stage reading Between) (told_so_far reading.version scene) (the_ok (at_stage reading Between) next a.1) (at_held track reading.version scene reading.stage a.0 order)
      (sym (append-nil (told_so_far reading.version scene))) tt

  end_step : with_end reading ≡ Ok next → IsStep reading next Done
  end_step h =
      let a = demanded (is_between reading.stage) Order (Ok (at_stage reading Ended)) next h in
      stepped Done (at_stage reading Ended) (told_so_far reading.version scene) (the_ok (at_stage reading Ended) next a.1) (at_between track reading.version scene reading.stage a.0 order) refl tt

  pub step : (said : SceneLine) → with_said said reading ≡ Ok next → IsStep reading next said
  step (Version version) h = version_step version h
  step (Locked leg route before) h = row_step leg route before h
  step (Reported report) h = report_step report h
  step (Along train origin legs) h = line_step train origin legs h
  step (More train legs) h = piece_step train legs h
  step (Stands train rear front) h = extent_step train rear front h
  step (Holds train from to) h = held_step train from to h
  step Next h = next_step h
  step Done h = end_step h
