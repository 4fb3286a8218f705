-- The lines of a scene as the texts that are printed one behind another.
use Rattle.std.proofs.Common.{◌≡◌, ℕ, zero, suc, arith, ◌+◌, ◌<◌, ◌≤◌, List, [], ◌∷◌, ◌++◌, length, drop, Option, refl, sym, ap, ◌∙◌, append_assoc, append-nil, add-one}
use Rattle.std.specs.Prelude.{flat_map, codes, decimal}
use Rattle.std.proofs.lemmas.Grind.{flat_map-append}
use Rattle.std.proofs.lemmas.List.{at_drop_all}
use Rattle.rbc_model.specs.declared.tracks.Lock.{Lock}
use Rattle.rbc_model.specs.Tracks.{Track}
use Rattle.rbc_model.specs.Locks.{Locks, row}
use Rattle.rbc_model.specs.Trains.{Train}
use Rattle.rbc_model.specs.Scenes.{Scene}
use Rattle.rbc_model.specs.Reports.{Report}
use Rattle.rbc_model.specs.Rows.{Row}
use Rattle.rbc_model.specs.SceneLines.{holds_line, locked_lines, next_line, pieces_of, report_words, places_line, row_lines, scene_body, scene_lines, stands_line, train_lines, way_lines}
use Rattle.rbc_model.specs.Words.{line_of}

-- one line
pub one_line : (words : Row) → line_of words ≡ flat_map line_of (words ∷ [])
one_line words = sym (append-nil (line_of words))

-- the lines of a train
train_lines-cut : (track : Track) (scene : Scene) (train : Train)
    → flat_map line_of (train_lines track scene train)
    ≡ line_of (codes "train" ∷ report_words train.report)
    ++ (flat_map line_of (way_lines track train (pieces_of 64 train.line)) ++ (line_of (stands_line train) ++ (line_of (holds_line train) ++ line_of (next_line track scene train))))
train_lines-cut track scene train =
    let first = line_of (codes "train" ∷ report_words train.report) in
    let way = way_lines track train (pieces_of 64 train.line) in
    ap (λ l. first ++ l) (flat_map-append line_of way (stands_line train ∷ holds_line train ∷ next_line track scene train ∷ []))
    ∙ ap (λ l. first ++ (flat_map line_of way ++ (line_of (stands_line train) ++ (line_of (holds_line train) ++ l)))) (sym (one_line (next_line track scene train)))

-- the lines of a train, by the numbers that are handed over
pub train_lines-is : (track : Track) (scene : Scene) (train : Train) (report : Report) (rear front from to : ℕ)
    → report ≡ train.report → rear ≡ train.rear → front ≡ train.front → from ≡ train.from → to ≡ train.to
    → flat_map line_of (train_lines track scene train)
    ≡ line_of (codes "train" ∷ report_words report)
    ++ (flat_map line_of (way_lines track train (pieces_of 64 train.line))
    ++ (line_of (places_line (codes "stands") train rear front) ++ (line_of (places_line (codes "holds") train from to) ++ line_of (next_line track scene train))))
train_lines-is track scene train report rear front from to same_report same_rear same_front same_from same_to =
    let way = flat_map line_of (way_lines track train (pieces_of 64 train.line)) in
    let last = line_of (next_line track scene train) in
    let told : Report → ℕ → ℕ → ℕ → ℕ → List ℕ = λ r a b x y.
    line_of (codes "train" ∷ report_words r) ++ (way ++ (line_of (places_line (codes "stands") train a b) ++ (line_of (places_line (codes "holds") train x y) ++ last))) in
    train_lines-cut track scene train
    ∙ sym (λ j. told (same_report j) (same_rear j) (same_front j) (same_from j) (same_to j))

-- the lines of the first of the trains that are left, and those behind it
pub trains-next : (lines : Train → List Row) (train : Train) (trains : List Train)
    → flat_map line_of (flat_map lines (train ∷ trains)) ≡ flat_map line_of (lines train) ++ flat_map line_of (flat_map lines trains)
trains-next lines train trains = flat_map-append line_of (lines train) (flat_map lines trains)

-- the row that a section has stands at its place
row_here : (locks : Locks) (section : ℕ) → section < length locks → drop section locks ≡ row locks section ∷ drop (suc section) locks
row_here [] section inside = absurd (omega (arith, inside))
row_here (lock ∷ locks) zero inside = refl
row_here (lock ∷ locks) (suc section) inside = row_here locks section (omega (arith, inside))

-- the line of the first of the rows that are left, and those behind it
pub rows-next : (track : Track) (locks : Locks) (section here : ℕ) (found : Option Lock) → section < length locks → here ≡ section → found ≡ row locks here
    → flat_map line_of (locked_lines track section (drop section locks))
    ≡ flat_map line_of (row_lines track here found) ++ flat_map line_of (locked_lines track (section + 1) (drop (section + 1) locks))
rows-next track locks section here found inside at same =
    let rest = flat_map line_of (locked_lines track (section + 1) (drop (section + 1) locks)) in
    ap (λ l. flat_map line_of (locked_lines track section l)) (row_here locks section inside ∙ ap (λ i. row locks section ∷ drop i locks) (sym (add-one section)))
    ∙ flat_map-append line_of (row_lines track section (row locks section)) (locked_lines track (section + 1) (drop (section + 1) locks))
    ∙ sym (λ j. flat_map line_of (row_lines track (at j) (row locks (at j))) ++ rest)
    ∙ sym (λ j. flat_map line_of (row_lines track here (same j)) ++ rest)

-- no row is left
pub rows-end : (track : Track) (locks : Locks) (section : ℕ) → length locks ≤ section → flat_map line_of (locked_lines track section (drop section locks)) ≡ []
rows-end track locks section past = at_drop_all (λ l. flat_map line_of (locked_lines track section l)) locks section past

-- the lines of a scene
scene_lines-cut : (track : Track) (version : ℕ) (scene : Scene)
    → scene_lines track version scene
    ≡ line_of (codes "scene" ∷ decimal version ∷ [])
    ++ (flat_map line_of (locked_lines track 0 scene.locks) ++ (flat_map line_of (flat_map (train_lines track scene) scene.trains) ++ codes "done\n"))
scene_lines-cut track version scene =
    let first = line_of (codes "scene" ∷ decimal version ∷ []) in
    let locks = locked_lines track 0 scene.locks in
    let trains = flat_map (train_lines track scene) scene.trains in
    ap (λ l. first ++ l) (flat_map-append line_of (scene_body track scene) ((codes "done" ∷ []) ∷ []))
    ∙ ap (λ l. first ++ (l ++ codes "done\n")) (flat_map-append line_of locks trains)
    ∙ ap (λ l. first ++ l) (append_assoc (flat_map line_of locks) (flat_map line_of trains) (codes "done\n"))

-- the lines of a scene, by the locks that are handed over
pub scene_lines-is : (track : Track) (version : ℕ) (scene : Scene) (locks : Locks) → locks ≡ scene.locks
    → scene_lines track version scene
    ≡ line_of (codes "scene" ∷ decimal version ∷ [])
    ++ (flat_map line_of (locked_lines track 0 locks) ++ (flat_map line_of (flat_map (train_lines track scene) scene.trains) ++ codes "done\n"))
scene_lines-is track version scene locks same =
    scene_lines-cut track version scene
    ∙ sym (λ j. line_of (codes "scene" ∷ decimal version ∷ [])
    ++ (flat_map line_of (locked_lines track 0 (same j)) ++ (flat_map line_of (flat_map (train_lines track scene) scene.trains) ++ codes "done\n")))
