-- The lines of a track as the pieces that are printed one behind another.
use Rattle.std.proofs.Common.{◌≡◌, ℕ, suc, ◌+◌, ◌<◌, ◌≤◌, List, [], ◌∷◌, ◌++◌, length, map, drop, get_or, drop-cons, add-one, refl, sym, ap, ◌∙◌, append_assoc, append-nil}
use Rattle.std.specs.Prelude.{codes, decimal}
use Rattle.std.specs.List.{flat_map}
use Rattle.std.proofs.lemmas.Grind.{flat_map-append}
use Rattle.std.proofs.lemmas.List.{at_drop_all}
use Rattle.std.proofs.lemmas.List.Folds.{flat_map-map}
use Rattle.rbc_model.specs.declared.places.Leg.{Leg}
use Rattle.rbc_model.specs.Kinds.{Kind, speed_kind, grade_kind}
use Rattle.rbc_model.specs.Names.{leg_text}
use Rattle.rbc_model.specs.Rows.{Row, rows_text, leg_or_none}
use Rattle.rbc_model.specs.SessionReply.{leg_word}
use Rattle.rbc_model.specs.StepsReply.{run_words}
use Rattle.rbc_model.specs.TrackLines.{named_leg, named_link, named_group, named_route, track_row, section_rows, link_row, group_row, route_row, track_lines}
use Rattle.rbc_model.specs.Tracks.{Section, Route, Track}
use Rattle.rbc_model.specs.Words.{line_of}
use Rattle.rbc_words.specs.PriceText.{spaced}
use Rattle.rbc_words.specs.Replies.{runs_text}
use Rattle.rbc_words.proofs.LineTextLemmas.{spaced_runs}
use Rattle.rbc_words.proofs.SpacedLemmas.{line_of-parts, spaced-next}
use Rattle.rbc_lines.specs.TrackText.{section_text, link_text, group_text, route_text}

-- ---- lists of texts

-- the text of the first that is left, and those behind it
pub texts-next : {X : Type 0} (text : X → List ℕ) (xs : List X) (index : ℕ) (x : X) → index < length xs → x ≡ get_or xs index x
    → flat_map text (drop index xs) ≡ text x ++ flat_map text (drop (index + 1) xs)
texts-next {X} text xs index x inside same =
    ap (flat_map text) (drop-cons xs index x inside)
    ∙ ap (λ (y : X). text y ++ flat_map text (drop (suc index) xs)) (sym same)
    ∙ ap (λ i. text x ++ flat_map text (drop i xs)) (sym (add-one index))

-- none is left
pub texts-end : {X : Type 0} (text : X → List ℕ) (xs : List X) (index : ℕ) → length xs ≤ index → flat_map text (drop index xs) ≡ []
texts-end text xs index past = at_drop_all (flat_map text) xs index past

-- ---- rows

several_rows : {X : Type 0} (rows : X → List Row) (xs : List X) → rows_text (flat_map rows xs) ≡ flat_map (λ x. rows_text (rows x)) xs
several_rows rows [] = refl
several_rows rows (x ∷ xs) = flat_map-append line_of (rows x) (flat_map rows xs) ∙ ap (λ l. rows_text (rows x) ++ l) (several_rows rows xs)

named_rows : {X Y : Type 0} (row : Y → Row) (named : X → Y) (xs : List X) → rows_text (map row (map named xs)) ≡ flat_map (λ x. line_of (row (named x))) xs
named_rows row named xs = flat_map-map line_of row (map named xs) ∙ flat_map-map (λ y. line_of (row y)) named xs

-- rows in five parts
parts_text : (a b c d e : List Row) → rows_text ((((a ++ b) ++ c) ++ d) ++ e) ≡ rows_text a ++ (rows_text b ++ (rows_text c ++ (rows_text d ++ rows_text e)))
parts_text a b c d e =
    let ta = rows_text a in
    let tb = rows_text b in
    let tc = rows_text c in
    ap rows_text (append_assoc ((a ++ b) ++ c) d e ∙ append_assoc (a ++ b) c (d ++ e) ∙ append_assoc a b (c ++ (d ++ e)))
    ∙ flat_map-append line_of a (b ++ (c ++ (d ++ e)))
    ∙ ap (λ l. ta ++ l) (flat_map-append line_of b (c ++ (d ++ e)))
    ∙ ap (λ l. ta ++ (tb ++ l)) (flat_map-append line_of c (d ++ e))
    ∙ ap (λ l. ta ++ (tb ++ (tc ++ l))) (flat_map-append line_of d e)

-- ---- a track

-- the lines of a track, each behind those before it
pub track_lines-is : (track : Track) (sections : List Section) → sections ≡ track.sections
    → track_lines track
    ≡ line_of (track_row track.format track.speed_steps track.grade_steps)
    ++ (flat_map section_text sections
    ++ (flat_map (link_text track) track.links
    ++ (flat_map (group_text track) track.groups
    ++ (flat_map (route_text track) track.routes
    ++ codes "done\n"))))
track_lines-is track sections same =
    let head = line_of (track_row track.format track.speed_steps track.grade_steps) in
    let s = flat_map section_rows track.sections in
    let l = map link_row (map (named_link track) track.links) in
    let g = map group_row (map (named_group track) track.groups) in
    let r = map route_row (map (named_route track) track.routes) in
    let end : List Row = (codes "done" ∷ []) ∷ [] in
    let sections_text = flat_map section_text track.sections in
    let links_text = flat_map (link_text track) track.links in
    let groups_text = flat_map (group_text track) track.groups in
    ap (λ text. head ++ text) (parts_text s l g r end)
    ∙ ap (λ text. head ++ (text ++ (rows_text l ++ (rows_text g ++ (rows_text r ++ codes "done\n"))))) (several_rows section_rows track.sections)
    ∙ ap (λ text. head ++ (sections_text ++ (text ++ (rows_text g ++ (rows_text r ++ codes "done\n"))))) (named_rows link_row (named_link track) track.links)
    ∙ ap (λ text. head ++ (sections_text ++ (links_text ++ (text ++ (rows_text r ++ codes "done\n"))))) (named_rows group_row (named_group track) track.groups)
    ∙ ap (λ text. head ++ (sections_text ++ (links_text ++ (groups_text ++ (text ++ codes "done\n"))))) (named_rows route_row (named_route track) track.routes)
    ∙ ap (λ those. head ++ (flat_map section_text those ++ (links_text ++ (groups_text ++ (flat_map (route_text track) track.routes ++ codes "done\n"))))) (sym same)

-- ---- a section

-- the line of runs behind a word and a name
pub level_line-is : {V : Type 0} (kind : Kind V) (first name : List ℕ) (runs : List (ℕ × V))
    → line_of (first ∷ name ∷ run_words kind runs) ≡ first ++ (spaced (name ∷ []) ++ (runs_text kind runs ++ 10 ∷ []))
level_line-is kind first name runs =
    line_of-parts first (name ∷ []) (run_words kind runs) ∙ ap (λ l. first ++ (spaced (name ∷ []) ++ (l ++ 10 ∷ []))) (spaced_runs kind runs)

-- the lines of a section, each behind those before it
pub section_text-is : (section : Section) (name : List ℕ) (metres : ℕ) (speeds : List (ℕ × ℕ)) (grades : List (ℕ × _)) → name ≡ section.name → metres ≡ section.metres → speeds ≡ section.speeds → grades ≡ section.grades
    → section_text section
    ≡ line_of (codes "section" ∷ name ∷ decimal metres ∷ [])
    ++ (line_of (codes "speeds" ∷ name ∷ run_words speed_kind speeds)
    ++ line_of (codes "grades" ∷ name ∷ run_words grade_kind grades))
section_text-is section name metres speeds grades a b c d =
    let made : List ℕ → ℕ → List (ℕ × ℕ) → List (ℕ × _) → List ℕ = λ n m s g.
    line_of (codes "section" ∷ n ∷ decimal m ∷ [])
    ++ (line_of (codes "speeds" ∷ n ∷ run_words speed_kind s)
    ++ line_of (codes "grades" ∷ n ∷ run_words grade_kind g)) in
    let last = line_of (codes "grades" ∷ section.name ∷ run_words grade_kind section.grades) in
    ap (λ l. line_of (codes "section" ∷ section.name ∷ decimal section.metres ∷ []) ++ (line_of (codes "speeds" ∷ section.name ∷ run_words speed_kind section.speeds) ++ l)) (append-nil last)
    ∙ ap (λ n. made n section.metres section.speeds section.grades) (sym a)
    ∙ ap (λ m. made name m section.speeds section.grades) (sym b)
    ∙ ap (λ s. made name metres s section.grades) (sym c)
    ∙ ap (λ g. made name metres speeds g) (sym d)

-- ---- a route

-- the first of the legs that are left, and those behind it
pub legs-next : (track : Track) (legs : List Leg) (index : ℕ) (leg : Leg) (word : List ℕ) → index < length legs → leg ≡ get_or legs index leg → word ≡ leg_word track leg
    → spaced (map (leg_word track) (drop index legs)) ≡ spaced (word ∷ []) ++ spaced (map (leg_word track) (drop (index + 1) legs))
legs-next track legs index leg word inside same is =
    spaced-next (leg_word track) legs index leg inside same
    ∙ ap (λ w. (32 ∷ w) ++ spaced (map (leg_word track) (drop (index + 1) legs))) (sym is ∙ sym (append-nil word))

legs_named : (track : Track) (legs : List Leg) → map leg_text (map (named_leg track) legs) ≡ map (leg_word track) legs
legs_named track [] = refl
legs_named track (leg ∷ legs) = ap (λ words. leg_word track leg ∷ words) (legs_named track legs)

-- the line of a route, with its name and its entry as words
pub route_text-is : (track : Track) (route : Route) (words : List (List ℕ)) (legs : List Leg) → words ≡ (named_route track route).name ∷ leg_or_none (named_route track route).after ∷ [] → legs ≡ route.legs
    → route_text track route ≡ codes "route" ++ (spaced words ++ (spaced (map (leg_word track) legs) ++ 10 ∷ []))
route_text-is track route words legs same those =
    let front = (named_route track route).name ∷ leg_or_none (named_route track route).after ∷ [] in
    line_of-parts (codes "route") front (map leg_text (map (named_leg track) route.legs))
    ∙ ap (λ behind. codes "route" ++ (spaced front ++ (spaced behind ++ 10 ∷ []))) (legs_named track route.legs)
    ∙ ap (λ ws. codes "route" ++ (spaced ws ++ (spaced (map (leg_word track) route.legs) ++ 10 ∷ []))) (sym same)
    ∙ ap (λ ls. codes "route" ++ (spaced words ++ (spaced (map (leg_word track) ls) ++ 10 ∷ []))) (sym those)
