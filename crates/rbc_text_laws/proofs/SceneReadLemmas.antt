-- The lines of a scene lead to this scene.
use Rattle.std.proofs.Common.{◌≡◌, ℕ, suc, ◌+◌, ◌<◌, ◌≤◌, ◌^◌, Bool, true, false, cond, List, [], ◌∷◌, ◌++◌, length, map, Option, Some, None, Result, Ok, Err, refl, sym, ap, ◌∙◌, subst, arith, append_assoc, append-nil, length-append, codes, lit≤, lit<}
use Rattle.std.specs.Prelude.{◌==◌, decimal, bytes_eq, option_map, IfSome, slice_set}
use Rattle.std.specs.List.{AllByRecursion}
use Rattle.std.specs.Option.{ok_or}
use Rattle.std.proofs.lemmas.List.Elements.{recursion_from_All}
use Rattle.rbc_model.specs.declared.places.Direction.{Direction}
use Rattle.rbc_model.specs.declared.places.Leg.{Leg}
use Rattle.rbc_model.specs.declared.refusals.LineFault.{LineFault}
use Rattle.rbc_model.specs.declared.refusals.LineFault.TheVariants.{Command, Words, Number, Name}
use Rattle.rbc_model.specs.declared.tracks.Lock.{Lock}
use Rattle.rbc_model.specs.Names.{is_name}
use Rattle.rbc_model.specs.Reports.{Report, IsReport}
use Rattle.rbc_model.specs.Results.{demand, ◌>>=◌, ◌>>◌}
use Rattle.rbc_model.specs.Rows.{Row, leg_or_none, leg_at, leg_or_none_at, each_word}
use Rattle.rbc_model.specs.HistoryText.{route_word}
use Rattle.rbc_model.specs.SessionReply.{section_word, leg_word}
use Rattle.rbc_model.specs.SessionText.{report_in}
use Rattle.rbc_model.specs.SoundTracks.{IsSound}
use Rattle.rbc_model.specs.Tracks.{Track, Section, Route, section_named, route_named}
use Rattle.rbc_model.specs.TrackLines.{named_leg, HasNames}
use Rattle.rbc_model.specs.Lines.{Line}
use Rattle.rbc_model.specs.Locks.{Locks, with_row}
use Rattle.rbc_model.specs.Trains.{Train}
use Rattle.rbc_model.specs.Scenes.{Scene}
use Rattle.rbc_model.specs.Words.{number_in}
use Rattle.rbc_model.specs.SceneLines.{after_row, distance_word, holds_line, in_front, known_leg, known_leg_or_none, locked_line, locked_lines, next_line, pieces_of, place_at, report_words, row_lines, stands_line, told_of, track_leg_at, track_leg_or_none_at, train_line, way_lines, with_held, with_extent, with_last, with_legs, with_line, with_locked}
use Rattle.rbc_model.proofs.NamedLemmas.{named_again}
use Rattle.rbc_model.proofs.RowLemmas.{leg_is_word, leg_at-read, leg_or_none-read, leg_or_none-is_word, each_word-read, words_are}
use Rattle.rbc_model.proofs.SaidLineLemmas.{name_is_word}
use Rattle.rbc_model.proofs.WordLemmas.{IsWord, number_is_word, number_in-decimal, signed_is_word}
use Rattle.rbc_text_laws.proofs.RowReadLemmas.{IsLineRow, Tells, tells_then, named_in, distance_small, place_back}

-- a row is put in behind others
set_here : (front : Locks) (x y : Option Lock) (rest : Locks) → slice_set (front ++ x ∷ rest) (length front) y ≡ front ++ y ∷ rest
set_here [] x y rest = refl
set_here (z ∷ front) x y rest = ap (λ l. z ∷ l) (set_here front x y rest)

module _ (track : Track) (sound : IsSound track) (names : HasNames track) where
  abbrev pub IsOfTrack : Leg → Type 0
  IsOfTrack leg = leg.section < length track.sections

  -- ---- legs

  pub section_is_named : (section : ℕ) → section < length track.sections → is_name (section_word track section) ≡ true
  section_is_named section inside = named_in (λ (s : Section). s.name) track.sections section (recursion_from_All (λ (s : Section). is_name s.name ≡ true) track.sections names.sections) inside

  pub route_is_named : (route : ℕ) → route < length track.routes → is_name (route_word track route) ≡ true
  route_is_named route inside = named_in (λ (r : Route). r.name) track.routes route (recursion_from_All (λ (r : Route). is_name r.name ≡ true) track.routes names.routes) inside

  pub leg_word-is_word : (leg : Leg) → IsOfTrack leg → IsWord (leg_word track leg)
  leg_word-is_word leg inside = leg_is_word (named_leg track leg) (section_is_named leg.section inside)

  pub section_word-is_word : (section : ℕ) → section < length track.sections → IsWord (section_word track section)
  section_word-is_word section inside = name_is_word (section_word track section) (section_is_named section inside)

  known_back : (i : ℕ) (leg : Leg) → IsOfTrack leg → known_leg track i (named_leg track leg) ≡ Ok leg
  known_back i leg inside =
      let found : Option ℕ → Result Leg LineFault = λ o. ok_or o (Name i) >>= (λ section. Ok (record { section = section; direction = leg.direction })) in
      ap found (named_again (λ (s : Section). s.name) track.sections leg.section sound.section_names (section_is_named leg.section inside))

  pub leg_back : (i : ℕ) (leg : Leg) → IsOfTrack leg → track_leg_at track i (leg_word track leg) ≡ Ok leg
  leg_back i leg inside =
      ap (λ read. read >>= known_leg track i) (leg_at-read i (named_leg track leg) (section_is_named leg.section inside)) ∙ known_back i leg inside

  pub leg_or_none_back : (i : ℕ) (leg : Option Leg) → IfSome leg IsOfTrack → track_leg_or_none_at track i (leg_or_none (option_map (named_leg track) leg)) ≡ Ok leg
  leg_or_none_back i None inside = refl
  leg_or_none_back i (Some leg) inside =
      let more : Result Leg LineFault → Result (Option Leg) LineFault = λ read. read >>= (λ l. Ok (Some l)) in
      ap (λ read. read >>= known_leg_or_none track i) (leg_or_none-read i (Some (named_leg track leg)) (section_is_named leg.section inside)) ∙ ap more (known_back i leg inside)

  pub leg_or_none-word : (leg : Option Leg) → IfSome leg IsOfTrack → IsWord (leg_or_none (option_map (named_leg track) leg))
  leg_or_none-word None inside = leg_or_none-is_word None tt
  leg_or_none-word (Some leg) inside = leg_or_none-is_word (Some (named_leg track leg)) (section_is_named leg.section inside)

  each_leg : {P : Leg → Type 0} → ((leg : Leg) → IsOfTrack leg → P leg) → (legs : Line) → AllByRecursion IsOfTrack legs → AllByRecursion P legs
  each_leg so [] inside = tt
  each_leg so (leg ∷ legs) inside = (so leg inside.0, each_leg so legs inside.1)

  pub legs_back : (i : ℕ) (legs : Line) → AllByRecursion IsOfTrack legs → each_word (track_leg_at track) i (map (leg_word track) legs) ≡ Ok legs
  legs_back i legs inside = each_word-read (track_leg_at track) (leg_word track) i legs (each_leg (λ leg of i. leg_back i leg of) legs inside)

  pub legs_are_words : (legs : Line) → AllByRecursion IsOfTrack legs → AllByRecursion IsWord (map (leg_word track) legs)
  legs_are_words legs inside = words_are (leg_word track) legs (each_leg leg_word-is_word legs inside)

  -- ---- locks

  -- what is known of a row: its route and the leg before are the track's
  pub record IsRowOfTrack (lock : Lock) : Type 0 where
    pub route : lock.route < length track.routes
    pub before : IfSome lock.before IsOfTrack

  abbrev pub RowIsOfTrack : Option Lock → Type 0
  RowIsOfTrack None = Unit {0}
  RowIsOfTrack (Some lock) = IsRowOfTrack lock

  abbrev pub scene_with : Locks → List Train → Scene
  scene_with locks trains = record { locks = locks; trains = trains }

  -- the row of a section that is not locked
  abbrev free : Locks
  free = None ∷ []

  -- rows that are not told yet
  abbrev untold : Locks → Locks
  untold locks = map (λ _. None) locks

  module _ (front rest : Locks) (lock : Lock) (trains : List Train) (inside : length front < length track.sections) (is : IsRowOfTrack lock) where
    abbrev locked_leg : Leg
    locked_leg = record { section = length front; direction = lock.direction }

    lock_told : after_row track (scene_with (front ++ None ∷ untold rest) trains) (locked_line track (length front) lock) ≡ Ok (scene_with (front ++ Some lock ∷ untold rest) trains)
    lock_told =
        let old = front ++ None ∷ untold rest in
        let made : Leg → ℕ → Option Leg → Scene = λ leg route before. scene_with (with_row route old (leg, before)) trains in
        let third : Leg → ℕ → Result (Option Leg) LineFault → Result Scene LineFault = λ leg route read. read >>= (λ before. Ok (made leg route before)) in
        let before = track_leg_or_none_at track 4 (leg_or_none (option_map (named_leg track) lock.before)) in
        let second : Leg → Option ℕ → Result Scene LineFault = λ leg found. ok_or found (Name 3) >>= (λ route. third leg route before) in
        let first : Result Leg LineFault → Result Scene LineFault = λ read. read >>= (λ leg. second leg (route_named track (route_word track lock.route))) in
        let done : Locks → Result Scene LineFault = λ locks. Ok (scene_with locks trains) in
        ap first (leg_back 2 locked_leg inside)
        ∙ ap (second locked_leg) (named_again (λ (r : Route). r.name) track.routes lock.route sound.route_names (route_is_named lock.route is.route))
        ∙ ap (third locked_leg lock.route) (leg_or_none_back 4 lock.before is.before)
        ∙ ap done (set_here front None (Some lock) (untold rest))

    lock_is_row : IsLineRow (locked_line track (length front) lock)
    lock_is_row = (
      (
        record { some = lit< tt; short = lit≤ tt; visible = refl },
        (leg_word-is_word locked_leg inside, (name_is_word (route_word track lock.route) (route_is_named lock.route is.route), (leg_or_none-word lock.before is.before, tt))),
      ),
      refl,
      lit≤ tt,
    )

  moved : (a b : Locks) (n m : ℕ) (rest c d : Locks) (trains : List Train) → a ≡ b → n ≡ m → c ≡ d
      → Tells track (scene_with a trains) (locked_lines track n rest) (scene_with c trains) → Tells track (scene_with b trains) (locked_lines track m rest) (scene_with d trains)
  moved a b n m rest c d trains p q r told =
      subst (λ (x : Locks). Tells track (scene_with x trains) (locked_lines track m rest) (scene_with d trains)) p
      (subst (λ (x : ℕ). Tells track (scene_with a trains) (locked_lines track x rest) (scene_with d trains)) q
      (subst (λ (x : Locks). Tells track (scene_with a trains) (locked_lines track n rest) (scene_with x trains)) r told))

  -- the rows that are left lead from the ones before them to all
  pub locks_told : (front rest : Locks) (trains : List Train) → length front + length rest ≤ length track.sections → AllByRecursion RowIsOfTrack rest
      → Tells track (scene_with (front ++ untold rest) trains) (locked_lines track (length front) rest) (scene_with (front ++ rest) trains)
  locks_told front [] trains few are = refl
  locks_told front (None ∷ rest) trains few are =
      let size = length-append front free in
      moved ((front ++ free) ++ untold rest) (front ++ None ∷ untold rest) (length (front ++ free)) (length front + 1) rest ((front ++ free) ++ rest) (front ++ None ∷ rest) trains
      (append_assoc front free (untold rest)) size (append_assoc front free rest)
      (locks_told (front ++ free) rest trains (omega arith) are.1)
  locks_told front (Some lock ∷ rest) trains few are =
      let size = length-append front (Some lock ∷ []) in (
        scene_with (front ++ Some lock ∷ untold rest) trains,
        lock_is_row front rest lock trains (omega arith) are.0,
        lock_told front rest lock trains (omega arith) are.0,
        moved ((front ++ Some lock ∷ []) ++ untold rest) (front ++ Some lock ∷ untold rest) (length (front ++ Some lock ∷ [])) (length front + 1) rest ((front ++ Some lock ∷ []) ++ rest) (front ++ Some lock ∷ rest) trains
            (append_assoc front (Some lock ∷ []) (untold rest)) size (append_assoc front (Some lock ∷ []) rest)
            (locks_told (front ++ Some lock ∷ []) rest trains (omega arith) are.1),
      )
