-- The lines of a train lead to this train.
use Rattle.std.proofs.Common.{◌≡◌, ℕ, zero, suc, ◌+◌, ◌-◌, ◌<◌, ◌≤◌, ◌^◌, true, List, [], ◌∷◌, ◌++◌, length, map, Result, Ok, Err, refl, sym, ap, ◌∙◌, subst, arith, append_assoc, append-nil, codes, lit≤, lit<}
use Rattle.std.specs.Prelude.{◌==◌, ◌-ℤ◌, decimal, pos, Option}
use Rattle.std.specs.List.{AllByRecursion}
use Rattle.std.proofs.lemmas.List.{length-map}
use Rattle.std.specs.Option.{ok_or, option_map_or}
use Rattle.rbc_model.specs.declared.places.Leg.{Leg}
use Rattle.rbc_model.specs.declared.refusals.LineFault.{LineFault}
use Rattle.rbc_model.specs.declared.refusals.LineFault.TheVariants.{Number}
use Rattle.rbc_model.specs.Reports.{Report, IsReport}
use Rattle.rbc_model.specs.Results.{demand, ◌>>=◌, ◌>>◌}
use Rattle.rbc_model.specs.RequestText.{request_words, line_in}
use Rattle.rbc_model.specs.Rows.{Row, each_word}
use Rattle.rbc_model.specs.SessionReply.{leg_word}
use Rattle.rbc_model.specs.SessionText.{Blank, Report as SaidReport, report_in, words_line, said_line}
use Rattle.rbc_model.specs.SoundTracks.{IsSound}
use Rattle.rbc_model.specs.Tracks.{Track}
use Rattle.rbc_model.specs.TrackLines.{HasNames}
use Rattle.rbc_model.specs.Lines.{Line}
use Rattle.rbc_model.specs.Locks.{Locks}
use Rattle.rbc_model.specs.Trains.{Train}
use Rattle.rbc_model.specs.Scenes.{Scene}
use Rattle.rbc_model.specs.SceneLines.{after_row, distance_word, holds_line, in_front, next_line, pieces_of, place_at, report_words, stands_line, told_of, track_leg_at, train_line, train_lines, way_lines, with_held, with_extent, with_last, with_legs, with_line}
use Rattle.rbc_model.proofs.SaidLineLemmas.{said_are_words, said_line_read}
use Rattle.rbc_model.proofs.WordLemmas.{IsWord, number_is_word, number_in-decimal, request_words-joined, signed_is_word}
use Rattle.rbc_text_laws.proofs.RowReadLemmas.{IsLineRow, Tells, tells_then, distance_small, place_back}
use Rattle.rbc_text_laws.proofs.SceneReadLemmas.{IsOfTrack, legs_back, legs_are_words}

-- ---- pieces of a line

-- pieces one behind another
abbrev pub together : List Line → Line
together [] = []
together (piece ∷ pieces) = piece ++ together pieces

together-in_front : (leg : Leg) (pieces : List Line) → together (in_front leg pieces) ≡ leg ∷ together pieces
together-in_front leg [] = refl
together-in_front leg (piece ∷ pieces) = refl

pub together-pieces_of : (room : ℕ) (legs : Line) → together (pieces_of room legs) ≡ legs
together-pieces_of room [] = refl
together-pieces_of zero (leg ∷ legs) = together-in_front leg (pieces_of 63 legs) ∙ ap (λ l. leg ∷ l) (together-pieces_of 63 legs)
together-pieces_of (suc room) (leg ∷ legs) = together-in_front leg (pieces_of room legs) ∙ ap (λ l. leg ∷ l) (together-pieces_of room legs)

-- a piece has at most 64 legs, and the first no more than there is room for
abbrev pub IsShort : Line → Type 0
IsShort piece = length piece ≤ 64

pub record AreShort (room : ℕ) (pieces : List Line) : Type 0 where
  pub first : Line
  pub later : List Line
  pub is : pieces ≡ first ∷ later
  pub fits : length first ≤ room
  pub short : AllByRecursion IsShort later

short-in_front : (room : ℕ) (leg : Leg) (pieces : List Line) → AreShort room pieces → AreShort (suc room) (in_front leg pieces)
short-in_front room leg pieces are =
    let fits = are.fits in
    record { first = leg ∷ are.first; later = are.later; is = ap (in_front leg) are.is; fits = omega arith; short = are.short }

pub pieces_are_short : (room : ℕ) (legs : Line) → AreShort room (pieces_of room legs)
pieces_are_short room [] = record { first = []; later = []; is = refl; fits = omega arith; short = tt }
pieces_are_short zero (leg ∷ legs) =
    let rest = short-in_front 63 leg (pieces_of 63 legs) (pieces_are_short 63 legs) in
    record { first = []; later = rest.first ∷ rest.later; is = ap (λ l. [] ∷ l) rest.is; fits = omega arith; short = (rest.fits, rest.short) }
pieces_are_short (suc room) (leg ∷ legs) = short-in_front room leg (pieces_of room legs) (pieces_are_short room legs)

-- what holds of all legs of pieces holds of the legs of each
pub each_piece : (P : Leg → Type 0) (legs more : Line) → AllByRecursion P (legs ++ more) → AllByRecursion P legs × AllByRecursion P more
each_piece P [] more all = (tt, all)
each_piece P (leg ∷ legs) more all = let rest = each_piece P legs more all.1 in ((all.0, rest.0), rest.1)

-- ---- reports

said_report : (r : Report) (x : Result Report LineFault) → line_in SaidReport x ≡ Ok (SaidReport r) → x ≡ Ok r
said_report r (Ok y) e = cc
said_report r (Err fault) e = absurd (let never : ⊥ = cc in never)

pub report_back : (r : Report) → IsReport r → report_in (report_words r) ≡ Ok r
report_back r is =
    let found = request_words-joined (codes "report") (report_words r) (said_are_words (SaidReport r) is) refl (lit≤ tt) in
    said_report r (report_in (report_words r))
    (sym (ap (λ words. words >>= (λ found. option_map_or words_line found (Ok Blank))) found) ∙ said_line_read (SaidReport r) is)

pub said_are_row : (r : Report) → IsReport r → AllByRecursion IsWord (codes "train" ∷ report_words r)
said_are_row r is = (record { some = lit< tt; short = lit≤ tt; visible = refl }, (said_are_words (SaidReport r) is).1)

-- ---- what is told of the last train

last_changed : (change : Train → Result Train LineFault) (before : List Train) (train changed : Train) → change train ≡ Ok changed
    → with_last change (before ++ train ∷ []) ≡ Ok (before ++ changed ∷ [])
last_changed change [] train changed e = ap (λ read. read >>= (λ t. let r : Result (List Train) LineFault = Ok (t ∷ []) in r)) e
last_changed change (a ∷ []) train changed e = ap (λ read. read >>= (λ ts. let r : Result (List Train) LineFault = Ok (a ∷ ts) in r)) (last_changed change [] train changed e)
last_changed change (a ∷ b ∷ before) train changed e = ap (λ read. read >>= (λ ts. let r : Result (List Train) LineFault = Ok (a ∷ ts) in r)) (last_changed change (b ∷ before) train changed e)

module _ (track : Track) (sound : IsSound track) (names : HasNames track) (locks : Locks) (before : List Train) where
  abbrev state : Train → Scene
  state train = record { locks = locks; trains = before ++ train ∷ [] }

  told_last : (change : Train → List (List ℕ) → Result Train LineFault) (train changed : Train) (words : List (List ℕ)) → train.report.train < 10 ^ 10 → change train words ≡ Ok changed
      → told_of change (state train) (decimal train.report.train ∷ words) ≡ Ok (state changed)
  told_last change train changed words small e =
      let number = train.report.train in
      let asked : ℕ → Train → Result Train LineFault = λ n t. demand (t.report.train == n) (Number 2) >> change t words in
      let ended : Result (List Train) LineFault → Result Scene LineFault = λ read. read >>= (λ trains. Ok (record { locks = locks; trains = trains })) in
      let started : Option ℕ → Result Scene LineFault = λ found. ok_or found (Number 2) >>= (λ n. ended (with_last (asked n) (before ++ train ∷ []))) in
      let same : (number == number) ≡ true = grind arith in
      ap started (number_in-decimal number small)
      ∙ ap ended (last_changed (asked number) before train changed (ap (λ b. demand b (Number 2) >> change train words) same ∙ e))

  module _ (scene : Scene) (train : Train) (report : IsReport train.report) (inside : AllByRecursion (IsOfTrack track sound names) train.line)
      (origin : train.origin < 10 ^ 10) (rear : train.rear < 10 ^ 10) (front : train.front < 10 ^ 10) (from : train.from < 10 ^ 10) (to : train.to < 10 ^ 10)
      (next : AllByRecursion IsWord (next_line track scene train)) (few : length (next_line track scene train) ≤ 100) where
    number_small : train.report.train < 10 ^ 10
    number_small = let high = report.train in omega arith

    -- what is read of the train so far
    abbrev part : Line → ℕ → ℕ → ℕ → ℕ → ℕ → Train
    part line o a b x y = record { report = train.report; line = line; origin = o; rear = a; front = b; from = x; to = y }

    reported : after_row track (record { locks = locks; trains = before }) (codes "train" ∷ report_words train.report) ≡ Ok (state (part [] 0 0 0 0 0))
    reported =
        let made : Result Report LineFault → Result Scene LineFault = λ read. read >>= (λ r. Ok (state (record { report = r; line = []; origin = 0; rear = 0; front = 0; from = 0; to = 0 }))) in
        ap made (report_back train.report report)

    -- ---- the legs

    few_words : (piece : Line) → IsShort piece → length (map (leg_word track) piece) ≤ 64
    few_words piece short = subst (λ n. n ≤ 64) (sym (length-map piece (leg_word track))) short

    number_word : IsWord (decimal train.report.train)
    number_word = number_is_word train.report.train number_small

    origin_word : IsWord (decimal train.origin)
    origin_word = number_is_word train.origin origin

    line_told : (piece : Line) → AllByRecursion (IsOfTrack track sound names) piece
        → after_row track (state (part [] 0 0 0 0 0)) (train_line (codes "line") train (decimal train.origin ∷ map (leg_word track) piece)) ≡ Ok (state (part piece train.origin 0 0 0 0))
    line_told piece of =
        let ended : ℕ → Result Line LineFault → Result Train LineFault = λ o read. read >>= (λ legs. Ok (part legs o 0 0 0 0)) in
        let started : Option ℕ → Result Train LineFault = λ found. ok_or found (Number 3) >>= (λ o. ended o (each_word (track_leg_at track) 4 (map (leg_word track) piece))) in
        told_last (with_line track) (part [] 0 0 0 0 0) (part piece train.origin 0 0 0 0) (decimal train.origin ∷ map (leg_word track) piece) number_small
        (ap started (number_in-decimal train.origin origin) ∙ ap (ended train.origin) (legs_back track sound names 4 piece of))

    line_is_row : (piece : Line) → AllByRecursion (IsOfTrack track sound names) piece → IsShort piece → IsLineRow (train_line (codes "line") train (decimal train.origin ∷ map (leg_word track) piece))
    line_is_row piece of short =
        let count = few_words piece short in
        ((record { some = lit< tt; short = lit≤ tt; visible = refl }, (number_word, (origin_word, legs_are_words track sound names piece of))), refl, omega arith)

    along_told : (line piece : Line) → AllByRecursion (IsOfTrack track sound names) piece
        → after_row track (state (part line train.origin 0 0 0 0)) (train_line (codes "along") train (map (leg_word track) piece)) ≡ Ok (state (part (line ++ piece) train.origin 0 0 0 0))
    along_told line piece of =
        let ended : Result Line LineFault → Result Train LineFault = λ read. read >>= (λ legs. Ok (part (line ++ legs) train.origin 0 0 0 0)) in
        told_last (with_legs track) (part line train.origin 0 0 0 0) (part (line ++ piece) train.origin 0 0 0 0) (map (leg_word track) piece) number_small
        (ap ended (legs_back track sound names 3 piece of))

    along_is_row : (piece : Line) → AllByRecursion (IsOfTrack track sound names) piece → IsShort piece → IsLineRow (train_line (codes "along") train (map (leg_word track) piece))
    along_is_row piece of short =
        let count = few_words piece short in
        ((record { some = lit< tt; short = lit≤ tt; visible = refl }, (number_word, legs_are_words track sound names piece of)), refl, omega arith)

    abbrev along_lines : List Line → List Row
    along_lines pieces = map (λ piece. train_line (codes "along") train (map (leg_word track) piece)) pieces

    pieces_told : (line : Line) (pieces : List Line) → AllByRecursion (IsOfTrack track sound names) (together pieces) → AllByRecursion IsShort pieces
        → Tells track (state (part line train.origin 0 0 0 0)) (along_lines pieces) (state (part (line ++ together pieces) train.origin 0 0 0 0))
    pieces_told line [] of short = ap (λ l. state (part l train.origin 0 0 0 0)) (sym (append-nil line))
    pieces_told line (piece ∷ pieces) of short =
        let each = each_piece (IsOfTrack track sound names) piece (together pieces) of in (
          state (part (line ++ piece) train.origin 0 0 0 0),
          along_is_row piece each.0 short.0,
          along_told line piece each.0,
          subst (λ (l : Line). Tells track (state (part (line ++ piece) train.origin 0 0 0 0)) (along_lines pieces) (state (part l train.origin 0 0 0 0))) (append_assoc line piece (together pieces))
              (pieces_told (line ++ piece) pieces each.1 short.1),
        )

    way_told : (pieces : List Line) → AreShort 64 pieces → AllByRecursion (IsOfTrack track sound names) (together pieces)
        → Tells track (state (part [] 0 0 0 0 0)) (way_lines track train pieces) (state (part (together pieces) train.origin 0 0 0 0))
    way_told [] are of = absurd (let never : ⊥ = no_pieces are.first are.later are.is in never)
      where
        no_pieces : (first : Line) (later : List Line) → (let none : List Line = [] in none) ≡ first ∷ later → ⊥
        no_pieces first later e = cc
    way_told (piece ∷ pieces) are of =
        let each = each_piece (IsOfTrack track sound names) piece (together pieces) of in
        let fits : IsShort piece = subst IsShort (let same : are.first ≡ piece = cc (sym are.is) in same) are.fits in
        let short : AllByRecursion IsShort pieces = subst (AllByRecursion IsShort) (let same : are.later ≡ pieces = cc (sym are.is) in same) are.short in (
          state (part piece train.origin 0 0 0 0),
          line_is_row piece each.0 fits,
          line_told piece each.0,
          pieces_told piece pieces each.1 short,
        )

    -- ---- the places

    place_word : (place : ℕ) → place < 10 ^ 10 → IsWord (distance_word train place)
    place_word place small = signed_is_word (pos place -ℤ pos train.origin) (distance_small place train.origin small origin)

    stands_told : after_row track (state (part train.line train.origin 0 0 0 0)) (stands_line train) ≡ Ok (state (part train.line train.origin train.rear train.front 0 0))
    stands_told =
        let ended : ℕ → Result ℕ LineFault → Result Train LineFault = λ a read. read >>= (λ b. Ok (part train.line train.origin a b 0 0)) in
        let started : Result ℕ LineFault → Result Train LineFault = λ read. read >>= (λ a. ended a (place_at (part train.line train.origin 0 0 0 0) 4 (distance_word train train.front))) in
        told_last with_extent (part train.line train.origin 0 0 0 0) (part train.line train.origin train.rear train.front 0 0) (distance_word train train.rear ∷ distance_word train train.front ∷ []) number_small
        (ap started (place_back train.origin train.rear 3 rear origin) ∙ ap (ended train.rear) (place_back train.origin train.front 4 front origin))

    holds_told : after_row track (state (part train.line train.origin train.rear train.front 0 0)) (holds_line train) ≡ Ok (state train)
    holds_told =
        let old = part train.line train.origin train.rear train.front 0 0 in
        let ended : ℕ → Result ℕ LineFault → Result Train LineFault = λ a read. read >>= (λ b. Ok (part train.line train.origin train.rear train.front a b)) in
        let started : Result ℕ LineFault → Result Train LineFault = λ read. read >>= (λ a. ended a (place_at old 4 (distance_word train train.to))) in
        told_last with_held old train (distance_word train train.from ∷ distance_word train train.to ∷ []) number_small
        (ap started (place_back train.origin train.from 3 from origin) ∙ ap (ended train.from) (place_back train.origin train.to 4 to origin))

    stands_is_row : IsLineRow (stands_line train)
    stands_is_row = ((record { some = lit< tt; short = lit≤ tt; visible = refl }, (number_word, (place_word train.rear rear, (place_word train.front front, tt)))), refl, lit≤ tt)

    holds_is_row : IsLineRow (holds_line train)
    holds_is_row = ((record { some = lit< tt; short = lit≤ tt; visible = refl }, (number_word, (place_word train.from from, (place_word train.to to, tt)))), refl, lit≤ tt)

    -- ---- all lines

    pub train_told : Tells track (record { locks = locks; trains = before }) (train_lines track scene train) (state train)
    train_told =
        let whole = together-pieces_of 64 train.line in
        let of = subst (AllByRecursion (IsOfTrack track sound names)) (sym whole) inside in
        let way = way_told (pieces_of 64 train.line) (pieces_are_short 64 train.line) of in
        let rest : Tells track (state (part train.line train.origin 0 0 0 0)) (stands_line train ∷ holds_line train ∷ next_line track scene train ∷ []) (state train) = (
          state (part train.line train.origin train.rear train.front 0 0),
          stands_is_row,
          stands_told,
          (
            state train,
            holds_is_row,
            holds_told,
            (state train, (next, refl, let count = few in omega arith), refl, refl),
          ),
        ) in (
          state (part [] 0 0 0 0 0),
          (said_are_row train.report report, refl, lit≤ tt),
          reported,
          tells_then track (state (part [] 0 0 0 0 0)) (state (part train.line train.origin 0 0 0 0)) (state train) (way_lines track train (pieces_of 64 train.line)) (stands_line train ∷ holds_line train ∷ next_line track scene train ∷ [])
              (subst (λ (l : Line). Tells track (state (part [] 0 0 0 0 0)) (way_lines track train (pieces_of 64 train.line)) (state (part l train.origin 0 0 0 0))) whole way) rest,
        )
