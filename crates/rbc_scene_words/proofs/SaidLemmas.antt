-- Each kind of line is read as what it was written to say.
use Rattle.std.proofs.Common.{◌≡◌, ℕ, ◌<◌, ◌≤◌, ◌^◌, Bool, true, false, cond, List, [], ◌∷◌, ◌++◌, length, map, Option, Some, None, Result, Ok, Err, ℤ, nat_abs, refl, sym, ap, ◌∙◌, subst, arith, append-nil, codes, lit≤, lit<}
use Rattle.std.specs.Prelude.{◌==◌, ◌&&◌, not, bytes_eq, decimal, nat_le, option_map}
use Rattle.std.specs.Fmt.{signed_decimal}
use Rattle.std.specs.List.{AllByRecursion, after_first, join_with_byte, list_all}
use Rattle.std.specs.Option.{ok_or, option_and_then}
use Rattle.std.proofs.lemmas.Bool.{and_from, le-leb, leb-true}
use Rattle.std.proofs.lemmas.List.{length-map}
use Rattle.std.proofs.lemmas.List.Elements.{recursion_from_All}
use Rattle.std.proofs.lemmas.Slice.Eq.{bytes_eq-Decides}
use Rattle.rbc_model.specs.declared.limits.TheConstants.{LAST_TRAIN}
use Rattle.rbc_model.specs.declared.places.Leg.{Leg}
use Rattle.rbc_model.specs.declared.refusals.LineFault.{LineFault}
use Rattle.rbc_model.specs.declared.refusals.LineFault.TheVariants.{Number, Name, Words}
use Rattle.rbc_model.specs.GroupNames.{GroupName, IsGroupName}
use Rattle.rbc_model.specs.Names.{is_name}
use Rattle.rbc_model.specs.Reports.{Report, IsReport}
use Rattle.rbc_model.specs.Results.{allowed_value, demand, is_from_to, ◌>>=◌, ◌>>◌}
use Rattle.rbc_model.specs.Rows.{Row, each_word, leg_or_none}
use Rattle.rbc_model.specs.HistoryText.{route_word}
use Rattle.rbc_model.specs.SessionReply.{leg_word}
use Rattle.rbc_model.specs.SessionText.{group_word, train_at}
use Rattle.rbc_model.specs.SoundTracks.{IsSound}
use Rattle.rbc_model.specs.Tracks.{Track, Route, route_named}
use Rattle.rbc_model.specs.TrackLines.{named_leg, HasNames}
use Rattle.rbc_model.specs.Lines.{Line}
use Rattle.rbc_model.specs.SceneLines.{report_words, track_leg_at, track_leg_or_none_at}
use Rattle.rbc_model.proofs.CountingLemmas.{both_of}
use Rattle.rbc_model.proofs.NamedLemmas.{named_again}
use Rattle.rbc_model.proofs.SaidLineLemmas.{name_is_word}
use Rattle.rbc_model.proofs.WordLemmas.{IsWord, after_mark, before_mark, integer_in-signed, is_visible, no_slash, number_is_word, number_in-decimal, signed_is_word}
use Rattle.rbc_text_laws.proofs.RowReadLemmas.{IsLineRow, line_text, row_in-read}
use Rattle.rbc_text_laws.proofs.SceneReadLemmas.{leg_back, leg_or_none-word, leg_or_none_back, leg_word-is_word, legs_are_words, legs_back, route_is_named}
use Rattle.rbc_text_laws.proofs.TrainReadLemmas.{report_back, said_are_row}
use Rattle.rbc_scene_words.specs.SceneLine.{SceneLine, Version, Locked, Reported, Along, More, Stands, Holds, Next, Done, count_spelled, distance_spelled, distances_in, group_spelled, is_close, number_spelled, parse_scene_line, report_spelled, route_at, scene_line_in, scene_row, train_spelled}
use Rattle.rbc_scene_words.specs.Laws.{IsLegOf, IsNumber, IsSayableOn, SceneLinesAreParsedBack}

-- ---- lines

-- a row of words that is read so
pub record IsReadAs (track : Track) (line : SceneLine) : Type 0 where
  pub words : IsLineRow (scene_row track line)
  pub read : scene_line_in track (scene_row track line) ≡ Ok line

-- a visible byte is no carriage return and no space
visible_byte : (byte : ℕ) → is_visible byte ≡ true → ((byte == 13) ≡ false) × ((byte == 32) ≡ false)
visible_byte byte h = let low = leb-true 33 byte (both_of (nat_le 33 byte) (nat_le byte 126) h).0 in (grind arith, grind arith)

-- the tests of a byte, and of the bytes behind it
abbrev close_byte : Bool → Bool → Bool → (Bool → Bool) → Bool
close_byte begins return space rest = not return && not (begins && space) && rest space

visible_close : (begins : Bool) (byte : ℕ) (line : List ℕ) → is_visible byte ≡ true → is_close begins (byte ∷ line) ≡ is_close false line
visible_close begins byte line h =
    let v = visible_byte byte h in
    ap (λ return. close_byte begins return (byte == 32) (λ b. is_close b line)) v.0
    ∙ ap (λ space. close_byte begins false space (λ b. is_close b line)) v.1
    ∙ by_begins begins
  where
    by_begins : (begins : Bool) → close_byte begins false false (λ b. is_close b line) ≡ is_close false line
    by_begins true = refl
    by_begins false = refl

-- behind a word that has begun, the line goes on as close
word_close : (word line : List ℕ) → list_all is_visible word ≡ true → is_close false (word ++ line) ≡ is_close false line
word_close [] line h = refl
word_close (byte ∷ word) line h =
    let b = both_of (is_visible byte) (list_all is_visible word) h in
    visible_close false byte (word ++ line) b.0 ∙ word_close word line b.1

first_close : (word line : List ℕ) → IsWord word → is_close true (word ++ line) ≡ is_close false line
first_close [] line is = let some = is.some in absurd (omega arith)
first_close (byte ∷ word) line is =
    let b = both_of (is_visible byte) (list_all is_visible word) is.visible in
    visible_close true byte (word ++ line) b.0 ∙ word_close word line b.1

joined_close : (word : List ℕ) (words : List (List ℕ)) → AllByRecursion IsWord (word ∷ words) → is_close true (join_with_byte 32 (word ∷ words)) ≡ true
joined_close word [] are = ap (is_close true) (sym (append-nil word)) ∙ first_close word [] are.0
joined_close word (next ∷ words) are = first_close word (32 ∷ join_with_byte 32 (next ∷ words)) are.0 ∙ joined_close next words are.1

row_close : (row : Row) → IsLineRow row → is_close true (line_text row) ≡ true
row_close [] is = absurd is
row_close (word ∷ words) is = joined_close word words is.0

-- so a row that says something is read as that
pub row_said : (track : Track) (row : Row) (line : SceneLine) → IsLineRow row → scene_line_in track row ≡ Ok line → parse_scene_line track (line_text row) ≡ Ok line
row_said track row line is read =
    ap (λ found. found >>= (λ words. demand (is_close true (line_text row)) Words >> scene_line_in track words)) (row_in-read row is)
    ∙ ap (λ close. demand close Words >> scene_line_in track row) (row_close row is)
    ∙ read

-- ---- names and numbers

same : (word : List ℕ) → bytes_eq word word ≡ true
same word = (bytes_eq-Decides word word).1 refl

number_small : (train : ℕ) → IsNumber train → train < 10 ^ 10
number_small train is = let high = is.1 in omega (arith, high)

told_train : (train : ℕ) → IsNumber train → train_at 2 (decimal train) ≡ Ok train
told_train train is =
    ap (allowed_value (is_from_to 1 LAST_TRAIN) (Number 2)) (number_in-decimal train (number_small train is))
    ∙ by_test (is_from_to 1 LAST_TRAIN train) (and_from (nat_le 1 train) (nat_le train LAST_TRAIN) (le-leb 1 train is.0) (le-leb train LAST_TRAIN is.1))
  where
    by_test : (b : Bool) → b ≡ true → cond b (Ok train) (Err (Number 2)) ≡ Ok train
    by_test true e = refl
    by_test false e = cc

spelled_back : (i n : ℕ) → number_spelled i (decimal n) n ≡ Ok tt
spelled_back i n = ap (λ is. demand is (Number i)) (same (decimal n))

train_back : (train : ℕ) → IsNumber train → train_spelled (decimal train) ≡ Ok train
train_back train is =
    ap (λ read. read >>= (λ t. number_spelled 2 (decimal train) t >> Ok t)) (told_train train is)
    ∙ ap (λ spelled. spelled >> Ok train) (spelled_back 2 train)

count_back : (i n : ℕ) → n < 10 ^ 10 → count_spelled i (decimal n) ≡ Ok n
count_back i n small =
    ap (λ o. ok_or o (Number i) >>= (λ c. number_spelled i (decimal n) c >> Ok c)) (number_in-decimal n small)
    ∙ ap (λ spelled. spelled >> Ok n) (spelled_back i n)

distance_back : (i : ℕ) (z : ℤ) → nat_abs z < 10 ^ 10 → distance_spelled i (signed_decimal z) ≡ Ok z
distance_back i z small =
    ap (λ o. ok_or o (Number i) >>= (λ d. demand (bytes_eq (signed_decimal z) (signed_decimal d)) (Number i) >> Ok d)) (integer_in-signed z small)
    ∙ ap (λ is. demand is (Number i) >> Ok z) (same (signed_decimal z))

group_back : (group : GroupName) → IsGroupName group → group_spelled (group_word group) group ≡ Ok tt
group_back group is =
    let high = is.country in
    let slashless = no_slash group.country (omega arith) in
    let slash : ℕ → Bool = λ byte. byte == 47 in
    let number = decimal group.number in
    ap (λ word. demand (bytes_eq word (decimal group.country) && bytes_eq (after_first slash (group_word group)) number) (Name 3)) (before_mark slash 47 number refl (decimal group.country) slashless)
    ∙ ap (λ word. demand (bytes_eq (decimal group.country) (decimal group.country) && bytes_eq word number) (Name 3)) (after_mark slash 47 number refl (decimal group.country) slashless)
    ∙ ap (λ is. demand is (Name 3)) (and_from (bytes_eq (decimal group.country) (decimal group.country)) (bytes_eq number number) (same (decimal group.country)) (same number))

report_spelled_back : (r : Report) → IsReport r → report_spelled (report_words r) r ≡ Ok tt
report_spelled_back r is =
    rw (spelled_back 2 r.train, group_back r.group is.group, spelled_back 5 r.distance, spelled_back 6 r.over, spelled_back 7 r.under, spelled_back 8 r.length, spelled_back 9 r.time) refl

module _ (track : Track) (sound : IsSound track) (names : HasNames track) where
  route_back : (route : ℕ) → route < length track.routes → route_at track (route_word track route) ≡ Ok route
  route_back route inside =
      let named = route_is_named track sound names route inside in
      let found : Option (List ℕ) → Result ℕ LineFault = λ o. ok_or (option_and_then (route_named track) o) (Name 3) in
      ap found (by_test (is_name (route_word track route)) named)
      ∙ ap (λ o. ok_or o (Name 3)) (named_again (λ (r : Route). r.name) track.routes route sound.route_names named)
    where
      by_test : (b : Bool) → b ≡ true → cond b (Some (route_word track route)) None ≡ Some (route_word track route)
      by_test true e = refl
      by_test false e = cc

  few_legs : (legs : Line) → length legs ≤ 64 → length (map (leg_word track) legs) ≤ 64
  few_legs legs few = subst (λ n. n ≤ 64) (sym (length-map legs (leg_word track))) few

  -- ---- each kind of line

  said_version : (version : ℕ) → version < 10 ^ 10 → IsReadAs track (Version version)
  said_version version small = record {
    words = ((record { some = lit< tt; short = lit≤ tt; visible = refl }, (number_is_word version small, tt)), refl, lit≤ tt);
    read = let found : Result ℕ LineFault → Result SceneLine LineFault = λ read. read >>= (λ v. Ok (Version v)) in ap found (count_back 2 version small);
  }

  said_locked : (leg : Leg) (route : ℕ) (before : Option Leg) → IsSayableOn track (Locked leg route before) → IsReadAs track (Locked leg route before)
  said_locked leg route before is =
      let third : Result (Option Leg) LineFault → Result SceneLine LineFault = λ read. read >>= (λ before. Ok (Locked leg route before)) in
      let word = leg_or_none (option_map (named_leg track) before) in
      let second : Result ℕ LineFault → Result SceneLine LineFault = λ read. read >>= (λ route. track_leg_or_none_at track 4 word >>= (λ before. Ok (Locked leg route before))) in
      let first : Result Leg LineFault → Result SceneLine LineFault = λ read. read >>= (λ leg. route_at track (route_word track route) >>= (λ route. track_leg_or_none_at track 4 word >>= (λ before. Ok (Locked leg route before)))) in
      record {
        words = (
          (
            record { some = lit< tt; short = lit≤ tt; visible = refl },
            (leg_word-is_word track sound names leg is.0, (name_is_word (route_word track route) (route_is_named track sound names route is.1), (leg_or_none-word track sound names before is.2, tt))),
          ),
          refl,
          lit≤ tt,
        );
        read = ap first (leg_back track sound names 2 leg is.0) ∙ ap second (route_back route is.1) ∙ ap third (leg_or_none_back track sound names 4 before is.2);
      }

  said_reported : (report : Report) → IsReport report → IsReadAs track (Reported report)
  said_reported report is =
      let told : Result Report LineFault → Result SceneLine LineFault = λ read. read >>= (λ r. report_spelled (report_words report) r >> Ok (Reported r)) in
      let spelled : Result (Unit {0}) LineFault → Result SceneLine LineFault = λ read. read >> Ok (Reported report) in
      record {
        words = (said_are_row report is, refl, lit≤ tt);
        read = ap told (report_back report is) ∙ ap spelled (report_spelled_back report is);
      }

  said_along : (train origin : ℕ) (legs : Line) → IsSayableOn track (Along train origin legs) → IsReadAs track (Along train origin legs)
  said_along train origin legs is =
      let of = recursion_from_All (IsLegOf track) legs is.2.0 in
      let count = few_legs legs is.2.1 in
      let words = each_word (track_leg_at track) 4 (map (leg_word track) legs) in
      let third : Result Line LineFault → Result SceneLine LineFault = λ read. read >>= (λ legs. Ok (Along train origin legs)) in
      let second : Result ℕ LineFault → Result SceneLine LineFault = λ read. read >>= (λ origin. words >>= (λ legs. Ok (Along train origin legs))) in
      let first : Result ℕ LineFault → Result SceneLine LineFault = λ read. read >>= (λ train. count_spelled 3 (decimal origin) >>= (λ origin. words >>= (λ legs. Ok (Along train origin legs)))) in
      record {
        words = (
          (record { some = lit< tt; short = lit≤ tt; visible = refl }, (number_is_word train (number_small train is.0), (number_is_word origin is.1, legs_are_words track sound names legs of))),
          refl,
          omega (arith, count),
        );
        read = ap first (train_back train is.0) ∙ ap second (count_back 3 origin is.1) ∙ ap third (legs_back track sound names 4 legs of);
      }

  said_more : (train : ℕ) (legs : Line) → IsSayableOn track (More train legs) → IsReadAs track (More train legs)
  said_more train legs is =
      let of = recursion_from_All (IsLegOf track) legs is.1.0 in
      let count = few_legs legs is.1.1 in
      let words = each_word (track_leg_at track) 3 (map (leg_word track) legs) in
      let second : Result Line LineFault → Result SceneLine LineFault = λ read. read >>= (λ legs. Ok (More train legs)) in
      let first : Result ℕ LineFault → Result SceneLine LineFault = λ read. read >>= (λ train. words >>= (λ legs. Ok (More train legs))) in
      record {
        words = (
          (record { some = lit< tt; short = lit≤ tt; visible = refl }, (number_is_word train (number_small train is.0), legs_are_words track sound names legs of)),
          refl,
          omega (arith, count),
        );
        read = ap first (train_back train is.0) ∙ ap second (legs_back track sound names 3 legs of);
      }

  distances_back : (say : ℕ → ℤ → ℤ → SceneLine) (train : ℕ) (low high : ℤ) → IsNumber train → nat_abs low < 10 ^ 10 → nat_abs high < 10 ^ 10
      → distances_in say (decimal train ∷ signed_decimal low ∷ signed_decimal high ∷ []) ≡ Ok (say train low high)
  distances_back say train low high is near far =
      let last = distance_spelled 4 (signed_decimal high) in
      let third : Result ℤ LineFault → Result SceneLine LineFault = λ read. read >>= (λ high. Ok (say train low high)) in
      let second : Result ℤ LineFault → Result SceneLine LineFault = λ read. read >>= (λ low. last >>= (λ high. Ok (say train low high))) in
      let first : Result ℕ LineFault → Result SceneLine LineFault = λ read. read >>= (λ train. distance_spelled 3 (signed_decimal low) >>= (λ low. last >>= (λ high. Ok (say train low high)))) in
      ap first (train_back train is) ∙ ap second (distance_back 3 low near) ∙ ap third (distance_back 4 high far)

  distances_are : (word : List ℕ) (train : ℕ) (low high : ℤ) → IsWord word → IsNumber train → nat_abs low < 10 ^ 10 → nat_abs high < 10 ^ 10
      → AllByRecursion IsWord (word ∷ decimal train ∷ signed_decimal low ∷ signed_decimal high ∷ [])
  distances_are word train low high first is near far = (first, (number_is_word train (number_small train is), (signed_is_word low near, (signed_is_word high far, tt))))

  said_stands : (train : ℕ) (rear front : ℤ) → IsSayableOn track (Stands train rear front) → IsReadAs track (Stands train rear front)
  said_stands train rear front is = record {
    words = (distances_are (codes "stands") train rear front (record { some = lit< tt; short = lit≤ tt; visible = refl }) is.0 is.1 is.2, refl, lit≤ tt);
    read = distances_back Stands train rear front is.0 is.1 is.2;
  }

  said_holds : (train : ℕ) (from to : ℤ) → IsSayableOn track (Holds train from to) → IsReadAs track (Holds train from to)
  said_holds train from to is = record {
    words = (distances_are (codes "holds") train from to (record { some = lit< tt; short = lit≤ tt; visible = refl }) is.0 is.1 is.2, refl, lit≤ tt);
    read = distances_back Holds train from to is.0 is.1 is.2;
  }

  -- ---- all

  pub read_as : (line : SceneLine) → IsSayableOn track line → IsReadAs track line
  read_as (Version version) is = said_version version is
  read_as (Locked leg route before) is = said_locked leg route before is
  read_as (Reported report) is = said_reported report is
  read_as (Along train origin legs) is = said_along train origin legs is
  read_as (More train legs) is = said_more train legs is
  read_as (Stands train rear front) is = said_stands train rear front is
  read_as (Holds train from to) is = said_holds train from to is
  read_as Next is = record { words = ((record { some = lit< tt; short = lit≤ tt; visible = refl }, tt), refl, lit≤ tt); read = refl }
  read_as Done is = record { words = ((record { some = lit< tt; short = lit≤ tt; visible = refl }, tt), refl, lit≤ tt); read = refl }

pub parsed_back : SceneLinesAreParsedBack
parsed_back track line sound names is = let r = read_as track sound names line is in row_said track (scene_row track line) line r.words r.read
