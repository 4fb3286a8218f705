-- What is read of a line is spelled as it is written.
use Rattle.std.proofs.Common.{◌≡◌, ℕ, zero, suc, ◌+◌, ◌-◌, ◌<◌, Bool, true, false, not, cond, List, [], ◌∷◌, ◌++◌, length, take, drop, map, Option, Some, None, Result, Ok, Err, ℤ, refl, sym, ap, ap₂, ◌∙◌, subst, arith, get_or, nat_lt}
use Rattle.std.specs.Prelude.{◌==◌, ◌&&◌, ◌≢◌, bytes_eq, codes, decimal, filter, option_map, slice_get, slice_index}
use Rattle.std.specs.Fmt.{signed_decimal}
use Rattle.std.specs.List.{AllByRecursion, after_first, before_first, join_with_byte, onto_first, position, position_or_len, slice_split}
use Rattle.std.specs.Option.{ok_or, option_and_then, option_map_or}
use Rattle.std.proofs.lemmas.Bool.{eqb-true, ltb-true, ltb-false, not-true}
use Rattle.std.proofs.lemmas.List.{drop_all, take-append-drop}
use Rattle.std.proofs.lemmas.List.Splits.{join_with_byte-slice_split}
use Rattle.std.proofs.lemmas.List.Sums.{passes_at_first, split_at_first}
use Rattle.std.proofs.lemmas.Slice.Eq.{bytes_eq-Decides}
use Rattle.rbc_model.specs.declared.limits.TheConstants.{FARTHEST_REPORT, LAST_COUNTRY, LAST_GROUP, LAST_TIME, LONGEST_TRAIN, MOST_DOUBT}
use Rattle.rbc_model.specs.declared.places.Direction.{Direction}
use Rattle.rbc_model.specs.declared.places.Direction.TheVariants.{Rising, Falling}
use Rattle.rbc_model.specs.declared.places.Leg.{Leg}
use Rattle.rbc_model.specs.declared.refusals.LineFault.{LineFault}
use Rattle.rbc_model.specs.declared.refusals.LineFault.TheVariants.{Command, Name, NotText, Number, Overlong, Words}
use Rattle.rbc_model.specs.GroupNames.{GroupName}
use Rattle.rbc_model.specs.HistoryText.{route_word}
use Rattle.rbc_model.specs.Names.{LegName, direction_in, direction_text, is_name, leg_in, leg_text, leg_with, name_in}
use Rattle.rbc_model.specs.Reports.{Report}
use Rattle.rbc_model.specs.Results.{allowed_value, demand, is_from_to, ◌>>=◌, ◌>>◌}
use Rattle.rbc_model.specs.RequestText.{number_at}
use Rattle.rbc_model.specs.Rows.{Row, each_word, leg_at, leg_or_none}
use Rattle.rbc_model.specs.SceneLines.{known_leg, known_leg_or_none, report_words, row_in, track_leg_at, track_leg_or_none_at}
use Rattle.rbc_model.specs.SessionReply.{leg_word}
use Rattle.rbc_model.specs.SessionText.{group_at, group_word, nominal_at, nominal_word, report_in, train_at}
use Rattle.rbc_model.specs.TrackLines.{named_leg}
use Rattle.rbc_model.specs.Tracks.{Route, Section, Track, route_named, section_named}
use Rattle.rbc_model.specs.Words.{integer_in, is_blank, is_text, number_in, without_return, words_of}
use Rattle.rbc_model.proofs.CountingLemmas.{both_of}
use Rattle.rbc_model.proofs.SaidLineLemmas.{bound}
use Rattle.rbc_scene_words.specs.Laws.{ReadLinesAreWritten}
use Rattle.rbc_scene_words.specs.declared.first_word.FirstWord.TheVariants.{Scene as SceneWord, Locked as LockedWord, Train as TrainWord, Line as LineWord, Along as AlongWord, Stands as StandsWord, Holds as HoldsWord, Next as NextWord, Done as DoneWord}
use Rattle.rbc_scene_words.specs.SceneLine.{SceneLine, Version, Locked, Reported, Along, More, Stands, Holds, Next, Done, along_in, count_spelled, distance_spelled, distances_in, done_in, group_spelled, is_close, locked_in, more_in, number_spelled, report_spelled, reported_in, route_at, scene_line_in, said_behind, scene_row, train_spelled, version_in}

-- ---- answers

the_ok : {A E : Type 0} (x y : A) → (let r : Result A E = Ok x in r) ≡ Ok y → x ≡ y
the_ok x y e = cc

no_ok : {A E : Type 0} (e : E) (y : A) → (let r : Result A E = Err e in r) ≡ Ok y → ⊥
no_ok e y h = cc

the_some : {A : Type 0} (x y : A) → (let o : Option A = Some x in o) ≡ Some y → x ≡ y
the_some x y e = cc

no_some : {A : Type 0} (y : A) → (let o : Option A = None in o) ≡ Some y → ⊥
no_some y h = cc

demanded : (b : Bool) (fault : LineFault) (u : Unit {0}) → demand b fault ≡ Ok u → b ≡ true
demanded true fault u h = refl
demanded false fault u h = absurd (no_ok fault u h)

there : {A : Type 0} (o : Option A) (fault : LineFault) (x : A) → ok_or o fault ≡ Ok x → o ≡ Some x
there None fault x h = absurd (no_ok fault x h)
there (Some y) fault x h = ap Some (the_ok y x h)

same_bytes : (a b : List ℕ) → bytes_eq a b ≡ true → a ≡ b
same_bytes a b h = (bytes_eq-Decides a b).0 h

-- ---- the bytes of a line

abbrev is_space : ℕ → Bool
is_space byte = byte == 32

abbrev has_letters : List ℕ → Bool
has_letters word = not (length word == 0)

-- parts of a line, of which only the first may be empty, and that one not where a word has to begin
record AreParts (begins : Bool) (parts : List (List ℕ)) : Type 0 where
  first : List ℕ
  later : List (List ℕ)
  is : parts ≡ first ∷ later
  some : begins ≡ true → 0 < length first
  each : AllByRecursion (λ (word : List ℕ). 0 < length word) later

record IsCloseBehind (begins : Bool) (byte : ℕ) (line : List ℕ) : Type 0 where
  no_return : (byte == 13) ≡ false
  no_space : not (begins && byte == 32) ≡ true
  rest : is_close (byte == 32) line ≡ true

close_behind : (begins : Bool) (byte : ℕ) (line : List ℕ) → is_close begins (byte ∷ line) ≡ true → IsCloseBehind begins byte line
close_behind begins byte line h =
    let a = both_of (not (byte == 13) && not (begins && byte == 32)) (is_close (byte == 32) line) h in
    let b = both_of (not (byte == 13)) (not (begins && byte == 32)) a.0 in
    record { no_return = not-true (byte == 13) b.0; no_space = b.1; rest = a.1 }

parts_of : (begins : Bool) (line : List ℕ) → is_close begins line ≡ true → AreParts begins (slice_split is_space line)
parts_of true [] h = absurd (let never : ⊥ = cc in never)
parts_of false [] h = record { first = []; later = []; is = refl; some = λ e. absurd (let never : ⊥ = cc in never); each = tt }
parts_of begins (byte ∷ line) h = let c = close_behind begins byte line h in by_space (byte == 32) begins c.no_space c.rest (λ space. parts_of space line)
  where
    by_space : (space begins : Bool) → not (begins && space) ≡ true → is_close space line ≡ true → ((space : Bool) → is_close space line ≡ true → AreParts space (slice_split is_space line))
        → AreParts begins (cond space ([] ∷ slice_split is_space line) (onto_first byte (slice_split is_space line)))
    by_space true true none rest parts = absurd (let never : ⊥ = cc in never)
    by_space true false none rest parts =
        let p = parts true rest in
        record {
          first = [];
          later = slice_split is_space line;
          is = refl;
          some = λ e. absurd (let never : ⊥ = cc in never);
          each = subst (AllByRecursion (λ (word : List ℕ). 0 < length word)) (sym p.is) (p.some refl, p.each);
        }
    by_space false begins none rest parts =
        let p = parts false rest in
        record { first = byte ∷ p.first; later = p.later; is = ap (onto_first byte) p.is; some = λ e. omega arith; each = p.each }

kept : (words : List (List ℕ)) → AllByRecursion (λ (word : List ℕ). 0 < length word) words → filter has_letters words ≡ words
kept [] some = refl
kept (word ∷ words) some =
    let one = some.0 in
    let e : (length word == 0) ≡ false = grind arith in
    with_word e ∙ ap (λ rest. word ∷ rest) (kept words some.1)
  where
    with_word : (length word == 0) ≡ false → filter has_letters (word ∷ words) ≡ word ∷ filter has_letters words
    with_word e = rw e refl

joined_again : (line : List ℕ) → is_close true line ≡ true → join_with_byte 32 (words_of line) ≡ line
joined_again line h =
    let p = parts_of true line h in
    let all = subst (AllByRecursion (λ (word : List ℕ). 0 < length word)) (sym p.is) (p.some refl, p.each) in
    ap (join_with_byte 32) (kept (slice_split is_space line) all) ∙ join_with_byte-slice_split 32 line

no_return : (begins : Bool) (line : List ℕ) (at : ℕ) → is_close begins line ≡ true → (slice_index line at == 13) ≡ false
no_return begins [] at h = refl
no_return begins (byte ∷ line) zero h = (close_behind begins byte line h).no_return
no_return begins (byte ∷ line) (suc at) h = no_return (byte == 32) line at (close_behind begins byte line h).rest

without_return_is : (line : List ℕ) → is_close true line ≡ true → without_return line ≡ line
without_return_is line h = rw (no_return true line (length line - 1) h) refl

-- the words that a line is read as
row_is : (line : List ℕ) (words : Row) → row_in line ≡ Ok words → words ≡ words_of (without_return line)
row_is line words h = by_tests (nat_lt 4096 (length line)) (is_blank (words_of (without_return line))) (is_text (without_return line)) h
  where
    by_tests : (long blank text : Bool)
        → (cond long (Err Overlong) (cond blank (Ok None) (cond (not text) (Err NotText) (Ok (Some (words_of (without_return line)))))) >>= (λ found. ok_or found Words)) ≡ Ok words
        → words ≡ words_of (without_return line)
    by_tests true blank text h = absurd (no_ok Overlong words h)
    by_tests false true text h = absurd (no_ok Words words h)
    by_tests false false true h = sym (the_ok (words_of (without_return line)) words h)
    by_tests false false false h = absurd (no_ok NotText words h)

-- a line that is close is its words, joined
line_is : (line : List ℕ) (words : Row) → row_in line ≡ Ok words → is_close true line ≡ true → line ≡ join_with_byte 32 words
line_is line words read close = sym (ap (join_with_byte 32) (row_is line words read ∙ ap words_of (without_return_is line close)) ∙ joined_again line close)

-- ---- numbers

number_written : (i : ℕ) (word : List ℕ) (n : ℕ) (u : Unit {0}) → number_spelled i word n ≡ Ok u → word ≡ decimal n
number_written i word n u h = same_bytes word (decimal n) (demanded (bytes_eq word (decimal n)) (Number i) u h)

count_written : (i : ℕ) (word : List ℕ) (n : ℕ) → count_spelled i word ≡ Ok n → word ≡ decimal n
count_written i word n h =
    let a = bound (ok_or (number_in word) (Number i)) (λ c. number_spelled i word c >> Ok c) n h in
    let b = bound (number_spelled i word a.0) (λ u. let r : Result ℕ LineFault = Ok a.0 in r) n a.2 in
    number_written i word a.0 b.0 b.1 ∙ ap decimal (the_ok a.0 n b.2)

train_written : (word : List ℕ) (n : ℕ) → train_spelled word ≡ Ok n → word ≡ decimal n
train_written word n h =
    let a = bound (train_at 2 word) (λ t. number_spelled 2 word t >> Ok t) n h in
    let b = bound (number_spelled 2 word a.0) (λ u. let r : Result ℕ LineFault = Ok a.0 in r) n a.2 in
    number_written 2 word a.0 b.0 b.1 ∙ ap decimal (the_ok a.0 n b.2)

distance_written : (i : ℕ) (word : List ℕ) (z : ℤ) → distance_spelled i word ≡ Ok z → word ≡ signed_decimal z
distance_written i word z h =
    let a = bound (ok_or (integer_in word) (Number i)) (λ d. demand (bytes_eq word (signed_decimal d)) (Number i) >> Ok d) z h in
    let b = bound (demand (bytes_eq word (signed_decimal a.0)) (Number i)) (λ u. let r : Result ℤ LineFault = Ok a.0 in r) z a.2 in
    same_bytes word (signed_decimal a.0) (demanded (bytes_eq word (signed_decimal a.0)) (Number i) b.0 b.1) ∙ ap signed_decimal (the_ok a.0 z b.2)

-- ---- names

-- an entry that is found by its name has this name
name_first : {X : Type 0} (name_of : X → List ℕ) (name : List ℕ) (xs : List X) → position_or_len (λ x. bytes_eq (name_of x) name) xs < length xs
    → option_map_or name_of (slice_get xs (position_or_len (λ x. bytes_eq (name_of x) name) xs)) [] ≡ name
name_first name_of name [] inside = absurd (omega arith)
name_first {X} name_of name (x ∷ xs) inside = by_test (bytes_eq (name_of x) name) refl inside (name_first name_of name xs)
  where
    rest : ℕ
    rest = position_or_len (λ x. bytes_eq (name_of x) name) xs

    by_test : (b : Bool) → bytes_eq (name_of x) name ≡ b → cond (not b) (1 + rest) 0 < length (x ∷ xs) → (rest < length xs → option_map_or name_of (slice_get xs rest) [] ≡ name)
        → option_map_or name_of (slice_get (x ∷ xs) (cond (not b) (1 + rest) 0)) [] ≡ name
    by_test true e small later = same_bytes (name_of x) name e
    by_test false e small later =
        let next : 1 + rest ≡ suc rest = omega arith in
        subst (λ (k : ℕ). option_map_or name_of (slice_get (x ∷ xs) k) [] ≡ name) (sym next) (later (omega arith))

name_found : {X : Type 0} (name_of : X → List ℕ) (name : List ℕ) (xs : List X) (place : ℕ) → position (λ x. bytes_eq (name_of x) name) xs ≡ Some place → option_map_or name_of (slice_get xs place) [] ≡ name
name_found {X} name_of name xs place h = by_test (nat_lt (position_or_len (λ x. bytes_eq (name_of x) name) xs) (length xs)) refl h
  where
    found : ℕ
    found = position_or_len (λ x. bytes_eq (name_of x) name) xs

    by_test : (b : Bool) → nat_lt found (length xs) ≡ b → cond b (Some found) None ≡ Some place → option_map_or name_of (slice_get xs place) [] ≡ name
    by_test true e f = subst (λ (k : ℕ). option_map_or name_of (slice_get xs k) [] ≡ name) (the_some found place f) (name_first name_of name xs (ltb-true found (length xs) e))
    by_test false e f = absurd (no_some place f)

-- a text that is a name is this name
named_text : (text name : List ℕ) → name_in text ≡ Some name → text ≡ name
named_text text name h = by_test (is_name text) h
  where
    by_test : (b : Bool) → cond b (Some text) None ≡ Some name → text ≡ name
    by_test true h = the_some text name h
    by_test false h = absurd (no_some name h)

direction_written : (text : List ℕ) (direction : Direction) → direction_in text ≡ Some direction → text ≡ direction_text direction
direction_written [] direction h = absurd (no_some direction h)
direction_written (sign ∷ []) direction h = by_sign (sign == 43) refl (sign == 45) refl h
  where
    by_sign : (plus : Bool) → (sign == 43) ≡ plus → (minus : Bool) → (sign == 45) ≡ minus → cond plus (Some Rising) (cond minus (Some Falling) None) ≡ Some direction → sign ∷ [] ≡ direction_text direction
    by_sign true e minus f h = ap (λ byte. byte ∷ []) (eqb-true sign 43 e) ∙ ap direction_text (the_some Rising direction h)
    by_sign false e true f h = ap (λ byte. byte ∷ []) (eqb-true sign 45 f) ∙ ap direction_text (the_some Falling direction h)
    by_sign false e false f h = absurd (no_some direction h)
direction_written (sign ∷ next ∷ more) direction h = absurd (no_some direction h)

leg_name_written : (word : List ℕ) (leg : LegName) → leg_in word ≡ Some leg → word ≡ leg_text leg
leg_name_written word leg h = by_parts (name_in front) (direction_in back) refl refl h
  where
    front : List ℕ
    front = take (length word - 1) word

    back : List ℕ
    back = drop (length word - 1) word

    by_parts : (name : Option (List ℕ)) (direction : Option Direction) → name_in front ≡ name → direction_in back ≡ direction → leg_with name direction ≡ Some leg → word ≡ leg_text leg
    by_parts None direction a b h = absurd (no_some leg h)
    by_parts (Some name) None a b h = absurd (no_some leg h)
    by_parts (Some name) (Some direction) a b h =
        sym (take-append-drop (length word - 1) word)
        ∙ ap₂ (λ (x : List ℕ) (y : List ℕ). x ++ y) (named_text front name a) (direction_written back direction b)
        ∙ ap leg_text (the_some (record { section = name; direction = direction }) leg h)

module _ (track : Track) where
  known_written : (i : ℕ) (name : LegName) (leg : Leg) → known_leg track i name ≡ Ok leg → leg_text name ≡ leg_word track leg
  known_written i name leg h =
      let made : ℕ → Leg = λ section. record { section = section; direction = name.direction } in
      let a = bound (ok_or (section_named track name.section) (Name i)) (λ section. let r : Result Leg LineFault = Ok (made section) in r) leg h in
      let found = name_found (λ (s : Section). s.name) name.section track.sections a.0 (there (section_named track name.section) (Name i) a.0 a.1) in
      ap (λ text. text ++ direction_text name.direction) (sym found) ∙ ap (leg_word track) (the_ok (made a.0) leg a.2)

  leg_written : (i : ℕ) (word : List ℕ) (leg : Leg) → track_leg_at track i word ≡ Ok leg → word ≡ leg_word track leg
  leg_written i word leg h =
      let a = bound (leg_at i word) (known_leg track i) leg h in
      leg_name_written word a.0 (there (leg_in word) (Name i) a.0 a.1) ∙ known_written i a.0 leg a.2

  before_written : (i : ℕ) (word : List ℕ) (before : Option Leg) → track_leg_or_none_at track i word ≡ Ok before → word ≡ leg_or_none (option_map (named_leg track) before)
  before_written i word before h = by_dash (bytes_eq word (45 ∷ [])) refl h
    where
      by_dash : (dash : Bool) → bytes_eq word (45 ∷ []) ≡ dash → (cond dash (Ok None) (leg_at i word >>= (λ leg. Ok (Some leg))) >>= known_leg_or_none track i) ≡ Ok before
          → word ≡ leg_or_none (option_map (named_leg track) before)
      by_dash true e h = same_bytes word (45 ∷ []) e ∙ ap (λ (o : Option Leg). leg_or_none (option_map (named_leg track) o)) (the_ok None before h)
      by_dash false e h =
          let a = bound (leg_at i word >>= (λ leg. Ok (Some leg))) (known_leg_or_none track i) before h in
          let b = bound (leg_at i word) (λ leg. let r : Result (Option LegName) LineFault = Ok (Some leg) in r) a.0 a.1 in
          let known = subst (λ (o : Option LegName). known_leg_or_none track i o ≡ Ok before) (sym (the_ok (Some b.0) a.0 b.2)) a.2 in
          let c = bound (known_leg track i b.0) (λ leg. let r : Result (Option Leg) LineFault = Ok (Some leg) in r) before known in
          leg_name_written word b.0 (there (leg_in word) (Name i) b.0 b.1)
          ∙ known_written i b.0 c.0 c.1
          ∙ ap (λ (o : Option Leg). leg_or_none (option_map (named_leg track) o)) (the_ok (Some c.0) before c.2)

  route_written : (word : List ℕ) (route : ℕ) → route_at track word ≡ Ok route → word ≡ route_word track route
  route_written word route h = by_name (name_in word) refl (there (option_and_then (route_named track) (name_in word)) (Name 3) route h)
    where
      by_name : (o : Option (List ℕ)) → name_in word ≡ o → option_and_then (route_named track) o ≡ Some route → word ≡ route_word track route
      by_name None e h = absurd (no_some route h)
      by_name (Some name) e h = named_text word name e ∙ sym (name_found (λ (r : Route). r.name) name track.routes route h)

-- words that are read one by one are those that are written
each_written : {A : Type 0} (read : ℕ → List ℕ → Result A LineFault) (write : A → List ℕ) → ((i : ℕ) (word : List ℕ) (x : A) → read i word ≡ Ok x → word ≡ write x) → (i : ℕ) (words : Row) (xs : List A)
    → each_word read i words ≡ Ok xs → words ≡ map write xs
each_written {A} read write is i [] xs h = ap (map write) (the_ok [] xs h)
each_written {A} read write is i (word ∷ words) xs h =
    let behind : A → Result (List A) LineFault = λ first. each_word read (i + 1) words >>= (λ rest. Ok (first ∷ rest)) in
    let a = bound (read i word) behind xs h in
    let b = bound (each_word read (i + 1) words) (λ rest. let r : Result (List A) LineFault = Ok (a.0 ∷ rest) in r) xs a.2 in
    ap₂ (λ (first : List ℕ) (rest : Row). first ∷ rest) (is i word a.0 a.1) (each_written read write is (i + 1) words b.0 b.1) ∙ ap (map write) (the_ok (a.0 ∷ b.0) xs b.2)

-- ---- reports

abbrev is_slash : ℕ → Bool
is_slash byte = byte == 47

group_written : (word : List ℕ) (group got : GroupName) (u : Unit {0}) → group_at 3 word ≡ Ok got → group_spelled word group ≡ Ok u → word ≡ group_word group
group_written word group got u told h = by_slash (nat_lt (position_or_len is_slash word) (length word)) refl
  where
    front : List ℕ
    front = before_first is_slash word

    back : List ℕ
    back = after_first is_slash word

    spelled : (bytes_eq front (decimal group.country) ≡ true) × (bytes_eq back (decimal group.number) ≡ true)
    spelled =
        both_of (bytes_eq front (decimal group.country)) (bytes_eq back (decimal group.number))
        (demanded (bytes_eq front (decimal group.country) && bytes_eq back (decimal group.number)) (Name 3) u h)

    by_slash : (inside : Bool) → nat_lt (position_or_len is_slash word) (length word) ≡ inside → word ≡ group_word group
    by_slash true e =
        let inside = ltb-true (position_or_len is_slash word) (length word) e in
        let mark = eqb-true (get_or word (position_or_len is_slash word) 0) 47 (passes_at_first is_slash word 0 inside) in
        split_at_first is_slash word 0 inside
        ∙ ap (λ byte. front ++ byte ∷ back) mark
        ∙ ap₂ (λ (c : List ℕ) (n : List ℕ). c ++ 47 ∷ n) (same_bytes front (decimal group.country) spelled.0) (same_bytes back (decimal group.number) spelled.1)
    by_slash false e =
        let past = ltb-false (position_or_len is_slash word) (length word) e in
        let none : back ≡ [] = drop_all (position_or_len is_slash word + 1) word (omega arith) in
        let number : List ℕ → Result ℕ LineFault = λ text. allowed_value (is_from_to 0 LAST_GROUP) (Name 3) (number_in text) in
        let made : ℕ → ℕ → Result GroupName LineFault = λ country number. Ok (record { country = country; number = number }) in
        let a = bound (allowed_value (is_from_to 0 LAST_COUNTRY) (Name 3) (number_in front)) (λ country. number back >>= made country) got told in
        let b = bound (number back) (made a.0) got a.2 in
        absurd (no_ok (Name 3) b.0 (subst (λ (text : List ℕ). number text ≡ Ok b.0) none b.1))

nominal_written : (i : ℕ) (word : List ℕ) (nominal : Bool) → nominal_at i word ≡ Ok nominal → word ≡ nominal_word nominal
nominal_written i word nominal h = by_tests (bytes_eq word (codes "nominal")) refl (bytes_eq word (codes "reverse")) refl h
  where
    by_tests : (a : Bool) → bytes_eq word (codes "nominal") ≡ a → (b : Bool) → bytes_eq word (codes "reverse") ≡ b → cond a (Ok true) (cond b (Ok false) (Err (Name i))) ≡ Ok nominal → word ≡ nominal_word nominal
    by_tests true e b f h = same_bytes word (codes "nominal") e ∙ ap nominal_word (the_ok true nominal h)
    by_tests false e true f h = same_bytes word (codes "reverse") f ∙ ap nominal_word (the_ok false nominal h)
    by_tests false e false f h = absurd (no_ok (Name i) nominal h)

-- a word in front of others
put : {a b : List ℕ} {words more : Row} → a ≡ b → words ≡ more → a ∷ words ≡ b ∷ more
put e f = ap₂ (λ (word : List ℕ) (rest : Row). word ∷ rest) e f

abbrev report_from : Result ℕ LineFault → Result GroupName LineFault → Result Bool LineFault → Result ℕ LineFault → Result ℕ LineFault → Result ℕ LineFault → Result ℕ LineFault → Result ℕ LineFault → Result Report LineFault
report_from train group nominal distance over under length time = do
  train ← train
  group ← group
  nominal ← nominal
  distance ← distance
  over ← over
  under ← under
  length ← length
  time ← time
  Ok (record { train = train; group = group; nominal = nominal; distance = distance; over = over; under = under; length = length; time = time })

-- what is known of a report's group and direction
record IsFrom (group : Result GroupName LineFault) (nominal : Result Bool LineFault) (r : Report) : Type 0 where
  got : GroupName
  told : group ≡ Ok got
  direction : nominal ≡ Ok r.nominal

is_from : (train : Result ℕ LineFault) (group : Result GroupName LineFault) (nominal : Result Bool LineFault) (distance over under length time : Result ℕ LineFault) (r : Report)
    → report_from train group nominal distance over under length time ≡ Ok r → IsFrom group nominal r
is_from (Err e) group nominal distance over under length time r h = absurd (no_ok e r h)
is_from (Ok t) (Err e) nominal distance over under length time r h = absurd (no_ok e r h)
is_from (Ok t) (Ok g) (Err e) distance over under length time r h = absurd (no_ok e r h)
is_from (Ok t) (Ok g) (Ok n) (Err e) over under length time r h = absurd (no_ok e r h)
is_from (Ok t) (Ok g) (Ok n) (Ok d) (Err e) under length time r h = absurd (no_ok e r h)
is_from (Ok t) (Ok g) (Ok n) (Ok d) (Ok o) (Err e) length time r h = absurd (no_ok e r h)
is_from (Ok t) (Ok g) (Ok n) (Ok d) (Ok o) (Ok u) (Err e) time r h = absurd (no_ok e r h)
is_from (Ok t) (Ok g) (Ok n) (Ok d) (Ok o) (Ok u) (Ok l) (Err e) r h = absurd (no_ok e r h)
is_from (Ok t) (Ok g) (Ok n) (Ok d) (Ok o) (Ok u) (Ok l) (Ok s) r h =
    let made : Report = record { train = t; group = g; nominal = n; distance = d; over = o; under = u; length = l; time = s } in
    record { got = g; told = refl; direction = let same : made ≡ r = the_ok made r h in ap (λ (x : Report). let y : Result Bool LineFault = Ok x.nominal in y) same }

report_written : (words : Row) (r : Report) (u : Unit {0}) → report_in words ≡ Ok r → report_spelled words r ≡ Ok u → words ≡ report_words r
report_written [] r u told h = absurd (no_ok Words r told)
report_written (a ∷ []) r u told h = absurd (no_ok Words r told)
report_written (a ∷ b ∷ []) r u told h = absurd (no_ok Words r told)
report_written (a ∷ b ∷ c ∷ []) r u told h = absurd (no_ok Words r told)
report_written (a ∷ b ∷ c ∷ d ∷ []) r u told h = absurd (no_ok Words r told)
report_written (a ∷ b ∷ c ∷ d ∷ e ∷ []) r u told h = absurd (no_ok Words r told)
report_written (a ∷ b ∷ c ∷ d ∷ e ∷ f ∷ []) r u told h = absurd (no_ok Words r told)
report_written (a ∷ b ∷ c ∷ d ∷ e ∷ f ∷ g ∷ []) r u told h = absurd (no_ok Words r told)
report_written (train ∷ group ∷ nominal ∷ distance ∷ over ∷ under ∷ length ∷ time ∷ []) r u told h =
    let from = is_from (train_at 2 train) (group_at 3 group) (nominal_at 4 nominal) (number_at 5 0 FARTHEST_REPORT distance) (number_at 6 0 MOST_DOUBT over) (number_at 7 0 MOST_DOUBT under)
    (number_at 8 1 LONGEST_TRAIN length) (number_at 9 0 LAST_TIME time) r told in
    let last = number_spelled 9 time r.time in
    let sixth = number_spelled 8 length r.length >> last in
    let fifth = number_spelled 7 under r.under >> sixth in
    let fourth = number_spelled 6 over r.over >> fifth in
    let third = number_spelled 5 distance r.distance >> fourth in
    let second = group_spelled group r.group >> third in
    let p = bound (number_spelled 2 train r.train) (λ _. second) u h in
    let q = bound (group_spelled group r.group) (λ _. third) u p.2 in
    let v = bound (number_spelled 5 distance r.distance) (λ _. fourth) u q.2 in
    let w = bound (number_spelled 6 over r.over) (λ _. fifth) u v.2 in
    let x = bound (number_spelled 7 under r.under) (λ _. sixth) u w.2 in
    let y = bound (number_spelled 8 length r.length) (λ _. last) u x.2 in
    put (number_written 2 train r.train p.0 p.1)
    (put (group_written group r.group from.got q.0 from.told q.1)
    (put (nominal_written 4 nominal r.nominal from.direction)
    (put (number_written 5 distance r.distance v.0 v.1)
    (put (number_written 6 over r.over w.0 w.1)
    (put (number_written 7 under r.under x.0 x.1)
    (put (number_written 8 length r.length y.0 y.1)
    (put (number_written 9 time r.time u y.2) refl)))))))
report_written (a ∷ b ∷ c ∷ d ∷ e ∷ f ∷ g ∷ i ∷ j ∷ more) r u told h = absurd (no_ok Words r told)

-- ---- lines

module _ (track : Track) where
  -- the row that says this
  abbrev Writes : Row → SceneLine → Type 0
  Writes row said = row ≡ scene_row track said

  version_written : (words : Row) (said : SceneLine) → version_in words ≡ Ok said → Writes (codes "scene" ∷ words) said
  version_written [] said h = absurd (no_ok Words said h)
  version_written (version ∷ []) said h =
      let a = bound (count_spelled 2 version) (λ v. let r : Result SceneLine LineFault = Ok (Version v) in r) said h in
      ap (λ word. codes "scene" ∷ word ∷ []) (count_written 2 version a.0 a.1) ∙ ap (scene_row track) (the_ok (Version a.0) said a.2)
  version_written (a ∷ b ∷ more) said h = absurd (no_ok Words said h)

  locked_written : (words : Row) (said : SceneLine) → locked_in track words ≡ Ok said → Writes (codes "locked" ∷ words) said
  locked_written [] said h = absurd (no_ok Words said h)
  locked_written (a ∷ []) said h = absurd (no_ok Words said h)
  locked_written (a ∷ b ∷ []) said h = absurd (no_ok Words said h)
  locked_written (leg ∷ route ∷ before ∷ []) said h =
      let third : Leg → ℕ → Result SceneLine LineFault = λ leg route. track_leg_or_none_at track 4 before >>= (λ before. Ok (Locked leg route before)) in
      let a = bound (track_leg_at track 2 leg) (λ leg. route_at track route >>= third leg) said h in
      let b = bound (route_at track route) (third a.0) said a.2 in
      let c = bound (track_leg_or_none_at track 4 before) (λ before. let r : Result SceneLine LineFault = Ok (Locked a.0 b.0 before) in r) said b.2 in
      ap (λ word. codes "locked" ∷ word ∷ route ∷ before ∷ []) (leg_written track 2 leg a.0 a.1)
      ∙ ap (λ word. codes "locked" ∷ leg_word track a.0 ∷ word ∷ before ∷ []) (route_written track route b.0 b.1)
      ∙ ap (λ word. codes "locked" ∷ leg_word track a.0 ∷ route_word track b.0 ∷ word ∷ []) (before_written track 4 before c.0 c.1)
      ∙ ap (scene_row track) (the_ok (Locked a.0 b.0 c.0) said c.2)
  locked_written (a ∷ b ∷ c ∷ d ∷ more) said h = absurd (no_ok Words said h)

  reported_written : (words : Row) (said : SceneLine) → reported_in words ≡ Ok said → Writes (codes "train" ∷ words) said
  reported_written words said h =
      let a = bound (report_in words) (λ r. report_spelled words r >> Ok (Reported r)) said h in
      let b = bound (report_spelled words a.0) (λ _. let r : Result SceneLine LineFault = Ok (Reported a.0) in r) said a.2 in
      ap (λ row. codes "train" ∷ row) (report_written words a.0 b.0 a.1 b.1) ∙ ap (scene_row track) (the_ok (Reported a.0) said b.2)

  along_written : (words : Row) (said : SceneLine) → along_in track words ≡ Ok said → Writes (codes "line" ∷ words) said
  along_written [] said h = absurd (no_ok Words said h)
  along_written (a ∷ []) said h = absurd (no_ok Words said h)
  along_written (train ∷ origin ∷ words) said h =
      let third : ℕ → ℕ → Result SceneLine LineFault = λ train origin. each_word (track_leg_at track) 4 words >>= (λ legs. Ok (Along train origin legs)) in
      let a = bound (train_spelled train) (λ train. count_spelled 3 origin >>= third train) said h in
      let b = bound (count_spelled 3 origin) (third a.0) said a.2 in
      let c = bound (each_word (track_leg_at track) 4 words) (λ legs. let r : Result SceneLine LineFault = Ok (Along a.0 b.0 legs) in r) said b.2 in
      ap (λ word. codes "line" ∷ word ∷ origin ∷ words) (train_written train a.0 a.1)
      ∙ ap (λ word. codes "line" ∷ decimal a.0 ∷ word ∷ words) (count_written 3 origin b.0 b.1)
      ∙ ap (λ row. codes "line" ∷ decimal a.0 ∷ decimal b.0 ∷ row) (each_written (track_leg_at track) (leg_word track) (leg_written track) 4 words c.0 c.1)
      ∙ ap (scene_row track) (the_ok (Along a.0 b.0 c.0) said c.2)

  more_written : (words : Row) (said : SceneLine) → more_in track words ≡ Ok said → Writes (codes "along" ∷ words) said
  more_written [] said h = absurd (no_ok Words said h)
  more_written (train ∷ words) said h =
      let second : ℕ → Result SceneLine LineFault = λ train. each_word (track_leg_at track) 3 words >>= (λ legs. Ok (More train legs)) in
      let a = bound (train_spelled train) second said h in
      let b = bound (each_word (track_leg_at track) 3 words) (λ legs. let r : Result SceneLine LineFault = Ok (More a.0 legs) in r) said a.2 in
      ap (λ word. codes "along" ∷ word ∷ words) (train_written train a.0 a.1)
      ∙ ap (λ row. codes "along" ∷ decimal a.0 ∷ row) (each_written (track_leg_at track) (leg_word track) (leg_written track) 3 words b.0 b.1)
      ∙ ap (scene_row track) (the_ok (More a.0 b.0) said b.2)

  distances_written : (say : ℕ → ℤ → ℤ → SceneLine) (command : List ℕ)
      → ((train : ℕ) (low high : ℤ) → command ∷ decimal train ∷ signed_decimal low ∷ signed_decimal high ∷ [] ≡ scene_row track (say train low high)) → (words : Row) (said : SceneLine)
      → distances_in say words ≡ Ok said → Writes (command ∷ words) said
  distances_written say command row [] said h = absurd (no_ok Words said h)
  distances_written say command row (a ∷ []) said h = absurd (no_ok Words said h)
  distances_written say command row (a ∷ b ∷ []) said h = absurd (no_ok Words said h)
  distances_written say command row (train ∷ low ∷ high ∷ []) said h =
      let third : ℕ → ℤ → Result SceneLine LineFault = λ train low. distance_spelled 4 high >>= (λ high. Ok (say train low high)) in
      let a = bound (train_spelled train) (λ train. distance_spelled 3 low >>= third train) said h in
      let b = bound (distance_spelled 3 low) (third a.0) said a.2 in
      let c = bound (distance_spelled 4 high) (λ high. let r : Result SceneLine LineFault = Ok (say a.0 b.0 high) in r) said b.2 in
      ap (λ word. command ∷ word ∷ low ∷ high ∷ []) (train_written train a.0 a.1)
      ∙ ap (λ word. command ∷ decimal a.0 ∷ word ∷ high ∷ []) (distance_written 3 low b.0 b.1)
      ∙ ap (λ word. command ∷ decimal a.0 ∷ signed_decimal b.0 ∷ word ∷ []) (distance_written 4 high c.0 c.1)
      ∙ row a.0 b.0 c.0
      ∙ ap (scene_row track) (the_ok (say a.0 b.0 c.0) said c.2)
  distances_written say command row (a ∷ b ∷ c ∷ d ∷ more) said h = absurd (no_ok Words said h)

  done_written : (words : Row) (said : SceneLine) → done_in words ≡ Ok said → Writes (codes "done" ∷ words) said
  done_written [] said h = ap (scene_row track) (the_ok Done said h)
  done_written (a ∷ more) said h = absurd (no_ok Words said h)

  -- a first word that is this one
  with_word : (word first : List ℕ) (words : Row) (said : SceneLine) → bytes_eq word first ≡ true → Writes (first ∷ words) said → Writes (word ∷ words) said
  with_word word first words said e is = ap (λ (w : List ℕ). w ∷ words) (same_bytes word first e) ∙ is

  row_written : (words : Row) (said : SceneLine) → scene_line_in track words ≡ Ok said → said ≢ Next → Writes words said
  row_written [] said h other = absurd (no_ok Words said h)
  row_written (word ∷ words) said h other =
      by_word (bytes_eq word (codes "scene")) refl (bytes_eq word (codes "locked")) refl (bytes_eq word (codes "train")) refl (bytes_eq word (codes "line")) refl (bytes_eq word (codes "along")) refl
      (bytes_eq word (codes "stands")) refl (bytes_eq word (codes "holds")) refl (bytes_eq word (codes "next")) (bytes_eq word (codes "done")) refl h
    where
      by_word : (a : Bool) → bytes_eq word (codes "scene") ≡ a → (b : Bool) → bytes_eq word (codes "locked") ≡ b → (c : Bool) → bytes_eq word (codes "train") ≡ c
          → (d : Bool) → bytes_eq word (codes "line") ≡ d → (e : Bool) → bytes_eq word (codes "along") ≡ e → (f : Bool) → bytes_eq word (codes "stands") ≡ f
          → (g : Bool) → bytes_eq word (codes "holds") ≡ g → (i : Bool) → (j : Bool) → bytes_eq word (codes "done") ≡ j
          → said_behind track
          (cond a (Some SceneWord) (cond b (Some LockedWord) (cond c (Some TrainWord) (cond d (Some LineWord) (cond e (Some AlongWord) (cond f (Some StandsWord)
          (cond g (Some HoldsWord) (cond i (Some NextWord) (cond j (Some DoneWord) None))))))))) words ≡ Ok said
          → Writes (word ∷ words) said
      by_word true p b q c r d s e t f u g v i j w h = with_word word (codes "scene") words said p (version_written words said h)
      by_word false p true q c r d s e t f u g v i j w h = with_word word (codes "locked") words said q (locked_written words said h)
      by_word false p false q true r d s e t f u g v i j w h = with_word word (codes "train") words said r (reported_written words said h)
      by_word false p false q false r true s e t f u g v i j w h = with_word word (codes "line") words said s (along_written words said h)
      by_word false p false q false r false s true t f u g v i j w h = with_word word (codes "along") words said t (more_written words said h)
      by_word false p false q false r false s false t true u g v i j w h = with_word word (codes "stands") words said u (distances_written Stands (codes "stands") (λ train low high. refl) words said h)
      by_word false p false q false r false s false t false u true v i j w h = with_word word (codes "holds") words said v (distances_written Holds (codes "holds") (λ train low high. refl) words said h)
      by_word false p false q false r false s false t false u false v true j w h = absurd (other (sym (the_ok Next said h)))
      by_word false p false q false r false s false t false u false v false true w h = with_word word (codes "done") words said w (done_written words said h)
      by_word false p false q false r false s false t false u false v false false w h = absurd (no_ok Command said h)

pub read_are_written : ReadLinesAreWritten
read_are_written track line said h other =
    let a = bound (row_in line) (λ words. demand (is_close true line) Words >> scene_line_in track words) said h in
    let b = bound (demand (is_close true line) Words) (λ _. scene_line_in track a.0) said a.2 in
    line_is line a.0 a.1 (demanded (is_close true line) Words b.0 b.1) ∙ ap (join_with_byte 32) (row_written track a.0 said b.2 other)
