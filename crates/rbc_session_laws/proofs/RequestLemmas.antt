-- What a line of `rbc steps` asks for is in form: its limit is not 0, a message can give its end, and its runs make a track.
use Rattle.std.proofs.Common.{◌≡◌, ℕ, ◌+◌, ◌<◌, Bool, true, false, cond, List, [], ◌∷◌, Option, Some, None, Result, Ok, Err, ℤ, refl, ap, subst, arith, codes, nat_lt, nat_le}
use Rattle.std.specs.Prelude.{bytes_eq, ◌==◌}
use Rattle.std.specs.List.{list_all, before_first, after_first}
use Rattle.std.specs.Option.{option_map_or}
use Rattle.std.proofs.lemmas.Bool.{leb-true, and_from}
use Rattle.rbc_model.specs.declared.limits.TheConstants.{LONGEST_TRACK, MOST_STEPS}
use Rattle.rbc_model.specs.declared.places.Format.{Format}
use Rattle.rbc_model.specs.declared.refusals.LineFault.{LineFault}
use Rattle.rbc_model.specs.declared.refusals.LineFault.TheVariants.{Command, Words, Number, Name}
use Rattle.rbc_model.specs.declared.refusals.StepsRefusal.TheVariants.{NotRising, OutOfRange}
use Rattle.rbc_model.specs.Results.{is_from_to, demand, allowed_value, ◌>>=◌, ◌>>◌}
use Rattle.rbc_model.specs.Scales.{is_expressible}
use Rattle.rbc_model.specs.Profiles.{starts_of, rises_from_zero, joined_steps, IsTrackFunction}
use Rattle.rbc_model.specs.Kinds.{Kind, speed_kind, grade_kind}
use Rattle.rbc_model.specs.Words.{number_in}
use Rattle.rbc_model.specs.RequestText.{request_words, number_at, line_in}
use Rattle.rbc_model.specs.StepsText.{StepsRequest, StepsLine, Blank, Speed, Grade, run_in_word, runs_in, request_in, words_line, parse_steps, track_in}
use Rattle.rbc_model.proofs.CountingLemmas.{both_of}
use Rattle.rbc_steps.proofs.JoinedLemmas.{IsTrackFunction-joined}
use Rattle.rbc_model.proofs.SaidLineLemmas.{bound, allowed}

-- ---- requests

module _ {V : Type 0} (kind : Kind V) (format : Format) where
  abbrev in_range : List (ℕ × V) → Bool
  in_range runs = list_all (λ run. kind.levels.in_range run.1) runs

  record IsRead (limit : ℕ) (request : StepsRequest V) : Type 0 where
    limit_is : request.limit ≡ limit
    expressible : is_expressible format request.end ≡ true
    values : in_range request.runs ≡ true

  value_read : (i : ℕ) (word : List ℕ) (run : ℕ × V) → run_in_word kind i word ≡ Ok run → kind.levels.in_range run.1 ≡ true
  value_read i word run h =
      let start = bound (number_at i 0 LONGEST_TRACK (before_first (λ byte. byte == 58) word))
      (λ start. allowed_value kind.levels.in_range (Number i) (kind.read (after_first (λ byte. byte == 58) word)) >>= (λ value. Ok (start, value))) run h in
      let value = bound (allowed_value kind.levels.in_range (Number i) (kind.read (after_first (λ byte. byte == 58) word))) (λ value. Ok (start.0, value)) run start.2 in
      let is : value.0 ≡ run.1 = the_second start.0 value.0 run value.2 in
      subst (λ v. kind.levels.in_range v ≡ true) is (allowed kind.levels.in_range (Number i) (kind.read (after_first (λ byte. byte == 58) word)) value.0 value.1)
    where
      the_pair : (a b : ℕ × V) → (let r : Result (ℕ × V) LineFault = Ok a in r) ≡ Ok b → a ≡ b
      the_pair a b e = cc

      the_second : (start : ℕ) (value : V) (run : ℕ × V) → (let r : Result (ℕ × V) LineFault = Ok (start, value) in r) ≡ Ok run → value ≡ run.1
      the_second start value run e = ap (λ (p : ℕ × V). p.1) (the_pair (start, value) run e)

  the_request : (a b : StepsRequest V) → (let r : Result (StepsRequest V) LineFault = Ok a in r) ≡ Ok b → a ≡ b
  the_request a b e = cc

  runs_read : (limit i : ℕ) (words : List (List ℕ)) (request : StepsRequest V) → runs_in kind format limit i words ≡ Ok request → IsRead limit request
  runs_read limit i [] request h = absurd (no request h)
    where
      no : (request : StepsRequest V) → (let r : Result (StepsRequest V) LineFault = Err Words in r) ≡ Ok request → ⊥
      no request h = cc
  runs_read limit i (word ∷ []) request h = absurd (no request h)
    where
      no : (request : StepsRequest V) → (let r : Result (StepsRequest V) LineFault = Err Words in r) ≡ Ok request → ⊥
      no request h = cc
  runs_read limit i (word ∷ last ∷ []) request h =
      let first = bound (demand (bytes_eq word (codes "end")) (Name i))
      (λ _. allowed_value (is_expressible format) (Number (i + 1)) (number_in last) >>= (λ end. Ok (record { limit = limit; runs = []; end = end }))) request h in
      let end = bound (allowed_value (is_expressible format) (Number (i + 1)) (number_in last)) (λ end. Ok (record { limit = limit; runs = []; end = end })) request first.2 in
      subst (IsRead limit) (the_request (record { limit = limit; runs = []; end = end.0 }) request end.2)
      (record { limit_is = refl; expressible = allowed (is_expressible format) (Number (i + 1)) (number_in last) end.0 end.1; values = refl })
  runs_read limit i (word ∷ next ∷ last ∷ more) request h =
      let run = bound (run_in_word kind i word)
      (λ run. runs_in kind format limit (i + 1) (next ∷ last ∷ more) >>= (λ rest. Ok (record rest { runs = run ∷ rest.runs }))) request h in
      let rest = bound (runs_in kind format limit (i + 1) (next ∷ last ∷ more)) (λ rest. Ok (record rest { runs = run.0 ∷ rest.runs })) request run.2 in
      let before = runs_read limit (i + 1) (next ∷ last ∷ more) rest.0 rest.1 in
      subst (IsRead limit) (the_request (record rest.0 { runs = run.0 ∷ rest.0.runs }) request rest.2)
      (record { limit_is = before.limit_is; expressible = before.expressible; values = and_from _ _ (value_read i word run.0 run.1) before.values })

  -- what is asked for is in form, but for the order of its runs
  pub record IsAsked (request : StepsRequest V) : Type 0 where
    pub some_steps : 0 < request.limit
    pub expressible : is_expressible format request.end ≡ true
    pub values : in_range request.runs ≡ true

  request_read : (words : List (List ℕ)) (request : StepsRequest V) → request_in kind format words ≡ Ok request → IsAsked request
  request_read [] request h = absurd (the_no request h)
    where
      the_no : (request : StepsRequest V) → (let r : Result (StepsRequest V) LineFault = Err Words in r) ≡ Ok request → ⊥
      the_no request h = cc
  request_read (a ∷ []) request h = absurd (the_no request h)
    where
      the_no : (request : StepsRequest V) → (let r : Result (StepsRequest V) LineFault = Err Words in r) ≡ Ok request → ⊥
      the_no request h = cc
  request_read (a ∷ b ∷ []) request h = absurd (the_no request h)
    where
      the_no : (request : StepsRequest V) → (let r : Result (StepsRequest V) LineFault = Err Words in r) ≡ Ok request → ⊥
      the_no request h = cc
  request_read (a ∷ b ∷ c ∷ []) request h = absurd (the_no request h)
    where
      the_no : (request : StepsRequest V) → (let r : Result (StepsRequest V) LineFault = Err Words in r) ≡ Ok request → ⊥
      the_no request h = cc
  request_read (limit ∷ first ∷ second ∷ third ∷ more) request h =
      let count = bound (number_at 2 1 MOST_STEPS limit) (λ count. runs_in kind format count 3 (first ∷ second ∷ third ∷ more)) request h in
      let tested = allowed (is_from_to 1 MOST_STEPS) (Number 2) (number_in limit) count.0 count.1 in
      let low = both_of (nat_le 1 count.0) (nat_le count.0 MOST_STEPS) tested in
      let some = leb-true 1 count.0 low.0 in
      let r = runs_read count.0 3 (first ∷ second ∷ third ∷ more) request count.2 in
      let is = r.limit_is in
      record { some_steps = omega arith; expressible = r.expressible; values = r.values }

  -- ---- the track that it makes

  pub record IsMade (track : StepsRequest V) : Type 0 where
    pub some_steps : 0 < track.limit
    pub expressible : is_expressible format track.end ≡ true
    pub runs : IsTrackFunction kind.levels track.end track.runs

  pub made_of : (request track : StepsRequest V) → IsAsked request → track_in kind.levels request ≡ Ok track → IsMade track
  made_of request track asked h =
      by_tests (rises_from_zero (starts_of request.runs)) (list_all (λ start. nat_lt start request.end) (starts_of request.runs)) refl refl h
    where
      by_tests : (rises inside : Bool) → rises_from_zero (starts_of request.runs) ≡ rises → list_all (λ start. nat_lt start request.end) (starts_of request.runs) ≡ inside
          → (demand rises NotRising >> (demand inside OutOfRange >> Ok (record request { runs = joined_steps kind.levels request.runs }))) ≡ Ok track → IsMade track
      by_tests true true rises inside e =
          subst IsMade (let same : record request { runs = joined_steps kind.levels request.runs } ≡ track = cc in same)
          (record {
            some_steps = asked.some_steps;
            expressible = asked.expressible;
            runs = IsTrackFunction-joined kind.levels request.end request.runs rises inside asked.values;
          })
      by_tests true false rises inside e = absurd (let c : ⊥ = cc in c)
      by_tests false inside' rises inside e = absurd (let c : ⊥ = cc in c)

-- ---- what a line says

said_speed : (a b : Bool) (s : Result (StepsRequest ℕ) LineFault) (g : Result (StepsRequest ℤ) LineFault) (request : StepsRequest ℕ)
    → cond a (line_in Speed s) (cond b (line_in Grade g) (Err Command)) ≡ Ok (Speed request) → s ≡ Ok request
said_speed true b (Ok x) g request h = cc
said_speed true b (Err e) g request h = cc
said_speed false true s (Ok x) request h = cc
said_speed false true s (Err e) request h = cc
said_speed false false s g request h = cc

said_grade : (a b : Bool) (s : Result (StepsRequest ℕ) LineFault) (g : Result (StepsRequest ℤ) LineFault) (request : StepsRequest ℤ)
    → cond a (line_in Speed s) (cond b (line_in Grade g) (Err Command)) ≡ Ok (Grade request) → g ≡ Ok request
said_grade true b (Ok x) g request h = cc
said_grade true b (Err e) g request h = cc
said_grade false true s (Ok x) request h = cc
said_grade false true s (Err e) request h = cc
said_grade false false s g request h = cc

words_found : (read : List (List ℕ) → Result StepsLine LineFault) (found : Option (List (List ℕ))) (line : StepsLine) → (line ≡ Blank → ⊥)
    → option_map_or read found (Ok Blank) ≡ Ok line → (words : List (List ℕ)) × (read words ≡ Ok line)
words_found read None line some h = absurd (some (let same : line ≡ Blank = cc in same))
words_found read (Some words) line some h = (words, h)

speed_of_words : (format : Format) (words : List (List ℕ)) (request : StepsRequest ℕ) → words_line format words ≡ Ok (Speed request) → IsAsked speed_kind format request
speed_of_words format [] request h = absurd (let c : ⊥ = cc in c)
speed_of_words format (command ∷ words) request h =
    request_read speed_kind format words request
    (said_speed (bytes_eq command (codes "speed")) (bytes_eq command (codes "grade")) (request_in speed_kind format words) (request_in grade_kind format words) request h)

grade_of_words : (format : Format) (words : List (List ℕ)) (request : StepsRequest ℤ) → words_line format words ≡ Ok (Grade request) → IsAsked grade_kind format request
grade_of_words format [] request h = absurd (let c : ⊥ = cc in c)
grade_of_words format (command ∷ words) request h =
    request_read grade_kind format words request
    (said_grade (bytes_eq command (codes "speed")) (bytes_eq command (codes "grade")) (request_in speed_kind format words) (request_in grade_kind format words) request h)

pub speed_asked : (format : Format) (line : List ℕ) (request : StepsRequest ℕ) → parse_steps format line ≡ Ok (Speed request) → IsAsked speed_kind format request
speed_asked format line request h =
    let found = bound (request_words line) (λ found. option_map_or (words_line format) found (Ok Blank)) (Speed request) h in
    let words = words_found (words_line format) found.0 (Speed request) (λ e. (let c : ⊥ = cc in c)) found.2 in
    speed_of_words format words.0 request words.1

pub grade_asked : (format : Format) (line : List ℕ) (request : StepsRequest ℤ) → parse_steps format line ≡ Ok (Grade request) → IsAsked grade_kind format request
grade_asked format line request h =
    let found = bound (request_words line) (λ found. option_map_or (words_line format) found (Ok Blank)) (Grade request) h in
    let words = words_found (words_line format) found.0 (Grade request) (λ e. (let c : ⊥ = cc in c)) found.2 in
    grade_of_words format words.0 request words.1
