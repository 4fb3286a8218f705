-- The numbers of a request are in their ranges.
use Rattle.std.proofs.Common.{◌≡◌, ℕ, ◌+◌, ◌<◌, ◌==◌, Bool, true, false, cond, List, [], ◌∷◌, Result, Ok, Err, refl, subst, arith, codes, bytes_eq, nat_le, length, IfOk}
use Rattle.std.proofs.lemmas.Bool.{and_from}
use Rattle.std.specs.List.{list_all, before_first, after_first}
use Rattle.std.specs.Cmp.{second_so}
use Rattle.rbc_model.specs.declared.places.Format.TheVariants.{Far}
use Rattle.rbc_model.specs.declared.limits.TheConstants.{MOST_STEPS, LONGEST_TRACK}
use Rattle.rbc_model.specs.declared.memory.OrMemory.{OrMemory}
use Rattle.rbc_model.specs.declared.refusals.LineFault.{LineFault}
use Rattle.rbc_model.specs.declared.refusals.LineFault.TheVariants.{Number, Name, Command}
use Rattle.rbc_model.specs.Answers.{AnswersAs}
use Rattle.rbc_model.specs.Results.{is_from_to, demand, allowed_value, ◌>>=◌}
use Rattle.rbc_model.specs.Kinds.{Kind, speed_kind, grade_kind}
use Rattle.rbc_model.specs.Scales.{is_expressible}
use Rattle.rbc_model.specs.Words.{number_in}
use Rattle.rbc_model.specs.RequestText.{line_in}
use Rattle.rbc_model.specs.StepsText.{StepsRequest, StepsLine, Blank, Speed, Grade, run_in_word, runs_in, request_in, words_line}
use Rattle.rbc_model.proofs.SaidLineLemmas.{allowed}
use Rattle.rbc_model.proofs.FrameLemmas.{limits_of}
use Rattle.rbc_words.specs.declared.steps_request.StepsLine.{StepsLine as ReadLine}
use Rattle.rbc_words.specs.StepsLines.{line_view, IsRequestInRange, IsLineInRange}

-- ---- one step, and then another

bind_ok : {A B E : Type 0} (first : Result A E) (next : A → Result B E) (y : B) → (first >>= next) ≡ Ok y → (x : A) × (first ≡ Ok x) × (next x ≡ Ok y)
bind_ok (Ok x) next y e = (x, refl, e)
bind_ok (Err fault) next y e = absurd (cc)

-- ---- runs and end

record IsRest {V : Type 0} (kind : Kind V) (limit : ℕ) (request : StepsRequest V) : Type 0 where
  limit_is : request.limit ≡ limit
  starts : list_all (λ run. nat_le run.0 LONGEST_TRACK) request.runs ≡ true
  values : list_all (λ run. kind.levels.in_range run.1) request.runs ≡ true
  end : is_expressible Far request.end ≡ true

module _ {V : Type 0} (kind : Kind V) (limit : ℕ) where
  -- the end alone
  end_in_range : (i : ℕ) (word last : List ℕ) (request : StepsRequest V)
      → runs_in kind Far limit i (word ∷ last ∷ []) ≡ Ok request → IsRest kind limit request
  end_in_range i word last request e =
      let far = is_expressible Far in
      let read = allowed_value far (Number (i + 1)) (number_in last) in
      let ends : ℕ → Result (StepsRequest V) LineFault = λ end. Ok (record { limit = limit; runs = []; end = end }) in
      let named = bind_ok (demand (bytes_eq word (codes "end")) (Name i)) (λ tt. read >>= ends) request e in
      let ended = bind_ok read ends request named.2 in
      let it : record { limit = limit; runs = []; end = ended.0 } ≡ request = cc in
      let end = allowed far (Number (i + 1)) (number_in last) ended.0 ended.1 in
      subst (λ request. IsRest kind limit request) it
      (record { limit_is = refl; starts = refl; values = refl; end = end })

  -- a run and what follows
  run_in_range : (i : ℕ) (word : List ℕ) (run : ℕ × V) → run_in_word kind i word ≡ Ok run
      → (nat_le run.0 LONGEST_TRACK ≡ true) × (kind.levels.in_range run.1 ≡ true)
  run_in_range i word run e =
      let start = number_in (before_first (λ byte. byte == 58) word) in
      let value = kind.read (after_first (λ byte. byte == 58) word) in
      let valued = allowed_value kind.levels.in_range (Number i) value in
      let first = bind_ok (allowed_value (is_from_to 0 LONGEST_TRACK) (Number i) start) (λ start. valued >>= λ value. Ok (start, value)) run e in
      let second_part = bind_ok valued (λ value. Ok (first.0, value)) run first.2 in
      let low : nat_le first.0 LONGEST_TRACK ≡ true =
      second_so (nat_le 0 first.0) (nat_le first.0 LONGEST_TRACK) (allowed (is_from_to 0 LONGEST_TRACK) (Number i) start first.0 first.1) in
      let it : (first.0, second_part.0) ≡ run = cc in
      subst (λ run. (nat_le run.0 LONGEST_TRACK ≡ true) × (kind.levels.in_range run.1 ≡ true)) it
      (low, allowed kind.levels.in_range (Number i) value second_part.0 second_part.1)

  one_before : (i : ℕ) (word next last : List ℕ) (more : List (List ℕ)) (request : StepsRequest V)
      → ((rest : StepsRequest V) → runs_in kind Far limit (i + 1) (next ∷ last ∷ more) ≡ Ok rest → IsRest kind limit rest)
      → runs_in kind Far limit i (word ∷ next ∷ last ∷ more) ≡ Ok request → IsRest kind limit request × (0 < length request.runs)
  one_before i word next last more request h e =
      let others = runs_in kind Far limit (i + 1) (next ∷ last ∷ more) in
      let with_run : ℕ × V → StepsRequest V → StepsRequest V = λ run rest. record rest { runs = run ∷ rest.runs } in
      let begun = bind_ok (run_in_word kind i word) (λ run. others >>= λ rest. Ok (with_run run rest)) request e in
      let ended = bind_ok others (λ rest. Ok (with_run begun.0 rest)) request begun.2 in
      let rest = h ended.0 ended.1 in
      let run = run_in_range i word begun.0 begun.1 in
      let it : with_run begun.0 ended.0 ≡ request = cc in
      subst (λ request. IsRest kind limit request × (0 < length request.runs)) it (
        record {
          limit_is = rest.limit_is;
          starts = and_from _ _ run.0 rest.starts;
          values = and_from _ _ run.1 rest.values;
          end = rest.end;
        },
        omega arith,
      )

  rest_in_range : (i : ℕ) (words : List (List ℕ)) (request : StepsRequest V) → runs_in kind Far limit i words ≡ Ok request → IsRest kind limit request
  rest_in_range i [] request e = absurd (cc)
  rest_in_range i (word ∷ []) request e = absurd (cc)
  rest_in_range i (word ∷ last ∷ []) request e = end_in_range i word last request e
  rest_in_range i (word ∷ next ∷ last ∷ more) request e = (one_before i word next last more request (rest_in_range (i + 1) (next ∷ last ∷ more)) e).0

-- ---- the request

pub request_in_range : {V : Type 0} (kind : Kind V) (words : List (List ℕ)) (request : StepsRequest V) → request_in kind Far words ≡ Ok request → IsRequestInRange kind.levels request
request_in_range kind [] request e = absurd (cc)
request_in_range kind (a ∷ []) request e = absurd (cc)
request_in_range kind (a ∷ b ∷ []) request e = absurd (cc)
request_in_range kind (a ∷ b ∷ c ∷ []) request e = absurd (cc)
request_in_range kind (first ∷ a ∷ b ∷ c ∷ more) request e =
    let limited = bind_ok (allowed_value (is_from_to 1 MOST_STEPS) (Number 2) (number_in first)) (λ limit. runs_in kind Far limit 3 (a ∷ b ∷ c ∷ more)) request e in
    let rest = one_before kind limited.0 3 a b c more request (rest_in_range kind limited.0 4 (b ∷ c ∷ more)) limited.2 in
    let limit = limits_of 1 MOST_STEPS limited.0 (allowed (is_from_to 1 MOST_STEPS) (Number 2) (number_in first) limited.0 limited.1) in
    record {
      limit_low = omega (arith, rest.0.limit_is, limit.0);
      limit_high = omega (arith, rest.0.limit_is, limit.1);
      some = rest.1;
      starts = rest.0.starts;
      values = rest.0.values;
      expressible = rest.0.end;
    }

-- ---- the line

module _ {V : Type 0} (kind : Kind V) (line : StepsRequest V → StepsLine) where
  asked_in_range : (words : List (List ℕ)) (read : StepsLine) → ((request : StepsRequest V) → IsRequestInRange kind.levels request → IsLineInRange (line request))
      → line_in line (request_in kind Far words) ≡ Ok read → IsLineInRange read
  asked_in_range words read h e =
      let asked = bind_ok (request_in kind Far words) (λ request. Ok (line request)) read e in
      let it : line asked.0 ≡ read = cc in
      subst (λ read. IsLineInRange read) it (h asked.0 (request_in_range kind words asked.0 asked.1))

command_in_range : (speed grade : Bool) (words : List (List ℕ)) (read : StepsLine)
    → cond speed (line_in Speed (request_in speed_kind Far words)) (cond grade (line_in Grade (request_in grade_kind Far words)) (Err Command)) ≡ Ok read → IsLineInRange read
command_in_range true grade words read e = asked_in_range speed_kind Speed words read (λ request h. h) e
command_in_range false true words read e = asked_in_range grade_kind Grade words read (λ request h. h) e
command_in_range false false words read e = absurd (cc)

the_line : (a b : StepsLine) → ◌≡◌ {A = Result StepsLine LineFault} (Ok a) (Ok b) → a ≡ b
the_line a b e = cc

words_in_range : (words : List (List ℕ)) (read : StepsLine) → words_line Far words ≡ Ok read → IsLineInRange read
words_in_range [] read e = subst (λ read. IsLineInRange read) (the_line Blank read e) tt
words_in_range (command ∷ words) read e = command_in_range (bytes_eq command (codes "speed")) (bytes_eq command (codes "grade")) words read e

pub read_in_range : (result : Result ReadLine (OrMemory LineFault)) (words : List (List ℕ)) → AnswersAs line_view result (words_line Far words) → IfOk result (λ line. IsLineInRange (line_view line))
read_in_range (Ok line) words e = words_in_range words (line_view line) e
read_in_range (Err fault) words e = tt
