-- The words of a request, one after the other.
use Rattle.std.proofs.Common.{◌≡◌, ℕ, ◌+◌, Bool, true, false, not, cond, List, [], ◌∷◌, ◌++◌, Result, Ok, Err, refl, sym, ap, ◌∙◌, append_assoc}
use Rattle.std.specs.Result.{result_err}
use Rattle.rbc_model.specs.declared.limits.TheConstants.{MOST_STEPS}
use Rattle.rbc_model.specs.declared.places.Format.TheVariants.{Far}
use Rattle.rbc_model.specs.declared.refusals.LineFault.{LineFault}
use Rattle.rbc_model.specs.declared.refusals.LineFault.TheVariants.{Number}
use Rattle.rbc_model.specs.Results.{is_from_to, allowed_value, ◌>>=◌}
use Rattle.rbc_model.specs.Words.{number_in}
use Rattle.rbc_model.specs.Kinds.{Kind}
use Rattle.rbc_model.specs.StepsText.{StepsRequest, run_in_word, runs_in, request_in}

-- a request with these runs before its own
abbrev pub with_runs : {V : Type 0} → List (ℕ × V) → Result (StepsRequest V) LineFault → Result (StepsRequest V) LineFault
with_runs front read = read >>= λ request. Ok (record request { runs = front ++ request.runs })

-- All words read as those left do, with the runs so far in front; where memory was refused, these are lost, but no fault.
pub record IsSoFar {V : Type 0} (all left : Result (StepsRequest V) LineFault) (refused : Bool) (front : List (ℕ × V)) : Type 0 where
  pub kept : refused ≡ false → all ≡ with_runs front left
  pub faults : result_err all ≡ result_err left

regroup : {V : Type 0} (front : List (ℕ × V)) (run : ℕ × V) (read : Result (StepsRequest V) LineFault)
    → with_runs front (read >>= λ rest. Ok (record rest { runs = run ∷ rest.runs })) ≡ with_runs (front ++ run ∷ []) read
regroup front run (Ok request) = ap (λ runs. Ok (record request { runs = runs })) (sym (append_assoc front (run ∷ []) request.runs))
regroup front run (Err fault) = refl

same_fault : {V : Type 0} (run : ℕ × V) (read : Result (StepsRequest V) LineFault) → result_err (read >>= λ rest. Ok (record rest { runs = run ∷ rest.runs })) ≡ result_err read
same_fault run (Ok request) = refl
same_fault run (Err fault) = refl

-- what a push that is not refused leaves
pub pushed : {T : Type 0} (fits refused : Bool) (front more : List T) (x : T) → fits ≡ not refused → more ≡ cond fits (front ++ x ∷ []) front → refused ≡ false → more ≡ front ++ x ∷ []
pushed true refused front more x e h ok = h
pushed false true front more x e h ok = absurd (cc)
pushed false false front more x e h ok = absurd (cc)

module _ {V : Type 0} (kind : Kind V) (limit i : ℕ) (word next : List ℕ) (all : Result (StepsRequest V) LineFault) where
  -- one more run
  pub one_more : (last : List ℕ) (words : List (List ℕ)) (refused still : Bool) (front more : List (ℕ × V)) (run : ℕ × V) → Ok run ≡ run_in_word kind i word
      → (still ≡ false → (refused ≡ false) × (more ≡ front ++ run ∷ []))
      → IsSoFar all (runs_in kind Far limit i (word ∷ next ∷ last ∷ words)) refused front
      → IsSoFar all (runs_in kind Far limit (i + 1) (next ∷ last ∷ words)) still more
  one_more last words refused still front more run e pushed so_far =
      let rest = runs_in kind Far limit (i + 1) (next ∷ last ∷ words) in
      let step : runs_in kind Far limit i (word ∷ next ∷ last ∷ words) ≡ (rest >>= λ rest. Ok (record rest { runs = run ∷ rest.runs })) = ap (λ found. found >>= λ run. rest >>= λ rest. Ok (record rest { runs = run ∷ rest.runs })) (sym e) in
      record {
        kept = λ ok. so_far.kept (pushed ok).0 ∙ ap (with_runs front) step ∙ regroup front run rest ∙ ap (λ runs. with_runs runs rest) (sym (pushed ok).1);
        faults = so_far.faults ∙ ap result_err step ∙ same_fault run rest;
      }

-- the words of a request behind its limit, at least three, are read as its runs and its end
pub behind_limit : {V : Type 0} (kind : Kind V) (words : List (List ℕ)) (word first second third : List ℕ) (some fewer least rest : List (List ℕ)) (limit : ℕ)
    → words ≡ word ∷ some → some ≡ first ∷ fewer → fewer ≡ second ∷ least → least ≡ third ∷ rest
    → Ok limit ≡ allowed_value (is_from_to 1 MOST_STEPS) (Number 2) (number_in word)
    → request_in kind Far words ≡ runs_in kind Far limit 3 (first ∷ second ∷ least)
behind_limit kind words word first second third some fewer least rest limit a b c d read =
    let all : words ≡ word ∷ first ∷ second ∷ third ∷ rest =
    a ∙ ap (λ (l : List (List ℕ)). word ∷ l) (b ∙ ap (λ (l : List (List ℕ)). first ∷ l) (c ∙ ap (λ (l : List (List ℕ)). second ∷ l) d)) in
    ap (request_in kind Far) all
    ∙ ap (λ found. found >>= λ n. runs_in kind Far n 3 (first ∷ second ∷ third ∷ rest)) (sym read)
    ∙ ap (λ (l : List (List ℕ)). runs_in kind Far limit 3 (first ∷ second ∷ l)) (sym d)
