-- A walk over the values of a list, as a loop goes.
use Rattle.std.proofs.Common.{◌≡◌, ℕ, suc, ◌+◌, ◌<◌, ◌≤◌, List, [], ◌∷◌, ◌++◌, length, map, drop, get_or, Result, Ok, Err, refl, sym, ap, ◌∙◌, append_assoc, arith}
use Rattle.std.proofs.lemmas.List.{append-nil, length-append, drop_more, at_drop_all}
use Rattle.toml.specs.Data.{Data}
use Rattle.toml.specs.View.{view}
use Rattle.toml.specs.declared.value.Value.{Value}
use Rattle.rbc_model.specs.Answers.{RefusesOrMemory}
use Rattle.rbc_model.specs.declared.memory.OrMemory.{OrMemory}
use Rattle.rbc_model.specs.declared.memory.OrMemory.TheVariants.{Refused, Memory}
use Rattle.rbc_model.specs.declared.files.FileFault.{FileFault}
use Rattle.rbc_model.specs.Results.{◌>>=◌}
use Rattle.rbc_trackfile.specs.Told.{each_told}

-- what was read so far, and what the rest tells
abbrev pub told_before : {A : Type 0} → List A → Result (List A) FileFault → Result (List A) FileFault
told_before front rest = rest >>= λ later. Ok (front ++ later)

-- the values from an index on
pub values_from : (values : List Value) (i : ℕ) (value : Value) → i < length values → value ≡ get_or values i value → map view (drop i values) ≡ view value ∷ map view (drop (i + 1) values)
values_from values i value within is =
    ap (map view) (drop_more values i value within) ∙ ap (λ v. view v ∷ map view (drop (i + 1) values)) (sym is)

module _ {A : Type 0} (read : ℕ → Data → Result A FileFault) (total : Result (List A) FileFault) (front : List A) where
  one_before : (x : A) (rest : Result (List A) FileFault) → told_before front (rest >>= λ later. Ok (x ∷ later)) ≡ told_before (front ++ x ∷ []) rest
  one_before x (Ok later) = ap Ok (sym (append_assoc front (x ∷ []) later))
  one_before x (Err fault) = refl

  -- the next value, and then those behind it
  abbrev steps : ℕ → List Data → Result A FileFault → Result (List A) FileFault
  steps number later first = told_before front (first >>= λ x. each_told read (suc number) later >>= λ rest. Ok (x ∷ rest))

  begun : (number : ℕ) (value : Data) (later : List Data) → told_before front (each_told read number (value ∷ later)) ≡ steps number later (read number value)
  unfolding each_told
  begun number value later = refl

  -- the next value is refused
  pub refused : (fault : OrMemory FileFault) (number : ℕ) (rest later : List Data) (value : Data) → rest ≡ value ∷ later
      → told_before front (each_told read number rest) ≡ total → RefusesOrMemory fault (read number value) → RefusesOrMemory fault total
  refused (Refused refusal) number rest later value split so_far here =
      sym so_far ∙ ap (λ vs. told_before front (each_told read number vs)) split ∙ begun number value later ∙ ap (steps number later) here
  refused Memory number rest later value split so_far here = tt

  -- it is read
  pub taken : (number next : ℕ) (rest later : List Data) (value : Data) (x : A) (new : List A) → rest ≡ value ∷ later → number ≡ length front + 1 → next ≡ length new + 1
      → new ≡ front ++ x ∷ [] → told_before front (each_told read number rest) ≡ total → read number value ≡ Ok x → told_before new (each_told read next later) ≡ total
  taken number next rest later value x new split counted counted_next grown so_far here =
      let same : next ≡ suc number = omega (arith, ap length grown, length-append front (x ∷ [])) in
      ap (λ l. told_before l (each_told read next later)) grown
      ∙ ap (λ n. told_before (front ++ x ∷ []) (each_told read n later)) same
      ∙ sym (one_before x (each_told read (suc number) later))
      ∙ sym (ap (steps number later) here) ∙ sym (begun number value later)
      ∙ sym (ap (λ vs. told_before front (each_told read number vs)) split) ∙ so_far

  -- all are read
  pub all_read : (number : ℕ) (values : List Value) (i : ℕ) → length values ≤ i → told_before front (each_told read number (map view (drop i values))) ≡ total → total ≡ Ok front
  unfolding each_told
  all_read number values i past so_far =
      sym so_far ∙ ap (λ vs. told_before front (each_told read number vs)) (at_drop_all (map view) values i past) ∙ ap Ok (append-nil front)
