-- Lines lengthened leg by leg until a test passes: what one leg more leaves to be done, and where it ends.
use Rattle.std.proofs.Common.{◌≡◌, ℕ, suc, ◌+◌, ◌-◌, ◌<◌, ◌≤◌, Bool, true, false, cond, Option, Some, None, Ok, Err, refl, ap, sym, ◌∙◌, arith}
use Rattle.std.specs.Prelude.{option_and_then}
use Rattle.rbc_model.specs.declared.refusals.Refusal.{Refusal}
use Rattle.rbc_model.specs.Lines.{Line}
use Rattle.rbc_model.specs.Locks.{lengthened}
use Rattle.rbc_scene_laws.proofs.LengtheningLemmas.{lengthened-now}
use Rattle.rbc_extent.specs.PlacingSteps.{found_or}

module _ (longer : Line → Option Line) (test : Line → Bool) where
  on_by : (t : Bool) (line : Line) (rest : Option Line) → t ≡ false → cond t (Some line) rest ≡ rest
  on_by true line rest h = cc
  on_by false line rest h = refl

  lengthened-on : (m : ℕ) (line : Line) → test line ≡ false → lengthened (suc m) longer test line ≡ option_and_then (lengthened m longer test) (longer line)
  lengthened-on m line h = on_by (test line) line (option_and_then (lengthened m longer test) (longer line)) h

  -- ---- where the test is made before each leg

  one_less : (n i : ℕ) (line : Line) (o : Option Line) → i < n → test line ≡ false → o ≡ longer line → option_and_then (lengthened (n - (i + 1)) longer test) o ≡ lengthened (n - i) longer test line
  one_less n i line o low h e =
      ap (option_and_then (lengthened (n - (i + 1)) longer test)) e
      ∙ sym (lengthened-on (n - (i + 1)) line h)
      ∙ ap (λ j. lengthened j longer test line) (let s : suc (n - (i + 1)) ≡ n - i = omega arith in s)

  pub rest-passed : (n : ℕ) (line : Line) → test line ≡ true → Some line ≡ lengthened n longer test line
  rest-passed n line h = sym (lengthened-now n longer test line h)

  pub rest-more : (n i : ℕ) (line next : Line) → i < n → test line ≡ false → Some next ≡ longer line → lengthened (n - (i + 1)) longer test next ≡ lengthened (n - i) longer test line
  rest-more n i line next low h e = one_less n i line (Some next) low h e

  pub rest-stuck : (n i : ℕ) (line : Line) → i < n → test line ≡ false → None ≡ longer line → None ≡ lengthened (n - i) longer test line
  rest-stuck n i line low h e = one_less n i line None low h e

module _ (longer : Line → Option Line) (test : Line → Bool) (n : ℕ) (start : Line) where
  -- some legs were added to the line that it started as, and the test has not passed yet
  pub record IsUnderWay (added : ℕ) (line : Line) : Type 0 where
    pub rest : lengthened (n - added) longer test line ≡ lengthened n longer test start
    pub not_yet : test line ≡ false

  pub under_way-begin : test start ≡ false → IsUnderWay 0 start
  under_way-begin h = record { rest = ap (λ j. lengthened j longer test start) (let e : n - 0 ≡ n = omega arith in e); not_yet = h }

  step : (added : ℕ) (line : Line) (o : Option Line) → IsUnderWay added line → added < n → o ≡ longer line → lengthened n longer test start ≡ option_and_then (lengthened (n - (added + 1)) longer test) o
  step added line o w low e =
      sym w.rest
      ∙ ap (λ j. lengthened j longer test line) (let s : n - added ≡ suc (n - (added + 1)) = omega arith in s)
      ∙ lengthened-on longer test (n - (added + 1)) line w.not_yet
      ∙ ap (option_and_then (lengthened (n - (added + 1)) longer test)) (sym e)

  -- a leg more
  pub under_way-more : (added : ℕ) (line next : Line) → IsUnderWay added line → added < n → Some next ≡ longer line → test next ≡ false → IsUnderWay (added + 1) next
  under_way-more added line next w low e h = record { rest = sym (step added line (Some next) w low e); not_yet = h }

  -- a leg more, and the test passes
  pub way-found : (m : ℕ) (added : ℕ) (line next : Line) → IsUnderWay added line → n ≡ m → added < n → Some next ≡ longer line → test next ≡ true → Some next ≡ lengthened m longer test start
  way-found m added line next w all low e h =
      sym (lengthened-now (n - (added + 1)) longer test next h) ∙ sym (step added line (Some next) w low e) ∙ ap (λ k. lengthened k longer test start) all

  pub under_way-found : (refusal : Refusal) (added : ℕ) (line next : Line) → IsUnderWay added line → added < n → Some next ≡ longer line → test next ≡ true → found_or refusal (lengthened n longer test start) ≡ Ok next
  under_way-found refusal added line next w low e h =
      ap (found_or refusal) (step added line (Some next) w low e ∙ lengthened-now (n - (added + 1)) longer test next h)

  -- there is no leg more
  pub under_way-stuck : (refusal : Refusal) (added : ℕ) (line : Line) → IsUnderWay added line → added < n → None ≡ longer line → found_or refusal (lengthened n longer test start) ≡ Err refusal
  under_way-stuck refusal added line w low e = ap (found_or refusal) (step added line None w low e)

  -- as many legs as are allowed were added
  pub under_way-out : (refusal : Refusal) (added : ℕ) (line : Line) → IsUnderWay added line → n ≤ added → found_or refusal (lengthened n longer test start) ≡ Err refusal
  under_way-out refusal added line w low =
      ap (found_or refusal)
      (sym w.rest
      ∙ ap (λ j. lengthened j longer test line) (let s : n - added ≡ 0 = omega arith in s)
      ∙ on_by longer test (test line) line None w.not_yet)

  -- the test passes at once
  pub found_at_once : (refusal : Refusal) → test start ≡ true → found_or refusal (lengthened n longer test start) ≡ Ok start
  found_at_once refusal h = ap (found_or refusal) (lengthened-now n longer test start h)
