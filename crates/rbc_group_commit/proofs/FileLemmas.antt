-- Lemmas on files whose lines tell entries.
use Rattle.std.proofs.Common.{◌≡◌, ℕ, zero, suc, ◌≤◌, ⊎_elim, List, [], ◌∷◌, ◌++◌, length, sym, subst, arith, length-append, Some}
use Rattle.std.proofs.lemmas.Option.{none-some, same_Some}
use Rattle.std.specs.Prelude.{slice_get}
use Rattle.rbc_journal.specs.Journal.{recovered, IsBeforeOrAfter}
use Rattle.rbc_journal.specs.Settled.{HasRoom}
use Rattle.rbc_journal.specs.declared.journal.Journal.{Journal}
use Rattle.rbc_group_commit.specs.Told.{AreTold, HasLines}

module _ {A : Type 0} where
  -- what stands in the front stands in the whole
  pub front_get : (xs ys : List A) (place : ℕ) (x : A) → slice_get xs place ≡ Some x → slice_get (xs ++ ys) place ≡ Some x
  front_get [] ys place x is = absurd (none-some x is)
  front_get (y ∷ xs) ys zero x is = is
  front_get (y ∷ xs) ys (suc place) x is = front_get xs ys place x is

  -- what holds of all, place by place, and of one more behind them
  pub by_place : (P : ℕ → A → Type 0) (xs : List A) (last : A) → ((place : ℕ) (x : A) → slice_get xs place ≡ Some x → P place x) → P (length xs) last
      → (place : ℕ) (x : A) → slice_get (xs ++ last ∷ []) place ≡ Some x → P place x
  by_place P [] last all here zero x is = subst (P 0) (same_Some last x is) here
  by_place P [] last all here (suc place) x is = absurd (none-some x is)
  by_place P (y ∷ xs) last all here zero x is = all 0 x is
  by_place P (y ∷ xs) last all here (suc place) x is = by_place (λ k. P (suc k)) xs last (λ k. all (suc k)) here place x is

-- where there is room for a line there is for a shorter one
pub less_room : {D : Type 0} (journal : Journal D) (more bytes : ℕ) → bytes ≤ more → HasRoom journal more → HasRoom journal bytes
less_room journal more bytes fewer room = record { memory = omega (arith, fewer, room.memory); file = omega (arith, fewer, room.file) }

module _ (tells : ℕ → List ℕ → Type 0) where
  -- the lines in front of others
  pub told_front : (xs ys : List (List ℕ)) → AreTold tells (xs ++ ys) → AreTold tells xs
  told_front xs ys told = λ place line is. told place line (front_get xs ys place line is)

  -- a file with the lines from before a write or from after it
  pub before_or_after : (lines more : List (List ℕ)) (least : ℕ) (file : List ℕ) → AreTold tells (lines ++ more) → least ≤ length lines → IsBeforeOrAfter lines more file → HasLines tells least file
  before_or_after lines more least file told few left = ⊎_elim
      (λ (was : recovered file ≡ lines). record {
        enough = subst (λ (l : List (List ℕ)). least ≤ length l) (sym was) few;
        told = subst (AreTold tells) (sym was) (told_front lines more told);
      })
      (λ (is : recovered file ≡ lines ++ more). record {
        enough = subst (λ (l : List (List ℕ)). least ≤ length l) (sym is) (omega (arith, few, length-append lines more));
        told = subst (AreTold tells) (sym is) told;
      })
      left
