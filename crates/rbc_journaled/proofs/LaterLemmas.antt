-- Lemmas on what lines tell of histories that go on.
use Rattle.std.proofs.Common.{◌≡◌, ℕ, ◌<◌, ◌≤◌, List, [], ◌∷◌, length, take, Some, refl, sym, ap, ◌∙◌, subst, arith}
use Rattle.std.specs.Prelude.{slice_get}
use Rattle.std.proofs.lemmas.List.{take-take}
use Rattle.std.proofs.lemmas.Option.{slice_get_within}
use Rattle.rbc_sessions.specs.Later.{IsLater}
use Rattle.rbc_sessions.specs.Records.{begin_on, begin_of, HistoryOnTrack}
use Rattle.rbc_journal.specs.Journal.{recovered}
use Rattle.rbc_model.specs.Histories.{Beginning, Entry}
use Rattle.rbc_model.proofs.BasicLemmas.{slice_get-from_take}
use Rattle.rbc_group_commit.specs.Told.{HasLines}
use Rattle.rbc_journaled.specs.Adds.{Adds}
use Rattle.rbc_journaled.specs.Entries.{TellsEntry, TellsFirst}

module _ {A : Type 0} where
  abbrev last_of : A → List A → A
  last_of x [] = x
  last_of x (y ∷ ys) = last_of y ys

  last_stands : (x : A) (xs : List A) → slice_get (x ∷ xs) (length xs) ≡ Some (last_of x xs)
  last_stands x [] = refl
  last_stands x (y ∷ ys) = last_stands y ys

  -- where each place is below n, there are no more than n
  few : (xs : List A) (n : ℕ) → ((place : ℕ) (x : A) → slice_get xs place ≡ Some x → place < n) → length xs ≤ n
  few [] n below = omega arith
  few (x ∷ xs) n below = let less = below (length xs) (last_of x xs) (last_stands x xs) in omega (arith, less)

-- what a line tells of a history it tells of each that goes on from it
pub tells_later : (a b : HistoryOnTrack) → IsLater a b → (place : ℕ) (line : List ℕ) → TellsEntry a place line → TellsEntry b place line
tells_later a b later place line t =
    let n = length a.entries in
    let same : begin_of b ≡ begin_of a = λ i. begin_on (later.track i) (later.begin i) (later.most i) in
    let opening : a.entries ≡ take n b.entries = sym later.opening in
    let below = slice_get_within a.entries place t.entry t.stands in
    let front : take place a.entries ≡ take place b.entries = ap (take place) opening ∙ take-take place n b.entries (omega (arith, below)) in
    record {
      entry = t.entry;
      stands = slice_get-from_take n b.entries place t.entry (subst (λ (l : List Entry). slice_get l place ≡ Some t.entry) opening t.stands);
      adds = subst (λ (before : List Entry). Adds (begin_of b) before line t.entry) front
          (subst (λ (begin : Beginning). Adds begin (take place a.entries) line t.entry) (sym same) t.adds);
    }

pub tells_first : (history : HistoryOnTrack) (least : ℕ) (file : List ℕ) → HasLines (TellsEntry history) least file → TellsFirst history least file
tells_first history least file has = record {
  enough = has.enough;
  fits = few (recovered file) (length history.entries) (λ place line is. let t = has.told place line is in slice_get_within history.entries place t.entry t.stands);
  each = has.told;
}
