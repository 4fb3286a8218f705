-- The runs of a track's first metres, made metre by metre, are a track in its one spelling.
use Rattle.std.proofs.Common.{◌≡◌, ℕ, zero, suc, ◌+◌, ◌<◌, ◌≤◌, Bool, true, false, List, [], ◌∷◌, ◌++◌, length, get_or, Option, Some, refl, arith, nat_lt, if◌then◌else◌}
use Rattle.std.specs.Option.{option_map_or}
use Rattle.std.specs.List.{list_all}
use Rattle.std.proofs.lemmas.Bool.{lt-ltb, ltb-true, and_from}
use Rattle.rbc_model.specs.Levels.{Levels, is_same, IsInRange, IsLawful}
use Rattle.rbc_model.specs.Profiles.{value_at, starts_of, runs_over, IsTrackFunction}
use Rattle.rbc_model.proofs.RunLemmas.{IsCovered}
use Rattle.rbc_model.proofs.StepListLemmas.{all_split}
use Rattle.rbc_steps.proofs.JoinLemmas.{IsTrackFunction-append}
use Rattle.rbc_steps.proofs.PlaceLemmas.{value_at-index, below_end}

-- what lies below an end lies below a later one
inside_more : (n m : ℕ) (starts : List ℕ) → n ≤ m → list_all (λ start. nat_lt start n) starts ≡ true → list_all (λ start. nat_lt start m) starts ≡ true
inside_more n m [] h e = refl
inside_more n m (start ∷ starts) h e = let a = all_split (λ start. nat_lt start n) start starts e in and_from _ _ (lt-ltb start m (omega (arith, ltb-true start n a.0))) (inside_more n m starts h a.1)

module _ {V : Type 0} (levels : Levels V) (lawful : IsLawful levels) where
  -- from the last start on stands the last value
  last_value : (n : ℕ) (rows : List (ℕ × V)) (i : ℕ) (d : ℕ × V) → IsTrackFunction levels n rows → i + 1 ≡ length rows → value_at rows n ≡ Some (get_or rows i d).1
  last_value n rows i d track e =
      value_at-index rows i n d (omega arith) (let low = below_end n rows i d track.starts.inside (omega arith) in omega arith) (λ k h l. absurd (omega arith))

  wider : (n : ℕ) (rows : List (ℕ × V)) → IsTrackFunction levels n rows → IsTrackFunction levels (suc n) rows
  wider n rows track = record {
    starts = record { rising = track.starts.rising; inside = inside_more n (suc n) (starts_of rows) (omega arith) track.starts.inside };
    values = track.values;
    once = track.once;
  }

  differs : (v w : V) (o : Option V) → o ≡ Some w → option_map_or (is_same levels v) o false ≡ false → is_same levels v w ≡ false
  differs v w o e h = rw e at h

  -- one metre more: the last run goes on, or another begins
  one_more : (b : Bool) (n : ℕ) (rows : List (ℕ × V)) (v : V) → IsTrackFunction levels n rows → IsInRange levels v → option_map_or (is_same levels v) (value_at rows n) false ≡ b
      → IsTrackFunction levels (suc n) (if b then rows else rows ++ (n, v) ∷ [])
  one_more true n rows v track r e = wider n rows track
  one_more false n rows v track r e =
      IsTrackFunction-append levels n (suc n) rows ((n, v) ∷ []) (omega arith) track (λ low h. and_from _ _ (lt-ltb low n h) refl) (and_from _ _ (lt-ltb n (suc n) (omega arith)) refl) (and_from _ _ r refl) refl
      (λ i d f h. differs v (get_or rows i d).1 (value_at rows n) (last_value n rows i d track f) e)

  one_run : (v : V) → IsInRange levels v → IsTrackFunction levels 1 ((0, v) ∷ [])
  one_run v r = record { starts = record { rising = refl; inside = refl }; values = and_from _ _ r refl; once = refl }

  made_of_one_more : (n : ℕ) (level : ℕ → Option V) → IsCovered levels lawful (suc n) level → IsTrackFunction levels (suc n) (runs_over levels (suc n) level)
  made_of_one_more zero level cover = let here = cover 0 (omega arith) in rw here.1 (one_run here.0 here.2)
  made_of_one_more (suc n) level cover =
      let here = cover (suc n) (omega arith) in
      let rows = runs_over levels (suc n) level in
      let before : IsTrackFunction levels (suc n) rows = made_of_one_more n level (λ x h. cover x (omega arith)) in
      rw here.1 (one_more (option_map_or (is_same levels here.0) (value_at rows (suc n)) false) (suc n) rows here.0 before here.2 refl)

  -- so are the runs over one metre or more
  pub IsTrackFunction-runs_over : (n : ℕ) (level : ℕ → Option V) → 0 < n → IsCovered levels lawful n level → IsTrackFunction levels n (runs_over levels n level)
  IsTrackFunction-runs_over zero level some cover = absurd (omega arith)
  IsTrackFunction-runs_over (suc n) level some cover = made_of_one_more n level cover
