-- The greatest sound table's last price is the least loss: some profile that fits loses just that.
use Rattle.std.proofs.Common.{◌≡◌, refl, ap, sym, ◌∙◌, arith, subst, ℕ, zero, suc, ◌+◌, ◌-◌, ◌%◌, ◌<◌, ◌≤◌, inl, inr, List, [], ◌∷◌, length, Option}
use Rattle.std.proofs.Math.Nat.{eq-zero-or-pos}
use Rattle.rbc_model.specs.Levels.{Levels, IsLawful}
use Rattle.rbc_model.specs.Profiles.{value_at, loss, IsTrackFunction, Fits, IsBestProfile}
use Rattle.rbc_model.specs.PriceTables.{table_at, row_count, stretch_count, step_cost, break_at, IsGreatestSoundTable}
use Rattle.rbc_model.proofs.RunLemmas.{IsCovered}
use Rattle.rbc_table_laws.proofs.LeastLemmas.{least_between, floor_given, cost_is}
use Rattle.rbc_table_laws.proofs.WayLemmas.{Way, Reach}
use Rattle.rbc_table_laws.proofs.ChainLemmas.{AreBreaksInUnits, breaks_up, costs}
use Rattle.rbc_table_laws.proofs.TailLemmas.{IsTail, tail_dearer, tail_fits, tail_loss}
use Rattle.rbc_table_laws.proofs.FilledTableLemmas.{reached_of_greatest}
use Rattle.rbc_table_laws.proofs.BreakLemmas.{covered_of, are_breaks, break_whole, track_some}
use Rattle.rbc_table_laws.proofs.BoundLemmas.{price_at_most_loss, best_of_price}

module _ {V : Type 0} (levels : Levels V) (lawful : IsLawful levels) (unit limit n : ℕ) (track : ℕ → Option V) (covered : IsCovered levels lawful n track)
    (m : ℕ) (break : ℕ → ℕ) (are : AreBreaksInUnits levels unit limit n track m break) (whole : (i : ℕ) → i < m → break i % unit ≡ 0) where
  -- the steps of a way, before later ones
  pub record IsMade (k : ℕ) (later : List (ℕ × V)) (price : ℕ) : Type 0 where
    pub steps : List (ℕ × V)
    pub count : length steps ≡ k + length later
    pub tail : IsTail levels unit limit n track 0 steps price

  made_of : (k i price rest total : ℕ) (later : List (ℕ × V)) → i ≤ m → price + rest ≤ total → Way (costs levels unit limit n track m break) k i price
      → IsTail levels unit limit n track (break i) later rest → IsMade k later total
  made_of zero i price rest total later inside sum w t =
      let start : break i ≡ 0 = ap break w ∙ are.first in
      record {
        steps = later;
        count = omega arith;
        tail = tail_dearer levels unit limit n track 0 later rest total (omega arith) (subst (λ x. IsTail levels unit limit n track x later rest) start t);
      }
  made_of (suc k) i price rest total later inside sum w t =
      let from = w.0 in
      let rises = w.2 in
      let cost_sum = w.4 in
      let next = are.rise from (omega arith) in
      let up = breaks_up levels unit limit n track m break are (suc from) i rises inside in
      let end = breaks_up levels unit limit n track m break are i m inside (omega arith) in
      let last = are.last in
      let l = least_between levels n track lawful covered (break from) (break i) (omega arith) (omega arith) in
      let given = floor_given levels n track lawful covered (break from) (break i) (omega arith) (omega arith) l in
      let cost = cost_is levels n track lawful covered (break from) (break i) (omega arith) l in
      let made = made_of k from w.1 (costs levels unit limit n track m break from i + rest) total ((break from, levels.floor l.least) ∷ later) (omega arith) (omega arith) w.3
      (break i, rest, refl, omega arith, whole from (omega arith), given, omega arith, t) in
      let count = made.count in
      record { steps = made.steps; count = omega arith; tail = made.tail }

  -- a way to the end gives a profile that loses no more
  pub record IsProfileWithin (price : ℕ) : Type 0 where
    pub steps : List (ℕ × V)
    pub fits : Fits levels unit limit n track steps
    pub within : loss levels n track steps ≤ price

  pub profile_of_way : (price : ℕ) → 0 < n → Reach (costs levels unit limit n track m break) limit m price → IsProfileWithin price
  profile_of_way price some r =
      let few = r.1 in
      let made = made_of r.0 m price 0 price [] (omega arith) (omega arith) r.2 are.last in
      let count = made.count in
      record {
        steps = made.steps;
        fits = tail_fits levels unit limit n track lawful covered made.steps price some (omega arith) made.tail;
        within = tail_loss levels unit limit n track made.steps price made.tail;
      }

module _ {V : Type 0} (levels : Levels V) (lawful : IsLawful levels) (unit limit n : ℕ) (some : 0 < unit) (whole : n % unit ≡ 0) (some_steps : 0 < limit)
    (runs : List (ℕ × V)) (track : IsTrackFunction levels n runs) (rows : List (List ℕ)) (greatest : IsGreatestSoundTable levels unit limit n runs rows) where
  abbrev last_price : ℕ
  last_price = table_at rows (row_count levels unit limit n runs) (stretch_count levels unit limit n runs)

  pub record IsAttained : Type 0 where
    pub steps : List (ℕ × V)
    pub best : IsBestProfile levels unit limit n (value_at runs) steps
    pub price : loss levels n (value_at runs) steps ≡ last_price

  some_stretches : 0 < stretch_count levels unit limit n runs
  some_stretches =
      let are = are_breaks levels lawful unit limit n some whole runs track in
      let first = are.first in
      let last = are.last in
      let metre = track_some levels n runs track in
      elim (eq-zero-or-pos (stretch_count levels unit limit n runs)) [
        | inl none ↦
            let same : break_at levels unit limit n runs (stretch_count levels unit limit n runs) ≡ break_at levels unit limit n runs 0 = ap (break_at levels unit limit n runs) none in
            absurd (omega arith)
        | inr h ↦ h
      ]

  reach_last : (r : ℕ) → row_count levels unit limit n runs ≡ suc r → Reach (step_cost levels unit limit n runs) limit (stretch_count levels unit limit n runs) last_price
  reach_last r e =
      let reached = reached_of_greatest levels unit limit n runs rows greatest r (stretch_count levels unit limit n runs) (omega arith) (omega arith) in
      let few = reached.1 in
      (reached.0, omega arith, subst (λ j. Way (step_cost levels unit limit n runs) reached.0 (stretch_count levels unit limit n runs) (table_at rows j (stretch_count levels unit limit n runs))) (sym e) reached.2)

  pub attained : IsAttained
  attained =
      let stretches = some_stretches in
      let found = profile_of_way levels lawful unit limit n (value_at runs) (covered_of levels lawful n runs track) (stretch_count levels unit limit n runs) (break_at levels unit limit n runs)
      (are_breaks levels lawful unit limit n some whole runs track) (break_whole levels lawful unit limit n some whole runs track) last_price (track_some levels n runs track)
      (reach_last (row_count levels unit limit n runs - 1) (omega arith)) in
      let low = price_at_most_loss levels lawful unit limit n some whole runs track rows greatest.sound found.steps found.fits in
      let high = found.within in
      let price : loss levels n (value_at runs) found.steps ≡ last_price = omega arith in
      record {
        steps = found.steps;
        best = best_of_price levels lawful unit limit n some whole runs track rows greatest.sound found.steps found.fits price;
        price = price;
      }

  -- so each best profile loses just that
  pub price_of_best : (steps : List (ℕ × V)) → IsBestProfile levels unit limit n (value_at runs) steps → loss levels n (value_at runs) steps ≡ last_price
  price_of_best steps best =
      let there = attained in
      let is = there.price in
      let less = best.least there.steps there.best.fits in
      let more = price_at_most_loss levels lawful unit limit n some whole runs track rows greatest.sound steps best.fits in
      omega arith
