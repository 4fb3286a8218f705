-- A step that goes on to the next break: its least value, and the costs that are written.
use Rattle.std.proofs.Common.{◌≡◌, refl, ap, sym, ◌∙◌, arith, subst, ℕ, zero, suc, ◌+◌, ◌-◌, ◌*◌, ◌<◌, ◌≤◌, inl, inr, true, false, List, [], ◌∷◌, ◌++◌, length, get_or, set, Some, if◌then◌else◌}
use Rattle.std.specs.List.{slice_get}
use Rattle.std.proofs.lemmas.List.{get_or-set_other}
use Rattle.std.proofs.lemmas.Grind.{get_or-set_at}
use Rattle.rbc_model.specs.Levels.{Levels, IsInRange, IsLawful}
use Rattle.rbc_model.specs.Profiles.{StepFunction, IsTrackFunction}
use Rattle.rbc_model.proofs.ScanLemmas.{at_or_past}
use Rattle.rbc_table_laws.specs.Breaks.{IsLowest, IsBelowAll, lost_below}
use Rattle.rbc_table_laws.specs.Stretches.{breaks_for, cost_of_step}
use Rattle.rbc_table_laws.proofs.StretchLemmas.{floor_range, floor_under, below_part, lower_lowest_back, least_before, cost_is, lost_is, breaks_rise_to, breaks_to_end}
use Rattle.rbc_stretches.specs.OnTracks.{IsStretch}
use Rattle.rbc_stretches.specs.declared.stretch.Stretch.{Stretch}
use Rattle.rbc_costs.specs.Stretches.{AreStretches, IsLostByFloor}

-- the lower one of two values, where it is known which one that is
module _ {V : Type 0} (levels : Levels V) where
  pub kept : (least here : V) → levels.at_most least here ≡ true → least ≡ (if levels.at_most least here then least else here)
  kept least here e = rw e refl

  pub fallen : (least here : V) → levels.at_most least here ≡ false → here ≡ (if levels.at_most least here then least else here)
  fallen least here e = rw e refl

module _ {V : Type 0} (levels : Levels V) (lawful : IsLawful levels) (track : StepFunction V) (function : IsTrackFunction levels track.end track.steps) where
  -- one stretch more in front: the lower one of both values is the least
  pub lower_in_front : (from mid to : ℕ) (here least now : V) → to ≤ track.end → IsLowest levels track from mid here → IsLowest levels track mid to least
      → now ≡ (if levels.at_most least here then least else here) → IsLowest levels track from to now
  lower_in_front from mid to here least now end first second is = rw is (lower_lowest_back levels lawful track function from mid to here least end first second)

-- ---- stretches by index

-- the stretch before a break ends there
pub ends_at : {V : Type 0} (unit : ℕ) (track : StepFunction V) (i : ℕ) (stretch : Stretch) → 0 < i → IsStretch unit track (i - 1) stretch → stretch.to ≡ get_or (breaks_for unit track) i 0
ends_at unit track i stretch h stands =
    let next : i - 1 + 1 ≡ i = omega arith in
    stands.to ∙ ap (λ k. get_or (breaks_for unit track) k 0) next

module _ {V : Type 0} (levels : Levels V) (unit : ℕ) (track : StepFunction V) (stretches : List (Stretch × V)) (are : AreStretches levels unit track stretches) where
  -- break i
  abbrev pub at : ℕ → ℕ
  at i = get_or (breaks_for unit track) i 0

  pub rises : (i j : ℕ) → i ≤ j → j ≤ length stretches → at i ≤ at j
  rises i j h inside = let count = are.count in breaks_rise_to unit track (breaks_for unit track) are.breaks i j h (omega arith)

  pub near : (i : ℕ) → i ≤ length stretches → at i ≤ track.end
  near i inside = let count = are.count in breaks_to_end unit track (breaks_for unit track) are.breaks i (omega arith)

  pub least_there : (i : ℕ) (s : Stretch × V) → slice_get stretches i ≡ Some s → IsLowest levels track (at i) (at (i + 1)) s.1
  least_there i s there =
      let stands = are.stand i s there in
      let from = subst (λ k. IsLowest levels track k s.0.to s.1) stands.from (are.least i s there) in
      subst (λ k. IsLowest levels track (at i) k s.1) stands.to from

  module _ (lawful : IsLawful levels) (function : IsTrackFunction levels track.end track.steps) where
    -- what the floor of a step's least value loses is what the step costs
    pub cost_of_floor : (i to : ℕ) → to ≤ length stretches → (least : V) (price : ℕ) → IsLowest levels track (at i) (at to) least
        → IsLostByFloor levels track (at i) (at to) least price → price ≡ cost_of_step levels unit track i to
    cost_of_floor i to inside least price l by = cost_is levels lawful track function (at i) (at to) least (near to inside) l price by.lost

    -- its floor may be given on each stretch
    pub flat_given : (i to : ℕ) (s : Stretch × V) → slice_get stretches i ≡ Some s → i + 1 ≤ to → to ≤ length stretches → (new given : V) → IsLowest levels track (at i) (at to) new → given ≡ levels.floor new
        → IsInRange levels given × IsBelowAll levels track s.0.from s.0.to given
    flat_given i to s there more inside new given l is =
        let stands = are.stand i s there in
        let from = stands.from in
        let up = stands.to in
        let last = rises (i + 1) to more inside in
        let end = near to inside in
        let range = floor_range levels lawful track function (at i) (at to) new end l in
        let under = floor_under levels lawful track function (at i) (at to) new end l in
        let part = below_part levels lawful track function (at i) (at to) s.0.from s.0.to (levels.floor new) (omega arith) (omega arith) under in
        rw is (range, part)

    -- and what it loses on one stretch more
    pub flat_more : (i to : ℕ) (s : Stretch × V) → slice_get stretches i ≡ Some s → (new given : V) (price here : ℕ) → given ≡ levels.floor new
        → lost_below levels track given s.0.from + here ≡ lost_below levels track given s.0.to → s.0.from * 1000000 + here ≤ s.0.to * 1000000
        → IsLostByFloor levels track (at (i + 1)) (at to) new price → IsLostByFloor levels track (at i) (at to) new (price + here)
    flat_more i to s there new given price here is lost bound by =
        let stands = are.stand i s there in
        let from = subst (λ k. lost_below levels track given k + here ≡ lost_below levels track given s.0.to) stands.from lost in
        let both = subst (λ k. lost_below levels track given (at i) + here ≡ lost_below levels track given k) stands.to from in
        let one = subst (λ v. lost_below levels track v (at i) + here ≡ lost_below levels track v (at (i + 1))) is both in
        let low = stands.from in
        let high = stands.to in
        let behind = by.lost in
        let more = by.bound in
        record { lost = omega arith; bound = omega arith }

    -- where a stretch before the last one is lower, the step costs what it cost and what its floor loses on the last one
    pub cost_of_fallen : (i last to : ℕ) → i ≤ last → last ≤ to → to ≤ length stretches → (now new : V) (old on_last : ℕ) → IsLowest levels track (at i) (at to) now → IsLowest levels track (at last) (at to) new
        → levels.at_most new now ≡ false → old ≡ cost_of_step levels unit track i last → IsLostByFloor levels track (at last) (at to) now on_last → old + on_last ≡ cost_of_step levels unit track i to
    cost_of_fallen i last to h k inside now new old on_last l n e is by =
        let end = near to inside in
        let before = near last (omega arith) in
        let fell = least_before levels lawful track function (at i) (at last) (at to) now new end (rises i last h (omega arith)) l n e in
        let lost_before = lost_is levels lawful track function (at i) (at last) now before fell in
        let behind = by.lost in
        let sum : lost_below levels track (levels.floor now) (at i) + (old + on_last) ≡ lost_below levels track (levels.floor now) (at to) = omega arith in
        cost_is levels lawful track function (at i) (at to) now end l (old + on_last) sum

-- the costs that are written, from the last one to the first

pub written_more : (costs : List ℕ) (i to price : ℕ) (f : ℕ → ℕ) → i < length costs → price ≡ f i
    → ((k : ℕ) → i + 1 ≤ k → k < to → get_or costs k 0 ≡ f k) → (k : ℕ) → i ≤ k → k < to → get_or (set costs i price) k 0 ≡ f k
written_more costs i to price f room here behind k low high =
    elim (at_or_past i k low) [
      | inl e ↦ get_or-set_at costs i k price 0 (omega arith) room ∙ here ∙ ap f (sym e)
      | inr l ↦ get_or-set_other costs i k price 0 (omega arith) ∙ behind k l high
    ]

pub small_more : (costs : List ℕ) (i to price most : ℕ) → i < length costs → price ≤ most
    → ((k : ℕ) → i + 1 ≤ k → k < to → get_or costs k 0 ≤ most) → (k : ℕ) → i ≤ k → k < to → get_or (set costs i price) k 0 ≤ most
small_more costs i to price most room here behind k low high =
    elim (at_or_past i k low) [
      | inl e ↦ let at = get_or-set_at costs i k price 0 (omega arith) room in omega arith
      | inr l ↦ let other = get_or-set_other costs i k price 0 (omega arith) in let b = behind k l high in omega arith
    ]

-- what holds of each item, and of one more
pub each_more : {A : Type 0} (P : ℕ → A → Type 0) (xs : List A) (new : A) → ((i : ℕ) (x : A) → slice_get xs i ≡ Some x → P i x) → P (length xs) new
    → (i : ℕ) (x : A) → slice_get (xs ++ new ∷ []) i ≡ Some x → P i x
each_more P [] new old here zero x at = let same : new ≡ x = cc in subst (P 0) same here
each_more P [] new old here (suc i) x at = absurd (cc)
each_more P (y ∷ ys) new old here zero x at = old zero x at
each_more P (y ∷ ys) new old here (suc i) x at = each_more (λ k. P (suc k)) ys new (λ k. old (suc k)) here i x at
