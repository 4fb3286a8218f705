-- The ends that a scene allows: the tests are the facts, and the greatest end is the greatest.
use Rattle.std.proofs.Common.{◌≡◌, ℕ, ◌+◌, ◌-◌, ◌<◌, ◌≤◌, max, Bool, true, false, ◌&&◌, Option, Some, None, refl, arith, ◌⊎◌, inl, inr, nat_lt, nat_le}
use Rattle.std.specs.Prelude.{is_none}
use Rattle.std.specs.List.{list_all}
use Rattle.std.proofs.lemmas.Bool.{leb-true, ltb-true, lt-ltb, le-leb, both_ways}
use Rattle.rbc_model.specs.Tracks.{Track}
use Rattle.rbc_model.specs.Lines.{places}
use Rattle.rbc_model.specs.Trains.{Train}
use Rattle.rbc_model.specs.Scenes.{Scene}
use Rattle.rbc_model.specs.Obstacles.{obstacle, is_clear}
use Rattle.rbc_model.specs.Histories.{EndsFarthest, Grants}
use Rattle.rbc_model.specs.Views.{way_end, start_of, IsSafe, is_safe, is_expressible_end, reach, greatest_end}
use Rattle.rbc_model.proofs.ScanLemmas.{all_numbers, numbers_all, IsLast, filter-numbers, filter-numbers_none, first_blocked-before, first_blocked-le, first_blocked-is, le_or_lt}
use Rattle.std.specs.Cmp.{first_so, second_so}

none_there : {X : Type 0} (o : Option X) → is_none o ≡ true → o ≡ None
none_there None h = refl
none_there (Some x) h = cc

none_told : {X : Type 0} (o : Option X) → o ≡ None → is_none o ≡ true
none_told None h = refl
none_told (Some x) h = cc

-- what the test passes is safe
pub IsSafe-is_safe : (track : Track) (scene : Scene) (train : Train) (end : ℕ) → is_safe track scene train end ≡ true → IsSafe track scene train end
IsSafe-is_safe track scene train end h =
    let first = first_so (nat_lt train.front end && nat_le train.to end) (list_all (is_clear track scene train) (places (start_of train) end)) h in
    let all = second_so (nat_lt train.front end && nat_le train.to end) (list_all (is_clear track scene train) (places (start_of train) end)) h in
    record {
      beyond_front = ltb-true train.front end (first_so (nat_lt train.front end) (nat_le train.to end) first);
      takes_none_back = leb-true train.to end (second_so (nat_lt train.front end) (nat_le train.to end) first);
      clear = λ i low high. none_there (obstacle track scene train i) (all_numbers (is_clear track scene train) (start_of train) (end - start_of train) all i low (omega arith));
    }

three : (a b c : Bool) → a ≡ true → b ≡ true → c ≡ true → (a && b && c) ≡ true
three a b c e f g = rw (e, f, g) refl

-- and what is safe passes the test
pub is_safe-IsSafe : (track : Track) (scene : Scene) (train : Train) (end : ℕ) → IsSafe track scene train end → is_safe track scene train end ≡ true
is_safe-IsSafe track scene train end s =
    three (nat_lt train.front end) (nat_le train.to end) (list_all (is_clear track scene train) (places (start_of train) end))
    (lt-ltb train.front end s.beyond_front)
    (le-leb train.to end s.takes_none_back)
    (numbers_all (is_clear track scene train) (start_of train) (end - start_of train) (λ i low high. none_told (obstacle track scene train i) (s.clear i low (omega arith))))

-- no place before the reach has an obstacle
pub obstacle-before_reach : (track : Track) (scene : Scene) (train : Train) (i : ℕ) → start_of train ≤ i → i < reach track scene train → obstacle track scene train i ≡ None
obstacle-before_reach track scene train i low high =
    none_there (obstacle track scene train i) (first_blocked-before (is_clear track scene train) (start_of train) (way_end track scene train) i low high)

-- the reach lies on the continued line or at its end
pub reach-le : (track : Track) (scene : Scene) (train : Train) → reach track scene train ≤ way_end track scene train
reach-le track scene train = first_blocked-le (is_clear track scene train) (start_of train) (way_end track scene train)

-- something stands at the reach
abbrev pub IsStopped : Track → Scene → Train → Type 0
IsStopped track scene train = obstacle track scene train (reach track scene train) ≡ None → ⊥

-- an end is safe exactly where it lies from the front + 1 and from `to` on, up to the reach
pub IsSafe-up_to_reach : (track : Track) (scene : Scene) (train : Train) (end : ℕ) → train.front < end → train.to ≤ end → end ≤ reach track scene train → IsSafe track scene train end
IsSafe-up_to_reach track scene train end beyond keeps near =
    record { beyond_front = beyond; takes_none_back = keeps; clear = λ i low high. obstacle-before_reach track scene train i low (let j : i < reach track scene train = omega arith in j) }

pub le_reach-IsSafe : (track : Track) (scene : Scene) (train : Train) (end : ℕ) → start_of train ≤ reach track scene train → IsStopped track scene train → IsSafe track scene train end → end ≤ reach track scene train
le_reach-IsSafe track scene train end low stopped s = by_order (reach track scene train) (le_or_lt end (reach track scene train)) low stopped
  where
    by_order : (r : ℕ) → (end ≤ r) ⊎ (r < end) → start_of train ≤ r → (obstacle track scene train r ≡ None → ⊥) → end ≤ r
    by_order r (inl near) begins stands = near
    by_order r (inr far) begins stands = absurd (stands (s.clear r begins far))

-- the greatest end: it is safe, a message can give it, and no end beyond it is both
pub record IsGreatestEnd (track : Track) (scene : Scene) (train : Train) (end : ℕ) : Type 0 where
  pub safe : IsSafe track scene train end
  pub expressible : is_expressible_end track train end ≡ true
  pub greatest : (farther : ℕ) → end < farther → is_expressible_end track train farther ≡ true → IsSafe track scene train farther → ⊥

pub IsGreatestEnd-greatest_end : (track : Track) (scene : Scene) (train : Train) (end : ℕ) → start_of train ≤ reach track scene train → IsStopped track scene train → greatest_end track scene train ≡ Some end → IsGreatestEnd track scene train end
IsGreatestEnd-greatest_end track scene train end low stopped h = from_last (filter-numbers (is_expressible_end track train) (max (train.front + 1) train.to) (reach track scene train + 1 - max (train.front + 1) train.to) end h)
  where
    from_last : IsLast (is_expressible_end track train) (max (train.front + 1) train.to) (reach track scene train + 1 - max (train.front + 1) train.to) end → IsGreatestEnd track scene train end
    from_last l =
        let begins = l.low in
        let ends = l.high in
        record {
          safe = IsSafe-up_to_reach track scene train end (omega arith) (omega arith) (omega arith);
          expressible = l.passes;
          greatest = λ farther beyond told s. let near = le_reach-IsSafe track scene train farther low stopped s in both_ways (is_expressible_end track train farther) (l.behind farther beyond (omega arith)) told;
        }

-- where there is no greatest end, no end is safe that a message can give
pub none_safe-greatest_end : (track : Track) (scene : Scene) (train : Train) → start_of train ≤ reach track scene train → IsStopped track scene train → greatest_end track scene train ≡ None → (end : ℕ) → is_expressible_end track train end ≡ true → IsSafe track scene train end → ⊥
none_safe-greatest_end track scene train low stopped h end told s =
    let near = le_reach-IsSafe track scene train end low stopped s in
    let beyond = s.beyond_front in
    let keeps = s.takes_none_back in
    both_ways (is_expressible_end track train end) (filter-numbers_none (is_expressible_end track train) (max (train.front + 1) train.to) (reach track scene train + 1 - max (train.front + 1) train.to) h end (omega arith) (omega arith)) told

some_told : {X : Type 0} (o : Option X) (x : X) → o ≡ Some x → is_none o ≡ false
some_told o x h = rw h refl

-- the obstacle that a grant names stands at the reach
pub reach-EndsFarthest : (track : Track) (scene : Scene) (grant : Grants) (train : Train) (ends : EndsFarthest track scene grant train) → reach track scene train ≡ ends.place
reach-EndsFarthest track scene grant train ends =
    let stands = ends.stopped in
    let beyond = stands.beyond in
    let safe = ends.safe in
    let front = safe.beyond_front in
    first_blocked-is (is_clear track scene train) (start_of train) (way_end track scene train) ends.place (omega arith) stands.on_way
    (some_told (obstacle track scene train ends.place) grant.obstacle stands.real)
    (λ i low high. none_told (obstacle track scene train i) (stands.first i low high))
