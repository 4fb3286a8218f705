-- Columns of a tile, begun before its prices are known.
use Rattle.std.proofs.Common.{◌≡◌, refl, ap, sym, ◌∙◌, arith, subst, ℕ, zero, suc, ◌+◌, ◌-◌, ◌*◌, ◌/◌, ◌%◌, ◌<◌, ◌≤◌, List, [], ◌∷◌, ◌++◌, inl, inr, length, get_or, map, min, Some, Result, Ok, Err}
use Rattle.std.specs.Prelude.{IfOk, MatchResult, Contains}
use Rattle.std.specs.Global.{Vec}
use Rattle.std.specs.List.{AllZip, range_with_len, slice_get}
use Rattle.std.proofs.lemmas.List.{length-map}
use Rattle.std.proofs.lemmas.Option.{slice_get-get_or}
use Rattle.std.proofs.lemmas.List.FromFn.{get_or-map-range_with_len, length-map-range_with_len}
use Rattle.rbc_model.specs.Levels.{Levels}
use Rattle.rbc_model.specs.Profiles.{StepFunction}
use Rattle.rbc_model.specs.Scales.{unit_of}
use Rattle.rbc_table_laws.specs.Stretches.{cost_of_step}
use Rattle.rbc_costs.specs.declared.sums.Four.{Four}
use Rattle.rbc_costs.specs.Stretches.{AreCosts}
use Rattle.rbc_costs.proofs.TotalLemmas.{lesser, small_totals}
use Rattle.rbc_reduce.specs.Rows.{AreFilled, IsCheapest, IsColumnMore, IsPriceMore, price_up_to, row_in}
use Rattle.rbc_reduce.specs.Tiles.{AreBegun, AreCostsFrom, AreCut, AreLeast, ArePartsOf, IsBegun, IsGroup, IsPart, nth_of}
use Rattle.rbc_reduce.specs.declared.parts.Group.{Group}
use Rattle.rbc_reduce.proofs.RowLemmas.{filled_more, same_cheapest, same_up}

pub some_inside : {A : Type 0} (xs : List A) (i : ℕ) (x : A) → slice_get xs i ≡ Some x → i < length xs
some_inside [] i x e = absurd (cc e)
some_inside (y ∷ xs) zero x e = omega arith
some_inside (y ∷ xs) (suc i) x e = let h = some_inside xs i x e in omega arith

pub some_is : {A : Type 0} (x y : A) → Some x ≡ Some y → x ≡ y
some_is x y e = cc e

-- ---- the last column in place of those behind it

pub min_low : (last a first : ℕ) → first ≤ last → first ≤ a → first ≤ min last a
min_low last a first h k = grind arith

pub min_high : (last a : ℕ) → min last a ≤ last
min_high last a = grind arith

pub min_first : (a b : ℕ) → min a b ≤ a
min_first a b = grind arith

pub min_second : (a b : ℕ) → min a b ≤ b
min_second a b = grind arith

pub min_some : (a b : ℕ) → 0 < a → 0 < b → 0 < min a b
min_some a b h k = grind arith

pub begin_place : (from end before groups : ℕ) → before ≡ from → groups ≡ 0 → from ≤ end → before ≡ min end (from + 4 * groups)
begin_place from end before groups is none rises = elim (lesser end (from + 4 * groups)) [
  | inl a ↦ let e = a.0 in let l = a.1 in omega arith
  | inr b ↦ let e = b.0 in omega arith
]

pub next_place : (from end before groups count : ℕ) → before ≡ min end (from + 4 * groups) → before < end → count ≡ min 4 (end - before) → (before ≡ from + 4 * groups) × (before + count ≡ min end (from + 4 * (groups + 1)))
next_place from end before groups count is less four = elim (lesser end (from + 4 * groups)) [
  | inl a ↦ let e = a.0 in absurd (omega arith)
  | inr b ↦
      let e = b.0 in
      let next : before + count ≡ min end (from + 4 * (groups + 1)) = elim (lesser end (from + 4 * (groups + 1))) [
        | inl c ↦ let f = c.0 in let l = c.1 in elim (lesser 4 (end - before)) [
          | inl d ↦ let k = d.0 in let m = d.1 in omega arith
          | inr d ↦ let k = d.0 in omega arith
        ]
        | inr c ↦ let f = c.0 in let l = c.1 in elim (lesser 4 (end - before)) [
          | inl d ↦ let k = d.0 in omega arith
          | inr d ↦ let k = d.0 in let m = d.1 in omega arith
        ]
      ] in
      (omega arith, next)
]

pub end_place : (from end before groups : ℕ) → before ≡ min end (from + 4 * groups) → end ≤ before → end ≤ from + 4 * groups
end_place from end before groups is done = elim (lesser end (from + 4 * groups)) [
  | inl a ↦ a.1
  | inr b ↦ let e = b.0 in omega arith
]

pub min_is : (last a : ℕ) → a ≤ last → min last a ≡ a
min_is last a h = grind arith

-- ---- the least price, of a row and a column

pub cheapest_at : {N : Type 0} (number : N → ℕ) (before costs : List N) (row : List ℕ) (column : Vec N) (price : ℕ) → map number before ≡ row → costs ≡ column.items
    → IsCheapest (price_up_to (map number before)) (λ k. get_or (map number costs) k 0) (length before + 1) price
    → IsCheapest (price_up_to row) (λ k. get_or (map number column.items) k 0) (length row + 1) price
cheapest_at number before costs row column price is same c =
    let long : length before + 1 ≡ length (map number before) + 1 = let e = length-map before number in omega arith in
    subst (λ r. IsCheapest (price_up_to r) (λ k. get_or (map number column.items) k 0) (length r + 1) price) is
    (subst (λ n. IsCheapest (price_up_to (map number before)) (λ k. get_or (map number column.items) k 0) n price) long
    (subst (λ xs. IsCheapest (price_up_to (map number before)) (λ k. get_or (map number xs) k 0) (length before + 1) price) same c))

-- ---- what holds of each number of a range and what was found for it

pub zip_at : {Y : Type 0} (R : ℕ → Y → Type 0) (a n : ℕ) (ys : List Y) → AllZip R (range_with_len a n) ys → (k : ℕ) (y : Y) → slice_get ys k ≡ Some y → R (a + k) y
zip_at R a zero [] z k y e = absurd (cc e)
zip_at R a zero (x ∷ ys) z k y e = absurd z
zip_at R a (suc n) [] z k y e = absurd z
zip_at R a (suc n) (x ∷ ys) z zero y e = let same : a ≡ a + 0 = omega arith in let is : x ≡ y = cc e in subst (λ m. R m y) same (subst (R a) is z.0)
zip_at R a (suc n) (x ∷ ys) z (suc k) y e =
    let same : a + 1 + k ≡ a + suc k = omega arith in
    subst (λ m. R m y) same (zip_at R (a + 1) n ys z.1 k y e)

pub zip_long : {Y : Type 0} (R : ℕ → Y → Type 0) (a n : ℕ) (ys : List Y) → AllZip R (range_with_len a n) ys → length ys ≡ n
zip_long R a zero [] z = refl
zip_long R a zero (x ∷ ys) z = absurd z
zip_long R a (suc n) [] z = absurd z
zip_long R a (suc n) (x ∷ ys) z = ap suc (zip_long R (a + 1) n ys z.1)

-- ---- what was found for each, where all was found

zip_ok : {X Y : Type 0} (E : Type 0) (R : X → Y → Type 0) (xs : List X) (ys : List Y) → AllZip (λ x (r : Result Y E). IfOk r (R x)) xs (map Ok ys) → AllZip R xs ys
zip_ok E R [] [] z = tt
zip_ok E R [] (y ∷ ys) z = absurd z
zip_ok E R (x ∷ xs) [] z = absurd z
zip_ok E R (x ∷ xs) (y ∷ ys) z = (z.0, zip_ok E R xs ys z.1)

pub all_ok : {X Y E : Type 0} (R : X → Y → Type 0) (xs : List X) (rs : List (Result Y E)) (r : Result (Vec Y) E) → AllZip (λ x (r : Result Y E). IfOk r (R x)) xs rs
    → MatchResult r (λ v. (ys : List Y) × (rs ≡ map Ok ys) × (v.items ≡ ys)) (λ e. Contains rs (Err e)) → IfOk r (λ v. AllZip R xs v.items)
all_ok {E = E} R xs rs (Ok v) z m =
    subst (λ l. AllZip R xs l) (sym m.2) (zip_ok E R xs m.0 (subst (λ l. AllZip (λ x (r : Result _ E). IfOk r (R x)) xs l) m.1 z))
all_ok R xs rs (Err e) z m = tt

-- ---- a column as a list

-- what one step costs up to a break, from each one before
abbrev pub column_of : (ℕ → ℕ → ℕ) → ℕ → List ℕ
column_of cost to = map (λ i. cost i to) (range_with_len 0 to)

pub column_long : (cost : ℕ → ℕ → ℕ) (to : ℕ) → length (column_of cost to) ≡ to
column_long cost to = length-map-range_with_len (λ i. cost i to) 0 to

pub column_at : (cost : ℕ → ℕ → ℕ) (to i : ℕ) → i < to → get_or (column_of cost to) i 0 ≡ cost i to
column_at cost to i h = get_or-map-range_with_len (λ k. cost k to) 0 to i i 0 h (omega arith)

pub as_column : (before : ℕ → ℕ) (cost : ℕ → ℕ → ℕ) (to price : ℕ) → IsCheapest before (λ i. cost i to) to price → IsCheapest before (λ k. get_or (column_of cost to) k 0) (length (column_of cost to)) price
as_column before cost to price c =
    subst (λ n. IsCheapest before (λ k. get_or (column_of cost to) k 0) n price) (sym (column_long cost to))
    (same_cheapest before before (λ i. cost i to) (λ k. get_or (column_of cost to) k 0) to price price c (λ i h. refl) (λ i h. column_at cost to i h) refl)

pub column_more : (cost : ℕ → ℕ → ℕ) (to count : ℕ) (old mid new : ℕ → List ℕ) (price : ℕ) → 0 < to → price ≡ cost 0 to → mid 0 ≡ old 0
    → ((j : ℕ) → suc j < count → IsPriceMore (column_of cost to) old mid j) → new 0 ≡ mid 0 ++ price ∷ [] → ((j : ℕ) → (j ≡ 0 → ⊥) → new j ≡ mid j)
    → IsColumnMore (column_of cost to) count old new
column_more cost to count old mid new price some is first later added others = record {
  first = added ∙ ap (λ r. r ++ price ∷ []) first ∙ ap (λ k. old 0 ++ k ∷ []) (is ∙ sym (column_at cost to 0 some));
  later = λ j h. let there = later j h in (there.0, others (suc j) (λ e. omega (arith, e)) ∙ there.1, there.2);
}

module _ (cost : ℕ → ℕ → ℕ) (columns to count : ℕ) (old new : ℕ → List ℕ) (next : columns + 1 ≡ to) (f : AreFilled cost count old columns) (some : 0 < count)
    (behind : (j : ℕ) → count ≤ j → new j ≡ []) (more : IsColumnMore (column_of cost to) count old new) where
  wide : length (column_of cost to) ≡ columns + 1
  wide = column_long cost to ∙ sym next

  is : (i : ℕ) → i < columns + 1 → get_or (column_of cost to) i 0 ≡ cost i (columns + 1)
  is i h = column_at cost to i (omega arith) ∙ ap (cost i) (sym next)

  pub column_filled : AreFilled cost count new to
  column_filled = subst (AreFilled cost count new) next (filled_more cost count old new (column_of cost to) columns f more behind some wide is)

  pub column_kept : (j i : ℕ) → j < count → i ≤ columns → price_up_to (new j) i ≡ price_up_to (old j) i
  column_kept j i h inside = same_up cost count old new (column_of cost to) columns f more behind some wide is j i h inside

-- ---- what one step costs, from a break on

pub some_at : {A : Type 0} (xs : List A) (i : ℕ) → i < length xs → (x : A) × (slice_get xs i ≡ Some x)
some_at [] i h = absurd (omega arith)
some_at (x ∷ xs) zero h = (x, refl)
some_at (x ∷ xs) (suc i) h = some_at xs i (omega arith)

pub whole_cut : {N : Type 0} (number : N → ℕ) (cost : ℕ → ℕ → ℕ) (costs : List N) → 0 < length costs → AreCosts cost (map number costs) → AreCut cost 0 (0 + length costs) (map number costs)
whole_cut number cost costs some are =
    let long = length-map costs number in
    let to : length (map number costs) ≡ 0 + length costs = omega arith in
    record {
      count = omega arith;
      first = are 0 (omega arith) ∙ ap (cost 0) to;
      behind = λ i low h. ap (λ k. get_or (map number costs) k 0) (let e : i - 0 ≡ i = omega arith in e) ∙ are i (omega arith) ∙ ap (cost i) to;
    }

-- the part of a column that is kept
pub part_is : {N : Type 0} (number : N → ℕ) (cost : ℕ → ℕ → ℕ) (costs part : List N) (cut : ℕ) → cut + length part ≡ length costs → get_or (map number part) 0 0 ≡ get_or (map number costs) 0 0
    → ((i : ℕ) → cut < i → i < length costs → get_or (map number part) (i - cut) 0 ≡ get_or (map number costs) i 0) → cut < length costs → AreCosts cost (map number costs)
    → AreCut cost cut (length costs) (map number part)
part_is number cost costs part cut count first behind some are =
    let long = length-map costs number in
    let short = length-map part number in
    record {
      count = omega arith;
      first = first ∙ are 0 (omega arith) ∙ ap (cost 0) long;
      behind = λ i low h. behind i low h ∙ are i (omega arith) ∙ ap (cost i) long;
    }

cut_each : (cost : ℕ → ℕ → ℕ) (cut to most : ℕ) (costs : List ℕ) → 0 < to → AreCut cost cut to costs → ((i : ℕ) → i < to → cost i to ≤ most) → (i : ℕ) → i < length costs → get_or costs i 0 ≤ most
cut_each cost cut to most costs some are small zero h = let is = are.first in let low = small 0 some in omega arith
cut_each cost cut to most costs some are small (suc i) h =
    let count = are.count in
    let is = are.behind (cut + suc i) (omega arith) (omega arith) in
    let at = ap (λ k. get_or costs k 0) (let e : cut + suc i - cut ≡ suc i = omega arith in e) in
    let low = small (cut + suc i) (omega arith) in
    omega arith

pub cut_small : (cost : ℕ → ℕ → ℕ) (cut to most : ℕ) (costs : List ℕ) → 0 < to → AreCut cost cut to costs → ((i : ℕ) → i < to → cost i to ≤ most) → (i : ℕ) → get_or costs i 0 ≤ most
cut_small cost cut to most costs some are small = small_totals costs most (cut_each cost cut to most costs some are small)

-- ---- columns that are begun

module _ {N : Type 0} (number : N → ℕ) (cost : ℕ → ℕ → ℕ) (known : ℕ) where
  -- they stay so while rows grow
  pub same_least : (rows rows' : List (Vec N)) (to k : ℕ) (least : List (Four N)) → length rows' ≡ length rows
      → ((j i : ℕ) → j < length rows → i ≤ known → price_up_to (row_in number rows' j) i ≡ price_up_to (row_in number rows j) i)
      → AreLeast number rows cost known to k least → AreLeast number rows' cost known to k least
  same_least rows rows' to k least long same a =
      let count = a.count in
      record {
        count = omega arith;
        prices = λ j four there.
            let inside = some_inside least j four there in
            same_cheapest (price_up_to (row_in number rows j)) (price_up_to (row_in number rows' j)) (λ i. cost i to) (λ i. cost i to) (known + 1) (number (nth_of four k)) (number (nth_of four k))
            (a.prices j four there) (λ i l. same j i (omega arith) (omega arith)) (λ i l. refl) refl;
      }

  -- the prices of four columns, told by what one step costs
  pub least_of : (rows columns : List (Vec N)) (from k : ℕ) (least : List (Four N)) → known ≤ from → k < 4 → k + 1 < length columns → AreFilled cost (length rows) (row_in number rows) known
      → AreCostsFrom number cost from columns → IsGroup number rows columns least → AreLeast number rows cost known (from + k + 1) k least
  least_of rows columns from k least low four inside f are group =
      let count = group.count in
      let there = some_at columns (1 + k) (omega arith) in
      let width = are.width (1 + k) there.0 there.1 in
      let long = length-map there.0.items number in
      let to : length (map number there.0.items) ≡ from + k + 1 = omega arith in
      record {
        count = count;
        prices = λ j t here.
            let in_least = some_inside least j t here in
            let wide = f.wide j (omega arith) in
            let row = row_in number rows j in
            same_cheapest (price_up_to row) (price_up_to row) (λ i. get_or (map number there.0.items) i 0) (λ i. cost i (from + k + 1)) (known + 1) (number (nth_of t k)) (number (nth_of t k))
            (subst (λ n. IsCheapest (price_up_to row) (λ i. get_or (map number there.0.items) i 0) (n + 1) (number (nth_of t k))) wide (group.prices k there.0 four there.1 j t here))
            (λ i l. refl) (λ i l. sym (are.costs (1 + k) there.0 there.1 i (omega arith) ∙ ap (cost i) to)) refl;
      }

-- ---- the parts of a tile

module _ {V N : Type 0} (levels : Levels V) (track : StepFunction V) (number : N → ℕ) (known : ℕ) (rows : List (Vec N)) (end count : ℕ) where
  abbrev IsPartAt : ℕ → Vec (Group N) → Type 0
  IsPartAt k part = IsPart levels track number rows known (known + 32 * k) (min end (known + 32 * k + 32)) part.items

  pub parts_of : {E : Type 0} (r : Result (Vec (Vec (Group N))) E) → count ≡ (end - known + 31) / 32
      → IfOk r (λ parts. AllZip IsPartAt (range_with_len 0 count) parts.items)
      → IfOk r (λ parts. ArePartsOf number rows (cost_of_step levels (unit_of track.end) track) known end parts.items)
  parts_of (Ok parts) is z = record {
    count = zip_long IsPartAt 0 count parts.items z ∙ is;
    each = λ k part there.
        let from : 0 + k ≡ k = omega arith in
        (subst (λ n. IsPartAt n part) from (zip_at IsPartAt 0 count parts.items z k part there)).begun;
  }
  parts_of (Err e) is z = tt

-- ---- where a column of a tile stands: in which part, in which group of it, and in which place there

pub part_inside : (known end column : ℕ) → column < end - known → column / 32 < (end - known + 31) / 32
part_inside known end column h = omega arith

-- the column is before the end of its part
before_end : (known end column : ℕ) → column < end - known → known + column < min end (known + 32 * (column / 32) + 32)
before_end known end column h = elim (lesser end (known + 32 * (column / 32) + 32)) [
  | inl a ↦ let e = a.0 in omega arith
  | inr b ↦ let e = b.0 in omega arith
]

pub group_inside : (known end column : ℕ) → column < end - known → column % 32 / 4 < (min end (known + 32 * (column / 32) + 32) - (known + 32 * (column / 32)) + 3) / 4
group_inside known end column h = let before = before_end known end column h in omega arith

pub column_inside : (known end column : ℕ) → column < end - known
    → column % 4 < min 4 (min end (known + 32 * (column / 32) + 32) - (known + 32 * (column / 32) + 4 * (column % 32 / 4)))
column_inside known end column h =
    let before = before_end known end column h in
    elim (lesser 4 (min end (known + 32 * (column / 32) + 32) - (known + 32 * (column / 32) + 4 * (column % 32 / 4)))) [
      | inl a ↦ let e = a.0 in omega arith
      | inr b ↦ let e = b.0 in omega arith
    ]

pub column_is : (known column : ℕ) → known + 32 * (column / 32) + 4 * (column % 32 / 4) + column % 4 + 1 ≡ known + column + 1
column_is known column = omega arith

module _ {N : Type 0} (number : N → ℕ) (cost : ℕ → ℕ → ℕ) (known : ℕ) (rows : List (Vec N)) (end column : ℕ) (parts : List (Vec (Group N)))
    (are : ArePartsOf number rows cost known end parts) (inside : column < end - known) (part : Vec (Group N)) (part_is_there : part ≡ get_or parts (column / 32) part) where
  part_begun : AreBegun number rows cost known (known + 32 * (column / 32)) (min end (known + 32 * (column / 32) + 32)) part.items
  part_begun =
      let count = are.count in
      let room = part_inside known end column inside in
      are.each (column / 32) part (slice_get-get_or parts (column / 32) part (omega arith) ∙ ap Some (sym part_is_there))

  pub group_there : column % 32 / 4 < length part.items
  group_there =
      let count = part_begun.count in
      let room = group_inside known end column inside in
      omega arith

  module _ (group : Group N) (group_is_there : group ≡ get_or part.items (column % 32 / 4) group) where
    group_begun : IsBegun number rows cost known (known + 32 * (column / 32) + 4 * (column % 32 / 4)) (min end (known + 32 * (column / 32) + 32)) group
    group_begun = part_begun.each (column % 32 / 4) group (slice_get-get_or part.items (column % 32 / 4) group group_there ∙ ap Some (sym group_is_there))

    pub column_there : column % 4 < length group.columns.items
    column_there =
        let count = group_begun.count in
        let room = column_inside known end column inside in
        omega arith

    pub least_there : AreLeast number rows cost known (known + column + 1) (column % 4) group.least.items
    least_there = subst (λ n. AreLeast number rows cost known n (column % 4) group.least.items) (column_is known column) (group_begun.least (column % 4) column_there)

    pub costs_there : (costs : Vec N) → costs ≡ get_or group.columns.items (column % 4) costs → AreCut cost known (known + column + 1) (map number costs.items)
    costs_there costs at =
        subst (λ n. AreCut cost known n (map number costs.items)) (column_is known column)
        (group_begun.costs (column % 4) costs (slice_get-get_or group.columns.items (column % 4) costs column_there ∙ ap Some (sym at)))
