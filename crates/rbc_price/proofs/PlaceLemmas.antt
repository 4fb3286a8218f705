-- The first of the places that were judged, as more are judged.
use Rattle.std.proofs.Common.{◌≡◌, refl, ap, sym, ◌∙◌, arith, ℕ, suc, ◌<◌, ◌≤◌, ◌⊎◌, inl, inr, Bool, true, false, List, Option, Some, None, if◌then◌else◌}
use Rattle.std.proofs.lemmas.Bool.Decides.{nat_tests}
use Rattle.rbc_model.specs.Levels.{Levels}
use Rattle.rbc_model.specs.Profiles.{StepFunction}
use Rattle.rbc_model.specs.PriceTables.{table_at}
use Rattle.rbc_model.specs.Scales.{unit_of}
use Rattle.rbc_table_laws.specs.Stretches.{cost_of_step}
use Rattle.rbc_price.specs.Columns.{stretches_of}
use Rattle.rbc_price.specs.declared.places.PricePlace.{PricePlace}
use Rattle.rbc_price.specs.Places.{IsDearer, IsFirstRow, IsFirst, comes_before, earlier}
use Rattle.std.proofs.lemmas.Bool.{cases_lt}

-- ---- the order of places

-- none of three that follow one another comes before the first
not_before : (a b c : PricePlace) → comes_before b a ≡ false → comes_before c b ≡ false → comes_before c a ≡ false
not_before a b c e f = grind (arith, nat_tests)

not_both_ways : (a b : PricePlace) → comes_before b a ≡ true → comes_before a b ≡ false
not_both_ways a b e = grind (arith, nat_tests)

not_before_row : (a b : PricePlace) → b.row ≤ a.row → a.to ≡ b.to → a.from ≡ b.from → comes_before a b ≡ false
not_before_row a b h e f = grind (arith, nat_tests)

module _ {V : Type 0} (levels : Levels V) (track : StepFunction V) (rows : List (List ℕ)) where
  -- of fewer pairs
  pub first_of_fewer : (Judged Fewer : ℕ → ℕ → Type 0) (first : Option PricePlace) → ((from to : ℕ) → from < to → to ≤ stretches_of track → Fewer from to → Judged from to)
      → IsFirst levels track rows Judged first → IsFirst levels track rows Fewer first
  first_of_fewer Judged Fewer None of f = λ other judged high. f other (of other.from other.to high.on high.column judged) high
  first_of_fewer Judged Fewer (Some place) of f = (f.0, λ other judged high. f.1 other (of other.from other.to high.on high.column judged) high)

  earlier_of : (One Other Both : ℕ → ℕ → Type 0) (a b : PricePlace) (test : Bool) → comes_before b a ≡ test → ((from to : ℕ) → from < to → to ≤ stretches_of track → Both from to → One from to ⊎ Other from to)
      → IsFirst levels track rows One (Some a) → IsFirst levels track rows Other (Some b) → IsFirst levels track rows Both (Some (if test then b else a))
  earlier_of One Other Both a b true e of f g = (
    g.0,
    λ other judged high. elim (of other.from other.to high.on high.column judged) [
      | inl one ↦ not_before b a other (not_both_ways a b e) (f.1 other one high)
      | inr two ↦ g.1 other two high
    ],
  )
  earlier_of One Other Both a b false e of f g = (
    f.0,
    λ other judged high. elim (of other.from other.to high.on high.column judged) [
      | inl one ↦ f.1 other one high
      | inr two ↦ not_before a b other e (g.1 other two high)
    ],
  )

  -- of the pairs of both
  pub first_of_both : (One Other Both : ℕ → ℕ → Type 0) (a b : Option PricePlace) → ((from to : ℕ) → from < to → to ≤ stretches_of track → Both from to → One from to ⊎ Other from to)
      → IsFirst levels track rows One a → IsFirst levels track rows Other b → IsFirst levels track rows Both (earlier a b)
  first_of_both One Other Both None None of f g =
      λ other judged high. elim (of other.from other.to high.on high.column judged) [ inl one ↦ f other one high | inr two ↦ g other two high ]
  first_of_both One Other Both None (Some b) of f g =
      (g.0, λ other judged high. elim (of other.from other.to high.on high.column judged) [ inl one ↦ absurd (f other one high) | inr two ↦ g.1 other two high ])
  first_of_both One Other Both (Some a) None of f g =
      (f.0, λ other judged high. elim (of other.from other.to high.on high.column judged) [ inl one ↦ f.1 other one high | inr two ↦ absurd (g other two high) ])
  first_of_both One Other Both (Some a) (Some b) of f g = earlier_of One Other Both a b (comes_before b a) refl of f g

  -- ---- the rows between two breaks

  -- the pair of two breaks alone
  abbrev pub Pair : ℕ → ℕ → ℕ → ℕ → Type 0
  Pair from to f t = (f ≡ from) × (t ≡ to)

  dearer_here : (other : PricePlace) (from to cost : ℕ) → other.from ≡ from → other.to ≡ to → cost ≡ cost_of_step levels (unit_of track.end) track from to
      → IsDearer rows (cost_of_step levels (unit_of track.end) track other.from other.to) other → IsDearer rows cost (record { row = other.row; from = from; to = to })
  dearer_here other from to cost e f is d =
      let above = d.above in
      let before : table_at rows other.row other.from ≡ table_at rows other.row from = ap (table_at rows other.row) e in
      let price : table_at rows (suc other.row) other.to ≡ table_at rows (suc other.row) to = ap (table_at rows (suc other.row)) f in
      let cost_is : cost_of_step levels (unit_of track.end) track other.from other.to ≡ cost_of_step levels (unit_of track.end) track from to =
      ap (λ k. cost_of_step levels (unit_of track.end) track k other.to) e ∙ ap (cost_of_step levels (unit_of track.end) track from) f in
      record { start = λ z. sym e ∙ d.start z; above = omega arith }

  pub first_of_row : (from to cost : ℕ) (first : Option PricePlace) → from < to → to ≤ stretches_of track → cost ≡ cost_of_step levels (unit_of track.end) track from to
      → IsFirstRow rows from to cost first → IsFirst levels track rows (Pair from to) first
  first_of_row from to cost None on column is f =
      λ other judged high. f other.row high.inside (dearer_here other from to cost judged.0 judged.1 is high.dearer)
  first_of_row from to cost (Some place) on column is f =
      let there = f.0 in
      let up_to = f.1 in
      let above = f.3.above in
      let cost_is : cost_of_step levels (unit_of track.end) track place.from place.to ≡ cost_of_step levels (unit_of track.end) track from to =
      ap (λ k. cost_of_step levels (unit_of track.end) track k place.to) there ∙ ap (cost_of_step levels (unit_of track.end) track from) up_to in (
        record { inside = f.2; on = omega arith; column = omega arith; dearer = record { start = f.3.start; above = omega arith } },
        λ other judged high. elim (cases_lt other.row place.row) [
          | inl less ↦ absurd (f.4 other.row less (dearer_here other from to cost judged.0 judged.1 is high.dearer))
          | inr not ↦ not_before_row other place not (judged.1 ∙ sym up_to) (judged.0 ∙ sym there)
        ],
      )
