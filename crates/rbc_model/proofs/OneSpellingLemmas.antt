-- A track function has one spelling: two lists of runs with the same level at each metre are one list.
use Rattle.std.proofs.Common.{◌≡◌, ℕ, ◌<◌, ◌≤◌, ◌⊎◌, inl, inr, true, false, not, List, [], ◌∷◌, Option, Some, None, refl, arith, ap, sym, ◌∙◌, nat_lt, ◌==◌}
use Rattle.std.specs.Option.{option_or}
use Rattle.std.specs.List.{list_all}
use Rattle.std.proofs.lemmas.Bool.{le-leb, ltb-true, lt-leb, not-true}
use Rattle.std.proofs.lemmas.Bool.Decides.{nat_tests}
use Rattle.rbc_model.specs.Levels.{Levels, is_same, IsInRange, IsLawful}
use Rattle.rbc_model.specs.Profiles.{value_at, starts_of, rises_above, is_joined, IsTrackFunction}
use Rattle.rbc_model.proofs.CountingLemmas.{both_of}
use Rattle.std.proofs.lemmas.Option.{same_Some}

-- the value of the last run that starts at or before a metre, or of the one before them all
abbrev value_from : {V : Type 0} → V → List (ℕ × V) → ℕ → Option V
value_from v runs x = option_or (value_at runs x) (Some v)

-- no run has started
none_started : {V : Type 0} (low : ℕ) (runs : List (ℕ × V)) (x : ℕ) → rises_above low (starts_of runs) ≡ true → x ≤ low → value_at runs x ≡ None
none_started low [] x e h = refl
none_started low (run ∷ runs) x e h =
    let both = both_of (nat_lt low run.0) (rises_above run.0 (starts_of runs)) e in
    let above = ltb-true low run.0 both.0 in
    rw (none_started run.0 runs x both.1 (omega arith), lt-leb run.0 x (omega arith)) refl

-- at a run's start stands its value, and behind it that of a later one or its own
at_start : {V : Type 0} (v : V) (run : ℕ × V) (runs : List (ℕ × V)) → rises_above run.0 (starts_of runs) ≡ true → value_from v (run ∷ runs) run.0 ≡ Some run.1
at_start v run runs e = rw (none_started run.0 runs run.0 e (omega arith), le-leb run.0 run.0 (omega arith)) refl

ahead : {V : Type 0} (v : V) (run : ℕ × V) (runs : List (ℕ × V)) (x : ℕ) → run.0 ≤ x → value_from v (run ∷ runs) x ≡ value_from run.1 runs x
ahead v run runs x h = rw (le-leb run.0 x h) (kept (value_at runs x) run.1 v)
  where
    kept : {V : Type 0} (o : Option V) (a v : V) → option_or (option_or o (Some a)) (Some v) ≡ option_or o (Some a)
    kept None a v = refl
    kept (Some w) a v = refl

module _ {V : Type 0} (levels : Levels V) (lawful : IsLawful levels) (n : ℕ) where
  same_of : (v w : V) → IsInRange levels v → w ≡ v → is_same levels w v ≡ true
  same_of v w r e = let here : levels.at_most v v ≡ true = lawful.ordered.reflexive v r in rw (e, here) refl

  -- runs behind one of this value are in order, inside, in range, and each differs from the one before
  record IsBehind (low : ℕ) (v : V) (runs : List (ℕ × V)) : Type 0 where
    value : IsInRange levels v
    rising : rises_above low (starts_of runs) ≡ true
    inside : list_all (λ start. nat_lt start n) (starts_of runs) ≡ true
    values : list_all (λ run. levels.in_range run.1) runs ≡ true
    once : is_joined levels ((low, v) ∷ runs) ≡ true

  next_of : (low : ℕ) (v : V) (run : ℕ × V) (runs : List (ℕ × V)) → IsBehind low v (run ∷ runs)
      → (low < run.0) × (run.0 < n) × (is_same levels run.1 v ≡ false) × IsBehind run.0 run.1 runs
  next_of low v run runs b =
      let rising = both_of (nat_lt low run.0) (rises_above run.0 (starts_of runs)) b.rising in
      let inside = both_of (nat_lt run.0 n) (list_all (λ start. nat_lt start n) (starts_of runs)) b.inside in
      let values = both_of (levels.in_range run.1) (list_all (λ r. levels.in_range r.1) runs) b.values in
      let once = both_of (not (is_same levels run.1 v)) (is_joined levels (run ∷ runs)) b.once in (
        ltb-true low run.0 rising.0,
        ltb-true run.0 n inside.0,
        not-true (is_same levels run.1 v) once.0,
        record { value = values.0; rising = rising.1; inside = inside.1; values = values.1; once = once.1 },
      )

  -- a value can't change where the other list keeps it
  no_change : (v w : V) → IsInRange levels v → is_same levels w v ≡ false → Some w ≡ Some v → ⊥
  no_change v w r differs e = let same = same_of v w r (same_Some w v e) in absurd cc

  abbrev Agree : ℕ → V → List (ℕ × V) → List (ℕ × V) → Type 0
  Agree low v one other = (x : ℕ) → low ≤ x → x < n → value_from v one x ≡ value_from v other x

  which : (a b : ℕ) → (a < b) ⊎ ((b < a) ⊎ (a ≡ b))
  which a b = grind arith

  one_behind : (low : ℕ) (v : V) (one other : List (ℕ × V)) → IsBehind low v one → IsBehind low v other → Agree low v one other → one ≡ other
  one_behind low v [] [] p q agree = refl
  one_behind low v [] (run ∷ runs) p q agree =
      let next = next_of low v run runs q in
      absurd (no_change v run.1 q.value next.2 (sym (at_start v run runs next.3.rising) ∙ sym (agree run.0 (omega (arith, next.0)) next.1)))
  one_behind low v (run ∷ runs) [] p q agree =
      let next = next_of low v run runs p in
      absurd (no_change v run.1 p.value next.2 (sym (at_start v run runs next.3.rising) ∙ agree run.0 (omega (arith, next.0)) next.1))
  one_behind low v (a ∷ one) (b ∷ other) p q agree =
      let na = next_of low v a one p in
      let nb = next_of low v b other q in
      elim (which a.0 b.0) [
        | inl first ↦ absurd (no_change v a.1 p.value na.2
            (sym (at_start v a one na.3.rising) ∙ agree a.0 (omega (arith, na.0)) na.1 ∙ early low v b other a.0 first nb.3.rising))
        | inr later ↦ elim later [
          | inl first ↦ absurd (no_change v b.1 q.value nb.2
              (sym (at_start v b other nb.3.rising) ∙ sym (agree b.0 (omega (arith, nb.0)) nb.1) ∙ early low v a one b.0 first na.3.rising))
          | inr start ↦
              let value : a.1 ≡ b.1 = same_Some a.1 b.1 (sym (at_start v a one na.3.rising) ∙ agree a.0 (omega (arith, na.0)) na.1
              ∙ ap (value_from v (b ∷ other)) start ∙ at_start v b other nb.3.rising) in
              let head : a ≡ b = pair a b start value in
              rw head (ap (λ runs. b ∷ runs) (one_behind b.0 b.1 one other (rw (← head) na.3) nb.3
              (λ x low_x high. sym (rw (← head) (ahead v a one x (omega (arith, start)))) ∙ ap (λ r. value_from v (r ∷ one) x) (sym head) ∙ agree x (omega (arith, nb.0)) high ∙ ahead v b other x low_x)))
        ]
      ]
    where
      pair : (a b : ℕ × V) → a.0 ≡ b.0 → a.1 ≡ b.1 → a ≡ b
      pair a b e f = ap (λ x. (x, a.1)) e ∙ ap (λ y. (b.0, y)) f

      early : (low : ℕ) (v : V) (run : ℕ × V) (runs : List (ℕ × V)) (x : ℕ) → x < run.0 → rises_above run.0 (starts_of runs) ≡ true
          → value_from v (run ∷ runs) x ≡ Some v
      early low v run runs x h e = rw (none_started run.0 runs x e (omega arith), lt-leb run.0 x h) refl

  zero_is : (start : ℕ) → start == 0 ≡ true → start ≡ 0
  zero_is start e = grind (arith, nat_tests)

  -- two track functions with the same level at each metre are one
  pub one_spelling : (one other : List (ℕ × V)) → IsTrackFunction levels n one → IsTrackFunction levels n other
      → ((x : ℕ) → x < n → value_at one x ≡ value_at other x) → one ≡ other
  one_spelling [] other p q agree = absurd (cc p.starts.rising)
  one_spelling (a ∷ one) [] p q agree = absurd (cc q.starts.rising)
  one_spelling (a ∷ one) (b ∷ other) p q agree =
      let pa = both_of (a.0 == 0) (rises_above 0 (starts_of one)) p.starts.rising in
      let pb = both_of (b.0 == 0) (rises_above 0 (starts_of other)) q.starts.rising in
      let za : a.0 ≡ 0 = zero_is a.0 pa.0 in
      let zb : b.0 ≡ 0 = zero_is b.0 pb.0 in
      let ia = both_of (nat_lt a.0 n) (list_all (λ start. nat_lt start n) (starts_of one)) p.starts.inside in
      let ib = both_of (nat_lt b.0 n) (list_all (λ start. nat_lt start n) (starts_of other)) q.starts.inside in
      let va = both_of (levels.in_range a.1) (list_all (λ r. levels.in_range r.1) one) p.values in
      let vb = both_of (levels.in_range b.1) (list_all (λ r. levels.in_range r.1) other) q.values in
      let some : 0 < n = omega (arith, ltb-true a.0 n ia.0) in
      let ra : rises_above a.0 (starts_of one) ≡ true = rw za pa.1 in
      let rb : rises_above b.0 (starts_of other) ≡ true = rw zb pb.1 in
      let fa : value_at (a ∷ one) 0 ≡ Some a.1 = rw (none_started a.0 one 0 ra (omega (arith, za)), le-leb a.0 0 (omega (arith, za))) refl in
      let fb : value_at (b ∷ other) 0 ≡ Some b.1 = rw (none_started b.0 other 0 rb (omega (arith, zb)), le-leb b.0 0 (omega (arith, zb))) refl in
      let value : a.1 ≡ b.1 = same_Some a.1 b.1 (sym fa ∙ agree 0 some ∙ fb) in
      let head : a ≡ b = pair a b (za ∙ sym zb) value in
      let start : ℕ × V = a in
      rw head (ap (λ runs. b ∷ runs) (one_behind b.0 b.1 one other
      (rw (← head) (record { value = va.0; rising = ra; inside = ia.1; values = va.1; once = p.once }))
      (record { value = vb.0; rising = rb; inside = ib.1; values = vb.1; once = q.once })
      (λ x low high. sym (whole b one x low) ∙ ap (λ r. value_at (r ∷ one) x) (sym head) ∙ agree x high ∙ whole b other x low)))
    where
      pair : (a b : ℕ × V) → a.0 ≡ b.0 → a.1 ≡ b.1 → a ≡ b
      pair a b e f = ap (λ x. (x, a.1)) e ∙ ap (λ y. (b.0, y)) f

      whole : (run : ℕ × V) (runs : List (ℕ × V)) (x : ℕ) → run.0 ≤ x → value_at (run ∷ runs) x ≡ value_from run.1 runs x
      whole run runs x h = rw (le-leb run.0 x h) refl
