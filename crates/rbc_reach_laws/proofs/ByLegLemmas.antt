-- What is told of each leg's metres, at the places of a way: the first place of its spans.
use Rattle.std.proofs.Common.{◌≡◌, ℕ, ◌+◌, ◌-◌, ◌<◌, ◌≤◌, max, Bool, true, false, ◌&&◌, [], ◌∷◌, Option, Some, None, refl, ap, sym, subst, ◌∙◌, arith, ◌⊎◌, inl, inr, nat_lt, nat_le}
use Rattle.std.specs.Prelude.{if◌then◌else◌}
use Rattle.std.specs.Option.{option_or}
use Rattle.std.proofs.lemmas.Bool.{ltb-true, lt-ltb, false_from_ne_true, both_ways}
use Rattle.rbc_model.specs.declared.places.Leg.{Leg}
use Rattle.rbc_model.specs.Tracks.{Track, metres_of}
use Rattle.rbc_model.specs.Lines.{Line, line_length}
use Rattle.rbc_model.proofs.ScanLemmas.{le_or_lt}
use Rattle.rbc_reach_laws.specs.Spans.{lies_in, first_in, first_by}
use Rattle.rbc_reach_laws.proofs.BasicLemmas.{below, is_below}
use Rattle.rbc_reach_laws.proofs.FirstLemmas.{IsFirstFrom, IsFound, IsFound-same, IsFound-then}
use Rattle.rbc_model.proofs.BasicLemmas.{if_in, if_past}
use Rattle.rbc_model.proofs.MetreLemmas.{line_length-cons}

-- a test of the metres of each leg and of the leg before it, at a place of a line
abbrev pub at_leg : (Option Leg → Leg → ℕ → Bool) → Track → Option Leg → Line → ℕ → Bool
at_leg test track before [] i = false
at_leg test track before (leg ∷ legs) i = if nat_lt i (metres_of track leg.section) then test before leg i else at_leg test track (Some leg) legs (i - metres_of track leg.section)

pub at_leg-same : (test other : Option Leg → Leg → ℕ → Bool) (track : Track) (before : Option Leg) (line : Line) (i : ℕ) → ((b : Option Leg) (l : Leg) (k : ℕ) → k < metres_of track l.section → test b l k ≡ other b l k) → at_leg test track before line i ≡ at_leg other track before line i
at_leg-same test other track before [] i same = refl
at_leg-same test other track before (leg ∷ legs) i same =
    let m = metres_of track leg.section in
    elim (le_or_lt m i) [
      | inl past ↦
          if_past (test before leg i) (at_leg test track (Some leg) legs (i - m)) i m past
          ∙ at_leg-same test other track (Some leg) legs (i - m) same
          ∙ sym (if_past (other before leg i) (at_leg other track (Some leg) legs (i - m)) i m past)
      | inr here ↦
          if_in (test before leg i) (at_leg test track (Some leg) legs (i - m)) i m here
          ∙ same before leg i here
          ∙ sym (if_in (other before leg i) (at_leg other track (Some leg) legs (i - m)) i m here)
    ]

-- ---- one span

in_span : (start p a b i : ℕ) → max start (p + a) < p + b → Some (max start (p + a)) ≡ Some i → IsFirstFrom (λ j. nat_le a (j - p) && nat_lt (j - p) b) (max start p) (p + b) i
in_span start p a b i h e =
    let same : max start (p + a) ≡ i = cc in
    record {
      low = omega arith;
      high = omega arith;
      passes = is_below a b (i - p) (omega arith) (omega arith);
      before = λ j l u. false_from_ne_true (nat_le a (j - p) && nat_lt (j - p) b) (λ t. let x = below a b (j - p) t in let y = x.0 in omega arith);
    }

none_in_span : (start p a b j : ℕ) → p + b ≤ max start (p + a) → max start p ≤ j → (nat_le a (j - p) && nat_lt (j - p) b) ≡ false
none_in_span start p a b j h l = false_from_ne_true (nat_le a (j - p) && nat_lt (j - p) b) (λ t. let x = below a b (j - p) t in let y = x.0 in let z = x.1 in omega arith)

IsFirstFrom-wider : (test : ℕ → Bool) (low high higher i : ℕ) → high ≤ higher → IsFirstFrom test low high i → IsFirstFrom test low higher i
IsFirstFrom-wider test low high higher i h f = let u = f.high in record { low = f.low; high = omega arith; passes = f.passes; before = f.before }

pub IsFound-first_in : (start p m : ℕ) (span : ℕ × ℕ) → span.1 ≤ m → IsFound (λ j. lies_in span (j - p)) (max start p) (p + m) (first_in start p span)
IsFound-first_in start p m (a, b) h = by_order (nat_lt (max start (p + a)) (p + b)) refl
  where
    by_order : (t : Bool) → nat_lt (max start (p + a)) (p + b) ≡ t → IsFound (λ j. nat_le a (j - p) && nat_lt (j - p) b) (max start p) (p + m) (if t then Some (max start (p + a)) else None)
    by_order true e = record {
      some = λ i s. IsFirstFrom-wider (λ j. nat_le a (j - p) && nat_lt (j - p) b) (max start p) (p + b) (p + m) i (omega arith) (in_span start p a b i (ltb-true (max start (p + a)) (p + b) e) s);
      none = λ s. absurd (let bad : ⊥ = cc in bad);
    }
    by_order false e = record {
      some = λ i s. absurd (let bad : ⊥ = cc in bad);
      none = λ s j l u. none_in_span start p a b j (past (le_or_lt (p + b) (max start (p + a)))) l;
    }
      where
        past : (p + b ≤ max start (p + a)) ⊎ (max start (p + a) < p + b) → p + b ≤ max start (p + a)
        past (inl k) = k
        past (inr k) = absurd (both_ways (nat_lt (max start (p + a)) (p + b)) e (lt-ltb (max start (p + a)) (p + b) k))

-- ---- the spans of all legs

abbrev pub OnLegs : (Option Leg → Leg → ℕ × ℕ) → Track → Type 0
OnLegs say track = (b : Option Leg) (l : Leg) → (say b l).1 ≤ metres_of track l.section

pub IsFound-first_by : (say : Option Leg → Leg → ℕ × ℕ) (track : Track) (start : ℕ) (before : Option Leg) (p : ℕ) (line : Line) → OnLegs say track → IsFound (λ j. at_leg (λ b l k. lies_in (say b l) k) track before line (j - p)) (max start p) (p + line_length track line) (first_by say track start before p line)
IsFound-first_by say track start before p [] on = record { some = λ i e. absurd (let bad : ⊥ = cc in bad); none = λ e j l u. refl }
IsFound-first_by say track start before p (leg ∷ legs) on =
    let m = metres_of track leg.section in
    let long = line_length-cons track leg legs in
    let rest = line_length track legs in
    subst (λ h. IsFound (λ j. at_leg (λ b l k. lies_in (say b l) k) track before (leg ∷ legs) (j - p)) (max start p) h (option_or (first_in start p (say before leg)) (first_by say track start (Some leg) (p + m) legs)))
    (let e : p + m + rest ≡ p + line_length track (leg ∷ legs) = omega arith in e)
    (IsFound-then (λ j. at_leg (λ b l k. lies_in (say b l) k) track before (leg ∷ legs) (j - p)) (max start p) (p + m) (max start (p + m)) (p + m + rest)
    (first_in start p (say before leg)) (first_by say track start (Some leg) (p + m) legs) (omega arith) (omega arith)
    (IsFound-same (λ j. lies_in (say before leg) (j - p)) (λ j. at_leg (λ b l k. lies_in (say b l) k) track before (leg ∷ legs) (j - p)) (max start p) (p + m) (first_in start p (say before leg))
    (λ j l u. sym (if_in (lies_in (say before leg) (j - p)) (at_leg (λ b l k. lies_in (say b l) k) track (Some leg) legs (j - p - m)) (j - p) m (omega arith)))
    (IsFound-first_in start p m (say before leg) (on before leg)))
    (IsFound-same (λ j. at_leg (λ b l k. lies_in (say b l) k) track (Some leg) legs (j - (p + m))) (λ j. at_leg (λ b l k. lies_in (say b l) k) track before (leg ∷ legs) (j - p)) (max start (p + m)) (p + m + rest) (first_by say track start (Some leg) (p + m) legs)
    (λ j l u.
    sym (if_past (lies_in (say before leg) (j - p)) (at_leg (λ b l k. lies_in (say b l) k) track (Some leg) legs (j - p - m)) (j - p) m (omega arith)
    ∙ ap (at_leg (λ b l k. lies_in (say b l) k) track (Some leg) legs) (let e : j - p - m ≡ j - (p + m) = omega arith in e)))
    (IsFound-first_by say track start (Some leg) (p + m) legs on)))
