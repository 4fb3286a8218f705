-- Lemmas on receipts that are found at their places.
use Rattle.std.proofs.Common.{◌≡◌, ◌≢◌, ℕ, zero, suc, ◌+◌, ◌-◌, ◌<◌, ◌≤◌, ◌==◌, inl, inr, Bool, true, false, ◌||◌, not, List, [], ◌∷◌, ◌++◌, length, get_or, set, take, Option, Some, None, refl, sym, ap, subst, ◌∙◌, append_assoc, arith}
use Rattle.std.specs.List.{list_any, slice_get, All}
use Rattle.std.proofs.Math.Bool.{or-false, or-true}
use Rattle.std.proofs.lemmas.List.{append-nil, length-set, get_or-set_same, get_or-set_other}
use Rattle.std.proofs.lemmas.List.Folds.{list_any-append, list_any_none, list_any_at}
use Rattle.std.proofs.lemmas.List.Concat.{flat_map-append}
use Rattle.std.proofs.lemmas.Bool.Decides.{nat_tests}
use Rattle.std.proofs.lemmas.Option.{same_Some, none-some}
use Rattle.rbc_model.specs.Histories.{Entry, Receipt, IsAtPlace, Matches}
use Rattle.rbc_snap.specs.Records.{HistoryOnTrack, IsRight}
use Rattle.rbc_desk.specs.Seats.{Seated}
use Rattle.rbc_desk.specs.Closing.{all_receipts, AreAtPlaces, IsFirstMisplaced, AreMarked, Finds, FindsAll, GoesOn}

module _ (entries : List Entry) (start : ℕ) where
  -- receipts at their places, and behind them more that are
  pub AreAtPlaces-append : (earlier xs ys : List Receipt) → AreAtPlaces entries start earlier xs → AreAtPlaces entries start (earlier ++ xs) ys → AreAtPlaces entries start earlier (xs ++ ys)
  AreAtPlaces-append earlier [] ys p q = subst (λ e. AreAtPlaces entries start e ys) (append-nil earlier) q
  AreAtPlaces-append earlier (x ∷ xs) ys p q =
      (p.0, AreAtPlaces-append (earlier ++ x ∷ []) xs ys p.1 (subst (λ e. AreAtPlaces entries start e ys) (sym (append_assoc earlier (x ∷ []) xs)) q))

  -- behind receipts at their places, the first of the rest that is not at its place is the first of all
  pub misplaced_behind : (earlier xs ys : List Receipt) (r : Receipt) → AreAtPlaces entries start earlier xs → IsFirstMisplaced entries start (earlier ++ xs) ys r → IsFirstMisplaced entries start earlier (xs ++ ys) r
  misplaced_behind earlier [] ys r p q = subst (λ e. IsFirstMisplaced entries start e ys r) (append-nil earlier) q
  misplaced_behind earlier (x ∷ xs) ys r p q =
      inr
      (p.0, misplaced_behind (earlier ++ x ∷ []) xs ys r p.1 (subst (λ e. IsFirstMisplaced entries start e ys r) (sym (append_assoc earlier (x ∷ []) xs)) q))

  -- more receipts behind it change nothing
  pub misplaced_before : (earlier xs ys : List Receipt) (r : Receipt) → IsFirstMisplaced entries start earlier xs r → IsFirstMisplaced entries start earlier (xs ++ ys) r
  misplaced_before earlier [] ys r p = absurd p
  misplaced_before earlier (x ∷ xs) ys r p =
      elim p as (λ _. IsFirstMisplaced entries start earlier ((x ∷ xs) ++ ys) r) [ inl here ↦ inl here | inr later ↦ inr (later.0, misplaced_before (earlier ++ x ∷ []) xs ys r later.1) ]

  -- each of receipts at their places is at its own
  pub each_at_place : (earlier xs : List Receipt) → AreAtPlaces entries start earlier xs → (i : ℕ) (r : Receipt) → slice_get xs i ≡ Some r → IsAtPlace entries start (earlier ++ take i xs) r
  each_at_place earlier [] p i r e = absurd (none-some r e)
  each_at_place earlier (x ∷ xs) p zero r e =
      subst (λ y. IsAtPlace entries start (earlier ++ []) y) (same_Some x r e) (subst (λ l. IsAtPlace entries start l x) (sym (append-nil earlier)) p.0)
  each_at_place earlier (x ∷ xs) p (suc i) r e =
      subst (λ l. IsAtPlace entries start l r) (append_assoc earlier (x ∷ []) (take i xs)) (each_at_place (earlier ++ x ∷ []) xs p.1 i r e)

-- a place that no receipt has
pub none_there : (place : ℕ) (receipts : List Receipt) → list_any (λ receipt. receipt.place == place) receipts ≡ false → All (λ receipt. receipt.place ≢ place) receipts
none_there place receipts none k d inside same =
    let here : (get_or receipts k d).place == place ≡ true = grind (arith, nat_tests) in
    let some = list_any_at (λ receipt. receipt.place == place) receipts k d inside here in
    cc

-- a place that some receipt has
pub some_there : (place : ℕ) (receipts : List Receipt) → list_any (λ receipt. receipt.place == place) receipts ≡ true → All (λ receipt. receipt.place ≢ place) receipts → ⊥
some_there place receipts some others =
    let none = list_any_none (λ receipt. receipt.place == place) receipts (λ k d inside. let apart = others k d inside in grind (arith, nat_tests)) in
    cc

-- a mark set for one receipt more
set_mark : (marks : List Bool) (receipts : List Receipt) (start place i : ℕ) → start ≤ place → place - start < length marks
    → get_or marks i false ≡ list_any (λ receipt. receipt.place == start + i) receipts → (here : Bool) → (place == start + i) ≡ here
    → get_or (set marks (place - start) true) i false ≡ (list_any (λ receipt. receipt.place == start + i) receipts || (here || false))
set_mark marks receipts start place i from inside was true is =
    let same : i ≡ place - start = grind (arith, nat_tests) in
    ap (λ k. get_or (set marks (place - start) true) k false) same ∙ get_or-set_same marks (place - start) true false inside
    ∙ sym (or-true (list_any (λ receipt. receipt.place == start + i) receipts))
set_mark marks receipts start place i from inside was false is =
    let other : i ≢ place - start = grind (arith, nat_tests) in
    get_or-set_other marks (place - start) i true false other ∙ was ∙ sym (or-false (list_any (λ receipt. receipt.place == start + i) receipts))

-- the marks, with one more for one receipt more
pub marked_more : (start : ℕ) (earlier : List Receipt) (r : Receipt) (marks : List Bool) → start ≤ r.place → r.place - start < length marks → AreMarked start earlier marks
    → AreMarked start (earlier ++ r ∷ []) (set marks (r.place - start) true)
marked_more start earlier r marks from inside marked i within =
    let size : length (set marks (r.place - start) true) ≡ length marks = length-set marks (r.place - start) true in
    set_mark marks earlier start r.place i from inside (marked i (omega arith)) (r.place == start + i) refl
    ∙ sym (list_any-append (λ receipt. receipt.place == start + i) earlier (r ∷ []))

-- what is told of a receipt whose entry stands at its place, by the mark that was found there
finds_here : (entries : List Entry) (start : ℕ) (earlier : List Receipt) (r : Receipt) (marks : List Bool) → start ≤ r.place → slice_get entries r.place ≡ Some r.entry → r.place - start < length marks
    → (mark : Bool) → get_or marks (r.place - start) false ≡ mark → AreMarked start earlier marks → Finds entries start earlier r (set marks (r.place - start) true) (not mark)
finds_here entries start earlier r marks from entry inside false was marked =
    let back : start + (r.place - start) ≡ r.place = omega arith in
    let none : list_any (λ receipt. receipt.place == r.place) earlier ≡ false =
    ap (λ place. list_any (λ receipt. receipt.place == place) earlier) (sym back) ∙ sym (marked (r.place - start) inside) ∙ was in
    (record { from_start = from; entry = entry; new = none_there r.place earlier none }, marked_more start earlier r marks from inside marked)
finds_here entries start earlier r marks from entry inside true was marked =
    let back : start + (r.place - start) ≡ r.place = omega arith in
    let some : list_any (λ receipt. receipt.place == r.place) earlier ≡ true =
    ap (λ place. list_any (λ receipt. receipt.place == place) earlier) (sym back) ∙ sym (marked (r.place - start) inside) ∙ was in
    λ at. some_there r.place earlier some at.new

pub finds : (entries : List Entry) (start : ℕ) (earlier : List Receipt) (r : Receipt) (marks : List Bool) (place : ℕ) → place ≡ r.place → start ≤ place → slice_get entries place ≡ Some r.entry → place - start < length marks
    → (mark : Bool) → get_or marks (place - start) false ≡ mark → AreMarked start earlier marks → Finds entries start earlier r (set marks (place - start) true) (not mark)
finds entries start earlier r marks place is from entry inside mark was marked =
    let P : ℕ → Type 0 = λ p. start ≤ p → slice_get entries p ≡ Some r.entry → p - start < length marks → get_or marks (p - start) false ≡ mark → Finds entries start earlier r (set marks (p - start) true) (not mark) in
    subst P (sym is) (λ f e i w. finds_here entries start earlier r marks f e i mark w marked) from entry inside was

-- ---- the receipts of a seat, and of one seat more

-- all items of a vector have been taken from it, once none is left
pub all_yielded : {X : Type 0} (taken rest : List X) {all : List X} → length rest ≡ 0 → taken ++ rest ≡ all → taken ≡ all
all_yielded taken [] none split = sym (append-nil taken) ∙ split
all_yielded taken (x ∷ rest) none split = cc

module _ (entries : List Entry) (start : ℕ) where
  -- with one more that is at its place
  pub found_more : (earlier receipts : List Receipt) (r : Receipt) (marks : List Bool) → AreAtPlaces entries start earlier receipts → Finds entries start (earlier ++ receipts) r marks true
      → AreAtPlaces entries start earlier (receipts ++ r ∷ []) × AreMarked start (earlier ++ (receipts ++ r ∷ [])) marks
  found_more earlier receipts r marks before here = (
    AreAtPlaces-append entries start earlier receipts (r ∷ []) before (here.0, tt),
    subst (λ l. AreMarked start l marks) (append_assoc earlier receipts (r ∷ [])) here.1,
  )

  -- what is found behind receipts that are all at their places
  pub finds_behind : (earlier receipts : List Receipt) (marks : List Bool) (misplaced : Option Receipt) → AreAtPlaces entries start [] earlier → FindsAll entries start earlier receipts marks misplaced
      → FindsAll entries start [] (earlier ++ receipts) marks misplaced
  finds_behind earlier receipts marks None before here = (AreAtPlaces-append entries start [] earlier receipts before here.0, here.1)
  finds_behind earlier receipts marks (Some r) before here = misplaced_behind entries start [] earlier receipts r before here

-- the receipts of one seat more
pub receipts_behind : (seats : List Seated) (seat : Seated) → all_receipts (seats ++ seat ∷ []) ≡ all_receipts seats ++ seat.receipts
receipts_behind seats seat = flat_map-append (λ (s : Seated). s.receipts) seats (seat ∷ []) ∙ ap (λ x. all_receipts seats ++ x) (append-nil seat.receipts)

off : (b : Bool) → (b ≡ true → ⊥) → b ≡ false
off true h = absurd (h refl)
off false h = refl

-- where no mark is set, none of the places has a receipt
pub unmarked : (start : ℕ) (marks : List Bool) → list_any (λ b. b) marks ≡ false → AreMarked start [] marks
unmarked start marks none i inside = off (get_or marks i false) (λ on. let some = list_any_at (λ b. b) marks i false inside on in cc)

-- ---- all receipts

-- receipts at their places, as many as there are entries from the start on, are the history
pub matches : (entries : List Entry) (start begun : ℕ) (receipts : List Receipt) → start ≡ begun → AreAtPlaces entries start [] receipts → length receipts + start ≡ length entries → Matches receipts entries begun
matches entries start begun receipts is places many =
    subst (λ s. Matches receipts entries s) is (record { each = each_at_place entries start [] receipts places; as_many = omega arith })

-- the history at the end goes on from that at the beginning
pub goes_on : (history opened : HistoryOnTrack) (start : ℕ) (receipts : List Receipt) → history.track ≡ opened.track → history.begin ≡ opened.begin → history.most ≡ opened.most
    → take start history.entries ≡ opened.entries → start ≡ length opened.entries → IsRight history
    → length receipts + start ≡ length history.entries → GoesOn opened receipts history
goes_on history opened start receipts track begin most base begun right many =
    record {
      later = record { track = track; begin = begin; most = most; right = right; opening = ap (λ n. take n history.entries) (sym begun) ∙ base };
      as_many = omega arith;
    }
