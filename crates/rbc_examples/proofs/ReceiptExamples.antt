-- Receipts for a history: some that match its entries, and some that do not.
use Rattle.std.proofs.Common.{◌≡◌, ◌≢◌, ℕ, zero, suc, ◌<◌, ◌≤◌, List, [], ◌∷◌, All, Some, refl, arith, lit≤, lit<, subst, slice_get, take}
use Rattle.std.proofs.lemmas.List.Elements.{All-nil, All-cons, All-head, All-tail}
use Rattle.rbc_model.specs.declared.reports.Told.TheVariants.{Report as ToldReport, Lock as ToldLock}
use Rattle.rbc_model.specs.Histories.{Heard, Granted, Receipt, IsAtPlace, Matches}
use Rattle.rbc_examples.proofs.HistoryExamples.{report, grant, entries}

-- the receipts of its three entries
abbrev lock_receipt : Receipt
lock_receipt = record { place = 0; entry = Heard (ToldLock 0) }

abbrev report_receipt : Receipt
report_receipt = record { place = 1; entry = Heard (ToldReport report) }

abbrev grant_receipt : Receipt
grant_receipt = record { place = 2; entry = Granted grant }

-- ---- receipts that match

-- the place of no receipt in the list
abbrev NoneAt : ℕ → List Receipt → Type 0
NoneAt place earlier = All (λ other. other.place ≢ place) earlier

none_before : (place : ℕ) → NoneAt place []
none_before place = All-nil (λ other. other.place ≢ place)

one_before : (place : ℕ) (other : Receipt) (earlier : List Receipt) → other.place ≢ place → NoneAt place earlier
    → NoneAt place (other ∷ earlier)
one_before place other earlier differs rest = All-cons (λ other. other.place ≢ place) other earlier differs rest

is_at : (start : ℕ) (earlier : List Receipt) (receipt other : Receipt) → start ≤ receipt.place
    → slice_get entries receipt.place ≡ Some receipt.entry → NoneAt receipt.place earlier
    → Some receipt ≡ Some other → IsAtPlace entries start earlier other
is_at start earlier receipt other low there new same =
    subst (IsAtPlace entries start earlier) (the_receipt receipt other same)
    (record { from_start = low; entry = there; new = new })
  where
    the_receipt : (a b : Receipt) → Some a ≡ Some b → a ≡ b
    the_receipt a b e = cc

-- in any order
pub in_another_order : Matches (grant_receipt ∷ lock_receipt ∷ report_receipt ∷ []) entries 0
in_another_order = record { each = each; as_many = refl }
  where
    each : (i : ℕ) (receipt : Receipt) → slice_get (grant_receipt ∷ lock_receipt ∷ report_receipt ∷ []) i ≡ Some receipt
        → IsAtPlace entries 0 (take i (grant_receipt ∷ lock_receipt ∷ report_receipt ∷ [])) receipt
    each zero receipt e = is_at 0 [] grant_receipt receipt (lit≤ tt) refl (none_before 2) e
    each (suc zero) receipt e =
        is_at 0 (grant_receipt ∷ []) lock_receipt receipt (lit≤ tt) refl
        (one_before 0 grant_receipt [] (omega arith) (none_before 0)) e
    each (suc (suc zero)) receipt e =
        is_at 0 (grant_receipt ∷ lock_receipt ∷ []) report_receipt receipt (lit≤ tt) refl
        (one_before 1 grant_receipt (lock_receipt ∷ []) (omega arith)
        (one_before 1 lock_receipt [] (omega arith) (none_before 1))) e
    each (suc (suc (suc i))) receipt e = absurd cc

-- from a later start on
pub from_the_grant_on : Matches (grant_receipt ∷ []) entries 2
from_the_grant_on = record { each = each; as_many = refl }
  where
    each : (i : ℕ) (receipt : Receipt) → slice_get (grant_receipt ∷ []) i ≡ Some receipt
        → IsAtPlace entries 2 (take i (grant_receipt ∷ [])) receipt
    each zero receipt e = is_at 2 [] grant_receipt receipt (lit≤ tt) refl (none_before 2) e
    each (suc i) receipt e = absurd cc

-- ---- receipts that do not

pub one_place_twice : Matches (lock_receipt ∷ grant_receipt ∷ grant_receipt ∷ []) entries 0 → ⊥
one_place_twice m =
    let new = (m.each 2 grant_receipt refl).new in
    All-head (λ other. other.place ≢ 2) grant_receipt []
    (All-tail (λ other. other.place ≢ 2) lock_receipt (grant_receipt ∷ []) new) refl

pub one_too_few : Matches (lock_receipt ∷ report_receipt ∷ []) entries 0 → ⊥
one_too_few m = apart 2 3 m.as_many (lit< tt)
  where
    apart : (a b : ℕ) → a ≡ b → a < b → ⊥
    apart a b e below = omega arith

pub one_before_the_start : Matches (lock_receipt ∷ grant_receipt ∷ []) entries 1 → ⊥
one_before_the_start m = let low : 1 ≤ 0 = (m.each 0 lock_receipt refl).from_start in omega arith

-- the entry of another place
pub another_entry : Matches (record { place = 2; entry = Heard (ToldLock 0) } ∷ []) entries 2 → ⊥
another_entry m = differ (m.each 0 (record { place = 2; entry = Heard (ToldLock 0) }) refl).entry
  where
    differ : Some (Granted grant) ≡ Some (Heard (ToldLock 0)) → ⊥
    differ e = cc
