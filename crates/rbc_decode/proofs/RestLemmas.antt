-- What is left to read, from field to field.
use Rattle.std.proofs.Common.{◌≡◌, ℕ, zero, suc, ◌<◌, Bool, true, length, Some, arith, subst, ap, ◌∙◌}
use Rattle.rbc_decode.specs.declared.fields.Fields.{Fields}
use Rattle.rbc_decode.specs.declared.fields.Item.{Item}
use Rattle.rbc_decode.specs.Readings.{Reading, stopped, with_item, left_to_read, reading_from}

-- this holds of what is left to read, however many calls that takes
pub record Rest (fields : Fields) (Holds : Reading → Type 0) : Type 0 where
  pub most : ℕ
  pub enough : length fields.bits < most
  pub holds : Holds (left_to_read most fields)

-- what it holds of implies another
pub rest_to : (fields : Fields) (Holds Next : Reading → Type 0) → ((reading : Reading) → Holds reading → Next reading) → Rest fields Holds → Rest fields Next
rest_to fields Holds Next step rest = record { most = rest.most; enough = rest.enough; holds = step _ rest.holds }

module _ (old new : Fields) (Holds : Reading → Type 0) where
  next_of : (item : Item) (most : ℕ) → length old.bits < most → Holds (left_to_read most old)
      → ((m : ℕ) → left_to_read (suc m) old ≡ with_item (Some item) (left_to_read m new)) → length new.bits < length old.bits
      → Rest new (λ later. Holds (with_item (Some item) later))
  next_of item zero enough holds next shorter = absurd (omega arith)
  next_of item (suc m) enough holds next shorter = record { most = m; enough = omega arith; holds = subst Holds (next m) holds }

  -- a field was read
  pub rest_next : (item : Item) → Rest old Holds
      → ((m : ℕ) → left_to_read (suc m) old ≡ with_item (Some item) (left_to_read m new)) → length new.bits < length old.bits
      → Rest new (λ later. Holds (with_item (Some item) later))
  rest_next item rest = next_of item rest.most rest.enough rest.holds

  over_of : (most : ℕ) → length old.bits < most → Holds (left_to_read most old)
      → ((m : ℕ) → left_to_read (suc m) old ≡ left_to_read m new) → new.is_over ≡ true → Holds (stopped new.found)
  over_of zero enough holds next none = absurd (omega arith)
  over_of (suc m) enough holds next none =
      subst Holds (next m ∙ ap (λ (over : Bool). reading_from m over new.walk new.bits new.bit new.found) none) holds

  -- none is left
  pub rest_over : Rest old Holds → ((m : ℕ) → left_to_read (suc m) old ≡ left_to_read m new) → new.is_over ≡ true → Holds (stopped new.found)
  rest_over rest = over_of rest.most rest.enough rest.holds
