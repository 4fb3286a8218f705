-- How what treats lines ends, where memory may have been refused for it.
use Rattle.std.proofs.Common.{◌≡◌, ℕ, Bool, true, false, ◌||◌, List, [], Option, Some, Result, Ok, Err, refl, subst}
use Rattle.std.specs.Prelude.{◌↔◌, IsTrue, OnOk, IfSome}
use Rattle.std.specs.Io.KnownBytes.{Consumes, IsAtEnd}
use Rattle.std.proofs.KnownBytes.{Appends-nil, Consumes-whole}
use Rattle.std.proofs.lemmas.Bool.{or_left}
use Rattle.rbc_model.specs.declared.sessions.SessionFault.{SessionFault}
use Rattle.rbc_model.specs.declared.sessions.SessionFault.TheVariants.{Read, Write, Memory}
use Rattle.rbc_model.specs.Sessions.{Prints}
use Rattle.rbc_model.proofs.ResultLemmas.{ok_is_no_err, read_is_not_write}

or_second : (a b : Bool) → (a || b) ≡ true → a ≡ false → b ≡ true
or_second true b both none = absurd cc
or_second false b both none = both

abbrev Ended : Type 0
Ended = Result (Unit {0}) SessionFault

pub memory_read : (let r : Ended = Err Memory in r) ≡ Err Read → ⊥
memory_read e = cc

module _ (lost failed : Bool) (r : Ended) (write : (r ≡ Err Write) ↔ IsTrue (lost || failed)) where
  pub write_failed : lost ≡ false → r ≡ Err Write → IsTrue failed
  write_failed whole e = or_second lost failed (write.0 e) whole

  -- where memory was refused, the reader did not fail
  pub no_read : (reader : Bool) → (r ≡ Err Read) ↔ IsTrue reader → lost ≡ true → IsTrue reader → ⊥
  no_read reader read gone fails = read_is_not_write (read.1 fails) (write.1 (or_left lost failed gone))

pub still_going : (lost failed : Bool) (r : Ended) → (r ≡ Err Write) ↔ IsTrue (lost || failed) → lost ≡ false → OnOk r (failed ≡ false)
still_going lost failed (Err fault) write whole = tt
still_going lost false (Ok done) write whole = refl
still_going true true (Ok done) write whole = absurd cc
still_going false true (Ok done) write whole = absurd (ok_is_no_err refl (write.1 refl))

-- a line at which nothing is written
pub none_written : {E : Type 0} (a : Option (List ℕ)) (lost failed : Bool) → lost ≡ false → failed ≡ false → Prints {E = E} a a (lost || failed) [] (Ok tt)
none_written a true failed whole going = absurd cc
none_written a false failed whole going = record { text = Appends-nil a; failed = going }

-- what holds of all that was read holds of the input, where the reader came to its end
pub of_input : (Holds : List ℕ → Type 0) (before after : Option (List ℕ)) (read input : List ℕ) → Consumes before after read → IsAtEnd after → Holds read → before ≡ Some input → Holds input
of_input Holds before after read input taken end holds left = subst (λ l. IfSome l Holds) left (Consumes-whole before after read Holds taken end holds)

-- what is known where a call ends well, by what that shows
pub on_ok : {V E : Type 0} (r : Result V E) (A B : Type 0) → (A → B) → OnOk r A → OnOk r B
on_ok (Ok value) A B then known = then known
on_ok (Err fault) A B then known = tt
