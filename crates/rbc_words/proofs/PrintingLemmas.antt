-- Laws of texts that are printed one behind another.
use Rattle.std.proofs.Common.{◌≡◌, ℕ, Bool, true, false, List, [], ◌++◌, Option, Result, Ok, Err, sym, subst}
use Rattle.std.specs.Io.KnownBytes.{Appends}
use Rattle.std.proofs.KnownBytes.{Appends-nil}
use Rattle.std.specs.Result.{IsErr}
use Rattle.rbc_model.specs.Sessions.{WritesPart, Prints}
use Rattle.rbc_streams.proofs.WritingLemmas.{writes_then, writes_stopped}

-- nothing is left to print
pub prints_nothing : {E : Type 0} (a : Option (List ℕ)) (failed : Bool) (text : List ℕ) → text ≡ [] → failed ≡ false
    → Prints {E = E} a a failed text (Ok tt)
prints_nothing a failed text none going =
    record { text = subst (Appends a a) (sym none) (Appends-nil a); failed = going }

-- the printing stopped within the first part of a text
pub prints_stopped : {E : Type 0} (a b : Option (List ℕ)) (failed : Bool) (x y text : List ℕ) (r : Result (Unit {0}) E)
    → WritesPart a b x → failed ≡ true → text ≡ x ++ y → IsErr r → Prints a b failed text r
prints_stopped a b failed x y text (Ok done) part stops whole failure = absurd cc
prints_stopped a b failed x y text (Err fault) part stops whole failure =
    record { text = writes_stopped a b x y text (Err fault) part whole failure; failed = stops }

module _ {E : Type 0} (a b c : Option (List ℕ)) (failed : Bool) (x y text : List ℕ) (r : Result (Unit {0}) E) where
  -- the first part of a text was printed, and then the second is
  pub prints_then : Appends a b x → text ≡ x ++ y → Prints b c failed y r → Prints a c failed text r
  prints_then first whole second =
      record { text = writes_then a b c x y text r first whole second.text; failed = second.failed }
