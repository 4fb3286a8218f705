-- What a law says of a session whose input and texts are known holds of a session that came to the end of its input.
use Rattle.std.proofs.Common.{ℕ, List, ◌++◌, Option, Some, Result, Ok, Err, subst}
use Rattle.std.specs.Prelude.{OnOk, IfOk, IfSome}
use Rattle.std.specs.Io.KnownBytes.{Consumes, IsAtEnd}
use Rattle.std.proofs.KnownBytes.{Consumes-whole}
use Rattle.rbc_session_laws.specs.Laws.{SaysNoMemory}
use Rattle.rbc_session_laws.specs.AllRead.{OfAllRead}

-- sessions that ran so, and what the law says of those that ended well, by what they answered
module _ {A E : Type 0} (Ran : List ℕ → Option (List ℕ) → Option (List ℕ) → Result A E → Type 0) (Holds : A → List ℕ → List ℕ → Type 0)
    (law : (done : A) (input held text : List ℕ) → Ran input (Some held) (Some (held ++ text)) (Ok done) → SaysNoMemory text → Holds done input text) where
  pub of_all_read : (left_before left_after old new : Option (List ℕ)) (result : Result A E) (read : List ℕ)
      → OnOk result (IsAtEnd left_after) → Consumes left_before left_after read → Ran read old new result → IfOk result (λ done. OfAllRead (Holds done) left_before old new)
  of_all_read left_before left_after old new (Err fault) read end taken ran = tt
  of_all_read left_before left_after old new (Ok done) read end taken ran = λ input held text left was is none.
      law done input held text
      (subst (λ n. Ran input (Some held) n (Ok done)) is
      (subst (λ o. Ran input o new (Ok done)) was
      (subst (λ l. IfSome l (λ i. Ran i old new (Ok done))) left
      (Consumes-whole left_before left_after read (λ i. Ran i old new (Ok done)) taken end ran))))
      none
