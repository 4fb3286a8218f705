use Rattle.std.proofs.Common.{◌≡◌, ℕ, List, [], ◌∷◌, ◌++◌, length, All, false}
use Rattle.rbc_journal.specs.Gates.{text, counted, IsLine}
use Rattle.rbc_journal.specs.Seals.{has_seal_form}
use Rattle.rbc_journal.specs.Reading.{first_put}
use Rattle.rbc_journal.proofs.reading.put_behind.Given as goal

abbrev pub invariant-loop-line : goal.invariant-loop-line
invariant-loop-line l = record {
  put : List (List ℕ);
  split : 32 ∷ l.behind ≡ text put ++ 32 ∷ l.rest;
  lines : All IsLine put;
  inner : All (λ line. has_seal_form line ≡ false) put;
  count : length put ≡ l.lines;
  same : first_put l.before [] (counted (32 ∷ l.behind)) ≡ first_put l.before put (counted (32 ∷ l.rest));
}

abbrev pub decreases-loop-line : goal.decreases-loop-line
decreases-loop-line l = length l.rest
