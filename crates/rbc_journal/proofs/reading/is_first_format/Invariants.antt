use Rattle.std.proofs.Common.{◌≡◌, ℕ, List, ◌++◌, length, false}
use Rattle.std.specs.List.{list_any}
use Rattle.rbc_journal.specs.Gates.{text, counted}
use Rattle.rbc_journal.specs.Seals.{is_comment}
use Rattle.rbc_journal.proofs.reading.is_first_format.Given as goal

abbrev pub invariant-loop-line : goal.invariant-loop-line
invariant-loop-line l = record {
  lines : List (List ℕ);
  split : l.bytes ≡ text lines ++ l.rest;
  read : counted l.bytes ≡ lines ++ counted l.rest;
  none : list_any is_comment lines ≡ false;
}

abbrev pub decreases-loop-line : goal.decreases-loop-line
decreases-loop-line l = length l.rest
