use Rattle.std.proofs.Common.{◌≡◌, List, vec_len, ◌++◌}
use Rattle.std.specs.Vec.Iter.{into_iter_items}
use Rattle.rbc_model.specs.Histories.{Receipt}
use Rattle.rbc_desk.specs.Closing.{AreAtPlaces, AreMarked}
use Rattle.rbc_desk.proofs.closing.find_all.Given as goal

abbrev pub invariant-loop-receipt : goal.invariant-loop-receipt
invariant-loop-receipt l = record {
  length : vec_len l.marks ≡ vec_len l.fn.marks;
  split : l.yielded ++ into_iter_items l.receipt-iterator ≡ into_iter_items l.initial.receipt-iterator;
  found : (earlier : List Receipt) → AreMarked l.start earlier l.fn.marks.items
      → AreAtPlaces l.log.entries l.start earlier l.yielded × AreMarked l.start (earlier ++ l.yielded) l.marks.items;
}
