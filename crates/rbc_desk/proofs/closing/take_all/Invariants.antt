use Rattle.std.proofs.Common.{◌≡◌, [], All, length, vec_len}
use Rattle.std.specs.Vec.Iter.{into_iter_items}
use Rattle.rbc_snap.specs.Later.{IsLater}
use Rattle.rbc_desk.specs.Closing.{all_receipts, FindsAll}
use Rattle.rbc_desk.proofs.closing.take_all.Given as goal

abbrev pub invariant-loop-seat : goal.invariant-loop-seat
invariant-loop-seat g l = record {
  size : vec_len l.marks ≡ vec_len l.fn.marks;
  parts : l.all.parts ≡ length l.yielded;
  amount : l.all.amount ≡ length (all_receipts l.yielded);
  told : All (λ seat. IsLater seat.told l.press.told) (into_iter_items l.seat-iterator) → All (λ seat. IsLater seat.told l.press.told) (into_iter_items l.initial.seat-iterator);
  found : FindsAll l.log.entries l.start [] (all_receipts l.yielded) l.marks.items l.misplaced;
}
