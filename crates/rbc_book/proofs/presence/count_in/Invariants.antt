use Rattle.std.proofs.Common.{◌≡◌, ℕ, length, take}
use Rattle.rbc_book.specs.Presence.{tally_at, with_one}
use Rattle.rbc_book.proofs.PresenceLemmas.{changed_on}
use Rattle.rbc_book.proofs.presence.count_in.Given as goal

abbrev pub invariant-loop-leg : goal.invariant-loop-leg
invariant-loop-leg l = record {
  size : length l.presence.items ≡ length l.train.track.sections;
  counted : (section : ℕ) → tally_at l.presence.items section ≡ changed_on (with_one l.train.train.report.train) (take l.leg-index l.legs) section (tally_at l.fn.presence.items section);
}
