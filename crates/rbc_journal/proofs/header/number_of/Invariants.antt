use Rattle.std.proofs.Common.{◌≡◌, ◌^◌, ◌<◌, drop}
use Rattle.rbc_journal.specs.Headers.{number_from}
use Rattle.rbc_journal.proofs.header.number_of.Given as goal

abbrev pub invariant-loop-digit : goal.invariant-loop-digit
invariant-loop-digit l = record {
  read : number_from l.number (drop l.digit-index l.digits) ≡ number_from 0 l.digits;
  fits : l.number < 10 ^ l.digit-index;
}
