use Rattle.std.proofs.Common.{◌≡◌, Result, Ok, Err, subst, sym}
use Rattle.std.specs.Prelude.{OnOk}
use Rattle.rbc_journal.specs.Gates.{IsLine}
use Rattle.rbc_journal.proofs.SealLemmas.{digits_line}
use Rattle.rbc_journal.proofs.header.track_digest.Goals as goal

on_ok_at : {T E P : Type 0} (r : Result T E) (x : T) → r ≡ Ok x → OnOk r P → P
on_ok_at (Ok y) x is p = p
on_ok_at (Err e) x is p = cc is

pub returns-clause-line : goal.returns-clause-line
returns-clause-line c =
    subst IsLine (sym (on_ok_at c.encode_to_slice.result c.unwrap.result c.unwrap.ensures c.encode_to_slice.ensures.written)) (digits_line c.digest.result)
