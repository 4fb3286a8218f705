use Rattle.std.proofs.Common.{subst}
use Rattle.rbc_journal_file.specs.Past.{may_leave}
use Rattle.rbc_journal_file.proofs.StayingLemmas.{synced}
use Rattle.rbc_journal_file.proofs.recorded.RecordedDevice.sync.Goals as goal

pub returns-clause-crash : goal.returns-clause-crash
returns-clause-crash g c content left =
    let here = subst (λ p. may_leave p content) c.of.ensures left in
    subst (λ p. may_leave p content) c.earlier.ensures (synced c.earlier.result.value _ _ content here)
