use Rattle.rbc_journal.proofs.ChangeLemmas.{last_seal_vouches}
use Rattle.rbc_journal.proofs.laws.last_seals_vouch.Goals as goal

pub returns : goal.returns
returns c = last_seal_vouches
