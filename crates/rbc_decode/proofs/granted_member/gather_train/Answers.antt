use Rattle.rbc_decode.proofs.GrantedLemmas.{train_plain}
use Rattle.rbc_decode.proofs.granted_member.gather_train.Goals as goal

pub returns-clause-plain : goal.returns-clause-plain
returns-clause-plain c = train_plain c.args.name.now c.args.train c.requires.plain
