use Rattle.rbc_decode.proofs.GrantedLemmas.{section_plain}
use Rattle.rbc_decode.proofs.granted_member.gather_section.Goals as goal

pub returns-clause-plain : goal.returns-clause-plain
returns-clause-plain c = section_plain c.args.section c.known.ensures.name
