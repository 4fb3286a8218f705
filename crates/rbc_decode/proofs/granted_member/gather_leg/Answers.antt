use Rattle.std.proofs.Common.{◌≡◌, true, subst}
use Rattle.rbc_model.specs.Names.{is_name}
use Rattle.rbc_decode.proofs.GrantedLemmas.{leg_plain}
use Rattle.rbc_decode.proofs.granted_member.gather_leg.Goals as goal

pub returns-clause-plain : goal.returns-clause-plain
returns-clause-plain c = leg_plain c.args.leg (subst (λ name. is_name name ≡ true) c.section-section.ensures c.known.ensures.name)
