use Rattle.rbc_viewer.proofs.GivenLemmas.{appends_by}
use Rattle.rbc_viewer.proofs.inside.Escaping.into_writer.Goals as goal

pub returns-clause-text : goal.returns-clause-text
returns-clause-text g c going = appends_by _ _ _ (λ before was. c.args.self.whole before was going)
