use Rattle.std.proofs.Common.{map}
use Rattle.std.specs.Char.{to_ascii_lowercase}
use Rattle.rbc_page.proofs.HearingLemmas.{tested}
use Rattle.rbc_page.proofs.hearing.is_alike.Goals as goal

pub returns : goal.returns
returns c = tested c.eq_ignore_ascii_case.result (map to_ascii_lowercase c.args.text.now) (map to_ascii_lowercase c.args.other.now) c.eq_ignore_ascii_case.ensures.test
