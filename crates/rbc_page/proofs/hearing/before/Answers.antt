use Rattle.std.proofs.Common.{◌≡◌, ◌+◌, length}
use Rattle.std.specs.Prelude.{◌-◌, bytes_eq, drop, take}
use Rattle.rbc_page.proofs.HearingLemmas.{left_where}
use Rattle.rbc_page.proofs.hearing.before.Goals as goal

pub returns : goal.returns
returns c =
    let ending = c.args.ending.now in
    let text = c.args.text.now in
    let count = length text - length ending in
    left_where (λ x. length x.now + length ending ≡ length text) (λ x. x.now) c.strip_suffix.result (bytes_eq (drop count text) ending) (take count text) c.strip_suffix.ensures.cases
