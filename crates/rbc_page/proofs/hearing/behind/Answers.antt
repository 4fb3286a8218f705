use Rattle.std.proofs.Common.{◌≡◌, ◌+◌, length}
use Rattle.std.specs.Prelude.{bytes_eq, drop, take}
use Rattle.rbc_page.proofs.HearingLemmas.{left_where}
use Rattle.rbc_page.proofs.hearing.behind.Goals as goal

pub returns : goal.returns
returns c =
    let opening = c.args.opening.now in
    let text = c.args.text.now in
    left_where (λ x. length x.now + length opening ≡ length text) (λ x. x.now) c.strip_prefix.result (bytes_eq (take (length opening) text) opening) (drop (length opening) text) c.strip_prefix.ensures.cases
