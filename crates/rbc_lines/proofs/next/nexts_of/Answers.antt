use Rattle.std.proofs.Common.{◌∙◌}
use Rattle.std.specs.Prelude.{map}
use Rattle.rbc_lines.specs.Nexts.{next_of}
use Rattle.rbc_lines.proofs.next.nexts_of.Goals as goal

pub returns : goal.returns
returns c =
    c.in_ok-nexts.ensures
    ∙ (λ j. map (next_of (c.book.ensures.track j) (record { locks = c.locks.ensures.locks j; trains = c.book.ensures.trains j })) (c.book.ensures.trains j))
