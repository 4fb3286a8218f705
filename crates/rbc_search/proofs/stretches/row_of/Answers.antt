use Rattle.std.proofs.Common.{◌∙◌, ap, sym}
use Rattle.rbc_model.specs.Tracks.{Track}
use Rattle.rbc_search.specs.Stretches.{but, stretches_along}
use Rattle.rbc_search.proofs.StretchLemmas.{none_has, one_has, one_track}
use Rattle.rbc_search.proofs.stretches.row_of.Goals as goal

pub returns-in-Nobody : goal.returns-in-Nobody
returns-in-Nobody c = sym (none_has c.args.book.now.track c.args.section (but c.args.id c.args.book.now.trains) c.in-Nobody.ensures)

pub returns-in-One : goal.returns-in-One
returns-in-One c =
    let one = c.in-One.train.now in
    c.of.ensures ∙ c.stretch_along.ensures
    ∙ ap (λ (t : Track). stretches_along t one.train c.args.section 0 one.train.line) (one_track c.args.book.now.track c.args.section (but c.args.id c.args.book.now.trains) one c.in-One.ensures)
    ∙ sym (one_has c.args.book.now.track c.args.section (but c.args.id c.args.book.now.trains) one c.in-One.ensures)
