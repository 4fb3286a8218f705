use Rattle.std.proofs.Common.{arith, subst, List}
use Rattle.std.proofs.lemmas.Bool.{ltb-true}
use Rattle.rbc_logbook_laws.proofs.BeginningLemmas.{prefix_itself}
use Rattle.rbc_group_commit.specs.Marks.{HasLine}
use Rattle.rbc_group_commit.specs.declared.stamp.Stamp.{Stamp}
use Rattle.rbc_group_commit.proofs.MarkLemmas.{has_line}
use Rattle.rbc_group_commit.proofs.committer.Committer.has.Goals as goal

pub returns : goal.returns
returns g c = λ less.
    let mine = c.self.inside.mark in
    let has = has_line mine mine c.args.place (prefix_itself mine) c.known.ensures (omega (arith, ltb-true c.args.place c.lines.result less, c.lines.ensures)) in
    subst (λ (l : List Stamp). HasLine l c.args.place) c.self.view_is has
