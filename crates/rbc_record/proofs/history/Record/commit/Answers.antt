use Rattle.std.proofs.Common.{Result, Ok, Err, ap, sym, ◌∙◌}
use Rattle.std.specs.Prelude.{IfOk}
use Rattle.rbc_record.specs.Entering.{is_shown}
use Rattle.rbc_record.proofs.KeepingLemmas.{view_shown}
use Rattle.rbc_record.proofs.history.Record.commit.Goals as goal

in_any_case : {X E : Type 0} {P : Type 0} (result : Result X E) → P → IfOk result (λ x. P)
in_any_case (Ok x) p = p
in_any_case (Err e) p = tt

pub returns-clause-shown : goal.returns-clause-shown
returns-clause-shown c =
    in_any_case c.enter.result
    (view_shown c.args.self.now c.args.candidate.now.view (ap (is_shown c.args.self.now) (sym c.view.ensures.view) ∙ sym c.in_ok-shows.ensures.shown ∙ c.if-not-branch.false))
