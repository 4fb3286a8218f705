use Rattle.std.proofs.Common.{rules, ◌≡◌, ◌∙◌, ℕ, Result, Ok, Err, true, sym}
use Rattle.std.proofs.lemmas.Bool.{eqb-true}
use Rattle.std.specs.Cmp.{first_so}
use Rattle.std.specs.declared.io.Error.{Error}
use Rattle.rbc_commands.specs.Statuses.{is_help_lost, status_of}
use Rattle.rbc_commands.proofs.failure.Failure.told.Goals as goal

-- help is lost only where it was asked for
asked_for : (status : ℕ) (printed : Result (Unit {0}) Error) → is_help_lost status printed ≡ true → status ≡ 0
asked_for status (Ok done) lost = search rules
asked_for status (Err error) lost = eqb-true status 0 (first_so _ _ lost)

pub returns-clause-fault : goal.returns-clause-fault
returns-clause-fault g c = λ wrong. absurd (wrong (asked_for (status_of c.args.self) _ (sym c.is_help_lost.ensures ∙ c.if-not-is_help_lost.false)))
