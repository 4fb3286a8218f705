-- A line that is too long is refused as such, whatever it says.
use Rattle.std.proofs.Common.{◌≡◌, ℕ, ◌<◌, List, length, Err, refl, sym, subst}
use Rattle.std.proofs.lemmas.Bool.{lt-ltb}
use Rattle.rbc_model.specs.declared.limits.TheConstants.{LONGEST_LINE}
use Rattle.rbc_model.specs.declared.places.Format.TheVariants.{Far}
use Rattle.rbc_model.specs.declared.refusals.LineFault.TheVariants.{Overlong}
use Rattle.rbc_model.specs.declared.refusals.StepsRefusal.TheVariants.{BadLine}
use Rattle.rbc_model.specs.StepsText.{parse_steps}
use Rattle.rbc_model.specs.StepsReply.{AnswersLine, AnswersRead, refusal_reply}

pub overlong_refused : (line : List ℕ) → LONGEST_LINE < length line
    → AnswersLine Far line (refusal_reply (BadLine Overlong))
overlong_refused line long =
    let read : parse_steps Far line ≡ Err Overlong = rw (lt-ltb LONGEST_LINE (length line) long) refl in
    subst (λ r. AnswersRead r (refusal_reply (BadLine Overlong))) (sym read) refl
