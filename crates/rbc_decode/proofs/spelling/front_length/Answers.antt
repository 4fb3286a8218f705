use Rattle.std.proofs.Common.{not}
use Rattle.std.specs.Char.{is_ascii_hexdigit}
use Rattle.rbc_decode.proofs.PositionLemmas.{position-bound, position-cases}
use Rattle.rbc_decode.proofs.spelling.front_length.Goals as goal

pub returns-in-Some-clause-value : goal.returns-in-Some-clause-value
returns-in-Some-clause-value c = position-cases (λ byte. not (is_ascii_hexdigit byte)) c.args.digits.now _ c.in-Some.ensures

pub returns-in-Some-clause-bound : goal.returns-in-Some-clause-bound
returns-in-Some-clause-bound c = position-bound (λ byte. not (is_ascii_hexdigit byte)) c.args.digits.now _ c.in-Some.ensures

pub returns-in-None-clause-value : goal.returns-in-None-clause-value
returns-in-None-clause-value c = position-cases (λ byte. not (is_ascii_hexdigit byte)) c.args.digits.now _ c.in-None.ensures
