use Rattle.rbc_checks.proofs.verdict.emit_reason.Goals as goal

pub returns-in-Shape : goal.returns-in-Shape
returns-in-Shape g c = rw c.in-Shape.is c.emit.ensures

pub returns-in-Above : goal.returns-in-Above
returns-in-Above g c = rw (c.in-Above.is, ← c.from.ensures) c.emit_last.ensures

pub returns-in-Inequality : goal.returns-in-Inequality
returns-in-Inequality g c = rw c.in-Inequality.is c.emit_inequality.ensures

pub returns-in-NotAttained : goal.returns-in-NotAttained
returns-in-NotAttained g c = rw c.in-NotAttained.is c.emit-in-NotAttained.ensures

pub returns-in-Steps : goal.returns-in-Steps
returns-in-Steps g c = rw c.in-Steps.is c.emit-in-Steps.ensures
