use Rattle.std.proofs.Common.{◌≡◌, ◌≤◌, ◌+◌, ◌*◌, ◌++◌, drop, length}
use Rattle.rbc_words.specs.Replies.{runs_text}
use Rattle.rbc_words.proofs.steps_reply.gather_runs.Given as goal

abbrev pub invariant-loop-i : goal.invariant-loop-i
invariant-loop-i g l = (l.text ≡ runs_text g.V.Spelled.kind (drop l.i l.runs) ++ l.fn.text) × (length l.text + 43 * l.i ≤ length l.fn.text + 43 * length l.runs)
