-- What a call answers, beside what its definition says, where memory may be refused.
use Rattle.std.specs.Prelude.{◌≡◌, Result, Ok, Err}
use Rattle.rbc_model.specs.declared.memory.OrMemory.{OrMemory}
use Rattle.rbc_model.specs.declared.memory.OrMemory.TheVariants.{Refused, Memory}

-- The call was refused so: the definition's refusal, or memory, which the definition knows nothing of.
abbrev pub RefusesOrMemory : {Y E : Type 0} → OrMemory E → Result Y E → Type 0
RefusesOrMemory (Refused refusal) answer = answer ≡ Err refusal
RefusesOrMemory Memory answer = Unit {0}

-- The call answers what the definition says, unless memory was refused. Its value is seen by the function given first.
abbrev pub AnswersAs : {X Y E : Type 0} → (X → Y) → Result X (OrMemory E) → Result Y E → Type 0
AnswersAs view (Ok x) answer = answer ≡ Ok (view x)
AnswersAs view (Err fault) answer = RefusesOrMemory fault answer

-- The call answers what the definition says, unless memory was refused. Its value is seen as it is.
abbrev pub AnswersOrMemory : {X E : Type 0} → Result X (OrMemory E) → Result X E → Type 0
AnswersOrMemory result answer = AnswersAs (λ x. x) result answer
