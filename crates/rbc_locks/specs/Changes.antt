-- What a call answers, and what it leaves, where it changes a value as a definition says or is refused.
use Rattle.std.specs.Prelude.{◌≡◌, Result, Ok, Err}

-- The call changed the old value into the new one that the definition names, or it was refused as the definition says and the value is the old one.
abbrev pub ChangesAs : {X E : Type 0} → Result (Unit {0}) E → X → X → Result X E → Type 0
ChangesAs (Ok _) old new answer = answer ≡ Ok new
ChangesAs (Err refusal) old new answer = (answer ≡ Err refusal) × (new ≡ old)
