-- What a call that prints writes to a sink, whether or not the sink had failed before.
use Rattle.std.specs.Prelude.{◌≡◌, ℕ, List, Bool, true, false, Option}
use Rattle.std.specs.Io.KnownBytes.{Appends}
use Rattle.rbc_model.specs.Sessions.{WritesPart}

-- The text is written, or a part of it, from its start, and the sink fails; where it had failed before, nothing is.
abbrev pub EmitsText : Option (List ℕ) → Bool → Option (List ℕ) → Bool → List ℕ → Type 0
EmitsText old true new failed text = (new ≡ old) × (failed ≡ true)
EmitsText old false new false text = Appends old new text
EmitsText old false new true text = WritesPart old new text

-- The text is written to a sink, by what was written to it before and behind the call, and whether a write had failed.
pub record Emits {S : Type 0} (written : S → Option (List ℕ)) (failed : S → Bool) (old new : S) (words : List ℕ) : Type 0 where
  pub text : EmitsText (written old) (failed old) (written new) (failed new) words
