-- The replies that are printed, as text.
use Rattle.std.specs.Prelude.{ℕ, List, ◌∷◌, ◌++◌, decimal}
use Rattle.std.specs.List.{flat_map}
use Rattle.rbc_model.specs.Kinds.{Kind}
use Rattle.rbc_model.specs.Profiles.{StepFunction}
use Rattle.rbc_model.specs.StepsReply.{track_line, profile_line, packet_lines}
use Rattle.rbc_words.specs.PriceText.{prices_text}
use Rattle.rbc_words.specs.declared.steps_reply.Basis.{Basis}

-- runs or steps, each a start, a colon (58) and a value behind a space (32)
abbrev pub runs_text : {V : Type 0} → Kind V → List (ℕ × V) → List ℕ
runs_text kind runs = flat_map (λ run. 32 ∷ (decimal run.0 ++ 58 ∷ kind.print run.1)) runs

-- the line of a track, with the limit of steps
abbrev pub track_text : {V : Type 0} → Kind V → ℕ → StepFunction V → List ℕ
track_text kind limit track = track_line kind (record { limit = limit; runs = track.steps; end = track.end })

-- the lines of a certificate: a profile, what it loses, and what it was chosen for
abbrev pub certificate_lines : {V : Type 0} → Kind V → StepFunction V → ℕ → Basis V → List ℕ
certificate_lines kind profile loss basis =
    track_text kind basis.limit basis.track.now
    ++ profile_line kind profile.steps loss
    ++ prices_text basis.prices.now

-- a certificate and its packet
abbrev pub certified_text : {V : Type 0} → Kind V → StepFunction V → ℕ → Basis V → List ℕ → List ℕ
certified_text kind profile loss basis packet = certificate_lines kind profile loss basis ++ packet_lines packet
