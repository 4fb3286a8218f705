-- The lines of a grant as the pieces that are printed one behind another.
use Rattle.std.proofs.Common.{◌≡◌, ℕ, List, [], ◌∷◌, ◌++◌, ℤ, sym, ap, ◌∙◌, append_assoc}
use Rattle.std.specs.Prelude.{codes}
use Rattle.rbc_model.specs.Kinds.{Kind, speed_kind, grade_kind}
use Rattle.rbc_model.specs.Levels.{Levels}
use Rattle.rbc_model.specs.Messages.{message_bytes}
use Rattle.rbc_model.specs.Profiles.{StepFunction, value_at, loss}
use Rattle.rbc_model.specs.StepsReply.{track_line, profile_line}
use Rattle.rbc_model.specs.Tracks.{Track}
use Rattle.rbc_model.specs.Words.{line_of, hex_of}
use Rattle.rbc_words.specs.Replies.{certificate_lines}
use Rattle.rbc_words.specs.declared.steps_reply.Basis.{Basis}
use Rattle.rbc_replies.specs.declared.replies.ToldGrant.{ToldGrant}
use Rattle.rbc_words.specs.PriceText.{prices_text}
use Rattle.rbc_replies.specs.Certificates.{certificate_text, IsLossOn}
use Rattle.rbc_replies.specs.Replies.{grant_line, grant_text}

-- the lines of a certificate
pub certificate_text-is : {V : Type 0} (kind : Kind V) (levels : Levels V) (profile : StepFunction V) (basis : Basis V) (lost : ℕ)
    → kind.levels ≡ levels → basis.track.now.end ≡ profile.end → lost ≡ loss levels profile.end (value_at basis.track.now.steps) profile.steps
    → certificate_lines kind profile lost basis ≡ certificate_text kind profile.end profile.steps basis
certificate_text-is {V} kind levels profile basis lost same_levels same_end same_loss =
    let lines : ℕ → ℕ → List ℕ = λ end l.
    track_line kind (record { limit = basis.limit; runs = basis.track.now.steps; end = end }) ++ profile_line kind profile.steps l ++ prices_text basis.prices.now in
    ap (λ end. lines end lost) same_end
    ∙ ap (lines profile.end) (same_loss ∙ ap (λ (ls : Levels V). loss ls profile.end (value_at basis.track.now.steps) profile.steps) (sym same_levels))

-- the profile that is handed over loses on the track what the one that it equals does
pub loss_of : {V : Type 0} (levels : Levels V) (profile track : StepFunction V) (lost : ℕ) (steps : List (ℕ × V)) (end : ℕ)
    → IsLossOn levels (record { steps = steps; end = end }) track lost → profile.steps ≡ steps → profile.end ≡ end → IsLossOn levels profile track lost
loss_of levels profile track lost steps end told same_steps same_end =
    record {
      ends = told.ends ∙ sym same_end;
      loss = told.loss ∙ ap (λ e. loss levels e (value_at track.steps) steps) (sym same_end) ∙ ap (loss levels profile.end (value_at track.steps)) (sym same_steps);
    }

-- the line of a message
abbrev pub message_line : List ℕ → List ℕ
message_line message = line_of (codes "message" ∷ hex_of message ∷ [])

-- the lines of a grant, each before those behind it
abbrev pub grant_lines : Track → ToldGrant → List ℕ → StepFunction ℕ → StepFunction ℤ → List ℕ
grant_lines track granted message speeds grades =
    grant_line track granted
    ++ (message_line message
    ++ (certificate_text speed_kind speeds.end speeds.steps granted.speeds
    ++ (certificate_text grade_kind grades.end grades.steps granted.grades
    ++ codes "done\n")))

-- the text of a grant in such lines
grant_text-own : (track : Track) (granted : ToldGrant)
    → grant_text track granted
    ≡ grant_lines track granted (message_bytes granted.authority.now)
    (record { steps = granted.authority.now.speeds; end = granted.authority.now.end })
    (record { steps = granted.authority.now.grades; end = granted.authority.now.end })
grant_text-own track granted =
    let first = grant_line track granted in
    let message = message_line (message_bytes granted.authority.now) in
    let speeds = certificate_text speed_kind granted.authority.now.end granted.authority.now.speeds granted.speeds in
    let grades = certificate_text grade_kind granted.authority.now.end granted.authority.now.grades granted.grades in
    append_assoc (first ++ message ++ speeds) grades (codes "done\n")
    ∙ append_assoc (first ++ message) speeds (grades ++ codes "done\n")
    ∙ append_assoc first message (speeds ++ (grades ++ codes "done\n"))

-- the text of a grant, by the message and the profiles that are handed over
pub grant_text-is : (track : Track) (granted : ToldGrant) (message : List ℕ) (speeds : StepFunction ℕ) (grades : StepFunction ℤ)
    → message ≡ message_bytes granted.authority.now
    → speeds.steps ≡ granted.authority.now.speeds → speeds.end ≡ granted.authority.now.end
    → grades.steps ≡ granted.authority.now.grades → grades.end ≡ granted.authority.now.end
    → grant_text track granted ≡ grant_lines track granted message speeds grades
grant_text-is track granted message speeds grades same_message speed_steps speed_end grade_steps grade_end =
    let lines : List ℕ → List (ℕ × ℕ) → ℕ → List (ℕ × ℤ) → ℕ → List ℕ =
    λ m ss se gs ge. grant_lines track granted m (record { steps = ss; end = se }) (record { steps = gs; end = ge }) in
    let a = granted.authority.now in
    grant_text-own track granted
    ∙ ap (λ m. lines m a.speeds a.end a.grades a.end) (sym same_message)
    ∙ ap (λ ss. lines message ss a.end a.grades a.end) (sym speed_steps)
    ∙ ap (λ se. lines message speeds.steps se a.grades a.end) (sym speed_end)
    ∙ ap (λ gs. lines message speeds.steps speeds.end gs a.end) (sym grade_steps)
    ∙ ap (λ ge. lines message speeds.steps speeds.end grades.steps ge) (sym grade_end)
