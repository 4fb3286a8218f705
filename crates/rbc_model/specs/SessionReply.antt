-- A session of the centre: the bytes of its reply to a line. Sections and legs are told by the names that the track gives them.
use Rattle.std.specs.Prelude.{ℕ, List, [], ◌∷◌, ◌++◌, ℤ, slice_get, codes, decimal}
use Rattle.std.specs.Option.{option_map_or}
use Rattle.std.specs.Fmt.{signed_decimal}
use Rattle.rbc_model.specs.declared.places.Leg.{Leg}
use Rattle.rbc_model.specs.declared.refusals.LineFault.{LineFault}
use Rattle.rbc_model.specs.declared.refusals.Obstacle.{Obstacle}
use Rattle.rbc_model.specs.declared.refusals.Obstacle.TheVariants.{NoLink, NotLocked as NotLockedAhead, Own, Occupied, Held, Limit}
use Rattle.rbc_model.specs.declared.refusals.Refusal.{Refusal}
use Rattle.rbc_model.specs.declared.refusals.Refusal.TheVariants.{Crowded, UnknownGroup, Offline, Unplaced, TooFar, Clash, LinkTaken, NotLocked, Busy, UnknownTrain, YieldRange, NotSafe}
use Rattle.rbc_model.specs.Tracks.{Track}
use Rattle.rbc_model.specs.Names.{leg_text}
use Rattle.rbc_model.specs.Words.{line_of, hex_of}
use Rattle.rbc_model.specs.Kinds.{speed_kind, grade_kind}
use Rattle.rbc_model.specs.Messages.{message_bytes}
use Rattle.rbc_model.specs.Views.{View}
use Rattle.rbc_model.specs.Histories.{Grants}
use Rattle.rbc_model.specs.StepsReply.{certificate, fault_words}

-- ---- sections, legs and obstacles

-- the name of a section
abbrev pub section_word : Track → ℕ → List ℕ
section_word track section = option_map_or (λ s. s.name) (slice_get track.sections section) []

-- a leg: its section's name, and `+` or `-`
abbrev pub leg_word : Track → Leg → List ℕ
leg_word track leg = leg_text (record { section = section_word track leg.section; direction = leg.direction })

-- an obstacle's name, and the leg, the section or the train
abbrev pub obstacle_words : Track → Obstacle → List (List ℕ)
obstacle_words track (NoLink leg) = codes "NoLink" ∷ leg_word track leg ∷ []
obstacle_words track (NotLockedAhead section) = codes "NotLocked" ∷ section_word track section ∷ []
obstacle_words track Own = codes "Own" ∷ []
obstacle_words track (Occupied train) = codes "Occupied" ∷ decimal train ∷ []
obstacle_words track (Held train) = codes "Held" ∷ decimal train ∷ []
obstacle_words track Limit = codes "Limit" ∷ []

-- ---- what is accepted

-- the reply to an event that is accepted: the version after it
abbrev pub accepted_reply : ℕ → List ℕ
accepted_reply version = line_of (codes "ok" ∷ decimal version ∷ [])

-- The reply to a train that is granted an authority: the train, the version after it, from where and up to where it may run, in metres from its
-- group, and the obstacle; the message; a certificate of its speeds and one of its gradients, each with the rows of its price table, where there
-- are any; and the last line.
abbrev pub grant_reply : Track → ℕ → View → Grants → List (List ℕ) → List (List ℕ) → List ℕ
grant_reply track version view grant speed_rows grade_rows =
    line_of
    (codes "granted"
    ∷ decimal grant.train
    ∷ decimal version
    ∷ signed_decimal grant.from
    ∷ decimal grant.authority.end
    ∷ obstacle_words track grant.obstacle)
    ++ line_of (codes "message" ∷ hex_of (message_bytes grant.authority) ∷ [])
    ++ certificate speed_kind (record { limit = view.speed_steps; runs = view.speeds; end = grant.authority.end }) grant.authority.speeds speed_rows
    ++ certificate grade_kind (record { limit = view.grade_steps; runs = view.grades; end = grant.authority.end }) grant.authority.grades grade_rows
    ++ line_of (codes "done" ∷ [])

-- the reply to a train that may run no further: the train, the version seen, where the obstacle stands, in metres from its group, and this
abbrev pub blocked_reply : Track → ℕ → ℕ → ℤ → Obstacle → List ℕ
blocked_reply track train version at obstacle =
    line_of (codes "blocked" ∷ decimal train ∷ decimal version ∷ signed_decimal at ∷ obstacle_words track obstacle)

-- ---- what is refused

-- Why a line is refused: it is no request; the track has no route or section of the name; the event is refused; the history is full; or memory
-- was refused in its treatment.
pub data SessionRefusal : Type 0 where
  BadLine : LineFault → SessionRefusal
  UnknownName : List ℕ → SessionRefusal
  BadEvent : Refusal → SessionRefusal
  Full : SessionRefusal
  Memory : SessionRefusal

-- why an event is refused, and the section, the leg or the train
abbrev pub event_words : Track → Refusal → List (List ℕ)
event_words track Crowded = codes "Crowded" ∷ []
event_words track UnknownGroup = codes "UnknownGroup" ∷ []
event_words track Offline = codes "Offline" ∷ []
event_words track Unplaced = codes "Unplaced" ∷ []
event_words track TooFar = codes "TooFar" ∷ []
event_words track (Clash section) = codes "Clash" ∷ section_word track section ∷ []
event_words track (LinkTaken leg) = codes "LinkTaken" ∷ leg_word track leg ∷ []
event_words track (NotLocked section) = codes "NotLocked" ∷ section_word track section ∷ []
event_words track (Busy section train) = codes "Busy" ∷ section_word track section ∷ decimal train ∷ []
event_words track (UnknownTrain train) = codes "UnknownTrain" ∷ decimal train ∷ []
event_words track (YieldRange train) = codes "YieldRange" ∷ decimal train ∷ []
event_words track NotSafe = codes "NotSafe" ∷ []

-- a refusal's name and values
abbrev pub refusal_words : Track → SessionRefusal → List (List ℕ)
refusal_words track (BadLine fault) = fault_words fault
refusal_words track (UnknownName name) = codes "UnknownName" ∷ name ∷ []
refusal_words track (BadEvent refusal) = event_words track refusal
refusal_words track Full = codes "Full" ∷ []
refusal_words track Memory = codes "Memory" ∷ []

-- the reply to a line that is refused
abbrev pub refused_reply : Track → SessionRefusal → List ℕ
refused_reply track refusal = line_of (codes "refused" ∷ refusal_words track refusal)
