-- Requests and their answers over one connection, one after the other.
use Rattle.std.specs.Prelude.{◌≡◌, ◌⊎◌, ℕ, ◌<◌, Bool, true, false, List, [], ◌++◌, length, take, drop, Option}
use Rattle.std.specs.Io.KnownBytes.{Appends}
use Rattle.httparse.specs.Grammar.{HasNoRequest}
use Rattle.rbc_page.specs.declared.exchange.Stage.{Stage}
use Rattle.rbc_page.specs.declared.exchange.Stage.TheVariants.{Hears, Waits, Tells, Over}
use Rattle.rbc_page.specs.declared.head.Status.{Status}
use Rattle.rbc_page.specs.declared.head.Status.TheVariants.{Unavailable}
use Rattle.rbc_page.specs.declared.hearing.Heard.TheVariants.{Request, Refused}
use Rattle.rbc_page.specs.Answers.{refusal_text}
use Rattle.rbc_page.specs.Hearing.{HearsHeads, IsSaid, RefusesLong}

-- how far an exchange is, the bytes of its request that have come, its answer, and how many bytes of that have gone
pub record Exchanged : Type 0 where
  pub stage : Stage
  pub head : List ℕ
  pub text : List ℕ
  pub sent : ℕ

-- nothing has come
abbrev pub at_first : Exchanged
at_first = record { stage = Hears; head = []; text = []; sent = 0 }

-- it is over
abbrev pub ended : Exchanged
ended = record { stage = Over; head = []; text = []; sent = 0 }

-- this is told, of which nothing has gone yet
abbrev pub telling : Bool → List ℕ → Exchanged
telling stays text = record { stage = Tells stays; head = []; text = text; sent = 0 }

-- More bytes have come, by which the head is this one. Where more is to come, it is shorter than a head may be, and no request.
-- Where its request waits, that is what it says. Where it is refused, it is heard so, and that is told. Else there was no room
-- for it, and it is over.
abbrev pub IsHeardIn : List ℕ → List ℕ → Stage → Exchanged → Type 0
IsHeardIn start head Hears new = (new.head ≡ head) × (new.text ≡ []) × (length head < 8192) × HasNoRequest head
IsHeardIn start head (Waits asked) new = IsSaid start head (Request asked)
IsHeardIn start head (Tells stays) new =
    (status : Status) × HearsHeads start 64 head (Refused status) × RefusesLong 64 head (Refused status) × (new ≡ telling stays (refusal_text start status)) × (stays ≡ false)
IsHeardIn start head Over new = Unit {0}

-- What is read of a client: nothing, its end, or some bytes more of its head.
abbrev pub HasHeard : List ℕ → Exchanged → Exchanged → Type 0
HasHeard start old new = (new ≡ old) ⊎ (new ≡ ended) ⊎ ((came : List ℕ) × IsHeardIn start (old.head ++ came) new.stage new)

-- What comes of a request for whose answer there is no room: that is told, or there is no room even for that, and it is over.
abbrev pub IsTurnedAway : List ℕ → Exchanged → Exchanged → Type 0
IsTurnedAway start old new = (new ≡ old) ⊎ (new ≡ ended) ⊎ (new ≡ telling false (refusal_text start Unavailable))

-- behind the last byte of an answer, where the client may ask again, and where not
abbrev pub next_stage : Bool → Exchanged
next_stage true = at_first
next_stage false = ended

-- a client was written what was left of an answer, some bytes from its front, and nothing else
abbrev pub HasTold : Exchanged → Option (List ℕ) → Option (List ℕ) → Type 0
HasTold exchange old new = (count : ℕ) × Appends old new (take count (drop exchange.sent exchange.text))
