-- What a centre that serves connections prints at the end, and what comes of it.
use Rattle.std.specs.Prelude.{◌≡◌, ℕ, ◌+◌, ◌<◌, ◌⊎◌, List, [], ◌∷◌, ◌++◌, length, map, take, codes, decimal, All, IsPermutation, Option}
use Rattle.std.specs.List.{AllZip}
use Rattle.std.specs.Io.KnownBytes.{Appends}
use Rattle.rbc_model.specs.Levels.{speed_levels, grade_levels}
use Rattle.rbc_model.specs.Histories.{Matches, Receipt}
use Rattle.rbc_model.specs.PriceTables.{IsGreatestSoundTable}
use Rattle.rbc_model.specs.Scales.{unit_of}
use Rattle.rbc_port.specs.Clients.{Coming, Parting}
use Rattle.rbc_model.specs.Sessions.{WritesPart}
use Rattle.rbc_model.specs.SessionReply.{grant_reply, blocked_reply, refused_reply, Full as HistoryIsFull, Memory as NoMemory}
use Rattle.rbc_model.specs.Tracks.{Track}
use Rattle.rbc_model.specs.Words.{line_of}
use Rattle.rbc_sessions.specs.Later.{IsLater}
use Rattle.rbc_sessions.specs.Records.{HistoryOnTrack}
use Rattle.rbc_sessions.specs.Seats.{Seated}
use Rattle.rbc_model.specs.declared.limits.TheConstants.{MOST_ENTRIES}
use Rattle.rbc_sessions.specs.Closing.{all_receipts, IsUnmatched}
use Rattle.rbc_sessions.specs.Granted.{Granted as Grant}
use Rattle.rbc_sessions.specs.Replies.{ObstacleIsOfTrack}
use Rattle.rbc_sessions.specs.Outcomes.{AreFirst, AreTrainsOfFirst, Begins, IsToldToOne, granted, train_of}
use Rattle.rbc_sessions.specs.Answer.{Answer}
use Rattle.rbc_sessions.specs.Answer.TheVariants.{Granted, Blocked, Gone, Full, Memory}
use Rattle.rbc_sessions.specs.Outcome.{Outcome}
use Rattle.rbc_server.specs.declared.connections.ConnectFault.{ConnectFault}
use Rattle.rbc_server.specs.declared.connections.ConnectFault.TheVariants.{Port as NoConnection, Memory as NoThread, Journal as NotKeptInSession}
use Rattle.rbc_server.specs.Connections.{AllButOneServed, AllServed, AllWhoComeServed, AreParted}
use Rattle.rbc_sessions.specs.declared.keeping.KeepFault.{KeepFault}
use Rattle.rbc_sessions.specs.declared.keeping.KeepFault.TheVariants.{Journal as KeeperFailed, Memory as NoTextMemory}
use Rattle.rbc_sessions.specs.Sittings.{StaysKept}
use Rattle.rbc_sessions.specs.declared.sitting.Sitting.{Sitting}
use Rattle.rbc_server.specs.declared.serving.ServeFault.{ServeFault}
use Rattle.rbc_server.specs.declared.staff.Staff.{Staff}
use Rattle.rbc_server.specs.declared.serving.ServeFault.TheVariants.{Port, Write, Memory as NoServeMemory, Journal, Close}

-- ---- what is printed

-- a train that has left
abbrev pub gone_line : ℕ → List ℕ
gone_line train = line_of (codes "gone" ∷ decimal train ∷ [])

-- the last line: how many entries the history has
abbrev pub closed_line : ℕ → List ℕ
closed_line count = line_of (codes "closed" ∷ decimal count ∷ [])

-- The text tells what was granted and the version after it, with the greatest sound tables of prices.
pub record TellsGrant (track : Track) (grant : Grant) (text : List ℕ) : Type 0 where
  pub speed_rows : List (List ℕ)
  pub grade_rows : List (List ℕ)
  pub speed_prices : IsGreatestSoundTable speed_levels (unit_of grant.candidate.grant.authority.end) grant.candidate.view.speed_steps grant.candidate.grant.authority.end grant.candidate.view.speeds speed_rows
  pub grade_prices : IsGreatestSoundTable grade_levels (unit_of grant.candidate.grant.authority.end) grant.candidate.view.grade_steps grant.candidate.grant.authority.end grant.candidate.view.grades grade_rows
  pub told : text ≡ grant_reply track (grant.receipt.place + 1) grant.candidate.view grant.candidate.grant speed_rows grade_rows

-- the text tells what the train was answered
abbrev pub TellsAnswer : Track → ℕ → List ℕ → Answer → Type 0
TellsAnswer track train text (Granted grant) = TellsGrant track grant text
TellsAnswer track train text (Blocked obstacle at version) = text ≡ blocked_reply track train version at obstacle
TellsAnswer track train text Gone = text ≡ gone_line train
TellsAnswer track train text Full = text ≡ refused_reply track HistoryIsFull
TellsAnswer track train text Memory = text ≡ refused_reply track NoMemory

abbrev pub TellsOutcome : Track → Outcome → List ℕ → Type 0
TellsOutcome track outcome text = TellsAnswer track outcome.train text outcome.answer

-- the text tells all these outcomes, in order
abbrev pub TellsAll : Track → List Outcome → List ℕ → Type 0
TellsAll track [] text = text ≡ []
TellsAll track (outcome ∷ outcomes) text =
    (told : List ℕ) × (rest : List ℕ) × TellsOutcome track outcome told × TellsAll track outcomes rest × (text ≡ told ++ rest)

-- what can be told with the track's names: the sections that are named are the track's, and a version is a number of entries
abbrev pub AnswerIsTellable : Track → Answer → Type 0
AnswerIsTellable track (Granted grant) = ObstacleIsOfTrack track grant.candidate.view.obstacle × (grant.receipt.place < MOST_ENTRIES)
AnswerIsTellable track (Blocked obstacle at version) = ObstacleIsOfTrack track obstacle
AnswerIsTellable track _ = Unit {0}

abbrev pub IsTellable : Track → Outcome → Type 0
IsTellable track outcome = AnswerIsTellable track outcome.answer

-- ---- what comes of it

-- A seat that had this was told all that these others were told. It kept its receipts.
pub record IsBrought (others : List Seated) (had has : Seated) : Type 0 where
  pub receipts : has.receipts ≡ had.receipts
  pub told : Begins had.told has.told
  pub all : All (λ (other : Seated). Begins other.told has.told) others

-- The first of the seats was told all that these others were told, and by what its committer then knows what led to the entries that were granted is kept.
-- These seats and committers came back.
pub record AreKept {P : Type 0} (kept : P → ℕ → Type 0) (others : List Seated) (seats : List Seated) (committers : List P) (outcomes : List Outcome) (heard : List Seated) (last : List P) : Type 0 where
  pub seat : Seated
  pub more : List Seated
  pub committer : P
  pub other_committers : List P
  pub told : Seated
  pub knows : P
  pub seats_were : seats ≡ seat ∷ more
  pub committers_were : committers ≡ committer ∷ other_committers
  pub heard_is : heard ≡ told ∷ more
  pub last_is : last ≡ knows ∷ other_committers
  pub brought : IsBrought others seat told
  pub stays : StaysKept kept committer knows
  pub granted_kept : All (λ (receipt : Receipt). kept knows receipt.place) (granted outcomes)

-- A client that comes was served from each of the sittings, and went so; and a sweep with these outcomes was made with the workers' seats. These seats
-- and these committers came back.
pub record IsSwept {L P : Type 0} (kept : P → ℕ → Type 0) (coming : Option (List Coming)) (partings : List Parting) (staff : Staff L P) (seats : List Seated) (committers : List P) (outcomes : List Outcome) : Type 0 where
  -- Each client was served from a sitting of its own, in order. Before the sweep, the workers' seats were told all that the others were told by the end of
  -- their sessions. These have first what they had then, of receipts and of what they were told.
  pub served : List Seated
  pub served_committers : List P
  pub brought : List Seated
  pub swept : List Seated
  pub after_connections : AreParted kept coming staff.sittings.items served served_committers partings
  pub before_sweep : AllZip (IsBrought served) staff.workers.items brought
  pub after_sweep : AllZip AreFirst brought swept
  -- The sweep served, in order of arrival, each train that its first seat was told of, and each is answered as one of its seats was told. What the
  -- seats gained is what it granted.
  pub trains : AreTrainsOfFirst brought swept (map train_of outcomes)
  pub answered : All (IsToldToOne brought swept) outcomes
  pub gained : IsPermutation (all_receipts brought ++ granted outcomes) (all_receipts swept)
  -- What led to the entries that it granted is kept.
  pub heard : List Seated
  pub is_kept : AreKept kept swept served served_committers outcomes heard committers
  pub all : seats ≡ heard ++ swept

-- Clients were served, and went so. Where there are workers, a sweep with these outcomes was made behind that. Where there are none, none was made: the
-- seats and the committers came back as the clients left them, and there is no outcome.
abbrev pub IsSweptBy : {L P : Type 0} → List Seated → (P → ℕ → Type 0) → Option (List Coming) → List Parting → Staff L P → List Seated → List P → List Outcome → Type 0
IsSweptBy [] kept coming partings staff seats committers outcomes = AreParted kept coming staff.sittings.items seats committers partings × (outcomes ≡ [])
IsSweptBy (worker ∷ workers) kept coming partings staff seats committers outcomes = IsSwept kept coming partings staff seats committers outcomes

-- Clients were served from the sittings of this staff, and went so. Where it has workers, a sweep was made behind that with all of them; where it has none,
-- none was made. What was written on this track tells the outcomes.
pub record IsAttended {L P : Type 0} (kept : P → ℕ → Type 0) (track : Track) (coming : Option (List Coming)) (partings : List Parting) (staff : Staff L P) (seats : List Seated) (committers : List P) (old new : Option (List ℕ)) : Type 0 where
  pub outcomes : List Outcome
  pub sweep : IsSweptBy staff.workers.items kept coming partings staff seats committers outcomes
  pub told : List ℕ
  pub tells : TellsAll track outcomes told
  pub written : Appends old new told

-- The desk that was opened with this history was closed with these seats, and gave this record.
pub record IsClosed (opened : HistoryOnTrack) (kept : List Seated) (log : HistoryOnTrack) : Type 0 where
  -- The receipts of all seats are the entries since the desk was opened, and no others, and the record goes on from what each seat was told.
  pub matches : Matches (all_receipts kept) log.entries (length opened.entries)
  pub goes_on : All (λ (seat : Seated). IsLater seat.told log) kept

-- Clients were served, and went so, at the desk that was opened with this history, and a sweep was made, if there are workers; then the desk was closed.
-- This was written, and these committers and this record came back.
pub record IsServed {L P : Type 0} (kept : P → ℕ → Type 0) (opened : HistoryOnTrack) (coming : Option (List Coming)) (partings : List Parting) (staff : Staff L P) (committers : List P) (old new : Option (List ℕ)) (log : HistoryOnTrack) : Type 0 where
  pub seats : List Seated
  pub so_far : Option (List ℕ)
  pub attended : IsAttended kept opened.track coming partings staff seats committers old so_far
  pub closing : IsClosed opened seats log
  -- Last of all it is told how many entries the record has.
  pub closed : Appends so_far new (closed_line (length log.entries))

-- ---- faults

-- why what a sweep granted is not kept
abbrev pub keep_fault : KeepFault → ServeFault
keep_fault KeeperFailed = Journal
keep_fault NoTextMemory = NoServeMemory

-- why not all connections were served
abbrev pub serve_fault : ConnectFault → ServeFault
serve_fault NoConnection = Port
serve_fault NoThread = NoServeMemory
serve_fault NotKeptInSession = Journal

-- A desk was closed with these seats. Where it could not be closed, some of its seats were not handed in; or in a legal history that goes on from its
-- opening, a receipt of a seat is not at its place. Nothing was written then. Where the writer failed the desk was closed, and a part of the last line
-- was written, from its start.
abbrev pub IsCloseFault : HistoryOnTrack → ℕ → List Seated → Option (List ℕ) → Option (List ℕ) → ServeFault → Type 0
IsCloseFault opened parts kept old new Port = ⊥
IsCloseFault opened parts kept old new NoServeMemory = ⊥
IsCloseFault opened parts kept old new Journal = ⊥
IsCloseFault opened parts kept old new Write = (log : HistoryOnTrack) × IsClosed opened kept log × WritesPart old new (closed_line (length log.entries))
IsCloseFault opened parts kept old new (Close fault) = IsUnmatched opened parts kept fault × (new ≡ old)

-- The writer failed while the outcomes of a sweep were told. What was written is a part, from its start, of what tells the first of them.
pub record IsCutOff {L P : Type 0} (kept : P → ℕ → Type 0) (track : Track) (coming : Option (List Coming)) (partings : List Parting) (staff : Staff L P) (committers : List P) (old new : Option (List ℕ)) : Type 0 where
  pub seats : List Seated
  pub outcomes : List Outcome
  pub sweep : IsSweptBy staff.workers.items kept coming partings staff seats committers outcomes
  pub count : ℕ
  pub told : List ℕ
  pub tells : TellsAll track (take count outcomes) told
  pub written : WritesPart old new told

-- Clients were served, a sweep was made, if there are workers, and its outcomes were told; then the writer failed while the last line was told, or the desk
-- could not be closed.
pub record IsUnclosed {L P : Type 0} (kept : P → ℕ → Type 0) (opened : HistoryOnTrack) (coming : Option (List Coming)) (parts : ℕ) (partings : List Parting) (staff : Staff L P) (committers : List P) (old new : Option (List ℕ)) (fault : ServeFault) : Type 0 where
  pub seats : List Seated
  pub so_far : Option (List ℕ)
  pub attended : IsAttended kept opened.track coming partings staff seats committers old so_far
  pub unclosed : IsCloseFault opened parts seats so_far new fault

-- What the first of the committers kept is kept by what it knows now. The others are as they were.
abbrev pub GoOn : {P : Type 0} → (P → ℕ → Type 0) → List P → List P → Type 0
GoOn kept [] committers = committers ≡ []
GoOn {P} kept (committer ∷ others) committers = (knows : P) × StaysKept kept committer knows × (committers ≡ knows ∷ others)

-- What stands after a fault: the clients that were served went so, and these committers came back. Where no client could be had, memory was refused or a request
-- could not be kept, these are the committers of the sittings that served, the first of which may have gone on behind a sweep.
abbrev pub IsServeFault : {L P : Type 0} → (P → ℕ → Type 0) → HistoryOnTrack → Option (List Coming) → Option (List Coming) → ℕ → List Parting → Staff L P → List P → Option (List ℕ) → Option (List ℕ) → ServeFault → Type 0
IsServeFault {L} {P} kept opened coming to_come parts partings staff committers old new Port =
    (served : List (Sitting L P)) × AllWhoComeServed kept coming staff.sittings.items served partings × (committers ≡ map (λ (s : Sitting L P). s.committer) served)
IsServeFault {L} {P} kept opened coming to_come parts partings staff committers old new NoServeMemory =
    (served : List (Sitting L P)) × AllButOneServed kept coming to_come staff.sittings.items served partings × GoOn kept (map (λ (s : Sitting L P). s.committer) served) committers
IsServeFault {L} {P} kept opened coming to_come parts partings staff committers old new Journal =
    (served : List (Sitting L P)) × AllServed kept coming to_come staff.sittings.items served partings × GoOn kept (map (λ (s : Sitting L P). s.committer) served) committers
IsServeFault kept opened coming to_come parts partings staff committers old new Write =
    IsCutOff kept opened.track coming partings staff committers old new ⊎ IsUnclosed kept opened coming parts partings staff committers old new Write
IsServeFault kept opened coming to_come parts partings staff committers old new (Close fault) =
    IsUnclosed kept opened coming parts partings staff committers old new (Close fault)

-- why a sweep behind sessions is not told of whole
abbrev pub IsSweepFault : ServeFault → Type 0
IsSweepFault Port = ⊥
IsSweepFault Write = Unit {0}
IsSweepFault NoServeMemory = Unit {0}
IsSweepFault Journal = Unit {0}
IsSweepFault (Close fault) = ⊥
