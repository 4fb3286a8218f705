-- A centre that stayed up until its end was asked for, and what comes of it.
use Rattle.std.specs.Prelude.{◌≡◌, ◌++◌, ℕ, List, length, map, take, All, Bool, true, false, Option, Some, None, option_to_list}
use Rattle.std.specs.List.{Contains}
use Rattle.std.specs.Io.KnownBytes.{Appends}
use Rattle.rbc_port.specs.Clients.{Coming}
use Rattle.rbc_server.specs.Looking.{LooksOn}
use Rattle.rbc_server.specs.Records.{HistoryOnTrack}
use Rattle.rbc_server.specs.Seats.{Seated}
use Rattle.rbc_server.specs.Serving.{IsClosed, IsCloseFault, closed_line}
use Rattle.rbc_server.specs.Sitting.{Sitting}
use Rattle.rbc_server.specs.declared.serving.ServeFault.{ServeFault}
use Rattle.rbc_server.specs.declared.serving.ServeFault.TheVariants.{Port, Write, Memory, Journal, Close}
use Rattle.rbc_duty.specs.Duties.{AreOnDuty}

-- the first fault of duties: whether all were begun, whether keeping failed in one, and whether a port was lost
abbrev pub duty_fault : Bool → Bool → Bool → Option ServeFault
duty_fault false any_failed any_lost = Some Memory
duty_fault true true any_lost = Some Journal
duty_fault true false true = Some Port
duty_fault true false false = None

-- Each of the seats, at which these clients came, was on duty, and keeping failed at none. These seats and these committers came back.
pub record AreRelieved {L P : Type 0} (kept : P → ℕ → Type 0) (comings : List (Option (List Coming))) (sittings : List (Sitting L P)) (seats : List Seated) (committers : List P) : Type 0 where
  pub served : List (Sitting L P)
  pub lost : List Bool
  pub on_duty : AreOnDuty kept comings sittings served lost
  pub whole : All (λ (s : Sitting L P). s.has_failed ≡ false) served
  pub seats_are : seats ≡ map (λ (s : Sitting L P). s.seat) served
  pub committers_are : committers ≡ map (λ (s : Sitting L P). s.committer) served

-- Each of the seats, at which these clients came, was on duty, and keeping failed at none. The desk that was opened with this history was closed with these
-- seats, and with that of an onlooker, if there was one, and gave this record. What was written tells how many entries it has.
pub record IsStayed {L P : Type 0} (kept : P → ℕ → Type 0) (opened : HistoryOnTrack) (comings : List (Option (List Coming))) (sittings : List (Sitting L P)) (looking : Option Seated) (committers : List P) (old new : Option (List ℕ)) (log : HistoryOnTrack) : Type 0 where
  pub seats : List Seated
  pub relieved : AreRelieved kept comings sittings seats committers
  pub looker : Option Seated
  pub looked : LooksOn looking looker
  pub closing : IsClosed opened (seats ++ option_to_list looker) log
  pub closed : Appends old new (closed_line (length log.entries))

-- So many of the seats were on duty, the first ones; by these ports no client could be accepted any more; and these are the committers.
pub record FirstOnDuty {L P : Type 0} (kept : P → ℕ → Type 0) (count : ℕ) (comings : List (Option (List Coming))) (sittings : List (Sitting L P)) (lost : List Bool) (committers : List P) : Type 0 where
  pub served : List (Sitting L P)
  pub on_duty : AreOnDuty kept (take count comings) (take count sittings) served lost
  pub committers_are : committers ≡ map (λ (s : Sitting L P). s.committer) served

-- What stands of duties behind a fault. All were on duty, unless memory was refused; where a port was lost it was one of theirs.
abbrev pub StandsRelieved : {L P : Type 0} → (P → ℕ → Type 0) → List (Option (List Coming)) → List (Sitting L P) → List P → ServeFault → Type 0
StandsRelieved kept comings sittings committers Port = (lost : List Bool) × FirstOnDuty kept (length sittings) comings sittings lost committers × Contains lost true
StandsRelieved kept comings sittings committers Memory = (lost : List Bool) × (count : ℕ) × FirstOnDuty kept count comings sittings lost committers
StandsRelieved kept comings sittings committers Journal = (lost : List Bool) × FirstOnDuty kept (length sittings) comings sittings lost committers
StandsRelieved kept comings sittings committers Write = ⊥
StandsRelieved kept comings sittings committers (Close fault) = ⊥

-- all were on duty, and the last line could not be told whole, or the desk not be closed
pub record IsUnclosed {L P : Type 0} (kept : P → ℕ → Type 0) (opened : HistoryOnTrack) (parts : ℕ) (comings : List (Option (List Coming))) (sittings : List (Sitting L P)) (looking : Option Seated) (committers : List P) (old new : Option (List ℕ)) (fault : ServeFault) : Type 0 where
  pub seats : List Seated
  pub relieved : AreRelieved kept comings sittings seats committers
  pub looker : Option Seated
  pub looked : LooksOn looking looker
  pub unclosed : IsCloseFault opened parts (seats ++ option_to_list looker) old new fault

-- what stands behind a fault
abbrev pub IsStayFault : {L P : Type 0} → (P → ℕ → Type 0) → HistoryOnTrack → ℕ → List (Option (List Coming)) → List (Sitting L P) → Option Seated → List P → Option (List ℕ) → Option (List ℕ) → ServeFault → Type 0
IsStayFault kept opened parts comings sittings looking committers old new Port = StandsRelieved kept comings sittings committers Port
IsStayFault kept opened parts comings sittings looking committers old new Memory = StandsRelieved kept comings sittings committers Memory
IsStayFault kept opened parts comings sittings looking committers old new Journal = StandsRelieved kept comings sittings committers Journal
IsStayFault kept opened parts comings sittings looking committers old new Write = IsUnclosed kept opened parts comings sittings looking committers old new Write
IsStayFault kept opened parts comings sittings looking committers old new (Close fault) = IsUnclosed kept opened parts comings sittings looking committers old new (Close fault)
