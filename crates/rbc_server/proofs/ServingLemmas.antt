-- What comes of serving connections.
use Rattle.std.proofs.Common.{◌≡◌, ℕ, ◌<◌, ◌==◌, Bool, true, List, [], ◌∷◌, ◌++◌, get_or, length, map, set, Option, Some, None, Result, Err, refl, sym, ap, ◌∙◌, subst, inl, inr, lit≤, arith}
use Rattle.std.proofs.KnownBytes.{Appends-nil}
use Rattle.std.proofs.lemmas.Bool.{eqb-true}
use Rattle.std.proofs.lemmas.List.{length-append, length-map, take_all}
use Rattle.std.specs.Global.{Vec}
use Rattle.rbc_model.specs.Histories.{Receipt}
use Rattle.rbc_model.specs.Tracks.{Track}
use Rattle.std.specs.Prelude.{◌≤◌, All, IsPermutation, IsTrue, IfErr, vec_len}
use Rattle.std.specs.List.{AllZip}
use Rattle.std.specs.Io.KnownBytes.{Appends}
use Rattle.rbc_model.specs.Sessions.{WritesPart}
use Rattle.rbc_port.specs.Clients.{Coming, FewerCome, Parting}
use Rattle.rbc_sessions.specs.Closing.{all_receipts, IsUnmatched}
use Rattle.rbc_sessions.specs.Outcomes.{AreFirst, AreTrainsOfFirst, IsToldToOne, granted, train_of}
use Rattle.rbc_sessions.specs.Outcome.{Outcome}
use Rattle.rbc_sessions.specs.Records.{HistoryOnTrack}
use Rattle.rbc_sessions.specs.Seats.{Seated}
use Rattle.rbc_sessions.specs.CloseFault.{CloseFault}
use Rattle.rbc_server.specs.Connections.{AllButOneServed, AllServed, AllWhoComeServed, AreParted, Connection, OneKnows, StandsConnected}
use Rattle.rbc_server.specs.Serving.{closed_line, AreKept, IsAttended, GoOn, IsBrought, IsClosed, IsCloseFault, IsCutOff, IsServeFault, IsSweepFault, IsSwept, IsSweptBy, serve_fault}
use Rattle.rbc_server.proofs.ConnectionLemmas.{no_more_came}
use Rattle.rbc_server.specs.declared.connections.ConnectFault.{ConnectFault}
use Rattle.rbc_server.specs.declared.connections.ConnectFault.TheVariants.{Port as NoConnection, Memory as NoThread, Journal as NotKeptInSession}
use Rattle.rbc_sessions.specs.Sittings.{StaysKept}
use Rattle.rbc_sessions.specs.declared.sitting.Sitting.{Sitting}
use Rattle.rbc_server.specs.declared.serving.ServeFault.{ServeFault}
use Rattle.rbc_server.specs.declared.serving.ServeFault.TheVariants.{Port, Write, Memory, Journal, Close}
use Rattle.rbc_server.specs.declared.staff.Staff.{Staff}

-- what came of connections and a sweep, step by step
pub swept_with : {L P : Type 0} (keeps : P → ℕ → Type 0) (coming : Option (List Coming)) (partings : List Parting) (staff : Staff L P) (served others brought swept heard seats : List Seated) (served_committers committers : List P)
    (outcomes : List Outcome)
    → AreParted keeps coming staff.sittings.items served served_committers partings → others ≡ served → AllZip (IsBrought others) staff.workers.items brought → AllZip AreFirst brought swept
    → AreTrainsOfFirst brought swept (map train_of outcomes) → All (IsToldToOne brought swept) outcomes → IsPermutation (all_receipts brought ++ granted outcomes) (all_receipts swept)
    → AreKept keeps swept served served_committers outcomes heard committers → seats ≡ heard ++ swept → IsSwept keeps coming partings staff seats committers outcomes
swept_with keeps coming partings staff served others brought swept heard seats served_committers committers outcomes connected same told first trains answered gained is_kept all = record {
  served = served;
  served_committers = served_committers;
  brought = brought;
  swept = swept;
  after_connections = connected;
  before_sweep = subst (λ l. AllZip (IsBrought l) staff.workers.items brought) same told;
  after_sweep = first;
  trains = trains;
  answered = answered;
  gained = gained;
  heard = heard;
  is_kept = is_kept;
  all = all;
}

-- whether there are workers, by their number
pub none_there : {X : Type 0} (workers : Vec X) → (workers.len == 0) ≡ true → length workers.items ≡ 0
none_there workers e = sym workers.ok.0 ∙ eqb-true workers.len 0 e

-- where there are workers, such a sweep is what is owed
pub swept_by : {L P : Type 0} (keeps : P → ℕ → Type 0) (coming : Option (List Coming)) (partings : List Parting) (staff : Staff L P) (seats : List Seated) (committers : List P) (outcomes : List Outcome) (workers : List Seated)
    → 0 < length workers → IsSwept keeps coming partings staff seats committers outcomes → IsSweptBy workers keeps coming partings staff seats committers outcomes
swept_by keeps coming partings staff seats committers outcomes [] some swept = absurd (omega (arith, some))
swept_by keeps coming partings staff seats committers outcomes (worker ∷ workers) some swept = swept

-- where there are none, nothing is owed behind the clients
pub unswept_by : {L P : Type 0} (keeps : P → ℕ → Type 0) (track : Track) (coming : Option (List Coming)) (partings : List Parting) (staff : Staff L P) (seats : List Seated) (committers : List P) (old : Option (List ℕ))
    → length staff.workers.items ≡ 0 → AreParted keeps coming staff.sittings.items seats committers partings → IsAttended keeps track coming partings staff seats committers old old
unswept_by keeps track coming partings staff seats committers old none parted = record {
  outcomes = [];
  sweep = by staff.workers.items none;
  told = [];
  tells = refl;
  written = Appends-nil old;
}
  where
    by : (workers : List Seated) → length workers ≡ 0 → IsSweptBy workers keeps coming partings staff seats committers []
    by [] none = (parted, refl)
    by (worker ∷ workers) none = absurd (omega (arith, none))

-- the first seat heard the others, and by its committer what was granted is kept
pub swept_kept : {P : Type 0} (keeps : P → ℕ → Type 0) (others seats : List Seated) (committers : List P) (outcomes : List Outcome) (had told : Seated) (committer knows : P) → 0 < length seats → 0 < length committers
    → had ≡ get_or seats 0 had → committer ≡ get_or committers 0 committer → IsBrought others had told → StaysKept keeps committer knows → All (λ (receipt : Receipt). keeps knows receipt.place) (granted outcomes)
    → AreKept keeps others seats committers outcomes (set seats 0 told) (set committers 0 knows)
swept_kept keeps others [] committers outcomes had told committer knows some one is also brought stays is_kept = absurd (omega (arith, some))
swept_kept keeps others (s ∷ more) [] outcomes had told committer knows some one is also brought stays is_kept = absurd (omega (arith, one))
swept_kept keeps others (s ∷ more) (p ∷ other_committers) outcomes had told committer knows some one is also brought stays is_kept = record {
  seat = s;
  more = more;
  committer = p;
  other_committers = other_committers;
  told = told;
  knows = knows;
  seats_were = refl;
  committers_were = refl;
  heard_is = refl;
  last_is = refl;
  brought = subst (λ (had : Seated). IsBrought others had told) is brought;
  stays = subst (λ committer. StaysKept keeps committer knows) also stays;
  granted_kept = is_kept;
}

-- its committer goes on, and the others are as they were
pub go_on_first : {P : Type 0} (keeps : P → ℕ → Type 0) (committers : List P) (committer knows : P) → 0 < length committers → committer ≡ get_or committers 0 committer → StaysKept keeps committer knows → GoOn keeps committers (set committers 0 knows)
go_on_first keeps [] committer knows some is stays = absurd (omega (arith, some))
go_on_first keeps (p ∷ others) committer knows some is stays = (knows, subst (λ committer. StaysKept keeps committer knows) is stays, refl)

-- it knows that keeping has failed
pub first_knows : {P : Type 0} (failed : P → Type 0) (committers : List P) (knows : P) → 0 < length committers → failed knows → OneKnows failed (set committers 0 knows)
first_knows failed [] knows some broken = absurd (omega (arith, some))
first_knows failed (p ∷ others) knows some broken = (knows, (0, omega arith, refl), broken)

-- where the sittings have served, there is a first seat
pub first_is_there : {L P : Type 0} (keeps : P → ℕ → Type 0) (track : Track) (coming : Option (List Coming)) (partings : List Parting) (staff : Staff L P) (seats : List Seated) (committers : List P) (old new : Option (List ℕ))
    → 1 ≤ vec_len staff.sittings → IsAttended keeps track coming partings staff seats committers old new → 0 < length seats
first_is_there {L} {P} keeps track coming partings staff seats committers old new some attended = by staff.workers.items attended.sweep
  where
    by : (workers : List Seated) → IsSweptBy workers keeps coming partings staff seats committers attended.outcomes → 0 < length seats
    by [] unswept =
        let parted = unswept.0 in
        let cs = parted.connections.connections in
        omega (
          arith,
          some,
          staff.sittings.ok.0,
          length-map cs (λ (c : Connection L P). c.before),
          ap (λ (l : List (Sitting L P)). length l) parted.connections.before,
          length-map cs (λ (c : Connection L P). c.after),
          ap (λ (l : List (Sitting L P)). length l) parted.connections.after,
          length-map parted.served (λ (s : Sitting L P). s.seat),
          ap (λ (l : List Seated). length l) parted.seats_are,
        )
    by (worker ∷ workers) sweep =
        let is_kept = sweep.is_kept in
        omega (arith, ap (λ (l : List Seated). length l) (sweep.all ∙ ap (λ l. l ++ sweep.swept) is_kept.heard_is), length-append (is_kept.told ∷ is_kept.more) sweep.swept)

-- ---- faults

-- committers that are as they were
pub go_on_as : {P : Type 0} (keeps : P → ℕ → Type 0) (had has : List P) → has ≡ had → GoOn keeps had has
go_on_as keeps [] has is = is
go_on_as keeps (p ∷ others) has is = (p, (λ place k. k), is)

pub go_on_same : {P : Type 0} (keeps : P → ℕ → Type 0) (committers : List P) → GoOn keeps committers committers
go_on_same keeps committers = go_on_as keeps committers committers refl

-- where all sittings served, no client that came was left
all_but_none : {L P : Type 0} (keeps : P → ℕ → Type 0) (coming to_come : Option (List Coming)) (sittings served : List (Sitting L P)) (partings : List Parting)
    → AllServed keeps coming to_come sittings served partings → AllButOneServed keeps coming to_come sittings served partings
all_but_none {L} {P} keeps coming to_come sittings served partings all =
    let cs = all.0.connections in
    let went = length-map cs (λ (c : Connection L P). c.went) in
    let before = length-map cs (λ (c : Connection L P). c.before) in
    let same : length partings ≡ length sittings =
    omega (arith, went, before, ap (λ (l : List Parting). length l) all.0.went, ap (λ (l : List (Sitting L P)). length l) all.0.before) in
    record {
      connections = record {
        connections = cs;
        each = all.0.each;
        still_to_come = all.0.still_to_come;
        clients = all.0.clients;
        before = all.0.before ∙ sym (take_all (length partings) sittings (omega (arith, same)));
        after = all.0.after;
        went = all.0.went;
      };
      unserved = [];
      others = all.1;
      one = lit≤ tt;
      fits = omega (arith, same);
    }

fewer_come : {L P : Type 0} (keeps : P → ℕ → Type 0) (coming : Option (List Coming)) (sittings served : List (Sitting L P)) (partings : List Parting)
    → AllWhoComeServed keeps coming sittings served partings → FewerCome coming (length sittings)
fewer_come {L} {P} keeps coming sittings served partings all =
    let cs = all.0.connections in
    let went = length-map cs (λ (c : Connection L P). c.went) in
    let came = length-map cs (λ (c : Connection L P). c.came) in
    no_more_came coming all.0.still_to_come (map (λ (c : Connection L P). c.came) cs) (length sittings) all.0.clients all.1
    (omega (arith, went, came, ap (λ (l : List Parting). length l) all.0.went, all.2))

module _ {L P : Type 0} (keeps : P → ℕ → Type 0) (opened : HistoryOnTrack) (coming to_come : Option (List Coming)) (parts : ℕ) (partings : List Parting) (staff : Staff L P) (old new : Option (List ℕ)) where
  -- the desk could not be closed, or the last line not be told
  pub unclosed_told : (seats : List Seated) (committers : List P) (so_far : Option (List ℕ)) (fault : ServeFault) → IsAttended keeps opened.track coming partings staff seats committers old so_far
      → IsCloseFault opened parts seats so_far new fault → IsServeFault keeps opened coming to_come parts partings staff committers old new fault
  unclosed_told seats committers so_far Port attended is = absurd is
  unclosed_told seats committers so_far Write attended is = inr (record { seats = seats; so_far = so_far; attended = attended; unclosed = is })
  unclosed_told seats committers so_far Memory attended is = absurd is
  unclosed_told seats committers so_far Journal attended is = absurd is
  unclosed_told seats committers so_far (Close fault) attended is = record { seats = seats; so_far = so_far; attended = attended; unclosed = is }

  by_connect : (committers : List P) (connect : ConnectFault) → StandsConnected keeps coming to_come staff.sittings.items committers partings (Some connect)
      → IsServeFault keeps opened coming to_come parts partings staff committers old new (serve_fault connect)
  by_connect committers NoConnection stands = stands
  by_connect committers NoThread stands = (stands.0, stands.1, go_on_as keeps (map (λ (s : Sitting L P). s.committer) stands.0) committers stands.2)
  by_connect committers NotKeptInSession stands = (stands.0, stands.1, go_on_as keeps (map (λ (s : Sitting L P). s.committer) stands.0) committers stands.2)

  -- not all connections could be served
  pub connect_told : (committers : List P) (connect : ConnectFault) (fault : ServeFault) → fault ≡ serve_fault connect → StandsConnected keeps coming to_come staff.sittings.items committers partings (Some connect)
      → IsServeFault keeps opened coming to_come parts partings staff committers old new fault
  connect_told committers connect fault is stands = subst (IsServeFault keeps opened coming to_come parts partings staff committers old new) (sym is) (by_connect committers connect stands)

  -- a sweep behind them failed
  pub sweep_told : (had committers : List P) (fault : ServeFault) → StandsConnected keeps coming to_come staff.sittings.items had partings None → GoOn keeps had committers → IsSweepFault fault
      → (fault ≡ Write → IsCutOff keeps opened.track coming partings staff committers old new) → IsServeFault keeps opened coming to_come parts partings staff committers old new fault
  sweep_told had committers Port stands go which cut = absurd which
  sweep_told had committers Write stands go which cut = inl (cut refl)
  sweep_told had committers Memory stands go which cut =
      (stands.0, all_but_none keeps coming to_come staff.sittings.items stands.0 partings stands.1, subst (λ (l : List P). GoOn keeps l committers) stands.2 go)
  sweep_told had committers Journal stands go which cut = (stands.0, stands.1, subst (λ (l : List P). GoOn keeps l committers) stands.2 go)
  sweep_told had committers (Close fault) stands go which cut = absurd which

  -- fewer come than are to be served
  pub fewer_told : (committers : List P) (fault : ServeFault) → IsServeFault keeps opened coming to_come parts partings staff committers old new fault → fault ≡ Port → FewerCome coming (length staff.sittings.items)
  fewer_told committers fault told is =
      let stands = subst (IsServeFault keeps opened coming to_come parts partings staff committers old new) is told in
      fewer_come keeps coming staff.sittings.items stands.0 partings stands.1

module _ {T : Type 0} (r : Result T ServeFault) (fault : ServeFault) (is : r ≡ Err fault) where
  pub write_told : (failed : Bool) → fault ≡ Write → failed ≡ true → (r ≡ Err Write → IsTrue failed) × (IsTrue failed → r ≡ Err Write)
  write_told failed write fails = ((λ _. fails), (λ _. is ∙ ap Err write))

  pub unwritten_is_told : (opened : HistoryOnTrack) (parts : ℕ) (kept : List Seated) (old new : Option (List ℕ)) (log : HistoryOnTrack) → fault ≡ Write → IsClosed opened kept log
      → WritesPart old new (closed_line (length log.entries)) → IfErr r (IsCloseFault opened parts kept old new)
  unwritten_is_told opened parts kept old new log write closing part = subst (λ x. IfErr x (IsCloseFault opened parts kept old new)) (sym (is ∙ ap Err write)) (log, closing, part)

  pub close_is_told : (opened : HistoryOnTrack) (parts : ℕ) (kept : List Seated) (old new : Option (List ℕ)) (close : CloseFault) → fault ≡ Close close → IsUnmatched opened parts kept close
      → new ≡ old → IfErr r (IsCloseFault opened parts kept old new)
  close_is_told opened parts kept old new close closes unmatched same =
      subst (λ x. IfErr x (IsCloseFault opened parts kept old new)) (sym (is ∙ ap Err closes)) (unmatched, same)
