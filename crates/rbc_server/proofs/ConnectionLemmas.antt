-- Connections: each client is served from a seat.
use Rattle.std.proofs.Common.{◌≡◌, ℕ, ◌+◌, ◌<◌, ◌≤◌, Bool, true, false, suc, List, [], ◌∷◌, ◌++◌, length, map, Option, Some, None, Result, Err, refl, sym, ap, ◌∙◌, subst, append_assoc, lit≤, arith}
use Rattle.std.specs.Prelude.{◌↔◌, ◌||◌, All, IsTrue, IfSome, OnOk, is_some, take}
use Rattle.std.proofs.KnownBytes.{Appends-nil, Consumes-nil}
use Rattle.std.proofs.Math.Seq.{take-append_seam}
use Rattle.std.proofs.lemmas.List.{append-nil, length-append, length-map, map_push, nil_from_length}
use Rattle.std.proofs.lemmas.List.Elements.{All-nil, All-cons, All-map}
use Rattle.std.proofs.lemmas.Bool.{or_parts}
use Rattle.std.proofs.lemmas.Slice.Zip.{AllZip-long}
use Rattle.std.specs.List.{AllZip, list_any}
use Rattle.std.specs.Io.KnownBytes.{Consumes, IsAtEnd}
use Rattle.rbc_model.specs.declared.sessions.SessionFault.{SessionFault}
use Rattle.rbc_model.specs.declared.sessions.SessionFault.TheVariants.{Read, Write, Memory}
use Rattle.rbc_port.specs.Clients.{Came, Coming, FewerCome, NoneComes, Parting, unheard}
use Rattle.rbc_sessions.specs.Seats.{Seated}
use Rattle.rbc_server.specs.Connections.{AllButOneServed, AreConnections, AreParted, AreServed, Connection, IsConnection, OneKnows, StandsConnected, TellsFailure, afresh, fault_of}
use Rattle.rbc_server.specs.declared.connections.ConnectFault.{ConnectFault}
use Rattle.rbc_server.specs.declared.connections.ConnectFault.TheVariants.{Port as NoConnection, Memory as NoThread, Journal as NotKeptInSession}
use Rattle.rbc_sessions.specs.SeatAnswers.{AreLineAnswers}
use Rattle.rbc_sessions.specs.SeatSessions.{IsSeatSession, SeatTurn}
use Rattle.rbc_sessions.specs.Sittings.{AreToldKept, IsKept, StaysKept}
use Rattle.rbc_sessions.specs.declared.sitting.Sitting.{Sitting}

-- ---- one connection

module _ {L P : Type 0} (kept : P → ℕ → Type 0) where
  -- a session with the client, from the seat
  pub talked : (came : Coming) (before after : Sitting L P) (went : Parting) (left unread written told : Option (List ℕ)) (held : List ℕ) (found_end read_failed write_failed : Bool)
      (ended : Result (Unit {0}) SessionFault) (input : List ℕ) → left ≡ came.says → written ≡ came.told
      → went ≡ record { unread = unread; told = told; held_back = held; found_end = found_end; read_failed = read_failed; write_failed = write_failed; ended = ended }
      → Consumes left unread input
      → (session : IsSeatSession before.seat after.seat input written told ended) × AreToldKept (kept after.committer) after.has_failed session.turns written told
      → ((s : IsSeatSession before.seat after.seat input written told ended) → AreLineAnswers before.seat.told s.turns)
      → StaysKept kept before.committer after.committer
      → OnOk ended (IsAtEnd unread) → OnOk ended (found_end ≡ true) → ((ended ≡ Err Read) ↔ IsTrue read_failed) → (ended ≡ Err Write → IsTrue (after.has_failed || write_failed)) → (IsTrue write_failed → ended ≡ Err Write)
      → (ended ≡ Err Memory → (unread ≡ left) × (told ≡ written) × (after ≡ afresh before)) → ((after.has_failed || write_failed) ≡ false → held ≡ [])
      → IsConnection kept (record { came = came; before = before; after = after; went = went })
  talked came before after went left unread written told held found_end read_failed write_failed ended input says tells parted read session answers stays end found reading writing failing memory handed =
      let begun : (s : IsSeatSession before.seat after.seat input came.told told ended) × AreToldKept (kept after.committer) after.has_failed s.turns came.told told × AreLineAnswers before.seat.told s.turns =
      subst (λ (w : Option (List ℕ)). (s : IsSeatSession before.seat after.seat input w told ended) × AreToldKept (kept after.committer) after.has_failed s.turns w told × AreLineAnswers before.seat.told s.turns)
      tells (session.0, session.1, answers session.0) in
      let parting : Parting = record { unread = unread; told = told; held_back = held; found_end = found_end; read_failed = read_failed; write_failed = write_failed; ended = ended } in
      let whole : IsConnection kept (record { came = came; before = before; after = after; went = parting }) = record {
        input = input;
        read = subst (λ (l : Option (List ℕ)). Consumes l unread input) says read;
        session = begun.0;
        answers = begun.2;
        is_kept = begun.1;
        stays = stays;
        end = end;
        found_end = found;
        read_fault = reading;
        write_fault = writing;
        write_failed = failing;
        memory = λ none. let same = memory none in (same.0 ∙ says, same.1 ∙ tells, same.2);
        handed_on = handed;
      } in
      subst (λ (w : Parting). IsConnection kept (record { came = came; before = before; after = after; went = w })) (sym parted) whole

no_truth : IsTrue false → ⊥
no_truth e = cc

not_read : (r : Result (Unit {0}) SessionFault) → r ≡ Err Memory → r ≡ Err Read → IsTrue false
not_read r memory read = cc

not_write : {X : Type 0} (r : Result (Unit {0}) SessionFault) → r ≡ Err Memory → r ≡ Err Write → X
not_write r memory write = absurd (let c : ⊥ = cc in c)

-- memory was refused before anything was read
pub none_begun : {L P : Type 0} (kept : P → ℕ → Type 0) (came : Coming) (sitting : Sitting L P) (went : Parting) → went ≡ unheard came
    → IsConnection kept (record { came = came; before = sitting; after = afresh sitting; went = went })
none_begun kept came sitting went parted =
    let seat = sitting.seat in
    let session : IsSeatSession seat seat [] came.told came.told (Err Memory) =
    record { turns = []; rest = []; lines = refl; few = lit≤ tt; each = refl; receipts = sym (append-nil seat.receipts); ends = (Appends-nil came.told, refl) } in
    let none : AreToldKept (kept sitting.committer) false [] came.told came.told = record {
      told = [];
      untold = [];
      all = refl;
      none_untold = λ _. refl;
      few_untold = lit≤ tt;
      written = ([], [], refl, Appends-nil came.told);
      each = All-nil (λ (turn : SeatTurn). IsKept (kept sitting.committer) turn.receipt);
    } in
    let parting : Parting = record { unread = came.says; told = came.told; held_back = []; found_end = false; read_failed = false; write_failed = false; ended = Err Memory } in
    let whole : IsConnection kept (record { came = came; before = sitting; after = afresh sitting; went = parting }) = record {
      input = [];
      read = Consumes-nil came.says;
      session = session;
      answers = tt;
      is_kept = none;
      stays = λ place k. k;
      end = tt;
      found_end = tt;
      read_fault = ((λ e. not_read (Err Memory) refl e), (λ e. absurd (no_truth e)));
      write_fault = λ e. not_write (Err Memory) refl e;
      write_failed = λ e. absurd (no_truth e);
      memory = λ e. (refl, refl, refl);
      handed_on = λ e. refl;
    } in
    subst (λ (w : Parting). IsConnection kept (record { came = came; before = sitting; after = afresh sitting; went = w })) (sym parted) whole

-- ---- the clients that came

pub none_came : (coming : Option (List Coming)) → Came coming coming []
none_came None = tt
none_came (Some coming) = refl

-- one more
pub one_came : (coming left later : Option (List Coming)) (came more : List Coming) (c : Coming) → Came coming left came → Came left later (c ∷ []) → more ≡ came ++ c ∷ [] → Came coming later more
one_came None left later came more c before now are = tt
one_came (Some coming) None later came more c before now are = absurd before
one_came (Some coming) (Some left) None came more c before now are = absurd now
one_came (Some coming) (Some left) (Some later) came more c before now are =
    before ∙ ap (λ l. came ++ l) now ∙ sym (append_assoc came (c ∷ []) later) ∙ ap (λ l. l ++ later) (sym are)

-- no further one
pub no_more_came : (coming left : Option (List Coming)) (came : List Coming) (count : ℕ) → Came coming left came → NoneComes left → length came < count → FewerCome coming count
no_more_came None left came count before none few = tt
no_more_came (Some coming) None came count before none few = absurd before
no_more_came (Some coming) (Some left) came count before none few =
    let all : coming ≡ came = before ∙ ap (λ l. came ++ l) none ∙ append-nil came in
    subst (λ (l : List Coming). length l < count) (sym all) few

-- a handle more
pub one_mapped : {H A : Type 0} (f : H → A) (handles more : List H) (h : H) (y : A) → more ≡ handles ++ h ∷ [] → f h ≡ y → map f more ≡ map f handles ++ y ∷ []
one_mapped f handles more h y is mine = ap (map f) is ∙ map_push f handles h ∙ ap (λ x. map f handles ++ x ∷ []) mine

-- ---- sessions that are begun, one after the other

-- What was begun of all sittings, for clients that came so, by what stood in the way of more. As long as nothing does, these are left.
abbrev pub IsUnderWay : {S : Type 0} → Option (List Coming) → Option (List Coming) → List S → List S → List S → List Coming → Option ConnectFault → Type 0
IsUnderWay coming now all left begun came None = (begun ++ left ≡ all) × Came coming now came
IsUnderWay {S} coming now all left begun came (Some NoConnection) =
    (rest : List S) × (begun ++ rest ≡ all) × (later : Option (List Coming)) × Came coming later came × NoneComes later × (length begun < length all)
IsUnderWay {S} coming now all left begun came (Some NoThread) =
    (rest : List S) × (begun ++ rest ≡ all) × (later : Option (List Coming)) × (unserved : List Coming) × Came coming later came × Came later now unserved × (length unserved ≤ 1)
    × (length begun + length unserved ≤ length all)
IsUnderWay coming now all left begun came (Some NotKeptInSession) = ⊥

-- nothing is begun, and memory may have been refused
pub at_first : {S : Type 0} (coming : Option (List Coming)) (all : List S) (fault : Option ConnectFault) → IfSome fault (λ f. f ≡ NoThread) → IsUnderWay coming coming all all [] [] fault
at_first coming all None is = (refl, none_came coming)
at_first coming all (Some NoConnection) is = absurd (let c : ⊥ = cc in c)
at_first coming all (Some NoThread) is = (all, refl, coming, [], none_came coming, none_came coming, lit≤ tt, omega arith)
at_first coming all (Some NotKeptInSession) is = absurd (let c : ⊥ = cc in c)

-- no request was kept in vain, as far as is known
pub no_request : {S : Type 0} (coming now : Option (List Coming)) (all left begun : List S) (came : List Coming) (fault : Option ConnectFault) → IsUnderWay coming now all left begun came fault
    → fault ≡ Some NotKeptInSession → ⊥
no_request coming now all left begun came fault under is = subst (IsUnderWay coming now all left begun came) is under

module _ {S : Type 0} (coming now : Option (List Coming)) (all left begun : List S) (came : List Coming) where
  -- a sitting is passed by
  pub passed_by : (fault : Option ConnectFault) (rest : List S) → is_some fault ≡ true → IsUnderWay coming now all left begun came fault → IsUnderWay coming now all rest begun came fault
  passed_by None rest some under = absurd (let c : ⊥ = cc in c)
  passed_by (Some NoConnection) rest some under = under
  passed_by (Some NoThread) rest some under = under
  passed_by (Some NotKeptInSession) rest some under = under

  -- no client can be accepted
  pub none_accepted : (later : Option (List Coming)) (rest : List S) → IsUnderWay coming now all left begun came None → 0 < length left → NoneComes now
      → IsUnderWay coming later all rest begun came (Some NoConnection)
  none_accepted later rest under some none =
      (left, under.0, now, under.1, none, omega (arith, ap (λ (l : List S). length l) under.0, length-append begun left, some))

  -- no thread can be started for one
  pub none_started : (later : Option (List Coming)) (rest : List S) (c : Coming) → IsUnderWay coming now all left begun came None → 0 < length left → Came now later (c ∷ [])
      → IsUnderWay coming later all rest begun came (Some NoThread)
  none_started later rest c under some next =
      (left, under.0, now, c ∷ [], under.1, next, lit≤ tt, omega (arith, ap (λ (l : List S). length l) under.0, length-append begun left, some))

-- ---- all connections

-- what came back of each handle, where nothing is left to come
pub all_came : {H S : Type 0} (R : H → S → Type 0) (handles begun rest : List H) (back : List S)
    → ((more : List S) → AllZip R rest more → AllZip R begun (back ++ more)) → length rest ≡ 0 → begun ≡ handles → AllZip R handles back
all_came R handles begun rest back goes over same =
    subst (λ l. AllZip R l back) same (subst (AllZip R begun) (append-nil back) (goes [] (rw (nil_from_length rest over) tt)))

-- one more has come back
pub one_back : {H S : Type 0} (R : H → S → Type 0) (begun left rest : List H) (back more : List S) (h : H) (s : S) → ((others : List S) → AllZip R left others → AllZip R begun (back ++ others))
    → left ≡ h ∷ rest → more ≡ back ++ s ∷ [] → R h s → (others : List S) → AllZip R rest others → AllZip R begun (more ++ others)
one_back R begun left rest back more h s goes next is so others zip =
    subst (λ l. AllZip R begun (l ++ others)) (sym is)
    (subst (AllZip R begun) (sym (append_assoc back (s ∷ []) others)) (goes (s ∷ others) (subst (λ l. AllZip R l (s ∷ others)) (sym next) (so, zip))))

-- a seat more went to a thread that promised to keep what it had
pub one_handed : {H S : Type 0} (promised : H → S) (handles more : List H) (h : H) (s : S) (left rest all : List S) → map promised handles ++ left ≡ all → left ≡ s ∷ rest
    → more ≡ handles ++ h ∷ [] → promised h ≡ s → map promised more ++ rest ≡ all
one_handed promised handles more h s left rest all was next is mine =
    ap (λ l. map promised l ++ rest) is ∙ ap (λ l. l ++ rest) (map_push promised handles h) ∙ append_assoc (map promised handles) (promised h ∷ []) rest
    ∙ ap (λ x. map promised handles ++ x ∷ rest) mine ∙ ap (λ l. map promised handles ++ l) (sym next) ∙ was

-- the two parts of what is known of each
pub zip_first : {H V : Type 0} (R : H → V → Type 0) (S : V → Type 0) (hs : List H) (vs : List V) → AllZip (λ h v. R h v × S v) hs vs → AllZip R hs vs
zip_first R S [] [] z = z
zip_first R S [] (v ∷ vs) z = absurd z
zip_first R S (h ∷ hs) [] z = absurd z
zip_first R S (h ∷ hs) (v ∷ vs) z = (z.0.0, zip_first R S hs vs z.1)

pub zip_second : {H V : Type 0} (R : H → V → Type 0) (S : V → Type 0) (hs : List H) (vs : List V) → AllZip (λ h v. R h v × S v) hs vs → All S vs
zip_second R S [] [] z = All-nil S
zip_second R S [] (v ∷ vs) z = absurd z
zip_second R S (h ∷ hs) [] z = absurd z
zip_second R S (h ∷ hs) (v ∷ vs) z = All-cons S v vs z.0.1 (zip_second R S hs vs z.1)

-- What each handle promised, of its client and its seat, was kept by the visit that came back.
module _ {H V L P : Type 0} (keeps : P → ℕ → Type 0) (came : H → Coming) (before : H → Sitting L P) (after : V → Sitting L P) (went : V → Parting) where
  abbrev joined : H → V → Connection L P
  joined h v = record { came = came h; before = before h; after = after v; went = went v }

  abbrev all_joined : List H → List V → List (Connection L P)
  all_joined [] vs = []
  all_joined (h ∷ hs) [] = []
  all_joined (h ∷ hs) (v ∷ vs) = joined h v ∷ all_joined hs vs

  abbrev Kept : H → V → Type 0
  Kept h v = IsConnection keeps (joined h v)

  all_kept : (hs : List H) (vs : List V) → AllZip Kept hs vs → All (IsConnection keeps) (all_joined hs vs)
  all_kept [] [] z = All-nil (IsConnection keeps)
  all_kept [] (v ∷ vs) z = absurd z
  all_kept (h ∷ hs) [] z = absurd z
  all_kept (h ∷ hs) (v ∷ vs) z = All-cons (IsConnection keeps) (joined h v) (all_joined hs vs) z.0 (all_kept hs vs z.1)

  all_came_so : (hs : List H) (vs : List V) → AllZip Kept hs vs → map (λ (c : Connection L P). c.came) (all_joined hs vs) ≡ map came hs
  all_came_so [] [] z = refl
  all_came_so [] (v ∷ vs) z = absurd z
  all_came_so (h ∷ hs) [] z = absurd z
  all_came_so (h ∷ hs) (v ∷ vs) z = ap (λ l. came h ∷ l) (all_came_so hs vs z.1)

  all_before : (hs : List H) (vs : List V) → AllZip Kept hs vs → map (λ (c : Connection L P). c.before) (all_joined hs vs) ≡ map before hs
  all_before [] [] z = refl
  all_before [] (v ∷ vs) z = absurd z
  all_before (h ∷ hs) [] z = absurd z
  all_before (h ∷ hs) (v ∷ vs) z = ap (λ l. before h ∷ l) (all_before hs vs z.1)

  all_after : (hs : List H) (vs : List V) → AllZip Kept hs vs → map (λ (c : Connection L P). c.after) (all_joined hs vs) ≡ map after vs
  all_after [] [] z = refl
  all_after [] (v ∷ vs) z = absurd z
  all_after (h ∷ hs) [] z = absurd z
  all_after (h ∷ hs) (v ∷ vs) z = ap (λ l. after v ∷ l) (all_after hs vs z.1)

  all_went : (hs : List H) (vs : List V) → AllZip Kept hs vs → map (λ (c : Connection L P). c.went) (all_joined hs vs) ≡ map went vs
  all_went [] [] z = refl
  all_went [] (v ∷ vs) z = absurd z
  all_went (h ∷ hs) [] z = absurd z
  all_went (h ∷ hs) (v ∷ vs) z = ap (λ l. went v ∷ l) (all_went hs vs z.1)

  abbrev connected : (handles : List H) (visits : List V) (sittings : List (Sitting L P)) (coming later : Option (List Coming)) → AllZip Kept handles visits
      → map before handles ≡ sittings → Came coming later (map came handles) → AreConnections keeps coming sittings (map after visits) (map went visits)
  connected handles visits sittings coming later kept begun came_first = record {
    connections = all_joined handles visits;
    each = all_kept handles visits kept;
    still_to_come = later;
    clients = subst (Came coming later) (sym (all_came_so handles visits kept)) came_first;
    before = all_before handles visits kept ∙ begun;
    after = all_after handles visits kept;
    went = all_went handles visits kept;
  }

  -- as many went as there are handles
  all_counted : (handles : List H) (visits : List V) → AllZip Kept handles visits → length (map went visits) ≡ length (map before handles)
  all_counted handles visits kept = length-map visits went ∙ AllZip-long Kept handles visits kept ∙ sym (length-map handles before)

  -- the first of the sittings were begun
  first_begun : (handles : List H) (visits : List V) (sittings rest : List (Sitting L P)) → AllZip Kept handles visits → map before handles ++ rest ≡ sittings
      → map before handles ≡ take (length (map went visits)) sittings
  first_begun handles visits sittings rest kept begun =
      sym (ap (λ n. take n sittings) (all_counted handles visits kept) ∙ ap (take (length (map before handles))) (sym begun) ∙ take-append_seam (map before handles) rest)

  -- who was served once all sessions have ended, by what stood in the way of more
  pub visited : (fault : Option ConnectFault) (handles : List H) (visits : List V) (sittings left : List (Sitting L P)) (coming now : Option (List Coming)) → AllZip Kept handles visits
      → IsUnderWay coming now sittings left (map before handles) (map came handles) fault → length left ≡ 0
      → AreServed keeps coming now sittings (map after visits) (map went visits) fault
  visited None handles visits sittings left coming now kept under over =
      let whole : map before handles ≡ sittings = sym (append-nil (map before handles)) ∙ ap (λ l. map before handles ++ l) (sym (nil_from_length left over)) ∙ under.0 in (
        connected handles visits sittings coming now kept whole under.1,
        none_came now,
      )
  visited (Some NoConnection) handles visits sittings left coming now kept under over = (
    connected handles visits (take (length (map went visits)) sittings) coming under.2 kept (first_begun handles visits sittings under.0 kept under.1) under.3,
    under.4,
    omega (arith, all_counted handles visits kept, under.5),
  )
  visited (Some NoThread) handles visits sittings left coming now kept under over = record {
    connections = connected handles visits (take (length (map went visits)) sittings) coming under.2 kept (first_begun handles visits sittings under.0 kept under.1) under.4;
    unserved = under.3;
    others = under.5;
    one = under.6;
    fits = omega (arith, all_counted handles visits kept, under.7);
  }
  visited (Some NotKeptInSession) handles visits sittings left coming now kept under over = absurd under

-- ---- seats and what is left of clients, apart

pub map_twice : {V G A : Type 0} (f : V → G) (h : G → A) (vs : List V) → map h (map f vs) ≡ map (λ v. h (f v)) vs
map_twice f h [] = refl
map_twice f h (v ∷ vs) = ap (λ l. h (f v) ∷ l) (map_twice f h vs)

pub none_failed : {V : Type 0} (failed : V → Bool) (vs : List V) → list_any failed vs ≡ false → All (λ v. failed v ≡ false) vs
none_failed failed [] none = All-nil (λ v. failed v ≡ false)
none_failed failed (v ∷ vs) none =
    let parts = or_parts (failed v) (list_any failed vs) none in
    All-cons (λ x. failed x ≡ false) v vs parts.0 (none_failed failed vs parts.1)

-- keeping failed in none of these visits
pub parted : {V G L P : Type 0} (keeps : P → ℕ → Type 0) (sitting : V → Sitting L P) (gone : V → G) (parting : G → Parting) (coming : Option (List Coming)) (sittings : List (Sitting L P)) (visits : List V)
    (seats : List Seated) (committers : List P) (left : List G)
    → AreConnections keeps coming sittings (map sitting visits) (map (λ v. parting (gone v)) visits) → list_any (λ v. (sitting v).has_failed) visits ≡ false
    → seats ≡ map (λ v. (sitting v).seat) visits → committers ≡ map (λ v. (sitting v).committer) visits → left ≡ map gone visits → AreParted keeps coming sittings seats committers (map parting left)
parted {L = L} {P = P} keeps sitting gone parting coming sittings visits seats committers left connections whole in_seats in_committers in_order =
    let went : map (λ v. parting (gone v)) visits ≡ map parting left = sym (ap (map parting) in_order ∙ map_twice gone parting visits) in
    record {
      served = map sitting visits;
      connections = subst (λ (w : List Parting). AreConnections keeps coming sittings (map sitting visits) w) went connections;
      whole = All-map (λ (s : Sitting L P). s.has_failed ≡ false) sitting visits (none_failed (λ v. (sitting v).has_failed) visits whole);
      seats_are = in_seats ∙ sym (map_twice sitting (λ (s : Sitting L P). s.seat) visits);
      committers_are = in_committers ∙ sym (map_twice sitting (λ (s : Sitting L P). s.committer) visits);
    }

-- ---- where keeping failed

-- one of the committers knows that keeping failed
knows_behind : {P : Type 0} (failed : P → Type 0) (committer : P) (committers : List P) → OneKnows failed committers → OneKnows failed (committer ∷ committers)
knows_behind failed committer committers knows = (knows.0, (suc knows.1.0, omega (arith, knows.1.1), knows.1.2), knows.2)

one_more : {V L P : Type 0} (failed : P → Type 0) (sitting : V → Sitting L P) (v : V) (visits : List V) (b : Bool) → (sitting v).has_failed ≡ b → TellsFailure failed (sitting v)
    → (b || list_any (λ v. (sitting v).has_failed) visits) ≡ true → (list_any (λ v. (sitting v).has_failed) visits ≡ true → OneKnows failed (map (λ v. (sitting v).committer) visits))
    → OneKnows failed (map (λ v. (sitting v).committer) (v ∷ visits))
one_more failed sitting v visits true now told is rest = ((sitting v).committer, (0, omega arith, refl), told now)
one_more failed sitting v visits false now told is rest = knows_behind failed (sitting v).committer (map (λ v. (sitting v).committer) visits) (rest is)

pub one_knows : {V L P : Type 0} (failed : P → Type 0) (sitting : V → Sitting L P) (visits : List V) → All (λ v. TellsFailure failed (sitting v)) visits
    → list_any (λ v. (sitting v).has_failed) visits ≡ true → OneKnows failed (map (λ v. (sitting v).committer) visits)
one_knows failed sitting [] told is = absurd (let c : ⊥ = cc in c)
one_knows failed sitting (v ∷ visits) told is =
    one_more failed sitting v visits (sitting v).has_failed refl (told 0 v (omega arith)) is (λ more. one_knows failed sitting visits (λ i d inside. told (suc i) d (omega (arith, inside))) more)

-- ---- the fault of connections, with that of their sessions

pub none_stood : (fault : Option ConnectFault) (b : Bool) → fault_of fault b ≡ None → (fault ≡ None) × (b ≡ false)
none_stood None true is = absurd (let c : ⊥ = cc in c)
none_stood None false is = (refl, refl)
none_stood (Some f) b is = absurd (let c : ⊥ = cc in c)

pub session_stood : (fault : Option ConnectFault) (b : Bool) → fault_of fault b ≡ Some NotKeptInSession → (fault ≡ Some NotKeptInSession → ⊥) → b ≡ true
session_stood None true is not = refl
session_stood None false is not = absurd (let c : ⊥ = cc in c)
session_stood (Some f) b is not = absurd (not is)

pub served_so : {L P : Type 0} (keeps : P → ℕ → Type 0) (coming to_come : Option (List Coming)) (sittings served : List (Sitting L P)) (partings : List Parting) (fault : Option ConnectFault) (b : Bool)
    → AreServed keeps coming to_come sittings served partings fault → AreServed keeps coming to_come sittings served partings (fault_of fault b)
served_so keeps coming to_come sittings served partings None true is = is
served_so keeps coming to_come sittings served partings None false is = is
served_so keeps coming to_come sittings served partings (Some f) b is = is

-- who was served, by what stood in the way, with the committers and what is left of the clients apart
pub stands : {V G L P : Type 0} (keeps : P → ℕ → Type 0) (sitting : V → Sitting L P) (gone : V → G) (parting : G → Parting) (coming to_come : Option (List Coming)) (sittings : List (Sitting L P))
    (visits : List V) (committers : List P) (left : List G) (fault : Option ConnectFault) (b : Bool)
    → AreServed keeps coming to_come sittings (map sitting visits) (map (λ v. parting (gone v)) visits) fault → committers ≡ map (λ v. (sitting v).committer) visits → left ≡ map gone visits
    → StandsConnected keeps coming to_come sittings committers (map parting left) (fault_of fault b)
stands {L = L} {P = P} keeps sitting gone parting coming to_come sittings visits committers left fault b served in_committers in_order =
    let went : map (λ v. parting (gone v)) visits ≡ map parting left = sym (ap (map parting) in_order ∙ map_twice gone parting visits) in (
      map sitting visits,
      served_so keeps coming to_come sittings (map sitting visits) (map parting left) fault b (subst (λ (w : List Parting). AreServed keeps coming to_come sittings (map sitting visits) w fault) went served),
      in_committers ∙ sym (map_twice sitting (λ (s : Sitting L P). s.committer) visits),
    )

-- there was no room for any
pub none_stand : {G L P : Type 0} (keeps : P → ℕ → Type 0) (parting : G → Parting) (coming to_come : Option (List Coming)) (sittings : List (Sitting L P)) (committers : List P) (left : List G) (fault : Option ConnectFault)
    → committers ≡ [] → left ≡ [] → fault ≡ Some NoThread → coming ≡ to_come → StandsConnected keeps coming to_come sittings committers (map parting left) fault
none_stand {G = G} {L = L} {P = P} keeps parting coming to_come sittings committers left fault no_committer none_left is same =
    let none : AreConnections {L = L} {P = P} keeps coming [] [] [] =
    record { connections = []; each = All-nil (IsConnection keeps); still_to_come = coming; clients = none_came coming; before = refl; after = refl; went = refl } in
    let all : AllButOneServed {L = L} {P = P} keeps coming to_come sittings [] [] =
    record { connections = none; unserved = []; others = subst (λ c. Came coming c []) same (none_came coming); one = lit≤ tt; fits = omega arith } in
    subst (λ (l : List G). StandsConnected keeps coming to_come sittings committers (map parting l) fault) (sym none_left)
    (subst (λ (f : Option ConnectFault). StandsConnected keeps coming to_come sittings committers [] f) (sym is) ([], all, no_committer))
