-- What comes of a centre that stayed up.
use Rattle.std.proofs.Common.{◌≡◌, ℕ, Bool, true, false, suc, List, [], ◌∷◌, ◌++◌, length, map, Option, Some, None, refl, sym, ap, ◌∙◌, subst, arith}
use Rattle.std.proofs.lemmas.List.{take_all}
use Rattle.std.proofs.lemmas.List.Elements.{All-map, All-nil}
use Rattle.std.specs.Prelude.{◌||◌, All, IfSome, take, option_to_list}
use Rattle.std.specs.List.{Contains, list_any}
use Rattle.rbc_port.specs.Clients.{Coming}
use Rattle.rbc_server.specs.Looking.{LooksOn}
use Rattle.rbc_server.specs.Records.{HistoryOnTrack}
use Rattle.rbc_server.specs.Seats.{Seated}
use Rattle.rbc_server.specs.Serving.{IsCloseFault}
use Rattle.rbc_server.specs.Sitting.{Sitting}
use Rattle.rbc_server.specs.declared.serving.ServeFault.{ServeFault}
use Rattle.rbc_server.specs.declared.serving.ServeFault.TheVariants.{Port, Write, Memory, Journal, Close}
use Rattle.rbc_server.proofs.ConnectionLemmas.{map_twice, none_failed}
use Rattle.rbc_duty.specs.Duties.{AreOnDuty, IsDuty}
use Rattle.rbc_duty.specs.Stays.{AreRelieved, FirstOnDuty, IsStayFault, StandsRelieved, duty_fault}

-- ---- by the first fault

pub none_faulted : (all failed lost : Bool) → duty_fault all failed lost ≡ None → (all ≡ true) × (failed ≡ false)
none_faulted false failed lost is = absurd (let c : ⊥ = cc in c)
none_faulted true true lost is = absurd (let c : ⊥ = cc in c)
none_faulted true false true is = absurd (let c : ⊥ = cc in c)
none_faulted true false false is = (refl, refl)

pub not_kept : (all failed lost : Bool) → duty_fault all failed lost ≡ Some Journal → failed ≡ true
not_kept false failed lost is = absurd (let c : ⊥ = cc in c)
not_kept true true lost is = refl
not_kept true false true is = absurd (let c : ⊥ = cc in c)
not_kept true false false is = absurd (let c : ⊥ = cc in c)

the_fault : (x y : ServeFault) → Some x ≡ Some y → x ≡ y
the_fault x y e = cc

-- one of the ports is lost
one_is : (bs : List Bool) (b : Bool) → b ≡ true → Contains (b ∷ bs) true
one_is bs b is = (0, omega arith, is)

one_behind : (bs : List Bool) (b : Bool) → Contains bs true → Contains (b ∷ bs) true
one_behind bs b has = (suc has.0, omega (arith, has.1), has.2)

contains_at : (bs : List Bool) (b c : Bool) → b ≡ c → (c || list_any (λ x. x) bs) ≡ true → (list_any (λ x. x) bs ≡ true → Contains bs true) → Contains (b ∷ bs) true
contains_at bs b true same is rest = one_is bs b same
contains_at bs b false same is rest = one_behind bs b (rest is)

any_contained : (bs : List Bool) → list_any (λ x. x) bs ≡ true → Contains bs true
any_contained [] is = absurd (let c : ⊥ = cc in c)
any_contained (b ∷ bs) is = contains_at bs b b refl is (λ more. any_contained bs more)

any_mapped : {D : Type 0} (lost : D → Bool) (ds : List D) → list_any (λ x. x) (map lost ds) ≡ list_any lost ds
any_mapped lost [] = refl
any_mapped lost (d ∷ ds) = ap (λ b. lost d || b) (any_mapped lost ds)

one_lost : {D : Type 0} (lost : D → Bool) (ds : List D) → list_any lost ds ≡ true → Contains (map lost ds) true
one_lost lost ds is = any_contained (map lost ds) (any_mapped lost ds ∙ is)

module _ {D L P : Type 0} (keeps : P → ℕ → Type 0) (sitting : D → Sitting L P) (lost : D → Bool) (comings : List (Option (List Coming))) (sittings : List (Sitting L P)) (duties : List D) (committers : List P)
    (in_committers : committers ≡ map (λ d. (sitting d).committer) duties) where
  abbrev AreFirst : ℕ → Type 0
  AreFirst count = AreOnDuty keeps (take count comings) (take count sittings) (map sitting duties) (map lost duties)

  first_on_duty : (count : ℕ) → AreFirst count → FirstOnDuty keeps count comings sittings (map lost duties) committers
  first_on_duty count on_duty = record {
    served = map sitting duties;
    on_duty = on_duty;
    committers_are = in_committers ∙ sym (map_twice sitting (λ (s : Sitting L P). s.committer) duties);
  }

  -- keeping failed in none of these duties
  pub relieved : (count : ℕ) (seats : List Seated) → AreFirst count → count ≡ length comings → count ≡ length sittings → list_any (λ d. (sitting d).has_failed) duties ≡ false
      → seats ≡ map (λ d. (sitting d).seat) duties → AreRelieved keeps comings sittings seats committers
  relieved count seats on_duty all_come all_sit whole in_seats = record {
    served = map sitting duties;
    lost = map lost duties;
    on_duty =
        subst (λ (c : List (Option (List Coming))). AreOnDuty keeps c sittings (map sitting duties) (map lost duties)) (take_all count comings (omega (arith, all_come)))
        (subst (λ (s : List (Sitting L P)). AreOnDuty keeps (take count comings) s (map sitting duties) (map lost duties)) (take_all count sittings (omega (arith, all_sit))) on_duty);
    whole = All-map (λ (s : Sitting L P). s.has_failed ≡ false) sitting duties (none_failed (λ d. (sitting d).has_failed) duties whole);
    seats_are = in_seats ∙ sym (map_twice sitting (λ (s : Sitting L P). s.seat) duties);
    committers_are = in_committers ∙ sym (map_twice sitting (λ (s : Sitting L P). s.committer) duties);
  }

  -- what stands behind the first fault
  stands_so : (all failed any_lost : Bool) (fault : ServeFault) (count : ℕ) → duty_fault all failed any_lost ≡ Some fault → AreFirst count → (all ≡ true → count ≡ length sittings)
      → (any_lost ≡ true → Contains (map lost duties) true) → StandsRelieved keeps comings sittings committers fault
  stands_so false failed any_lost fault count is on_duty many one =
      subst (StandsRelieved keeps comings sittings committers) (the_fault Memory fault is) (map lost duties, count, first_on_duty count on_duty)
  stands_so true true any_lost fault count is on_duty many one =
      subst (StandsRelieved keeps comings sittings committers) (the_fault Journal fault is)
      (map lost duties, first_on_duty (length sittings) (subst AreFirst (many refl) on_duty))
  stands_so true false true fault count is on_duty many one =
      subst (StandsRelieved keeps comings sittings committers) (the_fault Port fault is)
      (map lost duties, first_on_duty (length sittings) (subst AreFirst (many refl) on_duty), one refl)
  stands_so true false false fault count is on_duty many one = absurd (let c : ⊥ = cc in c)

  pub stands : (all failed : Bool) (fault : ServeFault) (count : ℕ) → duty_fault all failed (list_any lost duties) ≡ Some fault → AreFirst count → (all ≡ true → count ≡ length sittings)
      → StandsRelieved keeps comings sittings committers fault
  stands all failed fault count is on_duty many = stands_so all failed (list_any lost duties) fault count is on_duty many (one_lost lost duties)

if_there : {X : Type 0} (P : X → Type 0) (o : Option X) → ((x : X) → o ≡ Some x → P x) → IfSome o P
if_there P None f = tt
if_there P (Some x) f = f x refl

-- what stands behind the first fault, if there is one
pub stands_there : {D L P : Type 0} (keeps : P → ℕ → Type 0) (sitting : D → Sitting L P) (lost : D → Bool) (comings : List (Option (List Coming))) (sittings : List (Sitting L P)) (duties : List D) (committers : List P)
    → committers ≡ map (λ d. (sitting d).committer) duties → (all failed : Bool) (fault : Option ServeFault) (count : ℕ) → fault ≡ duty_fault all failed (list_any lost duties)
    → AreOnDuty keeps (take count comings) (take count sittings) (map sitting duties) (map lost duties) → (all ≡ true → count ≡ length sittings)
    → IfSome fault (StandsRelieved keeps comings sittings committers)
stands_there keeps sitting lost comings sittings duties committers in_committers all failed fault count is on_duty many =
    if_there (StandsRelieved keeps comings sittings committers) fault (λ f at. stands keeps sitting lost comings sittings duties committers in_committers all failed f count (sym is ∙ at) on_duty many)

-- there was no room for any
pub none_stand : {L P : Type 0} (keeps : P → ℕ → Type 0) (comings : List (Option (List Coming))) (sittings : List (Sitting L P)) (committers : List P) (fault : Option ServeFault) → committers ≡ [] → fault ≡ Some Memory
    → IfSome fault (StandsRelieved keeps comings sittings committers)
none_stand {L = L} {P = P} keeps comings sittings committers fault none is =
    let nobody : AreOnDuty {L = L} {P = P} keeps [] [] [] [] = record { duties = []; each = All-nil (IsDuty keeps); comings_are = refl; before_is = refl; after_is = refl; lost_are = refl } in
    let first : FirstOnDuty {L = L} {P = P} keeps 0 comings sittings [] committers = record { served = []; on_duty = nobody; committers_are = none } in
    subst (λ f. IfSome f (StandsRelieved keeps comings sittings committers)) (sym is) ([], 0, first)

-- ---- the centre's fault

module _ {L P : Type 0} (keeps : P → ℕ → Type 0) (opened : HistoryOnTrack) (parts : ℕ) (comings : List (Option (List Coming))) (sittings : List (Sitting L P)) (looking : Option Seated) (committers : List P) (old new : Option (List ℕ)) where
  pub fault_stands : (fault : ServeFault) → StandsRelieved keeps comings sittings committers fault → IsStayFault keeps opened parts comings sittings looking committers old new fault
  fault_stands Port stood = stood
  fault_stands Memory stood = stood
  fault_stands Journal stood = stood
  fault_stands Write stood = absurd stood
  fault_stands (Close fault) stood = absurd stood

  pub unclosed_stands : (seats : List Seated) (looker : Option Seated) (fault : ServeFault) → AreRelieved keeps comings sittings seats committers → LooksOn looking looker
      → IsCloseFault opened parts (seats ++ option_to_list looker) old new fault → IsStayFault keeps opened parts comings sittings looking committers old new fault
  unclosed_stands seats looker Port relieved looked unclosed = absurd unclosed
  unclosed_stands seats looker Memory relieved looked unclosed = absurd unclosed
  unclosed_stands seats looker Journal relieved looked unclosed = absurd unclosed
  unclosed_stands seats looker Write relieved looked unclosed = record { seats = seats; relieved = relieved; looker = looker; looked = looked; unclosed = unclosed }
  unclosed_stands seats looker (Close fault) relieved looked unclosed = record { seats = seats; relieved = relieved; looker = looker; looked = looked; unclosed = unclosed }

-- no write failed while seats were on duty
pub not_written : {L P : Type 0} (keeps : P → ℕ → Type 0) (comings : List (Option (List Coming))) (sittings : List (Sitting L P)) (committers : List P) (fault : ServeFault) → StandsRelieved keeps comings sittings committers fault
    → fault ≡ Write → ⊥
not_written keeps comings sittings committers fault stood is = subst (StandsRelieved keeps comings sittings committers) is stood

-- ---- who looks on
