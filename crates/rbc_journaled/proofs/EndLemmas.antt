-- How a session with a journal ends, by how the session over the record did.
use Rattle.std.proofs.Common.{◌≡◌, Bool, true, false, ◌||◌, Result, Ok, Err, refl, ap}
use Rattle.std.specs.Prelude.{◌↔◌, OnOk}
use Rattle.std.specs.Bool.{IsTrue}
use Rattle.rbc_model.specs.declared.sessions.SessionFault.{SessionFault}
use Rattle.rbc_model.specs.declared.sessions.SessionFault.TheVariants.{Read, Write, Memory}
use Rattle.rbc_model.proofs.ResultLemmas.{ok_is_no_err, read_is_not_write}
use Rattle.rbc_journaled.specs.declared.fault.RunFault.{RunFault}
use Rattle.rbc_journaled.specs.declared.fault.RunFault.TheVariants.{Session, Journal}
use Rattle.rbc_journaled.specs.Ends.{run_end}

abbrev Ended : Type 0
Ended = Result (Unit {0}) SessionFault

abbrev Ran : Type 0
Ran = Result (Unit {0}) RunFault

-- ---- two ends are not the same

same_fault : (a b : SessionFault) → (let r : Ran = Err (Session a) in r) ≡ Err (Session b) → a ≡ b
same_fault a b e = cc

same_ended : (a b : SessionFault) → (let r : Ended = Err a in r) ≡ Err b → a ≡ b
same_ended a b e = cc

journal_session : (a : SessionFault) → (let r : Ran = Err Journal in r) ≡ Err (Session a) → ⊥
journal_session a e = cc

session_journal : (a : SessionFault) → (let r : Ran = Err (Session a) in r) ≡ Err Journal → ⊥
session_journal a e = cc

-- ---- the clauses

pub read_told : (e : Ended) (b w : Bool) (P : Type 0) → (e ≡ Err Read) ↔ P → (e ≡ Err Write) ↔ IsTrue (b || w) → (run_end b e ≡ Err (Session Read)) ↔ P
read_told e true w P read write = (λ told. absurd (journal_session Read told), λ failed. absurd (read_is_not_write (read.1 failed) (write.1 refl)))
read_told (Ok done) false w P read write = (λ told. absurd (ok_is_no_err refl told), λ failed. absurd (ok_is_no_err refl (read.1 failed)))
read_told (Err fault) false w P read write =
    (λ told. read.0 (ap (λ f. Err f) (same_fault fault Read told)), λ failed. ap (λ f. Err (Session f)) (same_ended fault Read (read.1 failed)))

pub write_told : (e : Ended) (b w : Bool) → (e ≡ Err Write) ↔ IsTrue (b || w) → run_end b e ≡ Err (Session Write) → IsTrue w
write_told e true w write told = absurd (journal_session Write told)
write_told (Ok done) false w write told = absurd (ok_is_no_err refl told)
write_told (Err fault) false w write told = write.0 (ap (λ f. Err f) (same_fault fault Write told))

pub journal_told : (e : Ended) (b : Bool) → (run_end b e ≡ Err Journal) ↔ IsTrue b
journal_told e true = (λ told. refl, λ broken. refl)
journal_told (Ok done) false = (λ told. absurd (ok_is_no_err refl told), λ broken. cc)
journal_told (Err fault) false = (λ told. absurd (session_journal fault told), λ broken. cc)

pub broken_told : (e : Ended) (b : Bool) → run_end b e ≡ Err Journal → b ≡ true
broken_told e true told = refl
broken_told (Ok done) false told = absurd (ok_is_no_err refl told)
broken_told (Err fault) false told = absurd (session_journal fault told)

pub memory_told : (e : Ended) (b : Bool) → run_end b e ≡ Err (Session Memory) → e ≡ Err Memory
memory_told e true told = absurd (journal_session Memory told)
memory_told (Ok done) false told = absurd (ok_is_no_err refl told)
memory_told (Err fault) false told = ap (λ f. Err f) (same_fault fault Memory told)

pub ok_told : (e : Ended) (b : Bool) (X : Type 0) → (b ≡ false → OnOk e X) → OnOk (run_end b e) X
ok_told e true X x = tt
ok_told (Ok done) false X x = x refl
ok_told (Err fault) false X x = tt

pub handed_told : (e : Ended) (b w : Bool) (X : Type 0) → (e ≡ Err Write) ↔ IsTrue (b || w) → ((b || w) ≡ false → X) → OnOk (run_end b e) X
handed_told e true w X write x = tt
handed_told (Err fault) false w X write x = tt
handed_told (Ok done) false true X write x = absurd (ok_is_no_err refl (write.1 refl))
handed_told (Ok done) false false X write x = x refl
