-- What stands in a file is one of those things that a crash may leave.
use Rattle.std.proofs.Common.{◌≡◌, inl, ℕ, ◌+◌, ◌-◌, ◌≤◌, List, ◌++◌, length, take, drop, Bool, true, false, if◌then◌else◌, refl, sym, ◌∙◌, ap, subst, arith, length-append, length-take, length-drop, append_assoc, nat_le}
use Rattle.std.proofs.lemmas.List.{take_at, drop_at}
use Rattle.std.proofs.lemmas.Bool.Decides.{nat_tests}
use Rattle.rbc_journal.specs.Device.{Torn}
use Rattle.rbc_journal_file.specs.declared.past.Past.{Past}
use Rattle.rbc_journal_file.specs.declared.past.Past.TheVariants.{Opened, Wrote', Synced', Replaced'}
use Rattle.rbc_journal_file.specs.Past.{listed, seen, may_leave, overwritten}

torn_same : (at n : ℕ) (file : List ℕ) → Torn at n file file
torn_same at n file = record { before = refl; after = refl; no_shorter = omega arith; no_longer = omega arith }

torn_written : (at : ℕ) (bytes file : List ℕ) → at ≤ length file → Torn at (length bytes) file (take at file ++ bytes ++ drop (at + length bytes) file)
torn_written at bytes file within =
    let front : length (take at file) ≡ at = omega (arith, length-take at file) in
    let written = take at file ++ bytes ++ drop (at + length bytes) file in
    let size : length written ≡ at + length bytes + (length file - (at + length bytes)) =
    omega (arith, front, length-append (take at file ++ bytes) (drop (at + length bytes) file), length-append (take at file) bytes, length-drop (at + length bytes) file) in
    record {
      before = ap (λ (l : List ℕ). take at l) (append_assoc (take at file) bytes (drop (at + length bytes) file)) ∙ take_at (take at file) (bytes ++ drop (at + length bytes) file) at front;
      after = drop_at (take at file ++ bytes) (drop (at + length bytes) file) (at + length bytes) (omega (arith, front, length-append (take at file) bytes));
      no_shorter = omega (arith, size);
      no_longer = omega (arith, size);
    }

torn_seen : (is_done in_range : Bool) (at : ℕ) (bytes file : List ℕ) → nat_le at (length file) ≡ in_range
    → Torn at (length bytes) file (if is_done then overwritten file at bytes else file)
torn_seen false in_range at bytes file is = torn_same at (length bytes) file
torn_seen true false at bytes file is =
    subst (Torn at (length bytes) file) (sym (ap (λ (b : Bool). if b then take at file ++ bytes ++ drop (at + length bytes) file else file) is)) (torn_same at (length bytes) file)
torn_seen true true at bytes file is =
    let within : at ≤ length file = grind (arith, nat_tests) in
    subst (Torn at (length bytes) file) (sym (ap (λ (b : Bool). if b then take at file ++ bytes ++ drop (at + length bytes) file else file) is)) (torn_written at bytes file within)

pub stays : (past : Past) → may_leave past (seen past)
stays (Opened bytes) = refl
stays (Wrote' m past at bytes is_done) = (seen past, stays past, torn_seen is_done (nat_le at (length (seen past))) at (listed bytes.value) (seen past) refl)
stays (Replaced' m past bytes true) = refl
stays (Replaced' m past bytes false) = inl (stays past)
stays (Synced' m past true) = refl
stays (Synced' m past false) = stays past

-- A sync takes outcomes away.
pub synced : (past : Past) (is_done : Bool) (m : _) (c : List ℕ) → may_leave (Synced' m past is_done) c → may_leave past c
synced past true m c is = subst (may_leave past) (sym is) (stays past)
synced past false m c left = left
