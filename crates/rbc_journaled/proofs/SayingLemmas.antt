-- A reply is said: it rests, or it is written behind those that rested, once all lines that are staged are put.
use Rattle.std.proofs.Common.{◌≡◌, ℕ, ◌<◌, ◌≤◌, Bool, true, false, cond, ◌||◌, List, [], ◌++◌, length, Option, None, Result, Ok, Err, inl, inr, refl, sym, ap, ◌∙◌, subst, arith, append_assoc}
use Rattle.std.specs.Prelude.{is_err}
use Rattle.std.specs.Io.KnownBytes.{Appends, Keeps}
use Rattle.std.proofs.KnownBytes.{Appends-nil, Appends-kept, Appends-trans}
use Rattle.std.proofs.lemmas.Bool.{both_ways}
use Rattle.rbc_journal.specs.Device.{LeavesOnly}
use Rattle.rbc_journal.specs.Journal.{recovered, IsBeforeOrAfter}
use Rattle.rbc_journal.specs.Settled.{IsSettled, staged}
use Rattle.rbc_journal.specs.declared.journal.Journal.{Journal}
use Rattle.rbc_model.specs.declared.sessions.Inquiry.{Inquiry}
use Rattle.rbc_model.specs.declared.sessions.Inquiry.TheVariants.{State as AskedState, Scene as AskedScene}
use Rattle.rbc_model.specs.Histories.{Beginning, Entry, replay}
use Rattle.rbc_model.specs.Inquiries.{inquiry_reply}
use Rattle.rbc_model.specs.Sessions.{Prints, WritesText}
use Rattle.rbc_session_laws.specs.Turns.{AnswersInquiry}
use Rattle.rbc_journaled.specs.Advances.{Holds, IsSaid}
use Rattle.rbc_journaled.specs.declared.journaled_record.JournaledRecord.{JournaledRecord}
use Rattle.rbc_journaled.specs.declared.journaled_record.TheConstants.{MOST_TOGETHER}
use Rattle.rbc_journaled.proofs.BetweenLemmas.{still}

module _ {D : Type 0} (seen : D → List ℕ) (may_leave : D → List ℕ → Type 0) (moment : D → ℕ) (left_since : D → ℕ → List ℕ → Type 0) (faults : D → ℕ)
    (only_now : (file : D) (c : List ℕ) → left_since file (moment file) c → may_leave file c) where
  -- it rests
  pub said_batched : (before after : JournaledRecord D) (reply : List ℕ) → before.has_failed ≡ false → IsSettled seen may_leave before.journal → after.history ≡ before.history
      → after.journal ≡ before.journal → after.has_failed ≡ before.has_failed → after.replies.failed ≡ false → Holds before reply after → after.batch < MOST_TOGETHER → IsSaid seen may_leave moment left_since faults before reply [] after
  said_batched before after reply whole settled same journal failed works holds few =
      let device : after.journal.device ≡ before.journal.device = ap (λ (j : Journal D). j.device) journal in
      let same_faults = ap faults device in
      record {
        history = same;
        settled = λ whole. (subst (IsSettled seen may_leave) (sym journal) settled, works);
        said = λ whole. inl (record { silent = refl; device = device; holds = holds }, ap (λ (j : Journal D). staged j) journal, few);
        unsaid = λ fails. absurd (both_ways after.has_failed (failed ∙ whole) fails);
        any_moment = still moment left_since before.journal.device after.journal.device (IsBeforeOrAfter (recovered (seen before.journal.device)) (staged before.journal)) device
            (λ c left. inl (ap recovered (settled.durable c (only_now before.journal.device c left))));
        later = omega (arith, same_faults);
      }

module _ {D : Type 0} (seen : D → List ℕ) (may_leave : D → List ℕ → Type 0) (moment : D → ℕ) (left_since : D → ℕ → List ℕ → Type 0) (faults : D → ℕ) where
  -- it is written, or the journal fails
  pub said_written : (before after : JournaledRecord D) (reply text : List ℕ) → after.history ≡ before.history
      → (after.has_failed ≡ false → IsSettled seen may_leave after.journal × (recovered (seen after.journal.device) ≡ recovered (seen before.journal.device) ++ staged before.journal)
      × (staged after.journal ≡ []) × (after.replies.bytes.items ≡ []))
      → LeavesOnly moment left_since before.journal.device after.journal.device (IsBeforeOrAfter (recovered (seen before.journal.device)) (staged before.journal))
      → faults before.journal.device ≤ faults after.journal.device → (after.has_failed ≡ true → faults before.journal.device < faults after.journal.device)
      → after.replies.failed ≡ false → after.batch ≡ 0 → text ≡ cond after.has_failed [] (before.replies.bytes.items ++ reply)
      → IsSaid seen may_leave moment left_since faults before reply text after
  said_written before after reply text same put leaves later lost holds none text_is = record {
    history = same;
    settled = λ works. ((put works).0, holds);
    said = λ works.
        let p = put works in
        inr (record { text_is = text_is ∙ ap (λ b. cond b [] (before.replies.bytes.items ++ reply)) works; none_held = p.3; none_rests = none }, p.1, p.2);
    unsaid = λ fails. (text_is ∙ ap (λ b. cond b [] (before.replies.bytes.items ++ reply)) fails, lost fails);
    any_moment = leaves;
    later = later;
  }

  -- behind a try to let it rest it is written, or the journal fails
  pub said_settled : (before mid after : JournaledRecord D) (reply text : List ℕ) → mid.history ≡ before.history → mid.journal ≡ before.journal
      → mid.replies.bytes.items ≡ before.replies.bytes.items → after.history ≡ mid.history
      → (after.has_failed ≡ false → IsSettled seen may_leave after.journal × (recovered (seen after.journal.device) ≡ recovered (seen mid.journal.device) ++ staged mid.journal)
      × (staged after.journal ≡ []) × (after.replies.bytes.items ≡ []))
      → LeavesOnly moment left_since mid.journal.device after.journal.device (IsBeforeOrAfter (recovered (seen mid.journal.device)) (staged mid.journal))
      → faults mid.journal.device ≤ faults after.journal.device → (after.has_failed ≡ true → faults mid.journal.device < faults after.journal.device)
      → after.replies.failed ≡ false → after.batch ≡ 0 → text ≡ cond after.has_failed [] (mid.replies.bytes.items ++ reply)
      → IsSaid seen may_leave moment left_since faults before reply text after
  said_settled before mid after reply text history journal replies same put leaves later lost holds none text_is =
      said_written before after reply text (same ∙ history)
      (subst (λ (j : Journal D). after.has_failed ≡ false → IsSettled seen may_leave after.journal × (recovered (seen after.journal.device) ≡ recovered (seen j.device) ++ staged j)
      × (staged after.journal ≡ []) × (after.replies.bytes.items ≡ [])) journal put)
      (subst (λ (j : Journal D). LeavesOnly moment left_since j.device after.journal.device (IsBeforeOrAfter (recovered (seen j.device)) (staged j))) journal leaves)
      (subst (λ (j : Journal D). faults j.device ≤ faults after.journal.device) journal later)
      (subst (λ (j : Journal D). after.has_failed ≡ true → faults j.device < faults after.journal.device) journal lost)
      holds none (text_is ∙ ap (λ (l : List ℕ). cond after.has_failed [] (l ++ reply)) replies)

-- ---- what is printed

pub prints_none : {E : Type 0} (a b : Option (List ℕ)) (broken failed : Bool) (r : Result (Unit {0}) E) → Keeps a b → broken ≡ true → is_err r ≡ true → Prints a b (broken || failed) [] r
prints_none a b broken failed (Ok done) kept lost err = absurd (let c : ⊥ = cc in c)
prints_none a b broken failed (Err fault) kept lost err =
    record { text = ([], [], refl, Appends-kept a a b [] (Appends-nil a) kept); failed = rw lost refl }

-- a reply that rests writes nothing
pub prints_nothing : {E : Type 0} (a : Option (List ℕ)) (broken failed : Bool) (r : Result (Unit {0}) E) → broken ≡ false → failed ≡ false → r ≡ Ok tt → Prints a a (broken || failed) [] r
prints_nothing a broken failed r whole works is = rw (whole, works, is) (record { text = Appends-nil a; failed = refl })

-- the writer or the journal failed before the reply
pub prints_lost : {E F : Type 0} (a b : Option (List ℕ)) (broken failed : Bool) (held reply : List ℕ) (fault : E) (r : Result (Unit {0}) F) → is_err r ≡ true
    → (broken ≡ false → (let e : Result (Unit {0}) E = Err fault in Prints a b failed held e)) → (broken ≡ true → Keeps a b) → Prints a b (broken || failed) (cond broken [] (held ++ reply)) r
prints_lost a b broken failed held reply fault (Ok done) err written kept = absurd (let c : ⊥ = cc in c)
prints_lost a b true failed held reply fault (Err other) err written kept = prints_none a b true failed (Err other) (kept refl) refl refl
prints_lost a b false failed held reply fault (Err other) err written kept =
    let w = written refl in
    let part = w.text in
    record { text = (part.0, part.1 ++ reply, ap (λ l. l ++ reply) part.2 ∙ append_assoc part.0 part.1 reply, part.3); failed = w.failed }

then_text : {E : Type 0} (a b c : Option (List ℕ)) (held reply : List ℕ) (r : Result (Unit {0}) E) → Appends a b held → WritesText b c reply r → WritesText a c (held ++ reply) r
then_text a b c held reply (Ok done) first second = Appends-trans a b c held reply first second
then_text a b c held reply (Err fault) first (part, rest, whole, wrote) =
    (held ++ part, rest, ap (λ l. held ++ l) whole ∙ sym (append_assoc held part rest), Appends-trans a b c held part first wrote)

-- the reply is printed behind those that rested
pub prints_behind : {E F : Type 0} (a b c : Option (List ℕ)) (broken before failed : Bool) (held reply : List ℕ) (r : Result (Unit {0}) F) → broken ≡ false
    → (let e : Result (Unit {0}) E = Ok tt in Prints a b before held e) → Prints b c failed reply r → Prints a c (broken || failed) (cond broken [] (held ++ reply)) r
prints_behind a b c broken before failed held reply r whole first second =
    rw whole (record { text = then_text a b c held reply r first.text second.text; failed = second.failed })

-- what is asked to be shown has a reply
pub shown_itself : (begin : Beginning) (entries : List Entry) (inquiry : Inquiry) → AnswersInquiry begin entries (inquiry_reply begin.track (length entries) (replay begin entries) inquiry) None inquiry
shown_itself begin entries AskedState = (refl, refl)
shown_itself begin entries AskedScene = inl (refl, refl)
