-- Replies that are due to what rested.
use Rattle.std.proofs.Common.{◌≡◌, ℕ, Bool, true, false, cond, List, [], ◌∷◌, ◌++◌, drop, length, Option, Result, Ok, Err, refl, sym, ap, ◌∙◌, subst, append_assoc, append-nil}
use Rattle.std.specs.Prelude.{All, ◌||◌, IfOk, OnErr, is_err}
use Rattle.std.proofs.lemmas.Bool.{both_ways}
use Rattle.std.proofs.lemmas.List.Elements.{All-cons, All-nil, All-tail}
use Rattle.rbc_model.specs.Histories.{Receipt}
use Rattle.std.specs.Result.{IsErr}
use Rattle.rbc_model.specs.SessionReply.{SessionRefusal}
use Rattle.rbc_model.specs.Sessions.{Prints}
use Rattle.rbc_model.specs.Tracks.{Track}
use Rattle.rbc_model.specs.declared.memory.OrMemory.{OrMemory}
use Rattle.rbc_model.specs.declared.reports.Told.{Told}
use Rattle.rbc_replies.proofs.PrintingLemmas.{prints_stopped, prints_then}
use Rattle.rbc_replies.specs.Replies.{reply_text, ReplyIsWhole}
use Rattle.rbc_replies.specs.declared.replies.SessionReply.{SessionReply}
use Rattle.rbc_session_laws.specs.declared.command.Command.{Command}
use Rattle.rbc_session_laws.specs.declared.command.Command.TheVariants.{Event, Authority}
use Rattle.rbc_sweep.specs.AskFault.{AskFault}
use Rattle.rbc_sweep.specs.Asking.{IsAnsweredThen}
use Rattle.rbc_sweep.specs.Granted.{Granted as GrantedAtDesk}
use Rattle.rbc_sweep.specs.Seats.{Seated}
use Rattle.rbc_sessions.specs.Due.{AreSaidOf, CanBeSaid, DueReply, IsOwedSoFar, IsSaidOf, Owes, OwesAll, told_reply}
use Rattle.rbc_sessions.specs.Dues.{ToldSo, AskedSo}
use Rattle.rbc_sessions.specs.SeatChanges.{SeatComes, SeatHears}
use Rattle.rbc_sessions.specs.SeatSessions.{receipts_of}
use Rattle.rbc_sessions.specs.Sittings.{Enters, StaysKept}
use Rattle.rbc_sessions.specs.declared.batch.ToldReply.{ToldReply}
use Rattle.rbc_sessions.specs.declared.sitting.Sitting.{Sitting}
use Rattle.rbc_sessions.proofs.HearingLemmas.{entered_kept}
use Rattle.rbc_sessions.proofs.KeepingLemmas.{prints_said}
use Rattle.rbc_sessions.proofs.SeatLemmas.{asked_at_desk, receipt_in}

module _ (track : Track) where
  -- ---- what was entered

  pub told_owes : (before after : Seated) (told : Told) (reply : ToldReply) → ReplyIsWhole track (told_reply reply) → SeatComes (Ok (Event told)) before (reply_text track (told_reply reply)) after
      → Owes track before (Ok (Event told)) (ToldSo reply) after
  told_owes before after told reply whole comes = record {
    can_be_said = whole;
    comes = λ text is. subst (λ t. SeatComes (Ok (Event told)) before t after) (sym is) comes;
    text = reply_text track (told_reply reply);
    said = refl;
  }

  gained : (before after : Seated) (answer : Result GrantedAtDesk (OrMemory AskFault)) → IfOk answer (λ (g : GrantedAtDesk). after.receipts ≡ before.receipts ++ g.receipt ∷ [])
      → OnErr answer (after.receipts ≡ before.receipts) → after.receipts ≡ before.receipts ++ receipts_of (receipt_in answer)
  gained before after (Ok granted) is none = is
  gained before after (Err fault) is none = none ∙ sym (append-nil before.receipts)

  pub asked_owes : (before after : Seated) (train : ℕ) (answer : Result GrantedAtDesk (OrMemory AskFault)) (reply : SessionReply) → before.told.track ≡ track
      → IsAnsweredThen before.told after.told train answer → IsSaidOf track (AskedSo (record { train = train; answer = answer })) (reply_text track reply)
      → IfOk answer (λ (g : GrantedAtDesk). after.receipts ≡ before.receipts ++ g.receipt ∷ []) → OnErr answer (after.receipts ≡ before.receipts)
      → Owes track before (Ok (Authority train)) (AskedSo (record { train = train; answer = answer })) after
  asked_owes before after train answer reply on since says receipt refused = record {
    can_be_said = (before.told, after.told, on, since);
    comes = λ text said. (receipt_in answer, asked_at_desk train track text answer before after on since said, gained before after answer receipt refused);
    text = reply_text track reply;
    said = says;
  }

  pub owed_said : (before after : Seated) (commands : List (Result Command SessionRefusal)) (dues : List DueReply) (text : List ℕ) → OwesAll track before commands dues after → AreSaidOf track dues text
      → SeatHears before commands text after
  owed_said before after [] [] text same none = (none, same)
  owed_said before after [] (due ∷ dues) text none said = absurd none
  owed_said before after (command ∷ commands) [] text none said = absurd none
  owed_said before after (command ∷ commands) (due ∷ dues) text (next, owes, more) (reply, rest, said, is, others) =
      (reply, rest, next, owes.comes reply said, is, owed_said next after commands dues rest more others)

  pub owed_some : (before after : Seated) (commands : List (Result Command SessionRefusal)) (dues : List DueReply) → OwesAll track before commands dues after → (text : List ℕ) × AreSaidOf track dues text
  owed_some before after [] [] same = ([], refl)
  owed_some before after [] (due ∷ dues) none = absurd none
  owed_some before after (command ∷ commands) [] none = absurd none
  owed_some before after (command ∷ commands) (due ∷ dues) (next, owes, more) =
      let rest = owed_some next after commands dues more in (owes.text ++ rest.0, (owes.text, rest.0, owes.said, refl, rest.1))

  pub owed_can : (before after : Seated) (commands : List (Result Command SessionRefusal)) (dues : List DueReply) → OwesAll track before commands dues after → All (CanBeSaid track) dues
  owed_can before after [] [] same = All-nil (CanBeSaid track)
  owed_can before after [] (due ∷ dues) none = absurd none
  owed_can before after (command ∷ commands) [] none = absurd none
  owed_can before after (command ∷ commands) (due ∷ dues) (next, owes, more) =
      All-cons (CanBeSaid track) due dues owes.can_be_said (owed_can next after commands dues more)

  pub so_far_none : (seat : Seated) (all : List (Result Command SessionRefusal)) (before : List DueReply) → IsOwedSoFar track seat all before seat all before
  so_far_none seat all before = record { gained = []; dues = sym (append-nil before); goes_on = λ later after owed. owed }

  pub so_far_then : (first seat next : Seated) (all left rest : List (Result Command SessionRefusal)) (before now dues : List DueReply) → IsOwedSoFar track first all before seat left now
      → IsOwedSoFar track seat left now next rest dues → IsOwedSoFar track first all before next rest dues
  so_far_then first seat next all left rest before now dues a b = record {
    gained = a.gained ++ b.gained;
    dues = b.dues ∙ ap (λ l. l ++ b.gained) a.dues ∙ append_assoc before a.gained b.gained;
    goes_on = λ later after owed. subst (λ l. OwesAll track first all l after) (sym (append_assoc a.gained b.gained later)) (a.goes_on (b.gained ++ later) after (b.goes_on later after owed));
  }

  pub so_far_one : (seat next : Seated) (command : Result Command SessionRefusal) (left : List (Result Command SessionRefusal)) (due : DueReply) (now dues : List DueReply) → Owes track seat command due next → dues ≡ now ++ due ∷ []
      → IsOwedSoFar track seat (command ∷ left) now next left dues
  so_far_one seat next command left due now dues owes is = record { gained = due ∷ []; dues = is; goes_on = λ later after owed. (next, owes, owed) }

  pub so_far_more : (first seat next : Seated) (all left rest : List (Result Command SessionRefusal)) (before now dues : List DueReply) (command : Result Command SessionRefusal) (due : DueReply)
      → IsOwedSoFar track first all before seat left now → left ≡ command ∷ rest → Owes track seat command due next → dues ≡ now ++ due ∷ []
      → IsOwedSoFar track first all before next rest dues
  so_far_more first seat next all left rest before now dues command due so_far is owes more =
      so_far_then first seat next all (command ∷ rest) rest before now dues (subst (λ l. IsOwedSoFar track first all before seat l now) is so_far)
      (so_far_one seat next command rest due now dues owes more)

  pub so_far_all : (first seat : Seated) (all left : List (Result Command SessionRefusal)) (before dues : List DueReply) → before ≡ [] → left ≡ [] → IsOwedSoFar track first all before seat left dues → OwesAll track first all dues seat
  so_far_all first seat all left before dues none none_left so_far =
      let owed : OwesAll track seat left [] seat = subst (λ l. OwesAll track seat l [] seat) (sym none_left) refl in
      subst (λ l. OwesAll track first all l seat) (append-nil so_far.gained ∙ sym (so_far.dues ∙ ap (λ l. l ++ so_far.gained) none)) (so_far.goes_on [] seat owed)

  -- ---- what is printed

  pub next_said : (left rest : List DueReply) (due : DueReply) (reply text : List ℕ) → left ≡ due ∷ rest → IsSaidOf track due reply → AreSaidOf track rest text → AreSaidOf track left (reply ++ text)
  next_said left rest due reply text is said more = subst (λ l. AreSaidOf track l (reply ++ text)) (sym is) (reply, text, said, refl, more)

  pub rest_said : (left rest : List DueReply) (due : DueReply) → left ≡ due ∷ rest → (text : List ℕ) × AreSaidOf track left text → (text : List ℕ) × AreSaidOf track rest text
  rest_said left rest due is some = let said = subst (λ l. AreSaidOf track l some.0) is some.1 in (said.1, said.4)

  -- These are left of all replies, from the first text to the one that was written by now.
  pub record AreLeft (E : Type 0) (all left : List DueReply) (first now : Option (List ℕ)) : Type 0 where
    pub can : All (CanBeSaid track) left
    pub some : (text : List ℕ) × AreSaidOf track left text
    pub whole : (end : Option (List ℕ)) (failed : Bool) (r : Result (Unit {0}) E) (text : List ℕ) → AreSaidOf track left text → Prints now end failed text r
        → (all_of_it : List ℕ) × AreSaidOf track all all_of_it × Prints first end failed all_of_it r

  module _ {E : Type 0} (all left rest : List DueReply) (due : DueReply) (is : left ≡ due ∷ rest) (first now end : Option (List ℕ)) (failed : Bool) (left_now : AreLeft E all left first now) where
    pub one_printed : (said : List ℕ) → IsSaidOf track due said → Prints {E = E} now end failed said (Ok tt) → AreLeft E all rest first end
    one_printed said is_said printed = record {
      can = All-tail (CanBeSaid track) due rest (subst (All (CanBeSaid track)) is left_now.can);
      some = rest_said left rest due is left_now.some;
      whole = λ last broken r text more later. left_now.whole last broken r (said ++ text) (next_said left rest due said text is is_said more)
          (prints_then now end last broken said text (said ++ text) r printed.text refl later);
    }

    pub one_stopped : (said : List ℕ) (fault : E) (r : Result (Unit {0}) E) → IsSaidOf track due said → Prints now end failed said (Err fault) → IsErr r
        → (all_of_it : List ℕ) × AreSaidOf track all all_of_it × Prints first end failed all_of_it r
    one_stopped said fault r is_said printed is_err =
        let more = rest_said left rest due is left_now.some in
        left_now.whole end failed r (said ++ more.0) (next_said left rest due said more.0 is is_said more.1)
        (prints_stopped now end failed said more.0 (said ++ more.0) r printed.text printed.failed refl is_err)

  pub entered_said : {L P E : Type 0} (kept : P → ℕ → Type 0) (before after : Sitting L P) (seat : Seated) (commands : List (Result Command SessionRefusal)) (dues : List DueReply) (old new : Option (List ℕ))
      (writer_failed : Bool) (result : Result (Unit {0}) E) → before.has_failed ≡ false → OwesAll track before.seat commands dues seat → after.seat ≡ seat → StaysKept kept before.committer after.committer
      → (after.has_failed ≡ false → All (λ (r : Receipt). kept after.committer r.place) (drop (length before.seat.receipts) seat.receipts))
      → (after.has_failed ≡ false → (text : List ℕ) × AreSaidOf track dues text × Prints old new writer_failed text result)
      → (after.has_failed ≡ true → (new ≡ old) × (is_err result ≡ true))
      → (text : List ℕ) × Enters kept before commands text after × Prints old new (after.has_failed || writer_failed) text result
  entered_said kept before after seat commands dues old new writer_failed result whole owed same stays is_kept said unsaid = by after.has_failed refl
    where
      by : (broken : Bool) → after.has_failed ≡ broken → (text : List ℕ) × Enters kept before commands text after × Prints old new (after.has_failed || writer_failed) text result
      by false fine =
          let texts = said fine in (
            cond after.has_failed [] texts.0,
            entered_kept kept before after seat commands texts.0 whole (owed_said before.seat seat commands dues texts.0 owed texts.1) same stays is_kept,
            prints_said old new after.has_failed writer_failed texts.0 result (λ _. texts.2) unsaid,
          )
      by true broken =
          let texts = owed_some before.seat seat commands dues owed in (
            cond after.has_failed [] texts.0,
            entered_kept kept before after seat commands texts.0 whole (owed_said before.seat seat commands dues texts.0 owed texts.1) same stays is_kept,
            prints_said old new after.has_failed writer_failed texts.0 result (λ fine. absurd (both_ways _ fine broken)) unsaid,
          )
