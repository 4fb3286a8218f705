-- A line is treated, its entry staged, and the reply to it said.
use Rattle.std.proofs.Common.{◌≡◌, ℕ, ◌<◌, ◌≤◌, ◌+◌, Bool, true, false, List, [], ◌∷◌, ◌++◌, length, refl, sym, ap, ◌∙◌, subst, arith, inl, inr, append_assoc, append-nil, length-append, nat_lt, lit<}
use Rattle.std.specs.Prelude.{◌⊎◌}
use Rattle.std.specs.Bool.{MatchBool}
use Rattle.std.proofs.lemmas.Bool.{both_ways, ltb-true, lt-ltb}
use Rattle.rbc_journal.specs.Device.{LeavesOnly}
use Rattle.rbc_journal.specs.Journal.{recovered, IsBeforeOrAfter}
use Rattle.rbc_journal.specs.Settled.{staged}
use Rattle.rbc_model.specs.Histories.{Beginning, Entry}
use Rattle.rbc_model.specs.SoundTracks.{IsInForm}
use Rattle.rbc_sessions.specs.Changes.{Goes}
use Rattle.rbc_sessions.specs.Records.{begin_of, HistoryOnTrack}
use Rattle.rbc_journaled.specs.Adds.{Adds}
use Rattle.rbc_journaled.specs.Advances.{Advances, LeavesWritten, IsSaid, IsTreated, Rests, Writes}
use Rattle.rbc_journaled.specs.Journaled.{IsFrom, IsGoing, IsReady, TellsRecord}
use Rattle.rbc_journaled.specs.Tells.{Tells}
use Rattle.rbc_journaled.specs.declared.journaled_record.JournaledRecord.{JournaledRecord}
use Rattle.rbc_journaled.specs.declared.journaled_record.TheConstants.{MOST_TOGETHER}
use Rattle.rbc_journaled.proofs.AddingLemmas.{adds_of, same_adds, grown, not_grown}
use Rattle.rbc_journaled.proofs.BetweenLemmas.{staged_from, weaker}
use Rattle.rbc_journaled.proofs.TellingLemmas.{one_more}

-- what the file and some lines behind it tell
abbrev Told : Beginning → List (List ℕ) → List (List ℕ) → List Entry → Type 0
Told begin lines behind entries = Tells (Adds begin) [] (lines ++ behind) entries

-- ---- the record is told

module _ {D : Type 0} (seen : D → List ℕ) where
  -- the record, the file and the lines that are staged are the same
  pub told_still : (first now : JournaledRecord D) → TellsRecord seen first → now.history ≡ first.history → now.journal.device ≡ first.journal.device
      → staged now.journal ≡ staged first.journal → TellsRecord seen now
  told_still first now told same device lines =
      subst (λ (h : HistoryOnTrack). Told (begin_of h) (recovered (seen now.journal.device)) (staged now.journal) h.entries) (sym same)
      (subst (λ (d : D). Told (begin_of first.history) (recovered (seen d)) (staged now.journal) first.history.entries) (sym device)
      (subst (λ (ls : List (List ℕ)). Told (begin_of first.history) (recovered (seen first.journal.device)) ls first.history.entries) (sym lines) told))

  grown_told : (first now : JournaledRecord D) (line text said : List ℕ) → IsInForm first.history.track → IsTreated first.history now.history line text said → TellsRecord seen first
      → now.journal.device ≡ first.journal.device → length first.history.entries < length now.history.entries → staged now.journal ≡ staged first.journal ++ text ∷ [] → TellsRecord seen now
  grown_told first now line text said form treated told device more lines =
      let g = grown first.history now.history line said treated.goes more in
      let begin = begin_of first.history in
      let entries = first.history.entries in
      let file = recovered (seen first.journal.device) in
      let adds = same_adds begin entries line text g.0 treated.says (adds_of begin entries line said g.0 form g.1) in
      let one : Told begin file (staged first.journal ++ text ∷ []) (entries ++ g.0 ∷ []) =
      subst (λ (ls : List (List ℕ)). Tells (Adds begin) [] ls (entries ++ g.0 ∷ [])) (append_assoc file (staged first.journal) (text ∷ []))
      (one_more (Adds begin) [] (file ++ staged first.journal) entries text g.0 told adds) in
      subst (λ (h : HistoryOnTrack). Told (begin_of h) (recovered (seen now.journal.device)) (staged now.journal) h.entries) (sym g.2)
      (subst (λ (d : D). Told begin (recovered (seen d)) (staged now.journal) (entries ++ g.0 ∷ [])) (sym device)
      (subst (λ (ls : List (List ℕ)). Told begin file ls (entries ++ g.0 ∷ [])) (sym lines) one))

  by_version : (first now : JournaledRecord D) (line text said : List ℕ) (version : ℕ) (is_added : Bool) → IsInForm first.history.track → version ≡ length first.history.entries
      → IsTreated first.history now.history line text said → TellsRecord seen first → now.journal.device ≡ first.journal.device → nat_lt version (length now.history.entries) ≡ is_added
      → MatchBool is_added (staged now.journal ≡ staged first.journal ++ text ∷ []) (staged now.journal ≡ staged first.journal) → TellsRecord seen now
  by_version first now line text said version true form is treated told device more lines =
      grown_told first now line text said form treated told device (subst (λ n. n < length now.history.entries) is (ltb-true version (length now.history.entries) more)) lines
  by_version first now line text said version false form is treated told device more lines =
      told_still first now told
      (not_grown first.history now.history line said treated.goes (λ less. no_more version (length now.history.entries) (subst (λ n. n < length now.history.entries) (sym is) less) more))
      device lines
    where
      no_more : (m n : ℕ) → m < n → nat_lt m n ≡ false → ⊥
      no_more m n less least = both_ways (nat_lt m n) least (lt-ltb m n less)

  -- the line of the entry, if there is one, is staged
  pub told_after : (first made now : JournaledRecord D) (line text said : List ℕ) (version : ℕ) (after : HistoryOnTrack) → IsInForm first.history.track → version ≡ length first.history.entries
      → IsTreated first.history after line text said → TellsRecord seen first → now.history ≡ after → now.journal.device ≡ first.journal.device → staged made.journal ≡ staged first.journal
      → MatchBool (nat_lt version (length after.entries)) (staged now.journal ≡ staged made.journal ++ text ∷ []) (staged now.journal ≡ staged made.journal) → TellsRecord seen now
  told_after first made now line text said version after form is treated told same device before lines =
      by_version first now line text said version (nat_lt version (length now.history.entries)) form is (subst (λ (h : HistoryOnTrack). IsTreated first.history h line text said) (sym same) treated)
      told device refl
      (subst (λ (ls : List (List ℕ)). MatchBool (nat_lt version (length now.history.entries)) (staged now.journal ≡ ls ++ text ∷ []) (staged now.journal ≡ ls)) before
      (subst (λ (h : HistoryOnTrack). MatchBool (nat_lt version (length h.entries)) (staged now.journal ≡ staged made.journal ++ text ∷ []) (staged now.journal ≡ staged made.journal)) (sym same) lines))

-- ---- the reply is said

module _ {D : Type 0} (seen : D → List ℕ) (may_leave : D → List ℕ → Type 0) (moment : D → ℕ) (left_since : D → ℕ → List ℕ → Type 0) (faults : D → ℕ) where
  abbrev Said : JournaledRecord D → List ℕ → List ℕ → JournaledRecord D → Type 0
  Said = IsSaid seen may_leave moment left_since faults

  module _ (now next : JournaledRecord D) (reply text : List ℕ) (told : TellsRecord seen now) (said : Said now reply text next) where
    goes_batched : next.has_failed ≡ false → Rests now reply text next → staged next.journal ≡ staged now.journal → next.batch < MOST_TOGETHER → IsGoing seen may_leave next
    goes_batched works rests lines few =
        let s = said.settled works in
        let count = rests.holds.1 in
        record {
          whole = works;
          settled = s.0;
          told = told_still seen now next told said.history rests.device lines;
          few = few;
          holds = s.1;
          none_rests = λ zero. absurd (let e : ⊥ = omega (arith, zero, count) in e);
        }

    goes_written : next.has_failed ≡ false → Writes now reply text next → recovered (seen next.journal.device) ≡ recovered (seen now.journal.device) ++ staged now.journal
        → staged next.journal ≡ [] → IsGoing seen may_leave next
    goes_written works writes put none =
        let s = said.settled works in
        let lines : recovered (seen next.journal.device) ++ staged next.journal ≡ recovered (seen now.journal.device) ++ staged now.journal =
        ap (λ (l : List (List ℕ)). recovered (seen next.journal.device) ++ l) none ∙ append-nil (recovered (seen next.journal.device)) ∙ put in
        record {
          whole = works;
          settled = s.0;
          told = subst (λ (h : HistoryOnTrack). Tells (Adds (begin_of h)) [] (recovered (seen next.journal.device) ++ staged next.journal) h.entries) (sym said.history)
              (subst (λ (ls : List (List ℕ)). Tells (Adds (begin_of now.history)) [] ls now.history.entries) (sym lines) told);
          few = subst (λ n. n < MOST_TOGETHER) (sym writes.none_rests) (lit< tt);
          holds = s.1;
          none_rests = λ zero. (none, writes.none_held);
        }

  module _ (first now next : JournaledRecord D) (line reply text : List ℕ) (going : IsGoing seen may_leave first) (goes : Goes first.history line reply now.history) (told : TellsRecord seen now)
      (device : now.journal.device ≡ first.journal.device) (replies : now.replies.bytes.items ≡ first.replies.bytes.items) (batch : now.batch ≡ first.batch)
      (said : Said now reply text next) where
    goes_next : Goes first.history line reply next.history
    goes_next = subst (λ (h : HistoryOnTrack). Goes first.history line reply h) (sym said.history) goes

    same_begin : begin_of now.history ≡ begin_of first.history
    same_begin = ap begin_of goes.2

    leaves_now : LeavesWritten seen may_leave moment left_since faults first next
    leaves_now =
        subst (λ (d : D). LeavesOnly moment left_since d next.journal.device (IsFrom (Adds (begin_of first.history)) (length (recovered (seen d))) next.history.entries)) device
        (subst (λ t. LeavesOnly moment left_since now.journal.device next.journal.device (IsFrom (Adds t) (length (recovered (seen now.journal.device))) next.history.entries)) same_begin
        (subst (λ (h : HistoryOnTrack). LeavesOnly moment left_since now.journal.device next.journal.device (IsFrom (Adds (begin_of now.history)) (length (recovered (seen now.journal.device))) h.entries)) (sym said.history)
        (weaker moment left_since now.journal.device next.journal.device (IsBeforeOrAfter (recovered (seen now.journal.device)) (staged now.journal))
        (IsFrom (Adds (begin_of now.history)) (length (recovered (seen now.journal.device))) now.history.entries)
        (λ c left. staged_from (Adds (begin_of now.history)) c (recovered (seen now.journal.device)) (staged now.journal) now.history.entries told left) said.any_moment)))

    answered_now : next.has_failed ≡ false
        → (Rests now reply text next × (staged next.journal ≡ staged now.journal) × (next.batch < MOST_TOGETHER))
        ⊎ (Writes now reply text next × (recovered (seen next.journal.device) ≡ recovered (seen now.journal.device) ++ staged now.journal) × (staged next.journal ≡ []))
        → (r : List ℕ) × Goes first.history line r next.history × IsGoing seen may_leave next × (Rests first r text next ⊎ Writes first r text next)
    answered_now works (inl (rests, lines, few)) =
        let rested : Rests first reply text next =
        record {
          silent = rests.silent;
          device = rests.device ∙ device;
          holds = (rests.holds.0 ∙ ap (λ (l : List ℕ). l ++ reply) replies, rests.holds.1 ∙ ap (λ n. n + 1) batch);
        } in
        (reply, goes_next, goes_batched now next reply text told said works rests lines few, inl rested)
    answered_now works (inr (writes, put, none)) =
        let wrote : Writes first reply text next =
        record {
          text_is = writes.text_is ∙ ap (λ (l : List ℕ). l ++ reply) replies;
          none_held = writes.none_held;
          none_rests = writes.none_rests;
        } in
        (reply, goes_next, goes_written now next reply text told said works writes put none, inr wrote)

    stays_now : (Rests now reply text next × (staged next.journal ≡ staged now.journal) × (next.batch < MOST_TOGETHER))
        ⊎ (Writes now reply text next × (recovered (seen next.journal.device) ≡ recovered (seen now.journal.device) ++ staged now.journal) × (staged next.journal ≡ []))
        → length (recovered (seen first.journal.device)) ≤ length (recovered (seen next.journal.device))
    stays_now (inl (rests, lines, few)) =
        let same = ap (λ (d : D). length (recovered (seen d))) (rests.device ∙ device) in
        omega (arith, same)
    stays_now (inr (writes, put, none)) =
        let same = ap (λ (d : D). length (recovered (seen d))) device in
        let all = ap (λ (l : List (List ℕ)). length l) put in
        let count = length-append (recovered (seen now.journal.device)) (staged now.journal) in
        omega (arith, same, all, count)

    -- the line is answered, or the journal failed
    pub advances : Advances seen may_leave moment left_since faults first line text next
    advances = record {
      going = going;
      answered = λ works. answered_now works (said.said works);
      unanswered = λ fails.
          let u = said.unsaid fails in
          let same_faults = ap faults device in
          (u.0, reply, goes_next, omega (arith, same_faults, u.1));
      any_moment = leaves_now;
      stays = λ works. stays_now (said.said works);
      later = let same_faults = ap faults device in let later = said.later in omega (arith, same_faults, later);
    }

  -- a line that is refused before anything changes is answered as by the record alone
  pub unchanged : (now next : JournaledRecord D) (line reply text : List ℕ) → IsGoing seen may_leave now → Goes now.history line reply now.history → Said now reply text next
      → Advances seen may_leave moment left_since faults now line text next
  unchanged now next line reply text going goes said = advances now now next line reply text going goes going.told refl refl refl said

-- ---- between sessions

module _ {D : Type 0} (seen : D → List ℕ) (may_leave : D → List ℕ → Type 0) where
  pub ready_goes : (kept : JournaledRecord D) → IsReady seen may_leave kept → IsGoing seen may_leave kept
  ready_goes kept ready = record {
    whole = ready.whole;
    settled = ready.is_kept.settled;
    told = subst (λ (ls : List (List ℕ)). Tells (Adds (begin_of kept.history)) [] ls kept.history.entries)
        (sym (ap (λ (l : List (List ℕ)). recovered (seen kept.journal.device) ++ l) ready.is_kept.none_waits ∙ append-nil (recovered (seen kept.journal.device)))) ready.is_kept.told;
    few = subst (λ n. n < MOST_TOGETHER) (sym ready.none_rests) (lit< tt);
    holds = ready.holds;
    none_rests = λ zero. (ready.is_kept.none_waits, ready.none_held);
  }

  pub goes_ready : (kept : JournaledRecord D) → IsGoing seen may_leave kept → kept.batch ≡ 0 → IsReady seen may_leave kept
  goes_ready kept going none =
      let both = going.none_rests none in
      record {
        whole = going.whole;
        is_kept = record {
          settled = going.settled;
          none_waits = both.0;
          told = subst (λ (ls : List (List ℕ)). Tells (Adds (begin_of kept.history)) [] ls kept.history.entries)
              (ap (λ (l : List (List ℕ)). recovered (seen kept.journal.device) ++ l) both.0 ∙ append-nil (recovered (seen kept.journal.device))) going.told;
        };
        none_rests = none;
        none_held = both.1;
        holds = going.holds;
      }
