-- A talk over a record that is kept, line by line.
use Rattle.std.proofs.Common.{◌≡◌, ℕ, ◌<◌, ◌≤◌, Bool, true, false, List, [], ◌∷◌, ◌++◌, length, Option, Result, Ok, Err, inl, inr, refl, sym, ap, ◌∙◌, subst, arith, append_assoc, append-nil}
use Rattle.std.specs.Prelude.{◌↔◌, ◌||◌, ◌⊎◌, OnOk}
use Rattle.std.specs.Bool.{IsTrue}
use Rattle.std.proofs.lemmas.Bool.{both_ways}
use Rattle.std.proofs.lemmas.List.{length-append, length-map}
use Rattle.std.specs.Io.KnownBytes.{Consumes, IsAtEnd}
use Rattle.rbc_journal.specs.Device.{LeavesOnly}
use Rattle.rbc_journal.specs.Journal.{recovered}
use Rattle.rbc_journal.specs.Settled.{staged}
use Rattle.rbc_model.specs.declared.limits.TheConstants.{LONGEST_LINE}
use Rattle.rbc_model.specs.declared.sessions.SessionFault.{SessionFault}
use Rattle.rbc_model.specs.declared.sessions.SessionFault.TheVariants.{Write}
use Rattle.rbc_model.specs.Sessions.{WritesPart}
use Rattle.rbc_model.specs.SoundTracks.{IsInForm}
use Rattle.rbc_model.specs.Talks.{Answered, IsTalk}
use Rattle.rbc_model.specs.Histories.{Entry}
use Rattle.rbc_sessions.specs.Changes.{Goes}
use Rattle.rbc_sessions.specs.Records.{begin_of, HistoryOnTrack, history_on}
use Rattle.rbc_sessions.specs.Answered.{AnswersAll}
use Rattle.rbc_sessions.proofs.AnsweredLemmas.{session_answers}
use Rattle.rbc_sessions.proofs.SessionLemmas.{AreRight, turned, session_turns}
use Rattle.rbc_session_laws.specs.SessionRuns.{Turn, entries_of, entries_added, lines_treated}
use Rattle.rbc_journaled.specs.Adds.{Adds}
use Rattle.rbc_journaled.specs.Advances.{Advances, Leaves, LeavesWritten, Rests, Writes}
use Rattle.rbc_journaled.specs.Journaled.{IsFrom, IsGoing, IsReady}
use Rattle.rbc_journaled.specs.Ends.{run_end}
use Rattle.rbc_journaled.specs.Sessions.{IsCutShort, IsKeptSession}
use Rattle.rbc_journaled.specs.declared.journaled_record.JournaledRecord.{JournaledRecord}
use Rattle.rbc_journaled.specs.declared.journaled_record.TheConstants.{MOST_TOGETHER}
use Rattle.rbc_journaled.proofs.BetweenLemmas.{steady, further}
use Rattle.rbc_journaled.proofs.KeepingLemmas.{ready_goes, goes_ready}
use Rattle.rbc_journaled.proofs.TellingLemmas.{as_many}

-- some lines are answered, and then others
answered_both : {State : Type 0} (Answers : State → List ℕ → List ℕ → State → Type 0) (first mid last : State) (lines more : List (List ℕ)) (text further : List ℕ)
    → Answered Answers first lines text mid → Answered Answers mid more further last → Answered Answers first (lines ++ more) (text ++ further) last
answered_both Answers first mid last [] more text further (none, same) later =
    rw none (subst (λ s. Answered Answers s more further last) same later)
answered_both Answers first mid last (line ∷ lines) more text further (reply, rest, next, step, whole, behind) later = (
  reply,
  rest ++ further,
  next,
  step,
  ap (λ (l : List ℕ). l ++ further) whole ∙ append_assoc reply rest further,
  answered_both Answers next mid last lines more rest further behind later,
)

-- one line is answered
answered_one : {State : Type 0} (Answers : State → List ℕ → List ℕ → State → Type 0) (first last : State) (line reply : List ℕ) → Answers first line reply last
    → Answered Answers first (line ∷ []) reply last
answered_one Answers first last line reply step = (reply, [], last, step, sym (append-nil reply), (refl, refl))

-- a record grows, from the same beginning
pub record Grows (before after : HistoryOnTrack) : Type 0 where
  pub begin : begin_of after ≡ begin_of before
  pub more : (some : List Entry) × (after.entries ≡ before.entries ++ some)

grows_by : (before after : HistoryOnTrack) (line reply : List ℕ) → Goes before line reply after → Grows before after
grows_by before after line reply (added, answers, is) = record {
  begin = ap begin_of is;
  more = (entries_of added, ap (λ (h : HistoryOnTrack). h.entries) is);
}

grows_on : (first mid last : HistoryOnTrack) → Grows first mid → Grows mid last → Grows first last
grows_on first mid last a b = record {
  begin = b.begin ∙ a.begin;
  more = (
    a.more.0 ++ b.more.0,
    b.more.1 ∙ ap (λ (l : List Entry). l ++ b.more.0) a.more.1 ∙ append_assoc first.entries a.more.0 b.more.0,
  );
}

module _ {D : Type 0} (seen : D → List ℕ) (may_leave : D → List ℕ → Type 0) (moment : D → ℕ) (left_since : D → ℕ → List ℕ → Type 0) (faults : D → ℕ)
    (only_now : (file : D) (c : List ℕ) → left_since file (moment file) c → may_leave file c)
    (counts_now : (file : D) (t : ℕ) (c : List ℕ) → t ≤ moment file → may_leave file c → left_since file t c) where
  abbrev Steps : JournaledRecord D → List ℕ → List ℕ → JournaledRecord D → Type 0
  Steps = Advances seen may_leave moment left_since faults

  -- a line that has been treated leads on, whether the journal failed or not
  grows_in : (b : Bool) (first next : JournaledRecord D) (line text : List ℕ) → next.has_failed ≡ b → Steps first line text next → Grows first.history next.history
  grows_in false first next line text is step = let a = step.answered is in grows_by first.history next.history line a.0 a.1
  grows_in true first next line text is step = let a = step.unanswered is in grows_by first.history next.history line a.1 a.2

  -- ---- at any moment

  -- how many entries are on the disk
  abbrev on_disk : JournaledRecord D → ℕ
  on_disk kept = length (recovered (seen kept.journal.device))

  record Passes (first last : JournaledRecord D) : Type 0 where
    grows : Grows first.history last.history
    leaves : LeavesWritten seen may_leave moment left_since faults first last
    stays : last.has_failed ≡ false → on_disk first ≤ on_disk last
    later : faults first.journal.device ≤ faults last.journal.device

  passes_in : (first next : JournaledRecord D) (line text : List ℕ) → Steps first line text next → Passes first next
  passes_in first next line text step =
      record { grows = grows_in next.has_failed first next line text refl step; leaves = step.any_moment; stays = step.stays; later = step.later }

  passes_on : (first mid last : JournaledRecord D) → mid.has_failed ≡ false → Passes first mid → Passes mid last → Passes first last
  passes_on first mid last whole a b =
      let stays = a.stays whole in
      record {
        grows = grows_on first.history mid.history last.history a.grows b.grows;
        leaves =
            let more = b.grows.more in
            further (Adds (begin_of first.history)) seen may_leave moment left_since only_now first.journal.device mid.journal.device last.journal.device
            (on_disk first) (on_disk mid) mid.history.entries last.history.entries more.0 stays more.1 a.leaves
            (subst (λ t. LeavesOnly moment left_since mid.journal.device last.journal.device (IsFrom (Adds t) (on_disk mid) last.history.entries)) a.grows.begin b.leaves);
        stays = λ works. let later = b.stays works in omega (arith, stays, later);
        later = omega (arith, a.later, b.later);
      }

  passes_none : (first : JournaledRecord D) → IsGoing seen may_leave first → Passes first first
  passes_none first going = record {
    grows = record { begin = refl; more = ([], sym (append-nil first.history.entries)) };
    leaves = steady (Adds (begin_of first.history)) seen may_leave moment left_since only_now first.journal.device (staged first.journal) first.history.entries
        going.settled.durable going.told;
    stays = λ works. omega arith;
    later = omega arith;
  }

  passes_behind : (first last : JournaledRecord D) (lines : List (List ℕ)) (text : List ℕ) → Answered Steps first lines text last → (one : JournaledRecord D) → Passes one first → Passes one last
  passes_behind first last [] text (none, same) one so_far = subst (Passes one) (sym same) so_far
  passes_behind first last (line ∷ lines) text (said, rest, next, step, whole, later) one so_far =
      passes_behind next last lines rest later one (passes_on one first next step.going.whole so_far (passes_in first next line said step))

  passes : (first last : JournaledRecord D) (lines : List (List ℕ)) (text : List ℕ) → IsGoing seen may_leave first → Answered Steps first lines text last → Passes first last
  passes first last lines text going answered = passes_behind first last lines text answered first (passes_none first going)

  -- between sessions all entries are on the disk
  all_on_disk : (kept : JournaledRecord D) → IsReady seen may_leave kept → on_disk kept ≡ length kept.history.entries
  all_on_disk kept ready = as_many (Adds (begin_of kept.history)) [] (recovered (seen kept.journal.device)) kept.history.entries ready.is_kept.told

  pub leaves_in : (first last : JournaledRecord D) (input : List ℕ) (old new : Option (List ℕ)) (result : Result (Unit {0}) SessionFault) → IsReady seen may_leave first
      → IsTalk LONGEST_LINE Steps first last input old new result → Leaves seen may_leave moment left_since faults first last
  leaves_in first last input old new result ready talk =
      let p = passes first last talk.treated talk.text (ready_goes seen may_leave first ready) talk.answered in
      subst (λ n. LeavesOnly moment left_since first.journal.device last.journal.device (IsFrom (Adds (begin_of first.history)) n last.history.entries)) (all_on_disk first ready) p.leaves

  pub begin_in : (first last : JournaledRecord D) (input : List ℕ) (old new : Option (List ℕ)) (result : Result (Unit {0}) SessionFault) → IsReady seen may_leave first
      → IsTalk LONGEST_LINE Steps first last input old new result → begin_of last.history ≡ begin_of first.history
  begin_in first last input old new result ready talk =
      let p = passes first last talk.treated talk.text (ready_goes seen may_leave first ready) talk.answered in p.grows.begin

  -- ---- replies that rest

  whole_before : (next last : JournaledRecord D) (lines : List (List ℕ)) (text : List ℕ) → Answered Steps next lines text last → last.has_failed ≡ false → next.has_failed ≡ false
  whole_before next last [] text (none, same) works = ap (λ (k : JournaledRecord D). k.has_failed) (sym same) ∙ works
  whole_before next last (line ∷ lines) text (reply, rest, second, step, whole, later) works = step.going.whole

  -- These lines have been treated, and this text was written: it is made of the replies to the first of them, whose entries are on the disk. The replies to the
  -- others rest.
  record Along (one now : JournaledRecord D) (lines : List (List ℕ)) (text : List ℕ) : Type 0 where
    going : IsGoing seen may_leave now
    front : List (List ℕ)
    batch : List (List ℕ)
    mid : HistoryOnTrack
    are : lines ≡ front ++ batch
    answered : Answered Goes one.history front text mid
    unanswered : Answered Goes mid batch now.replies.bytes.items now.history
    count : length batch ≡ now.batch
    durable : on_disk now ≡ length mid.entries

  along_none : (one : JournaledRecord D) → IsReady seen may_leave one → Along one one [] []
  along_none one ready = record {
    going = ready_goes seen may_leave one ready;
    front = [];
    batch = [];
    mid = one.history;
    are = refl;
    answered = (refl, refl);
    unanswered = (ready.none_held, refl);
    count = sym ready.none_rests;
    durable = all_on_disk one ready;
  }

  along_on : (one now next : JournaledRecord D) (lines : List (List ℕ)) (text line said reply : List ℕ) → Along one now lines text → Goes now.history line reply next.history
      → IsGoing seen may_leave next → Rests now reply said next ⊎ Writes now reply said next → Along one next (lines ++ line ∷ []) (text ++ said)
  along_on one now next lines text line said reply a goes going (inl rests) = record {
    going = going;
    front = a.front;
    batch = a.batch ++ line ∷ [];
    mid = a.mid;
    are = ap (λ (l : List (List ℕ)). l ++ line ∷ []) a.are ∙ append_assoc a.front a.batch (line ∷ []);
    answered = subst (λ t. Answered Goes one.history a.front t a.mid) (sym (ap (λ (t : List ℕ). text ++ t) rests.silent ∙ append-nil text)) a.answered;
    unanswered = subst (λ t. Answered Goes a.mid (a.batch ++ line ∷ []) t next.history) (sym rests.holds.0)
        (answered_both Goes a.mid now.history next.history a.batch (line ∷ []) now.replies.bytes.items reply a.unanswered (answered_one Goes now.history next.history line reply goes));
    count = let long = length-append a.batch (line ∷ []) in let before = a.count in let more = rests.holds.1 in omega (arith, long, before, more);
    durable = ap (λ (d : D). length (recovered (seen d))) rests.device ∙ a.durable;
  }
  along_on one now next lines text line said reply a goes going (inr writes) =
      let ready = goes_ready seen may_leave next going writes.none_rests in
      record {
        going = going;
        front = lines ++ line ∷ [];
        batch = [];
        mid = next.history;
        are = sym (append-nil (lines ++ line ∷ []));
        answered = subst (λ (ls : List (List ℕ)). Answered Goes one.history (ls ++ line ∷ []) (text ++ said) next.history) (sym a.are)
            (subst (λ (ls : List (List ℕ)). Answered Goes one.history ls (text ++ said) next.history) (sym (append_assoc a.front a.batch (line ∷ [])))
            (answered_both Goes one.history a.mid next.history a.front (a.batch ++ line ∷ []) text said a.answered
            (subst (λ t. Answered Goes a.mid (a.batch ++ line ∷ []) t next.history) (sym writes.text_is)
            (answered_both Goes a.mid now.history next.history a.batch (line ∷ []) now.replies.bytes.items reply a.unanswered (answered_one Goes now.history next.history line reply goes)))));
        unanswered = (writes.none_held, refl);
        count = sym writes.none_rests;
        durable = all_on_disk next ready;
      }

  along_all : (one now last : JournaledRecord D) (lines more : List (List ℕ)) (text further : List ℕ) → Along one now lines text → Answered Steps now more further last → last.has_failed ≡ false
      → Along one last (lines ++ more) (text ++ further)
  along_all one now last lines [] text further a (none, same) works =
      subst (λ (k : JournaledRecord D). Along one k (lines ++ []) (text ++ further)) (sym same)
      (subst (λ (ls : List (List ℕ)). Along one now ls (text ++ further)) (sym (append-nil lines))
      (subst (λ t. Along one now lines t) (sym (ap (λ (t : List ℕ). text ++ t) none ∙ append-nil text)) a))
  along_all one now last lines (line ∷ more) text further a (said, rest, next, step, whole, later) works =
      let did = step.answered (whole_before next last more rest later works) in
      let b = along_on one now next lines text line said did.0 a did.1 did.2 did.3 in
      let all = along_all one next last (lines ++ line ∷ []) more (text ++ said) rest b later works in
      subst (λ (ls : List (List ℕ)). Along one last ls (text ++ further)) (append_assoc lines (line ∷ []) more)
      (subst (λ t. Along one last (lines ++ line ∷ [] ++ more) t) (append_assoc text said rest ∙ ap (λ (t : List ℕ). text ++ t) (sym whole)) all)

  -- ---- where the journal has not failed

  along_talk : (first last : JournaledRecord D) (lines : List (List ℕ)) (text : List ℕ) → IsReady seen may_leave first → Answered Steps first lines text last → last.has_failed ≡ false
      → Along first last lines text
  along_talk first last lines text ready answered works = along_all first first last [] lines [] text (along_none first ready) answered works

  none_left : (first last : JournaledRecord D) (lines : List (List ℕ)) (text : List ℕ) → last.batch ≡ 0 → Along first last lines text → Answered Goes first.history lines text last.history
  none_left first last lines text none a = all_said a.batch a.are a.unanswered a.count
    where
      all_said : (batch : List (List ℕ)) → lines ≡ a.front ++ batch → Answered Goes a.mid batch last.replies.bytes.items last.history → length batch ≡ last.batch
          → Answered Goes first.history lines text last.history
      all_said [] are (held, same) count =
          subst (λ (ls : List (List ℕ)). Answered Goes first.history ls text last.history) (sym (are ∙ append-nil a.front))
          (subst (λ (h : HistoryOnTrack). Answered Goes first.history a.front text h) (sym same) a.answered)
      all_said (line ∷ batch) are later count = absurd (let e : ⊥ = omega (arith, count, none) in e)

  pub ready_after : (first last : JournaledRecord D) (input : List ℕ) (old new : Option (List ℕ)) (result : Result (Unit {0}) SessionFault) → IsReady seen may_leave first
      → IsTalk LONGEST_LINE Steps first last input old new result → last.batch ≡ 0 → last.has_failed ≡ false → IsReady seen may_leave last
  ready_after first last input old new result ready talk none works =
      let a = along_talk first last talk.treated talk.text ready talk.answered works in goes_ready seen may_leave last a.going none

  talk_of_records : (first last : JournaledRecord D) (input : List ℕ) (old new : Option (List ℕ)) (result : Result (Unit {0}) SessionFault) → IsReady seen may_leave first
      → IsTalk LONGEST_LINE Steps first last input old new result → last.batch ≡ 0 → last.has_failed ≡ false → IsTalk LONGEST_LINE Goes first.history last.history input old new result
  talk_of_records first last input old new result ready talk none works = record {
    treated = talk.treated;
    rest = talk.rest;
    text = talk.text;
    lines = talk.lines;
    few = talk.few;
    answered = none_left first last talk.treated talk.text none (along_talk first last talk.treated talk.text ready talk.answered works);
    ends = talk.ends;
  }

  -- ---- where it has

  fails_behind : (first last : JournaledRecord D) (lines : List (List ℕ)) (text : List ℕ) → first.has_failed ≡ false → last.has_failed ≡ true → Answered Steps first lines text last
      → faults first.journal.device < faults last.journal.device
  fails_behind first last [] text works broken (none, same) = absurd (both_ways last.has_failed (ap (λ (k : JournaledRecord D). k.has_failed) same ∙ works) broken)
  fails_behind first last (line ∷ []) text works broken (reply, rest, next, step, whole, (none, same)) =
      let is : Steps first line reply last = subst (Steps first line reply) (sym same) step in
      let lost = is.unanswered broken in
      lost.3
  fails_behind first last (line ∷ second ∷ lines) text works broken (reply, rest, next, step, whole, (r, x, n, s, w, l)) =
      let further = fails_behind next last (second ∷ lines) rest s.going.whole broken (r, x, n, s, w, l) in
      let later = step.later in
      omega (arith, further, later)

  pub fails_in : (first last : JournaledRecord D) (input : List ℕ) (old new : Option (List ℕ)) (result : Result (Unit {0}) SessionFault) → IsReady seen may_leave first
      → IsTalk LONGEST_LINE Steps first last input old new result → last.has_failed ≡ true → faults first.journal.device < faults last.journal.device
  fails_in first last input old new result ready talk broken = fails_behind first last talk.treated talk.text ready.whole broken talk.answered

  -- The lines whose replies were written, and those that were lost with the journal.
  record Cut (one last : JournaledRecord D) (lines : List (List ℕ)) (text : List ℕ) : Type 0 where
    front : List (List ℕ)
    lost : List (List ℕ)
    said : List ℕ
    mid : HistoryOnTrack
    are : lines ≡ front ++ lost
    answered : Answered Goes one.history front text mid
    unanswered : Answered Goes mid lost said last.history
    some_lost : 0 < length lost
    few_lost : length lost ≤ MOST_TOGETHER
    leaves : (c : List ℕ) → may_leave last.journal.device c → IsFrom (Adds (begin_of one.history)) (length mid.entries) last.history.entries c

  same_begin : (first last : HistoryOnTrack) (lines : List (List ℕ)) (text : List ℕ) → Answered Goes first lines text last → begin_of last ≡ begin_of first
  same_begin first last lines text answered = let t = turned first last lines text answered in t.begin

  cut_in : (one now last : JournaledRecord D) (lines : List (List ℕ)) (text line said : List ℕ) → Along one now lines text → Steps now line said last → last.has_failed ≡ true
      → Cut one last (lines ++ line ∷ []) (text ++ said)
  cut_in one now last lines text line said a step broken =
      let gone = step.unanswered broken in
      let few = a.going.few in
      let long = length-append a.batch (line ∷ []) in
      let count = a.count in
      let begin = same_begin a.mid now.history a.batch now.replies.bytes.items a.unanswered ∙ same_begin one.history a.mid a.front text a.answered in
      record {
        front = a.front;
        lost = a.batch ++ line ∷ [];
        said = now.replies.bytes.items ++ gone.1;
        mid = a.mid;
        are = ap (λ (l : List (List ℕ)). l ++ line ∷ []) a.are ∙ append_assoc a.front a.batch (line ∷ []);
        answered = subst (λ t. Answered Goes one.history a.front t a.mid) (sym (ap (λ (t : List ℕ). text ++ t) gone.0 ∙ append-nil text)) a.answered;
        unanswered =
            answered_both Goes a.mid now.history last.history a.batch (line ∷ []) now.replies.bytes.items gone.1 a.unanswered (answered_one Goes now.history last.history line gone.1 gone.2);
        some_lost = omega (arith, long);
        few_lost = omega (arith, long, count, few);
        leaves = λ c left.
            subst (λ t. IsFrom (Adds t) (length a.mid.entries) last.history.entries c) begin
            (subst (λ n. IsFrom (Adds (begin_of now.history)) n last.history.entries c) a.durable
            (step.any_moment.each c (counts_now last.journal.device (moment now.journal.device) c step.any_moment.later left)));
      }

  cut_of : (one now last : JournaledRecord D) (lines more : List (List ℕ)) (text further : List ℕ) → Along one now lines text → last.has_failed ≡ true → Answered Steps now more further last
      → Cut one last (lines ++ more) (text ++ further)
  cut_of one now last lines [] text further a broken (none, same) =
      absurd (both_ways last.has_failed (ap (λ (k : JournaledRecord D). k.has_failed) same ∙ a.going.whole) broken)
  cut_of one now last lines (line ∷ []) text further a broken (said, rest, next, step, whole, (none, same)) =
      let is : Steps now line said last = subst (Steps now line said) (sym same) step in
      subst (λ t. Cut one last (lines ++ line ∷ []) (text ++ t)) (sym (whole ∙ ap (λ (r : List ℕ). said ++ r) none ∙ append-nil said)) (cut_in one now last lines text line said a is broken)
  cut_of one now last lines (line ∷ second ∷ more) text further a broken (said, rest, next, step, whole, (r, x, n, s, w, l)) =
      let did = step.answered s.going.whole in
      let b = along_on one now next lines text line said did.0 a did.1 did.2 did.3 in
      let all = cut_of one next last (lines ++ line ∷ []) (second ∷ more) (text ++ said) rest b broken (r, x, n, s, w, l) in
      subst (λ (ls : List (List ℕ)). Cut one last ls (text ++ further)) (append_assoc lines (line ∷ []) (second ∷ more))
      (subst (λ t. Cut one last (lines ++ line ∷ [] ++ second ∷ more) t) (append_assoc text said rest ∙ ap (λ (t : List ℕ). text ++ t) (sym whole)) all)

  pub cut_short : (first last : JournaledRecord D) (input : List ℕ) (old new : Option (List ℕ)) → IsReady seen may_leave first
      → IsTalk LONGEST_LINE Steps first last input old new (Err Write) → last.has_failed ≡ true
      → IsCutShort (begin_of first.history) first.history.entries last.history.entries input old new (may_leave last.journal.device)
  cut_short first last input old new ready talk broken =
      let cut = cut_of first first last [] talk.treated [] talk.text (along_none first ready) broken talk.answered in
      let told = turned first.history cut.mid cut.front talk.text cut.answered in
      let gone = turned cut.mid last.history cut.lost cut.said cut.unanswered in
      let count = ap (λ (l : List (List ℕ)). length l) cut.are ∙ length-append cut.front cut.lost in
      let some = length-map told.turns (λ (turn : Turn). turn.line) in
      let all = ap (λ (l : List (List ℕ)). length l) told.of_lines in
      let some_gone = length-map gone.turns (λ (turn : Turn). turn.line) in
      let all_gone = ap (λ (l : List (List ℕ)). length l) gone.of_lines in
      record {
        turns = told.turns;
        lost = gone.turns;
        rest = talk.rest;
        lines = talk.lines ∙ ap (λ (l : List (List ℕ)). l ++ talk.rest) cut.are ∙ append_assoc cut.front cut.lost talk.rest
            ∙ ap (λ (l : List (List ℕ)). l ++ (cut.lost ++ talk.rest)) (sym told.of_lines)
            ∙ ap (λ (l : List (List ℕ)). lines_treated told.turns ++ (l ++ talk.rest)) (sym gone.of_lines);
        few = let few = talk.few in omega (arith, few, count, some, all, some_gone, all_gone);
        some_lost = let lost = cut.some_lost in omega (arith, lost, some_gone, all_gone);
        few_lost = let lost = cut.few_lost in omega (arith, lost, some_gone, all_gone);
        each = told.right;
        each_lost = subst (λ (h : HistoryOnTrack). AreRight (begin_of h) h.entries gone.turns) (mid_is told.begin told.entries) gone.right;
        entries = gone.entries ∙ ap (λ (l : List Entry). l ++ entries_added gone.turns) told.entries;
        written = subst (WritesPart old new) told.said talk.ends.0;
        on_disk = λ c left. subst (λ (l : List Entry). IsFrom (Adds (begin_of first.history)) (length l) last.history.entries c) told.entries (cut.leaves c left);
      }
    where
      mid_is : {mid : HistoryOnTrack} {entries : List Entry} → begin_of mid ≡ begin_of first.history → mid.entries ≡ entries
          → mid ≡ history_on (begin_of first.history) entries
      mid_is {mid} {entries} begin is =
          ap (λ t. history_on t mid.entries) begin ∙ ap (λ (e : List Entry). history_on (begin_of first.history) e) is

  -- ---- either

  kept_session_by : (b w : Bool) (first last : JournaledRecord D) (input : List ℕ) (old new : Option (List ℕ)) (result : Result (Unit {0}) SessionFault) → last.has_failed ≡ b → last.batch ≡ 0 → IsReady seen may_leave first
      → IsTalk LONGEST_LINE Steps first last input old new result → (result ≡ Err Write) ↔ IsTrue (b || w)
      → IsKeptSession (begin_of first.history) first.history.entries last.history.entries input old new (may_leave last.journal.device) (run_end b result)
  kept_session_by true w first last input old new result broken none ready talk write =
      cut_short first last input old new ready (subst (IsTalk LONGEST_LINE Steps first last input old new) (write.1 refl) talk) broken
  kept_session_by false w first last input old new (Ok done) whole none ready talk write =
      session_turns first.history last.history input old new (Ok done) (talk_of_records first last input old new (Ok done) ready talk none whole)
  kept_session_by false w first last input old new (Err fault) whole none ready talk write =
      session_turns first.history last.history input old new (Err fault) (talk_of_records first last input old new (Err fault) ready talk none whole)

  pub kept_session : (first last : JournaledRecord D) (input : List ℕ) (old new : Option (List ℕ)) (result : Result (Unit {0}) SessionFault) (w : Bool) → last.batch ≡ 0 → IsReady seen may_leave first
      → IsTalk LONGEST_LINE Steps first last input old new result → (result ≡ Err Write) ↔ IsTrue (last.has_failed || w)
      → IsKeptSession (begin_of first.history) first.history.entries last.history.entries input old new (may_leave last.journal.device) (run_end last.has_failed result)
  kept_session first last input old new result w none ready talk write = kept_session_by last.has_failed w first last input old new result refl none ready talk write

  pub kept_answers : (first last : JournaledRecord D) (input : List ℕ) (left_before left_after old new : Option (List ℕ)) (result : Result (Unit {0}) SessionFault)
      → IsInForm first.history.track → IsReady seen may_leave first → last.batch ≡ 0 → OnOk result (IsAtEnd left_after) → Consumes left_before left_after input → IsTalk LONGEST_LINE Steps first last input old new result → last.has_failed ≡ false
      → OnOk result (AnswersAll first.history last.history left_before old new)
  kept_answers first last input left_before left_after old new result form ready none end taken talk whole =
      session_answers first.history last.history left_before left_after old new result input form end taken
      (session_turns first.history last.history input old new result (talk_of_records first last input old new result ready talk none whole))
