-- Told lines that rest at a sitting, and what becomes of them.
use Rattle.std.proofs.Common.{◌≡◌, ℕ, ◌<◌, ◌≤◌, Bool, true, false, cond, List, [], ◌∷◌, ◌++◌, drop, length, Option, None, Result, Ok, Err, inl, inr, refl, sym, ap, ◌∙◌, subst, append_assoc, append-nil, arith, length-append, lit<}
use Rattle.std.proofs.Math.Seq.{drop-append_seam}
use Rattle.std.specs.Prelude.{All, ◌||◌, MatchBool}
use Rattle.std.proofs.lemmas.Bool.{both_ways}
use Rattle.std.proofs.lemmas.List.{map-append}
use Rattle.std.proofs.lemmas.List.Elements.{All-nil, All-push}
use Rattle.rbc_model.specs.Histories.{Receipt}
use Rattle.rbc_model.specs.SessionReply.{SessionRefusal}
use Rattle.rbc_model.specs.SessionText.{SessionLine}
use Rattle.rbc_model.specs.Sessions.{Prints, WritesPart}
use Rattle.rbc_model.specs.Tracks.{Track}
use Rattle.rbc_session_laws.specs.Commands.{command_in}
use Rattle.rbc_session_laws.specs.declared.command.Command.{Command}
use Rattle.rbc_sweep.specs.Seats.{Seated}
use Rattle.rbc_replies.proofs.PrintingLemmas.{prints_then}
use Rattle.rbc_sessions.specs.Hearings.{Advances, CatchesUp, IsGoing, Rests}
use Rattle.rbc_sessions.specs.Resting.{IsPrepared, command_of, commands_resting}
use Rattle.rbc_sessions.specs.SeatChanges.{SeatHears, SeatReplies}
use Rattle.rbc_sessions.specs.SeatSessions.{receipts_of}
use Rattle.rbc_sessions.specs.Sittings.{Enters, StaysKept}
use Rattle.rbc_sessions.specs.declared.batch.Resting.{Resting}
use Rattle.rbc_sessions.specs.declared.batch.TheConstants.{MOST_RESTING}
use Rattle.rbc_sessions.specs.declared.hearing.Hearing.{Hearing}
use Rattle.rbc_sessions.specs.declared.sitting.Sitting.{Sitting}

-- ---- what is asked for, one after the other

-- the receipts gained stand behind the old ones
hears_receipts : (before after : Seated) (commands : List (Result Command SessionRefusal)) (text : List ℕ) → SeatHears before commands text after → (gained : List Receipt) × (after.receipts ≡ before.receipts ++ gained)
hears_receipts before after [] text (silent, same) = ([], ap (λ (s : Seated). s.receipts) same ∙ sym (append-nil before.receipts))
hears_receipts before after (one ∷ commands) text (reply, rest, next, comes, is, hears) =
    let more = hears_receipts next after commands rest hears in (
      receipts_of comes.0 ++ more.0,
      more.1 ∙ ap (λ b. b ++ more.0) comes.2 ∙ append_assoc before.receipts (receipts_of comes.0) more.0,
    )

pub hears_longer : (before after : Seated) (commands : List (Result Command SessionRefusal)) (text : List ℕ) → SeatHears before commands text after → length before.receipts ≤ length after.receipts
hears_longer before after commands text hears =
    let gained = hears_receipts before after commands text hears in
    omega (arith, ap (λ (l : List Receipt). length l) gained.1, length-append before.receipts gained.0)

-- ---- what was read

-- what a line asks for on the desk's track is what was read of it
pub read_asks : (track opened : Track) (line : List ℕ) (command : Result Command SessionRefusal) → track ≡ opened → command ≡ command_in track line
    → command_in opened line ≡ command
read_asks track opened line command is read = ap (λ t. command_in t line) (sym is) ∙ sym read

-- ---- what may rest

module _ {L P T : Type 0} where
  module _ (track : Track) (says : T → SessionLine → Type 0) where
    pub none_left : (hearing : Hearing L P T) → hearing.sitting.has_failed ≡ false → hearing.batch ≡ [] → IsGoing track says hearing
    none_left hearing whole none = record {
      whole = whole;
      each = subst (All (IsPrepared track says)) (sym none) (All-nil (IsPrepared track says));
      few = subst (λ (b : List (Resting T)). length b < MOST_RESTING) (sym none) (lit< tt);
    }

    -- what rests can be entered behind one that was let rest
    pub rests_whole : (before after : Hearing L P T) (line : List ℕ) → IsGoing track says before → Rests track says before line after → after.sitting.has_failed ≡ false
    rests_whole before after line going rests = ap (λ s. s.has_failed) rests.sitting ∙ going.whole

    pub rests_each : (before after : Hearing L P T) (line : List ℕ) → IsGoing track says before → Rests track says before line after → All (IsPrepared track says) after.batch
    rests_each before after line going rests =
        subst (All (IsPrepared track says)) (sym rests.behind) (All-push (IsPrepared track says) before.batch rests.one going.each rests.prepared)

    -- ---- how a line is answered

    module _ (kept : P → ℕ → Type 0) (failed : P → Type 0) where
      pub advances_batch : (before after : Hearing L P T) (line : List ℕ) → IsGoing track says before → Rests track says before line after → length after.batch < MOST_RESTING
          → Advances track says kept failed before line [] after
      advances_batch before after line going rests few =
          let whole = rests_whole before after line going rests in
          record {
            going = going;
            how = inl (rests, refl);
            goes_on = λ _. record { whole = whole; each = rests_each before after line going rests; few = few };
            why = λ broken. absurd (both_ways _ whole broken);
          }

      pub advances_replied : (before after : Hearing L P T) (line text : List ℕ) → IsGoing track says before → CatchesUp kept before line text after
          → (after.sitting.has_failed ≡ true → failed after.sitting.committer) → Advances track says kept failed before line text after
      advances_replied before after line text going catches_up why =
          record { going = going; how = inr catches_up; goes_on = λ whole. none_left after whole catches_up.none_rests; why = why }

      -- it was let rest, and then all that rests was entered
      pub advances_entered : (before behind after : Hearing L P T) (line text : List ℕ) → IsGoing track says before → Rests track says before line behind
          → Enters kept behind.sitting (commands_resting behind.batch) text after.sitting → after.batch ≡ []
          → (after.sitting.has_failed ≡ true → failed after.sitting.committer) → Advances track says kept failed before line text after
      advances_entered before behind after line text going rests enters none why =
          let one = rests.one in
          let commands : commands_resting behind.batch ≡ commands_resting before.batch ++ command_in before.sitting.seat.told.track line ∷ [] =
          ap (λ (b : List (Resting T)). commands_resting b) rests.behind ∙ map-append (λ (r : Resting T). Ok (command_of r.rested)) before.batch (one ∷ [])
          ∙ ap (λ (c : Result Command SessionRefusal). commands_resting before.batch ++ c ∷ []) (sym rests.asks) in
          advances_replied before after line text going (record {
            enters = subst (λ (s : Sitting L P). Enters kept s (commands_resting before.batch ++ command_in before.sitting.seat.told.track line ∷ []) text after.sitting) rests.sitting
                (subst (λ (cs : List (Result Command SessionRefusal)). Enters kept behind.sitting cs text after.sitting) commands enters);
            none_rests = none;
          }) why

    -- any line rests that asks for this, or nothing changes where there was no room
    pub rests_or_same : (before after : Hearing L P T) (one : Resting T) (command : Result Command SessionRefusal) → command ≡ Ok (command_of one.rested) → (is_room : Bool)
        → before.sitting.seat.told.track ≡ track → IsPrepared track says one
        → after.sitting ≡ before.sitting → MatchBool is_room (after.batch ≡ before.batch ++ one ∷ []) (after.batch ≡ before.batch)
        → MatchBool is_room ((line : List ℕ) → command_in track line ≡ command → Rests track says before line after) (after ≡ before)
    rests_or_same before after one command is true on prepared sitting behind = λ line asks. record {
      one = one;
      asks = ap (λ t. command_in t line) on ∙ asks ∙ is;
      prepared = prepared;
      behind = behind;
      sitting = sitting;
    }
    rests_or_same before after one command is false on prepared sitting same =
        ap (λ s. record { sitting = s; batch = after.batch }) sitting ∙ ap (λ r. record { sitting = before.sitting; batch = r }) same

-- what is asked for behind all else, and needs no entry
hears_more : (before next after : Seated) (commands : List (Result Command SessionRefusal)) (command : Result Command SessionRefusal) (early late : List ℕ) → SeatHears before commands early next
    → SeatReplies command next late after → SeatHears before (commands ++ command ∷ []) (early ++ late) after
hears_more before next after [] command early late (silent, same) (answers, receipts) = subst (λ (s : Seated). SeatHears s (command ∷ []) (early ++ late) after) same (
  late,
  [],
  after,
  (None, answers, receipts ∙ sym (append-nil next.receipts)),
  ap (λ t. t ++ late) silent ∙ sym (append-nil late),
  (refl, refl),
)
hears_more before next after (one ∷ commands) command early late (reply, rest, mid, comes, is, hears) replies = (
  reply,
  rest ++ late,
  mid,
  comes,
  ap (λ t. t ++ late) is ∙ append_assoc reply rest late,
  hears_more mid next after commands command rest late hears replies,
)

module _ {L P T : Type 0} (kept : P → ℕ → Type 0) where
  -- where nothing rests nothing is entered
  pub nothing_rests : (hearing : Hearing L P T) → hearing.sitting.has_failed ≡ false → hearing.batch ≡ [] → Enters kept hearing.sitting (commands_resting hearing.batch) [] hearing.sitting
  nothing_rests hearing whole none = record {
    whole = whole;
    replies = [];
    hears = subst (λ (items : List (Resting T)). SeatHears hearing.sitting.seat (commands_resting items) [] hearing.sitting.seat) (sym none) (refl, refl);
    gained = [];
    receipts = sym (append-nil hearing.sitting.seat.receipts);
    stays = λ place is. is;
    said = λ _. (refl, All-nil (λ (r : Receipt). kept hearing.sitting.committer r.place));
    unsaid = λ _. refl;
  }

  -- what rests is entered, and then any line is answered that asks for this: its reply is printed, unless keeping has failed
  pub caught_up : (before : Hearing L P T) (middle : Sitting L P) (after : Seated) (left : List (Resting T)) (early late : List ℕ) (command : Result Command SessionRefusal)
      → Enters kept before.sitting (commands_resting before.batch) early middle → left ≡ [] → SeatReplies command middle.seat late after
      → (line : List ℕ) → command_in before.sitting.seat.told.track line ≡ command
      → CatchesUp kept before line (cond middle.has_failed [] (early ++ late)) (record { sitting = record middle { seat = after }; batch = left })
  caught_up before middle after left early late command enters none replies line asks = record {
    enters = record {
      whole = enters.whole;
      replies = enters.replies ++ late;
      hears = hears_more before.sitting.seat middle.seat after (commands_resting before.batch) (command_in before.sitting.seat.told.track line) enters.replies late enters.hears
          (subst (λ c. SeatReplies c middle.seat late after) (sym asks) replies);
      gained = enters.gained;
      receipts = replies.1 ∙ enters.receipts;
      stays = enters.stays;
      said = λ fine. let said = enters.said fine in (ap (λ b. cond b [] (early ++ late)) fine ∙ ap (λ t. t ++ late) said.0, said.1);
      unsaid = λ broken. ap (λ b. cond b [] (early ++ late)) broken;
    };
    none_rests = none;
  }

-- what was asked for was entered, and then all of it was kept, or that failed
pub entered_kept : {L P : Type 0} (kept : P → ℕ → Type 0) (before after : Sitting L P) (seat : Seated) (commands : List (Result Command SessionRefusal)) (replies : List ℕ) → before.has_failed ≡ false
    → SeatHears before.seat commands replies seat → after.seat ≡ seat → StaysKept kept before.committer after.committer
    → (after.has_failed ≡ false → All (λ (r : Receipt). kept after.committer r.place) (drop (length before.seat.receipts) seat.receipts))
    → Enters kept before commands (cond after.has_failed [] replies) after
entered_kept kept before after seat commands replies whole hears same stays is_kept =
    let gained = hears_receipts before.seat seat commands replies hears in
    let behind : drop (length before.seat.receipts) seat.receipts ≡ gained.0 =
    ap (λ (l : List Receipt). drop (length before.seat.receipts) l) gained.1 ∙ drop-append_seam before.seat.receipts gained.0 in
    record {
      whole = whole;
      replies = replies;
      hears = subst (λ (s : Seated). SeatHears before.seat commands replies s) (sym same) hears;
      gained = gained.0;
      receipts = ap (λ (s : Seated). s.receipts) same ∙ gained.1;
      stays = stays;
      said = λ fine. (
        ap (λ b. cond b [] replies) fine,
        subst (λ (rs : List Receipt). All (λ (r : Receipt). kept after.committer r.place) rs) behind (is_kept fine),
      );
      unsaid = λ broken. ap (λ b. cond b [] replies) broken;
    }

-- ---- what is printed

-- a part of a text is a part of a longer one
pub longer_part : (old new : Option (List ℕ)) (text more : List ℕ) → WritesPart old new text → WritesPart old new (text ++ more)
longer_part old new text more (part, rest, is, written) = (part, rest ++ more, ap (λ t. t ++ more) is ∙ append_assoc part rest more, written)

-- the replies to what rested could not be printed whole, so the reply behind them is not printed
pub cut_early : {E : Type 0} (old new : Option (List ℕ)) (failed writer_failed : Bool) (early late : List ℕ) (fault : E) → (failed ≡ true → early ≡ []) → Prints old new (failed || writer_failed) early (Err fault)
    → Prints old new (failed || writer_failed) (cond failed [] (early ++ late)) (Err fault)
cut_early old new true writer_failed early late fault unsaid printed = record { text = subst (λ t. WritesPart old new t) (unsaid refl) printed.text; failed = printed.failed }
cut_early old new false writer_failed early late fault unsaid printed = record { text = longer_part old new early late printed.text; failed = printed.failed }

-- the replies to what rested were printed, and so is the reply behind them
pub printed_behind : {E : Type 0} (old mid new : Option (List ℕ)) (failed writer_failed last_failed : Bool) (early late : List ℕ) (result : Result (Unit {0}) E)
    → Prints {E = E} old mid (failed || writer_failed) early (Ok tt) → Prints mid new last_failed late result → Prints old new (failed || last_failed) (cond failed [] (early ++ late)) result
printed_behind old mid new true writer_failed last_failed early late result first printed = absurd (let no : true ≡ false = first.failed in let c : ⊥ = cc in c)
printed_behind old mid new false writer_failed last_failed early late result first printed = prints_then old mid new last_failed early late (early ++ late) result first.text refl printed
