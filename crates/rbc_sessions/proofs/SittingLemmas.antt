-- A talk at a desk from one seat with its committer, turn by turn. Lines that rest have their turns when they are entered.
use Rattle.std.proofs.Common.{◌≡◌, ℕ, suc, ◌≤◌, Bool, true, false, List, [], ◌∷◌, ◌++◌, length, take, Option, Some, None, Result, Ok, Err, inl, inr, refl, sym, ap, ◌∙◌, subst, append_assoc, append-nil, lit≤, arith, length-append}
use Rattle.std.proofs.Math.Seq.{take-append_seam}
use Rattle.std.specs.Prelude.{All, IsTrue, ◌||◌, ◌⊎◌}
use Rattle.std.specs.Io.KnownBytes.{Appends}
use Rattle.std.proofs.lemmas.Bool.{both_ways}
use Rattle.std.proofs.lemmas.List.{append_cancel_left, length-map, map-append}
use Rattle.std.proofs.lemmas.List.Concat.{flat_map-append}
use Rattle.std.proofs.lemmas.List.Elements.{All-append, All-cons, All-head, All-nil, All-tail, All-weaker}
use Rattle.rbc_model.specs.declared.limits.TheConstants.{LONGEST_LINE, MOST_LINES}
use Rattle.rbc_model.specs.declared.sessions.SessionFault.{SessionFault}
use Rattle.rbc_model.specs.declared.sessions.SessionFault.TheVariants.{Read, Write, Lines, Overlong, Memory}
use Rattle.rbc_model.specs.Talks.{Answered, IsTalk, Ends}
use Rattle.rbc_model.specs.Histories.{Receipt}
use Rattle.rbc_model.specs.Tracks.{Track}
use Rattle.rbc_session_laws.specs.Commands.{command_in}
use Rattle.rbc_session_laws.specs.declared.command.Command.{Command}
use Rattle.rbc_model.specs.SessionReply.{SessionRefusal}
use Rattle.rbc_model.specs.SessionText.{SessionLine}
use Rattle.rbc_model.specs.Sessions.{WritesPart}
use Rattle.rbc_sweep.specs.Outcomes.{AreFirst}
use Rattle.rbc_sweep.specs.Records.{HistoryOnTrack}
use Rattle.rbc_sweep.specs.Seats.{Seated}
use Rattle.rbc_sessions.specs.SeatSessions.{SeatTurn, AreInTurn, receipts_of, receipts_gained, lines_at_seat, replies_at_seat, IsSeatSession}
use Rattle.rbc_sessions.specs.Hearings.{Advances, CatchesUp, IsGoing, Rests}
use Rattle.rbc_sessions.specs.Resting.{command_of, commands_resting}
use Rattle.rbc_sessions.specs.SeatChanges.{SeatComes, SeatHears}
use Rattle.rbc_sessions.specs.Sittings.{AreToldKept, Enters, IsKept, StaysKept}
use Rattle.rbc_sessions.specs.declared.batch.Resting.{Resting}
use Rattle.rbc_sessions.specs.declared.batch.TheConstants.{MOST_RESTING}
use Rattle.rbc_sessions.specs.declared.hearing.Hearing.{Hearing}
use Rattle.rbc_sessions.specs.declared.sitting.Sitting.{Sitting}
use Rattle.rbc_sessions.proofs.HearingLemmas.{longer_part}
use Rattle.rbc_sessions.proofs.SeatSessionLemmas.{begins_turns, turn_track}

still_kept : {P : Type 0} (kept : P → ℕ → Type 0) (one other : P) (receipt : Option Receipt) → StaysKept kept one other → IsKept (kept one) receipt → IsKept (kept other) receipt
still_kept kept one other None stays is = tt
still_kept kept one other (Some receipt) stays is = stays receipt.place is

-- ---- how it ended

-- what is written whole is a part of itself
pub whole_part : (a b : Option (List ℕ)) (text : List ℕ) → Appends a b text → WritesPart a b text
whole_part a b text written = (text, [], sym (append-nil text), written)

part_of : (input : List ℕ) (old new : Option (List ℕ)) (treated rest : List (List ℕ)) (text : List ℕ) (result : Result (Unit {0}) SessionFault)
    → Ends LONGEST_LINE input old new treated rest text result → WritesPart old new text
part_of input old new treated rest text (Ok done) ends = whole_part old new text ends.0
part_of input old new treated rest text (Err Lines) ends = whole_part old new text ends.0
part_of input old new treated rest text (Err Overlong) ends = whole_part old new text ends.0
part_of input old new treated rest text (Err Read) ends = whole_part old new text ends.0
part_of input old new treated rest text (Err Write) ends = ends.0
part_of input old new treated rest text (Err Memory) ends = whole_part old new text ends.0

-- where keeping has failed, the replies to the last lines are not written
ends_so : (failed : Bool) (input : List ℕ) (old new : Option (List ℕ)) (rest : List (List ℕ)) (told untold : List SeatTurn) (text : List ℕ) (result : Result (Unit {0}) SessionFault)
    → text ≡ replies_at_seat told → (failed ≡ false → untold ≡ []) → (failed ≡ true → result ≡ Err Write) → Ends LONGEST_LINE input old new (lines_at_seat (told ++ untold)) rest text result
    → Ends LONGEST_LINE input old new (lines_at_seat (told ++ untold)) rest (replies_at_seat (told ++ untold)) result
ends_so false input old new rest told untold text result said none cut ends =
    let all : text ≡ replies_at_seat (told ++ untold) =
    said ∙ ap replies_at_seat (sym (append-nil told)) ∙ ap (λ (u : List SeatTurn). replies_at_seat (told ++ u)) (sym (none refl)) in
    subst (λ x. Ends LONGEST_LINE input old new (lines_at_seat (told ++ untold)) rest x result) all ends
ends_so true input old new rest told untold text result said none cut ends =
    let all : text ++ replies_at_seat untold ≡ replies_at_seat (told ++ untold) =
    ap (λ x. x ++ replies_at_seat untold) said ∙ sym (flat_map-append (λ (turn : SeatTurn). turn.reply) told untold) in
    let failed : Ends LONGEST_LINE input old new (lines_at_seat (told ++ untold)) rest text (Err Write) =
    subst (λ r. Ends LONGEST_LINE input old new (lines_at_seat (told ++ untold)) rest text r) (cut refl) ends in
    subst (λ r. Ends LONGEST_LINE input old new (lines_at_seat (told ++ untold)) rest (replies_at_seat (told ++ untold)) r) (sym (cut refl))
    (subst (λ x. WritesPart old new x) all (longer_part old new text (replies_at_seat untold) failed.0), failed.1)

-- ---- lines that rest

-- on this track these lines ask for this, one each
abbrev AreAsked : Track → List (List ℕ) → List (Result Command SessionRefusal) → Type 0
AreAsked track [] [] = Unit {0}
AreAsked track [] (command ∷ more) = ⊥
AreAsked track (line ∷ lines) [] = ⊥
AreAsked track (line ∷ lines) (command ∷ more) = (command_in track line ≡ command) × AreAsked track lines more

asked_more : (track : Track) (lines : List (List ℕ)) (commands : List (Result Command SessionRefusal)) (line : List ℕ) (one : Result Command SessionRefusal) → AreAsked track lines commands
    → command_in track line ≡ one → AreAsked track (lines ++ line ∷ []) (commands ++ one ∷ [])
asked_more track [] [] line one none is = (is, tt)
asked_more track [] (some ∷ commands) line one none is = absurd none
asked_more track (first ∷ lines) [] line one none is = absurd none
asked_more track (first ∷ lines) (some ∷ commands) line one (so, more) is = (so, asked_more track lines commands line one more is)

-- they are as many
asked_length : (track : Track) (lines : List (List ℕ)) (commands : List (Result Command SessionRefusal)) → AreAsked track lines commands → length lines ≡ length commands
asked_length track [] [] none = refl
asked_length track [] (command ∷ more) none = absurd none
asked_length track (line ∷ lines) [] none = absurd none
asked_length track (line ∷ lines) (command ∷ more) (so, others) = ap suc (asked_length track lines more others)

none_asked : (track : Track) (lines : List (List ℕ)) → AreAsked track lines [] → lines ≡ []
none_asked track [] none = refl
none_asked track (line ∷ lines) none = absurd none

-- The turns of lines, from a seat to the same seat later.
record Heard (before after : Seated) (lines : List (List ℕ)) (text : List ℕ) : Type 0 where
  pub turns : List SeatTurn
  pub of_lines : lines_at_seat turns ≡ lines
  pub said : text ≡ replies_at_seat turns
  pub right : AreInTurn before.told turns after.told
  pub receipts : after.receipts ≡ before.receipts ++ receipts_gained turns

heard : (before after : Seated) (lines : List (List ℕ)) (commands : List (Result Command SessionRefusal)) (text : List ℕ) → AreAsked before.told.track lines commands → SeatHears before commands text after
    → Heard before after lines text
heard before after [] [] text none (silent, same) = record {
  turns = [];
  of_lines = refl;
  said = silent;
  right = ap (λ (s : Seated). s.told) same;
  receipts = ap (λ (s : Seated). s.receipts) same ∙ sym (append-nil before.receipts);
}
heard before after [] (one ∷ commands) text none hears = absurd none
heard before after (line ∷ lines) [] text none hears = absurd none
heard before after (line ∷ lines) (one ∷ commands) text (asks, others) (reply, rest, next, comes, is, hears) =
    let goes : SeatComes (command_in before.told.track line) before reply next = subst (λ d. SeatComes d before reply next) (sym asks) comes in
    let more = heard next after lines commands rest (subst (λ t. AreAsked t lines commands) (sym (turn_track before.told next.told reply comes.0 one comes.1)) others) hears in
    record {
      turns = record { line = line; reply = reply; receipt = goes.0; told = next.told } ∷ more.turns;
      of_lines = ap (λ l. line ∷ l) more.of_lines;
      said = is ∙ ap (λ r. reply ++ r) more.said;
      right = (goes.1, more.right);
      receipts = more.receipts ∙ ap (λ b. b ++ receipts_gained more.turns) goes.2 ∙ append_assoc before.receipts (receipts_of goes.0) (receipts_gained more.turns);
    }

-- where what led to all receipts that were gained is kept, that of each turn is
each_kept : (kept : ℕ → Type 0) (turns : List SeatTurn) → All (λ (r : Receipt). kept r.place) (receipts_gained turns) → All (λ (turn : SeatTurn). IsKept kept turn.receipt) turns
each_kept kept [] all = All-nil (λ (turn : SeatTurn). IsKept kept turn.receipt)
each_kept kept (turn ∷ turns) all = by (λ rest. each_kept kept turns rest) turn.receipt refl
  where
    by : (All (λ (r : Receipt). kept r.place) (receipts_gained turns) → All (λ (t : SeatTurn). IsKept kept t.receipt) turns) → (receipt : Option Receipt) → turn.receipt ≡ receipt
        → All (λ (t : SeatTurn). IsKept kept t.receipt) (turn ∷ turns)
    by others None is =
        All-cons (λ (t : SeatTurn). IsKept kept t.receipt) turn turns (subst (IsKept kept) (sym is) tt)
        (others (subst (λ (r : Option Receipt). All (λ (x : Receipt). kept x.place) (receipts_of r ++ receipts_gained turns)) is all))
    by others (Some receipt) is =
        let both : All (λ (x : Receipt). kept x.place) (receipt ∷ receipts_gained turns) =
        subst (λ (r : Option Receipt). All (λ (x : Receipt). kept x.place) (receipts_of r ++ receipts_gained turns)) is all in
        All-cons (λ (t : SeatTurn). IsKept kept t.receipt) turn turns
        (subst (IsKept kept) (sym is) (All-head (λ (x : Receipt). kept x.place) receipt (receipts_gained turns) both))
        (others (All-tail (λ (x : Receipt). kept x.place) receipt (receipts_gained turns) both))

-- turns in order, and those behind them
in_turn : (first mid last : HistoryOnTrack) (turns more : List SeatTurn) → AreInTurn first turns mid → AreInTurn mid more last → AreInTurn first (turns ++ more) last
in_turn first mid last [] more is rest = subst (λ (h : HistoryOnTrack). AreInTurn h more last) is rest
in_turn first mid last (turn ∷ turns) more (one, is) rest = (one, in_turn turn.told mid last turns more is rest)

-- ---- turn by turn

module _ {L P : Type 0} (kept : P → ℕ → Type 0) where
  -- turns that lead from a seat to the same seat later
  record Turned (before after : Sitting L P) (lines : List (List ℕ)) (text : List ℕ) : Type 0 where
    pub told : List SeatTurn
    pub untold : List SeatTurn
    pub of_lines : lines_at_seat (told ++ untold) ≡ lines
    pub said : text ≡ replies_at_seat told
    pub none_untold : after.has_failed ≡ false → untold ≡ []
    pub few_untold : length untold ≤ MOST_RESTING
    pub right : AreInTurn before.seat.told (told ++ untold) after.seat.told
    pub receipts : after.seat.receipts ≡ before.seat.receipts ++ receipts_gained (told ++ untold)
    pub stays : StaysKept kept before.committer after.committer
    pub each : All (λ (turn : SeatTurn). IsKept (kept after.committer) turn.receipt) told

  no_turn : (before after : Sitting L P) (text : List ℕ) → text ≡ [] → after ≡ before → Turned before after [] text
  no_turn before after text none same = record {
    told = [];
    untold = [];
    of_lines = refl;
    said = none;
    none_untold = λ _. refl;
    few_untold = lit≤ tt;
    right = ap (λ (s : Sitting L P). s.seat.told) same;
    receipts = ap (λ (s : Sitting L P). s.seat.receipts) same ∙ sym (append-nil before.seat.receipts);
    stays = subst (λ (s : Sitting L P). StaysKept kept before.committer s.committer) (sym same) (λ place is. is);
    each = All-nil (λ (turn : SeatTurn). IsKept (kept after.committer) turn.receipt);
  }

  -- lines whose replies were written once all was kept, and those behind them
  all_told : (before next after : Sitting L P) (first : List (List ℕ)) (commands : List (Result Command SessionRefusal)) (text : List ℕ) (lines : List (List ℕ)) (rest : List ℕ)
      → AreAsked before.seat.told.track first commands → Enters kept before commands text next → next.has_failed ≡ false → Turned next after lines rest
      → Turned before after (first ++ lines) (text ++ rest)
  all_told before next after first commands text lines rest asked enters whole more =
      let turns = heard before.seat next.seat first commands enters.replies asked enters.hears in
      let said = enters.said whole in
      let gained : enters.gained ≡ receipts_gained turns.turns = append_cancel_left before.seat.receipts enters.gained (receipts_gained turns.turns) (sym enters.receipts ∙ turns.receipts) in
      let kept_then : All (λ (t : SeatTurn). IsKept (kept next.committer) t.receipt) turns.turns =
      each_kept (kept next.committer) turns.turns (subst (λ (rs : List Receipt). All (λ (r : Receipt). kept next.committer r.place) rs) gained said.1) in
      let behind = more.told ++ more.untold in
      let all : (turns.turns ++ more.told) ++ more.untold ≡ turns.turns ++ behind = append_assoc turns.turns more.told more.untold in
      record {
        told = turns.turns ++ more.told;
        untold = more.untold;
        of_lines = ap (λ (ts : List SeatTurn). lines_at_seat ts) all ∙ map-append (λ (t : SeatTurn). t.line) turns.turns behind
            ∙ ap (λ (ls : List (List ℕ)). lines_at_seat turns.turns ++ ls) more.of_lines ∙ ap (λ (ls : List (List ℕ)). ls ++ lines) turns.of_lines;
        said = ap (λ t. t ++ rest) (said.0 ∙ turns.said) ∙ ap (λ t. replies_at_seat turns.turns ++ t) more.said
            ∙ sym (flat_map-append (λ (t : SeatTurn). t.reply) turns.turns more.told);
        none_untold = more.none_untold;
        few_untold = more.few_untold;
        right = subst (λ (ts : List SeatTurn). AreInTurn before.seat.told ts after.seat.told) (sym all)
            (in_turn before.seat.told next.seat.told after.seat.told turns.turns behind turns.right more.right);
        receipts = more.receipts ∙ ap (λ (rs : List Receipt). rs ++ receipts_gained behind) turns.receipts
            ∙ append_assoc before.seat.receipts (receipts_gained turns.turns) (receipts_gained behind)
            ∙ ap (λ (rs : List Receipt). before.seat.receipts ++ rs)
            (sym (flat_map-append (λ (t : SeatTurn). receipts_of t.receipt) turns.turns behind) ∙ ap (λ (ts : List SeatTurn). receipts_gained ts) (sym all));
        stays = λ place k. more.stays place (enters.stays place k);
        each = All-append (λ (t : SeatTurn). IsKept (kept after.committer) t.receipt) turns.turns more.told
            (All-weaker (λ (t : SeatTurn). IsKept (kept next.committer) t.receipt) (λ (t : SeatTurn). IsKept (kept after.committer) t.receipt)
            (λ t k. still_kept kept next.committer after.committer t.receipt more.stays k) turns.turns kept_then)
            more.each;
      }

  -- lines of which not all could be kept: the last
  none_told : (before after : Sitting L P) (lines : List (List ℕ)) (commands : List (Result Command SessionRefusal)) (text : List ℕ)
      → AreAsked before.seat.told.track lines commands → Enters kept before commands text after → after.has_failed ≡ true → length commands ≤ MOST_RESTING → Turned before after lines text
  none_told before after lines commands text asked enters failed few =
      let turns = heard before.seat after.seat lines commands enters.replies asked enters.hears in
      let count : length turns.turns ≡ length commands =
      sym (length-map turns.turns (λ (t : SeatTurn). t.line)) ∙ ap (λ (ls : List (List ℕ)). length ls) turns.of_lines ∙ asked_length before.seat.told.track lines commands asked in
      record {
        told = [];
        untold = turns.turns;
        of_lines = turns.of_lines;
        said = enters.unsaid failed;
        none_untold = λ whole. absurd (both_ways _ whole failed);
        few_untold = subst (λ n. n ≤ MOST_RESTING) (sym count) few;
        right = turns.right;
        receipts = turns.receipts;
        stays = enters.stays;
        each = All-nil (λ (t : SeatTurn). IsKept (kept after.committer) t.receipt);
      }

  module _ {T : Type 0} (track : Track) (says : T → SessionLine → Type 0) (failed : P → Type 0) where
    abbrev ArePending : List (List ℕ) → Hearing L P T → Type 0
    ArePending lines hearing = AreAsked hearing.sitting.seat.told.track lines (commands_resting hearing.batch)

    none_pending : (hearing : Hearing L P T) → hearing.batch ≡ [] → ArePending [] hearing
    none_pending hearing none = subst (λ (items : List (Resting T)). AreAsked hearing.sitting.seat.told.track [] (commands_resting items)) (sym none) tt

    -- a line that is let rest is pending behind the others
    pending_more : (before after : Hearing L P T) (pending : List (List ℕ)) (line : List ℕ) → ArePending pending before → Rests track says before line after → ArePending (pending ++ line ∷ []) after
    pending_more before after pending line asked rests =
        let one = rests.one in
        subst (λ (s : Sitting L P). AreAsked s.seat.told.track (pending ++ line ∷ []) (commands_resting after.batch)) (sym rests.sitting)
        (subst (λ (items : List (Result Command SessionRefusal)). AreAsked before.sitting.seat.told.track (pending ++ line ∷ []) items)
        (sym (ap (λ (items : List (Resting T)). commands_resting items) rests.behind ∙ map-append (λ (r : Resting T). Ok (command_of r.rested)) before.batch (one ∷ [])))
        (asked_more before.sitting.seat.told.track pending (commands_resting before.batch) line (Ok (command_of one.rested)) asked rests.asks))

    -- nothing comes behind a line where keeping failed
    nothing_behind : (next after : Hearing L P T) (lines : List (List ℕ)) (rest : List ℕ) → next.sitting.has_failed ≡ true → Answered (Advances track says kept failed) next lines rest after
        → (lines ≡ []) × (rest ≡ []) × (after.sitting ≡ next.sitting)
    nothing_behind next after [] rest broken (silent, same) = (refl, silent, ap (λ (h : Hearing L P T). h.sitting) same)
    nothing_behind next after (line ∷ lines) rest broken (said, others, behind, advances, so, still) = let going = advances.going in absurd (both_ways _ going.whole broken)

    -- Lines are pending, and then come these: all have had their turns where none rests.
    turned : (before after : Hearing L P T) (pending lines : List (List ℕ)) (text : List ℕ) → ArePending pending before
        → Answered (Advances track says kept failed) before lines text after → after.batch ≡ [] → Turned before.sitting after.sitting (pending ++ lines) text
    turned before after pending [] text asked (silent, same) none =
        let asked_none : AreAsked before.sitting.seat.told.track pending [] =
        subst (λ (items : List (Resting T)). AreAsked before.sitting.seat.told.track pending (commands_resting items)) (ap (λ (h : Hearing L P T). h.batch) (sym same) ∙ none) asked in
        subst (λ (ls : List (List ℕ)). Turned before.sitting after.sitting (ls ++ []) text) (sym (none_asked before.sitting.seat.told.track pending asked_none))
        (no_turn before.sitting after.sitting text silent (ap (λ (h : Hearing L P T). h.sitting) same))
    turned before after pending (line ∷ lines) text asked (reply, rest, next, advances, is, later) none =
        subst (λ (ls : List (List ℕ)). Turned before.sitting after.sitting ls text) (append_assoc pending (line ∷ []) lines)
        (subst (λ t. Turned before.sitting after.sitting (pending_then ++ lines) t) (sym is) (by (λ others told. turned next after others lines rest told later none) advances.how))
      where
        pending_then : List (List ℕ)
        pending_then = pending ++ line ∷ []

        -- the turns from here on, with the turns of the lines that are pending then
        Continues : Type 0
        Continues = (others : List (List ℕ)) → ArePending others next → Turned next.sitting after.sitting (others ++ lines) rest

        opened : Track
        opened = before.sitting.seat.told.track

        commands : List (Result Command SessionRefusal)
        commands = commands_resting before.batch ++ command_in opened line ∷ []

        asked_then : AreAsked opened pending_then commands
        asked_then = asked_more opened pending (commands_resting before.batch) line (command_in opened line) asked refl

        few : IsGoing track says before → length commands ≤ MOST_RESTING
        few going =
            omega (arith, going.few, length-append (commands_resting before.batch) (command_in opened line ∷ []), length-map {B = Result Command SessionRefusal} before.batch (λ (r : Resting T). Ok (command_of r.rested)))

        entered : Continues → IsGoing track says before → CatchesUp kept before line reply next → (broken : Bool) → next.sitting.has_failed ≡ broken
            → Turned before.sitting after.sitting (pending_then ++ lines) (reply ++ rest)
        entered continue going catches_up false whole =
            all_told before.sitting next.sitting after.sitting pending_then commands reply lines rest asked_then catches_up.enters whole (continue [] (none_pending next catches_up.none_rests))
        entered continue going catches_up true broken =
            let nothing = nothing_behind next after lines rest broken later in
            subst (λ (s : Sitting L P). Turned before.sitting s (pending_then ++ lines) (reply ++ rest)) (sym nothing.2)
            (subst (λ (ls : List (List ℕ)). Turned before.sitting next.sitting (pending_then ++ ls) (reply ++ rest)) (sym nothing.0)
            (subst (λ t. Turned before.sitting next.sitting (pending_then ++ []) (reply ++ t)) (sym nothing.1)
            (subst (λ (ls : List (List ℕ)). Turned before.sitting next.sitting ls (reply ++ [])) (sym (append-nil pending_then))
            (subst (λ t. Turned before.sitting next.sitting pending_then t) (sym (append-nil reply))
            (none_told before.sitting next.sitting pending_then commands reply asked_then catches_up.enters broken (few going))))))

        by : Continues → (Rests track says before line next × (reply ≡ [])) ⊎ CatchesUp kept before line reply next → Turned before.sitting after.sitting (pending_then ++ lines) (reply ++ rest)
        by continue (inl (rests, silent)) =
            subst (λ (s : Sitting L P). Turned s after.sitting (pending_then ++ lines) (reply ++ rest)) rests.sitting
            (subst (λ t. Turned next.sitting after.sitting (pending_then ++ lines) t) (sym (ap (λ t. t ++ rest) silent)) (continue pending_then (pending_more before next pending line asked rests)))
        by continue (inr catches_up) = entered continue advances.going catches_up next.sitting.has_failed refl

    pub sitting_session : (first last : Hearing L P T) (input : List ℕ) (old new : Option (List ℕ)) (result : Result (Unit {0}) SessionFault)
        → IsTalk LONGEST_LINE (Advances track says kept failed) first last input old new result → first.batch ≡ [] → last.batch ≡ [] → (last.sitting.has_failed ≡ true → result ≡ Err Write)
        → (session : IsSeatSession first.sitting.seat last.sitting.seat input old new result) × AreToldKept (kept last.sitting.committer) last.sitting.has_failed session.turns old new
    sitting_session first last input old new result t none none_left cut =
        let told = turned first last [] t.treated t.text (none_pending first none) t.answered none_left in
        let after = last.sitting in
        let turns = told.told ++ told.untold in (
          record {
            turns = turns;
            rest = t.rest;
            lines = t.lines ∙ ap (λ l. l ++ t.rest) (sym told.of_lines);
            few = subst (λ n. n ≤ MOST_LINES) (ap (λ (l : List (List ℕ)). length l) (sym told.of_lines) ∙ length-map turns (λ (turn : SeatTurn). turn.line)) t.few;
            each = told.right;
            receipts = told.receipts;
            ends = ends_so after.has_failed input old new t.rest told.told told.untold t.text result told.said told.none_untold cut
                (subst (λ (ls : List (List ℕ)). Ends LONGEST_LINE input old new ls t.rest t.text result) (sym told.of_lines) t.ends);
          },
          record {
            told = told.told;
            untold = told.untold;
            all = refl;
            none_untold = told.none_untold;
            few_untold = told.few_untold;
            written = subst (λ x. WritesPart old new x) told.said (part_of input old new t.treated t.rest t.text result t.ends);
            each = told.each;
          },
        )

    pub sitting_stays : (first last : Hearing L P T) (input : List ℕ) (old new : Option (List ℕ)) (result : Result (Unit {0}) SessionFault)
        → IsTalk LONGEST_LINE (Advances track says kept failed) first last input old new result → first.batch ≡ [] → last.batch ≡ [] → StaysKept kept first.sitting.committer last.sitting.committer
    sitting_stays first last input old new result t none none_left = let told = turned first last [] t.treated t.text (none_pending first none) t.answered none_left in told.stays

    pub sitting_grown : (first last : Hearing L P T) (input : List ℕ) (old new : Option (List ℕ)) (result : Result (Unit {0}) SessionFault)
        → IsTalk LONGEST_LINE (Advances track says kept failed) first last input old new result → first.batch ≡ [] → last.batch ≡ [] → AreFirst first.sitting.seat last.sitting.seat
    sitting_grown first last input old new result t none none_left =
        let told = turned first last [] t.treated t.text (none_pending first none) t.answered none_left in
        let before = first.sitting in
        let after = last.sitting in
        let turns = told.told ++ told.untold in
        record {
          receipts = ap (λ l. take (length before.seat.receipts) l) told.receipts ∙ take-append_seam before.seat.receipts (receipts_gained turns);
          told = begins_turns before.seat.told after.seat.told turns told.right;
        }

-- where keeping has failed, the committer knows so
module _ {L P T : Type 0} (kept : P → ℕ → Type 0) (track : Track) (says : T → SessionLine → Type 0) (failed : P → Type 0) where
  failed_last : (before after : Hearing L P T) (lines : List (List ℕ)) (text : List ℕ) → Answered (Advances track says kept failed) before lines text after → before.sitting.has_failed ≡ false
      → after.sitting.has_failed ≡ true → failed after.sitting.committer
  failed_last before after [] text (silent, same) whole broken = absurd (both_ways _ (ap (λ (h : Hearing L P T). h.sitting.has_failed) same ∙ whole) broken)
  failed_last before after (line ∷ lines) text (reply, rest, next, advances, is, later) whole broken =
      by (λ fine. failed_last next after lines rest later fine broken) next.sitting.has_failed refl lines later
    where
      by : (next.sitting.has_failed ≡ false → failed after.sitting.committer) → (b : Bool) → next.sitting.has_failed ≡ b → (more : List (List ℕ)) → Answered (Advances track says kept failed) next more rest after
          → failed after.sitting.committer
      by later_on false fine more then = later_on fine
      by later_on true now [] (said, same) = subst (λ (h : Hearing L P T). failed h.sitting.committer) (sym same) (advances.why now)
      by later_on true now (other ∷ more) (said, others, behind, so, is, still) = (let going = so.going in absurd (both_ways _ going.whole now))

  pub sitting_failed : (first last : Hearing L P T) (input : List ℕ) (old new : Option (List ℕ)) (result : Result (Unit {0}) SessionFault)
      → IsTalk LONGEST_LINE (Advances track says kept failed) first last input old new result → first.sitting.has_failed ≡ false → last.sitting.has_failed ≡ true → failed last.sitting.committer
  sitting_failed first last input old new result t whole broken = failed_last first last t.treated t.text t.answered whole broken

-- where keeping has failed, it is told as a write fault
pub cut_off : (failed writer_failed : Bool) (result : Result (Unit {0}) SessionFault) → (IsTrue (failed || writer_failed) → result ≡ Err Write) → failed ≡ true → result ≡ Err Write
cut_off true writer_failed result write is = write refl
cut_off false writer_failed result write is = absurd (let c : ⊥ = cc in c)
