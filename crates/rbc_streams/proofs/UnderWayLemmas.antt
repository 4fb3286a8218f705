-- A talk under way: what it read and wrote so far, and how it ends from there.
use Rattle.std.proofs.Common.{◌≡◌, ℕ, suc, ◌+◌, ◌<◌, ◌≤◌, Bool, true, false, inl, inr, List, [], ◌∷◌, ◌++◌, length}
use Rattle.std.proofs.Common.{Option, Result, Ok, Err, refl, sym, ap, ◌∙◌, subst, arith, lit<, lit≤, append_assoc}
use Rattle.std.proofs.Common.{append-nil, if◌then◌else◌, ◌==◌}
use Rattle.std.proofs.lemmas.List.{length-append, take-append-le, take_all}
use Rattle.std.proofs.lemmas.List.Elements.{All-append, All-nil, All-cons, All-take}
use Rattle.std.specs.Io.KnownBytes.{Consumes, Appends, Keeps}
use Rattle.std.proofs.KnownBytes.{Consumes-nil, Appends-nil, Consumes-trans, Appends-trans, Appends-kept}
use Rattle.rbc_model.specs.declared.limits.TheConstants.{MOST_LINES}
use Rattle.rbc_model.specs.declared.sessions.SessionFault.{SessionFault}
use Rattle.rbc_model.specs.declared.sessions.SessionFault.TheVariants.{Read, Write, Lines, Overlong, Memory}
use Rattle.rbc_model.specs.Sessions.{lines_of, with_front, WritesPart}
use Rattle.rbc_model.specs.Talks.{Answered, AreShort, Ends, IsTalk}
use Rattle.rbc_streams.specs.LineReading.{LineReading, GivesLine, HasNoLineFeed, Goes}
use Rattle.rbc_streams.proofs.LineLemmas.{lines_of_line, lines_of_last, lines_of_fed}

-- ---- lines

-- the lines of the input, and of whatever comes unless it has ended, are the treated ones, and the lines of what is pending
abbrev pub Splits : Bool → List ℕ → List (List ℕ) → List ℕ → Type 0
Splits ended input treated pending = (more : List ℕ) → (ended ≡ true → more ≡ [])
    → lines_of (input ++ more) ≡ treated ++ lines_of (pending ++ more)

splits_now : (ended : Bool) (input pending : List ℕ) (treated : List (List ℕ)) → Splits ended input treated pending
    → lines_of input ≡ treated ++ lines_of pending
splits_now ended input pending treated splits =
    sym (ap lines_of (append-nil input)) ∙ splits [] (λ _. refl)
    ∙ ap (λ bytes. treated ++ lines_of bytes) (append-nil pending)

-- the line that was given is the first of what was pending, with whatever comes unless the input has ended
pub front_with : (pending more : List ℕ) (lines : LineReading) → GivesLine pending lines → (lines.ended ≡ true → more ≡ [])
    → lines_of (pending ++ more) ≡ lines.line ∷ lines_of (lines.pending ++ more)
front_with pending more lines gives over = elim gives.rest [
  | inl fed ↦ ap (λ bytes. lines_of (bytes ++ more)) fed
      ∙ ap lines_of (append_assoc lines.line (10 ∷ lines.pending) more)
      ∙ lines_of_line lines.line (lines.pending ++ more) gives.one_line
  | inr last ↦ rw (over last.over, last.none_left, append-nil)
      (ap lines_of last.whole ∙ lines_of_last lines.line gives.one_line last.some)
]

pub front_of : (pending : List ℕ) (lines : LineReading) → GivesLine pending lines
    → lines_of pending ≡ lines.line ∷ lines_of lines.pending
front_of pending lines gives =
    sym (ap lines_of (append-nil pending)) ∙ front_with pending [] lines gives (λ _. refl)
    ∙ ap (λ bytes. lines.line ∷ lines_of bytes) (append-nil lines.pending)

-- a further line is answered behind the others
answered_then : {State : Type 0} (Answers : State → List ℕ → List ℕ → State → Type 0) (first now next : State)
    (lines : List (List ℕ)) (line text reply : List ℕ) → Answered Answers first lines text now
    → Answers now line reply next → Answered Answers first (lines ++ line ∷ []) (text ++ reply) next
answered_then Answers first now next [] line text reply (none, same) answers =
    rw none (reply, [], next, subst (λ s. Answers s line reply next) same answers, sym (append-nil reply), (refl, refl))
answered_then Answers first now next (front ∷ lines) line text reply (r, rest, second, here, whole, later) answers = (
  r,
  rest ++ reply,
  second,
  here,
  ap (λ l. l ++ reply) whole ∙ append_assoc r rest reply,
  answered_then Answers second now next lines line rest reply later answers,
)

-- the last of some lines
last_of : (lines : List (List ℕ)) → 0 < length lines → (before : List (List ℕ)) × (line : List ℕ) × (lines ≡ before ++ line ∷ [])
last_of [] some = absurd (omega arith)
last_of (line ∷ []) some = ([], line, refl)
last_of (line ∷ next ∷ lines) some =
    let last = last_of (next ∷ lines) (omega arith) in
    (line ∷ last.0, last.1, ap (λ l. line ∷ l) last.2)

-- ---- a talk under way, and over

-- n lines are treated, and these bytes are pending
pub record IsUnderWay (longest : ℕ) {State : Type 0} (Answers : State → List ℕ → List ℕ → State → Type 0) (first now : State)
    (left0 left written0 written : Option (List ℕ)) (ended : Bool) (n : ℕ) (pending : List ℕ) : Type 0 where
  pub input : List ℕ
  pub text : List ℕ
  pub treated : List (List ℕ)
  pub took : Consumes left0 left input
  pub wrote : Appends written0 written text
  pub count : length treated ≡ n
  pub short : AreShort longest treated
  pub answered : Answered Answers first treated text now
  pub splits : Splits ended input treated pending

-- what was read so, and a talk that ended so
abbrev pub IsOver : ℕ → {State : Type 0} → (State → List ℕ → List ℕ → State → Type 0) → State → State
    → Option (List ℕ) → Option (List ℕ) → Option (List ℕ) → Option (List ℕ) → Result (Unit {0}) SessionFault → Type 0
IsOver longest Answers first last left0 left written0 written result =
    (input : List ℕ) × Consumes left0 left input × IsTalk longest Answers first last input written0 written result

module _ (longest : ℕ) {State : Type 0} (Answers : State → List ℕ → List ℕ → State → Type 0) (first : State)
    (left written : Option (List ℕ)) where
  -- before the first line
  pub begins : IsUnderWay longest Answers first first left left written written false 0 []
  begins = record {
    input = [];
    text = [];
    treated = [];
    took = Consumes-nil left;
    wrote = Appends-nil written;
    count = refl;
    short = All-nil (λ line. length line ≤ longest);
    answered = (refl, refl);
    splits = λ more none. refl;
  }

  -- there is no memory
  pub over_before : IsOver longest Answers first first left left written written (Err Memory)
  over_before = (
    [],
    Consumes-nil left,
    record {
      treated = [];
      rest = [];
      text = [];
      lines = refl;
      few = lit≤ tt;
      answered = (refl, refl);
      ends = (Appends-nil written, refl);
    },
  )

module _ (longest : ℕ) {State : Type 0} (Answers : State → List ℕ → List ℕ → State → Type 0) {first now : State}
    {left0 left written0 written : Option (List ℕ)} {ended : Bool} {n : ℕ} {pending : List ℕ}
    (u : IsUnderWay longest Answers first now left0 left written0 written ended n pending) where
  -- some bytes are read
  pub takes : (left' : Option (List ℕ)) (after : Bool) (taken : List ℕ)
      → (ended ≡ true → after ≡ true) → (ended ≡ true → taken ≡ []) → Consumes left left' taken
      → IsUnderWay longest Answers first now left0 left' written0 written after n (pending ++ taken)
  takes left' after taken stays none took = record {
    input = u.input ++ taken;
    text = u.text;
    treated = u.treated;
    took = Consumes-trans left0 left left' u.input taken u.took took;
    wrote = u.wrote;
    count = u.count;
    short = u.short;
    answered = u.answered;
    splits = λ more over.
        let both : ended ≡ true → taken ++ more ≡ [] = λ e. rw (none e, over (stays e)) refl in
        rw (append_assoc u.input taken more, append_assoc pending taken more) (u.splits (taken ++ more) both);
  }

  -- it stops before the lines that are pending
  stops : (result : Result (Unit {0}) SessionFault) → n ≤ MOST_LINES
      → Ends longest u.input written0 written u.treated (lines_of pending) u.text result
      → IsOver longest Answers first now left0 left written0 written result
  stops result few how = (
    u.input,
    u.took,
    record {
      treated = u.treated;
      rest = lines_of pending;
      text = u.text;
      lines = splits_now ended u.input pending u.treated u.splits;
      few = rw u.count few;
      answered = u.answered;
      ends = how;
    },
  )

  -- the reader fails where no line that had ended is pending
  pub fails_reading : HasNoLineFeed pending → ended ≡ false → n ≤ MOST_LINES
      → IsOver longest Answers first now left0 left written0 written (Err Read)
  fails_reading none going few =
      let feed : List ℕ = 10 ∷ [] in
      let whole = u.splits feed (λ over. cc (over, going)) ∙ ap (λ l. u.treated ++ l) (lines_of_line pending [] none) in
      let count = sym (lines_of_fed u.input) ∙ ap length whole ∙ length-append u.treated (pending ∷ []) in
      stops (Err Read) few (u.wrote, u.short, omega (arith, count))

  -- what was written is handed on
  pub hands_on : (written' : Option (List ℕ)) → Keeps written written' → IsUnderWay longest Answers first now left0 left written0 written' ended n pending
  hands_on written' kept = record {
    input = u.input;
    text = u.text;
    treated = u.treated;
    took = u.took;
    wrote = Appends-kept written0 written written' u.text u.wrote kept;
    count = u.count;
    short = u.short;
    answered = u.answered;
    splits = u.splits;
  }

  -- the writer fails as it hands on the replies
  pub fails_handing_on : 0 < n → n ≤ MOST_LINES → IsOver longest Answers first now left0 left written0 written (Err Write)
  fails_handing_on some few =
      let last = last_of u.treated (rw u.count some) in
      let short = subst (AreShort longest) last.2 u.short in
      let front = subst (AreShort longest) (take-append-le (length last.0) last.0 (last.1 ∷ []) (omega arith) ∙ take_all (length last.0) last.0 (omega arith))
      (All-take (λ line. length line ≤ longest) (length last.0) (last.0 ++ last.1 ∷ []) short) in
      stops (Err Write) few ((u.text, [], sym (append-nil u.text), u.wrote), (last.0, last.1, last.2, front))

  -- it fails on the way to the next line
  pub stops_between : (lines : LineReading) (fault : SessionFault) → lines.ended ≡ ended → Goes pending lines (Err fault)
      → (fault ≡ Write → 0 < n) → n ≤ MOST_LINES → IsOver longest Answers first now left0 left written0 written (Err fault)
  stops_between lines Read at (kept, none, going) some few = fails_reading none (sym at ∙ going) few
  stops_between lines Write at same some few = fails_handing_on (some refl) few
  stops_between lines Lines at gone some few = absurd gone
  stops_between lines Overlong at gone some few = absurd gone
  stops_between lines Memory at gone some few = absurd gone

  pub ends : pending ≡ [] → n ≤ MOST_LINES → IsOver longest Answers first now left0 left written0 written (Ok tt)
  ends none few = stops (Ok tt) few (u.wrote, u.short, ap lines_of none)

  pub has_too_many : n ≡ MOST_LINES → 0 < length (lines_of pending)
      → IsOver longest Answers first now left0 left written0 written (Err Lines)
  has_too_many all some = stops (Err Lines) (rw all (lit≤ tt)) (u.wrote, u.short, u.count ∙ all, some)

  module _ (next : State) (written' : Option (List ℕ)) where
    -- a line is answered
    pub goes_on : (lines : LineReading) (reply : List ℕ) → lines.ended ≡ ended → lines.longest ≡ longest
        → GivesLine pending lines → Answers now lines.line reply next → Appends written written' reply
        → IsUnderWay longest Answers first next left0 left written0 written' ended (suc n) lines.pending
    goes_on lines reply at size gives answers wrote =
        let Short : List ℕ → Type 0 = λ line. length line ≤ longest in
        let short : Short lines.line = subst (λ most. length lines.line ≤ most) size gives.within in
        record {
          input = u.input;
          text = u.text ++ reply;
          treated = u.treated ++ lines.line ∷ [];
          took = u.took;
          wrote = Appends-trans written0 written written' u.text reply u.wrote wrote;
          count = length-append u.treated (lines.line ∷ []) ∙ ap (λ k. k + 1) u.count ∙ omega arith;
          short = All-append Short u.treated (lines.line ∷ []) u.short (All-cons Short lines.line [] short (All-nil Short));
          answered = answered_then Answers first now next u.treated lines.line u.text reply u.answered answers;
          splits = λ more over. u.splits more over
              ∙ ap (λ l. u.treated ++ l) (front_with pending more lines gives (λ e. over (sym at ∙ e)))
              ∙ sym (append_assoc u.treated (lines.line ∷ []) (lines_of (lines.pending ++ more)));
        }

    -- it stops with this line, which is answered
    stops_with : (result : Result (Unit {0}) SessionFault) (line reply : List ℕ) (others : List (List ℕ))
        → n < MOST_LINES → lines_of pending ≡ line ∷ others → Answers now line reply next
        → Ends longest u.input written0 written' (u.treated ++ line ∷ []) others (u.text ++ reply) result
        → IsOver longest Answers first next left0 left written0 written' result
    stops_with result line reply others few front answers how = (
      u.input,
      u.took,
      record {
        treated = u.treated ++ line ∷ [];
        rest = others;
        text = u.text ++ reply;
        lines = splits_now ended u.input pending u.treated u.splits
            ∙ ap (λ l. u.treated ++ l) front ∙ sym (append_assoc u.treated (line ∷ []) others);
        few = rw (length-append u.treated (line ∷ []), u.count) (omega arith);
        answered = answered_then Answers first now next u.treated line u.text reply u.answered answers;
        ends = how;
      },
    )

    -- the writer fails in the reply to a line
    pub fails_writing : (line reply : List ℕ) (others : List (List ℕ)) → n < MOST_LINES
        → lines_of pending ≡ line ∷ others → Answers now line reply next → WritesPart written written' reply
        → IsOver longest Answers first next left0 left written0 written' (Err Write)
    fails_writing line reply others few front answers (part, rest, whole, wrote) =
        let so_far = ap (λ r. u.text ++ r) whole ∙ sym (append_assoc u.text part rest) in
        let both = Appends-trans written0 written written' u.text part u.wrote wrote in
        stops_with (Err Write) line reply others few front answers
        ((u.text ++ part, rest, so_far, both), (u.treated, line, refl, u.short))

    -- a line is too long, and its refusal is written
    pub refuses : (line reply : List ℕ) (others : List (List ℕ)) → n < MOST_LINES → lines_of pending ≡ line ∷ others
        → longest < length line → Answers now line reply next → Appends written written' reply
        → IsOver longest Answers first next left0 left written0 written' (Err Overlong)
    refuses line reply others few front long answers wrote =
        stops_with (Err Overlong) line reply others few front answers
        (Appends-trans written0 written written' u.text reply u.wrote wrote, (u.treated, line, refl, u.short, long))

-- ---- bytes make a line

first_of : (is_feed : Bool) (byte : ℕ) (lines : List (List ℕ))
    → 0 < length (if is_feed then [] ∷ lines else with_front byte lines)
first_of true byte lines = omega arith
first_of false byte [] = lit< tt
first_of false byte (line ∷ lines) = omega arith

pub some_line : (bytes : List ℕ) → 0 < length bytes → 0 < length (lines_of bytes)
some_line [] some = absurd (omega arith)
some_line (byte ∷ bytes) some = first_of (byte == 10) byte (lines_of bytes)
