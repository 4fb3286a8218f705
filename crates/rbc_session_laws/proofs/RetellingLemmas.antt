-- The lines of a history lead to its entries again.
use Rattle.std.proofs.Common.{◌≡◌, ℕ, zero, suc, ◌+◌, ◌<◌, Bool, true, false, not, ◌&&◌, cond, List, [], ◌∷◌, ◌++◌, length, map, take, Option, Some, None, Result, Ok, Err, refl, ap, ap₂, sym, ◌∙◌, subst, arith, append_assoc, append-nil, nat_le, nat_lt}
use Rattle.std.specs.Prelude.{◌==◌, bytes_eq, slice_get}
use Rattle.std.specs.List.{flat_map, position, position_or_len}
use Rattle.std.specs.Option.{option_map_or}
use Rattle.std.specs.Result.{result_map_both}
use Rattle.std.proofs.lemmas.Bool.{leb-true, ltb-true}
use Rattle.std.proofs.lemmas.Slice.Eq.{bytes_eq-Decides}
use Rattle.std.proofs.lemmas.Option.{none-some, same_Some}
use Rattle.rbc_model.specs.declared.refusals.LineFault.{LineFault}
use Rattle.rbc_model.specs.declared.refusals.Refusal.{Refusal}
use Rattle.rbc_model.specs.declared.refusals.ViewFault.{ViewFault}
use Rattle.rbc_model.specs.declared.refusals.ViewFault.TheVariants.{UnknownTrain, Blocked}
use Rattle.rbc_model.specs.declared.reports.Told.{Told}
use Rattle.rbc_model.specs.declared.reports.Told.TheVariants.{Report as ToldReport, Lock as ToldLock, Free as ToldFree, Leave as ToldLeave, GiveBack as ToldGiveBack}
use Rattle.rbc_model.specs.declared.reports.Event.TheVariants.{Tell}
use Rattle.rbc_model.specs.Results.{◌>>=◌}
use Rattle.rbc_model.specs.RequestText.{line_in}
use Rattle.rbc_model.specs.Words.{is_text}
use Rattle.rbc_model.specs.Sessions.{lines_of, with_front}
use Rattle.rbc_model.specs.Tracks.{Track, section_named, route_named}
use Rattle.rbc_model.specs.Scenes.{Scene}
use Rattle.rbc_model.specs.Events.{step}
use Rattle.rbc_model.specs.Views.{View, view}
use Rattle.rbc_model.specs.Histories.{Beginning, Entry, Heard, Granted, is_full, replay}
use Rattle.rbc_model.specs.SessionText.{SessionLine, Blank, Report, Lock, Free, Leave, GiveBack, Ask, Inquire, parse_session, IsSayable}
use Rattle.rbc_model.specs.SessionReply.{SessionRefusal, BadLine, UnknownName, Full}
use Rattle.rbc_model.specs.HistoryText.{told_request, entry_request, entry_line, history_text}
use Rattle.rbc_model.proofs.CountingLemmas.{both_of}
use Rattle.rbc_model.proofs.SaidLineLemmas.{said_is_text, said_line_read, read_is_sayable}
use Rattle.rbc_grant_laws.proofs.CandidateLemmas.{view-train}
use Rattle.rbc_session_laws.specs.declared.command.Command.{Command}
use Rattle.rbc_session_laws.specs.declared.command.Command.TheVariants.{Nothing, Event, Authority, Show}
use Rattle.rbc_session_laws.specs.Commands.{known, resolve, command_in}
use Rattle.rbc_session_laws.specs.SessionRuns.{Turn, entries_of, entries_added, lines_treated}
use Rattle.rbc_session_laws.specs.Answers.{refused, told_answer, grant_answer, asker_answer, command_answer, line_answer, grant_of, turns_of}
use Rattle.rbc_session_laws.specs.Laws.{heard}
use Rattle.rbc_session_laws.specs.Retelling.{EntriesAreToldAgain, IsRetold, IsItsSession, RetoldHistoriesAreSessions, SessionsAreRetold, HistoriesAreSessions}
use Rattle.rbc_session_laws.proofs.SessionLemmas.{sessions_are_answered}

-- ---- what is found by its name has the name

module _ {X : Type 0} (test : X → Bool) where
  pub record IsAt (xs : List X) (place : ℕ) : Type 0 where
    pub x : X
    pub here : slice_get xs place ≡ Some x
    pub passes : test x ≡ true

  behind : (x : X) (xs : List X) (place : ℕ) → IsAt xs place → IsAt (x ∷ xs) (1 + place)
  behind x xs place a =
      let e : 1 + place ≡ suc place = omega arith in
      subst (IsAt (x ∷ xs)) (sym e) (record { x = a.x; here = a.here; passes = a.passes })

  first_at : (xs : List X) → position_or_len test xs < length xs → IsAt xs (position_or_len test xs)
  first_at [] inside = absurd (omega arith)
  first_at (x ∷ xs) inside = by_test (test x) refl inside (first_at xs)
    where
      by_test : (b : Bool) → test x ≡ b → cond (not b) (1 + position_or_len test xs) 0 < length (x ∷ xs) → (position_or_len test xs < length xs → IsAt xs (position_or_len test xs))
          → IsAt (x ∷ xs) (cond (not b) (1 + position_or_len test xs) 0)
      by_test true e small later = record { x = x; here = refl; passes = e }
      by_test false e small later = behind x xs (position_or_len test xs) (later (omega arith))

  pub found_at : (xs : List X) (place : ℕ) → position test xs ≡ Some place → IsAt xs place
  found_at xs place h = by_test (nat_lt (position_or_len test xs) (length xs)) refl h
    where
      the_place : (a b : ℕ) → (let o : Option ℕ = Some a in o) ≡ Some b → a ≡ b
      the_place a b e = cc

      no_place : (b : ℕ) → (let o : Option ℕ = None in o) ≡ Some b → ⊥
      no_place b e = cc

      by_test : (b : Bool) → nat_lt (position_or_len test xs) (length xs) ≡ b → cond b (Some (position_or_len test xs)) None ≡ Some place → IsAt xs place
      by_test true e f = subst (IsAt xs) (the_place (position_or_len test xs) place f) (first_at xs (ltb-true (position_or_len test xs) (length xs) e))
      by_test false e f = absurd (no_place place f)

-- the name in a table is the name that was resolved
named_at : {X : Type 0} (name_of : X → List ℕ) (xs : List X) (name : List ℕ) (place : ℕ) → position (λ x. bytes_eq (name_of x) name) xs ≡ Some place → option_map_or name_of (slice_get xs place) [] ≡ name
named_at name_of xs name place h =
    let a = found_at (λ x. bytes_eq (name_of x) name) xs place h in
    ap (λ o. option_map_or name_of o []) a.here ∙ (bytes_eq-Decides (name_of a.x) name).0 a.passes

-- ---- what a line asks for, said again

-- the request for it
abbrev command_request : Track → Command → SessionLine
command_request track Nothing = Blank
command_request track (Event told) = told_request track told
command_request track (Authority train) = Ask train
command_request track (Show inquiry) = Inquire inquiry

pub the_command : (a b : Command) → (let r : Result Command SessionRefusal = Ok a in r) ≡ Ok b → a ≡ b
the_command a b e = cc

pub no_command : (refusal : SessionRefusal) (b : Command) → (let r : Result Command SessionRefusal = Err refusal in r) ≡ Ok b → ⊥
no_command refusal b e = cc

resolved_back : (track : Track) (said : SessionLine) (command : Command) → resolve track said ≡ Ok command → command_request track command ≡ said
resolved_back track Blank command h = ap (command_request track) (sym (the_command Nothing command h))
resolved_back track (Report report) command h = ap (command_request track) (sym (the_command (Event (ToldReport report)) command h))
resolved_back track (Lock name) command h = by_place (route_named track name) refl h
  where
    by_place : (o : Option ℕ) → route_named track name ≡ o → line_in (λ route. Event (ToldLock route)) (known name o) ≡ Ok command → command_request track command ≡ Lock name
    by_place None e f = absurd (no_command (UnknownName name) command f)
    by_place (Some route) e f = ap (command_request track) (sym (the_command (Event (ToldLock route)) command f)) ∙ ap Lock (named_at (λ r. r.name) track.routes name route e)
resolved_back track (Free name) command h = by_place (section_named track name) refl h
  where
    by_place : (o : Option ℕ) → section_named track name ≡ o → line_in (λ section. Event (ToldFree section)) (known name o) ≡ Ok command → command_request track command ≡ Free name
    by_place None e f = absurd (no_command (UnknownName name) command f)
    by_place (Some section) e f = ap (command_request track) (sym (the_command (Event (ToldFree section)) command f)) ∙ ap Free (named_at (λ s. s.name) track.sections name section e)
resolved_back track (Leave train) command h = ap (command_request track) (sym (the_command (Event (ToldLeave train)) command h))
resolved_back track (GiveBack train end) command h = ap (command_request track) (sym (the_command (Event (ToldGiveBack train end)) command h))
resolved_back track (Ask train) command h = ap (command_request track) (sym (the_command (Authority train) command h))
resolved_back track (Inquire inquiry) command h = ap (command_request track) (sym (the_command (Show inquiry) command h))

-- a line that says what leads to an entry
record Leads (track : Track) (line : List ℕ) (entry : Entry) : Type 0 where
  said : SessionLine
  read : parse_session line ≡ Ok said
  is : entry_request track entry ≡ said

leads_by : (track : Track) (line : List ℕ) (entry : Entry) (command : Command) (read : Result SessionLine LineFault) → parse_session line ≡ read
    → (result_map_both (λ said. said) BadLine read >>= resolve track) ≡ Ok command → entry_request track entry ≡ command_request track command → Leads track line entry
leads_by track line entry command (Ok said) e h same = record { said = said; read = e; is = same ∙ resolved_back track said command h }
leads_by track line entry command (Err fault) e h same = absurd (no_command (BadLine fault) command h)

-- ---- the entry that an answer adds

module _ (begin : Beginning) (before : List Entry) (entry : Entry) where
  pub told_entry : (told : Told) (full : Bool) (after : Result Scene Refusal)
      → (cond full (refused begin before Full) (told_answer begin before told after)).added ≡ Some entry → Heard told ≡ entry
  told_entry told true after h = absurd (none-some entry h)
  told_entry told false (Ok after) h = same_Some (Heard told) entry h
  told_entry told false (Err refusal) h = absurd (none-some entry h)

  pub granted_entry : (shown : View) (full : Bool) → (cond full (refused begin before Full) (grant_answer begin before shown)).added ≡ Some entry → Granted (grant_of shown) ≡ entry
  granted_entry shown true h = absurd (none-some entry h)
  granted_entry shown false h = same_Some (Granted (grant_of shown)) entry h

  -- the train that is granted an authority is the one that asked
  asked_entry : (train : ℕ) (seen : Result View ViewFault) → view begin.track (replay begin before) train ≡ seen → (asker_answer begin before train seen).added ≡ Some entry
      → entry_request begin.track entry ≡ Ask train
  unfolding grant_of
  asked_entry train (Ok shown) e h =
      ap (entry_request begin.track) (sym (granted_entry shown (is_full begin before) h)) ∙ ap Ask (view-train begin.track (replay begin before) train shown e)
  asked_entry train (Err (Blocked obstacle at)) e h = absurd (none-some entry h)
  asked_entry train (Err UnknownTrain) e h = absurd (none-some entry h)

  commanded_entry : (line : List ℕ) (command : Result Command SessionRefusal) → command_in begin.track line ≡ command → (command_answer begin before command).added ≡ Some entry → Leads begin.track line entry
  commanded_entry line (Ok Nothing) e h = absurd (none-some entry h)
  commanded_entry line (Ok (Event told)) e h =
      leads_by begin.track line entry (Event told) (parse_session line) refl e
      (ap (entry_request begin.track) (sym (told_entry told (is_full begin before) (step begin.track (replay begin before) (Tell told)) h)))
  commanded_entry line (Ok (Authority train)) e h =
      leads_by begin.track line entry (Authority train) (parse_session line) refl e (asked_entry train (view begin.track (replay begin before) train) refl h)
  commanded_entry line (Ok (Show inquiry)) e h = absurd (none-some entry h)
  commanded_entry line (Err refusal) e h = absurd (none-some entry h)

  leads : (line : List ℕ) → (line_answer begin before line).added ≡ Some entry → Leads begin.track line entry
  unfolding line_answer
  leads line h = commanded_entry line (command_in begin.track line) refl h

  sayable : (line : List ℕ) → Leads begin.track line entry → IsSayable (entry_request begin.track entry)
  sayable line l = subst IsSayable (sym l.is) (read_is_sayable line l.said l.read)

  again : (line : List ℕ) → Leads begin.track line entry → line_answer begin before (entry_line begin.track entry) ≡ line_answer begin before line
  unfolding line_answer
  again line l =
      let back : parse_session (entry_line begin.track entry) ≡ Ok l.said = said_line_read (entry_request begin.track entry) (sayable line l) ∙ ap Ok l.is in
      ap (λ read. command_answer begin before (result_map_both (λ said. said) BadLine read >>= resolve begin.track)) (back ∙ sym l.read)

pub entries_are_told_again : EntriesAreToldAgain
entries_are_told_again begin before line entry h = again begin before entry line (leads begin before entry line h)

-- ---- histories that are retold

module _ (begin : Beginning) where
  -- each entry is made again by its line, behind the entries before
  Retells : List Entry → List Entry → Type 0
  Retells before [] = Unit {0}
  Retells before (entry ∷ entries) = ((line_answer begin before (entry_line begin.track entry)).added ≡ Some entry) × Retells (before ++ entry ∷ []) entries

  from_each : (before entries : List Entry)
      → ((place : ℕ) (entry : Entry) → slice_get entries place ≡ Some entry → (line_answer begin (before ++ take place entries) (entry_line begin.track entry)).added ≡ Some entry)
      → Retells before entries
  unfolding Retells
  from_each before [] each = tt
  from_each before (entry ∷ entries) each = (
    subst (λ b. (line_answer begin b (entry_line begin.track entry)).added ≡ Some entry) (append-nil before) (each 0 entry refl),
    from_each (before ++ entry ∷ []) entries
        (λ place other here.
        subst (λ b. (line_answer begin b (entry_line begin.track other)).added ≡ Some other) (sym (append_assoc before (entry ∷ []) (take place entries))) (each (suc place) other here)),
  )

  to_each : (before entries : List Entry) → Retells before entries → (place : ℕ) (entry : Entry) → slice_get entries place ≡ Some entry
      → (line_answer begin (before ++ take place entries) (entry_line begin.track entry)).added ≡ Some entry
  unfolding Retells
  to_each before [] are place entry here = absurd (none-some entry here)
  to_each before (first ∷ entries) are zero entry here =
      subst (λ e. (line_answer begin (before ++ []) (entry_line begin.track e)).added ≡ Some e) (same_Some first entry here)
      (subst (λ b. (line_answer begin b (entry_line begin.track first)).added ≡ Some first) (sym (append-nil before)) are.0)
  to_each before (first ∷ entries) are (suc place) entry here =
      subst (λ b. (line_answer begin b (entry_line begin.track entry)).added ≡ Some entry) (append_assoc before (first ∷ []) (take place entries))
      (to_each (before ++ first ∷ []) entries are.1 place entry here)

  behind_retold : (before entries more : List Entry) → Retells before entries → Retells (before ++ entries) more → Retells before (entries ++ more)
  unfolding Retells
  behind_retold before [] more are later = subst (λ b. Retells b more) (append-nil before) later
  behind_retold before (entry ∷ entries) more are later =
      (are.0, behind_retold (before ++ entry ∷ []) entries more are.1 (subst (λ b. Retells b more) (sym (append_assoc before (entry ∷ []) entries)) later))

  -- what a session adds is retold
  turns_retell : (before : List Entry) (lines : List (List ℕ)) → Retells before (entries_added (turns_of begin before lines))
  unfolding Retells turns_of
  turns_retell before [] = tt
  turns_retell before (line ∷ lines) = by_added (line_answer begin before line).added refl (turns_retell (before ++ entries_of (line_answer begin before line).added) lines)
    where
      by_added : (added : Option Entry) → (line_answer begin before line).added ≡ added → Retells (before ++ entries_of added) (entries_added (turns_of begin (before ++ entries_of added) lines))
          → Retells before (entries_of added ++ entries_added (turns_of begin (before ++ entries_of added) lines))
      by_added None e rest = subst (λ b. Retells b (entries_added (turns_of begin (before ++ []) lines))) (append-nil before) rest
      by_added (Some entry) e rest = (ap (λ a. a.added) (entries_are_told_again begin before line entry e) ∙ e, rest)

  -- ---- the session over the text of a history

  text_line : (line rest : List ℕ) → is_text line ≡ true → lines_of (line ++ 10 ∷ rest) ≡ line ∷ lines_of rest
  text_line [] rest h = refl
  text_line (byte ∷ line) rest h =
      let b = both_of (nat_le 32 byte && nat_le byte 126) (is_text line) h in
      let low = leb-true 32 byte (both_of (nat_le 32 byte) (nat_le byte 126) b.0).0 in
      let e : (byte == 10) ≡ false = grind arith in
      ap (λ t. cond t ([] ∷ lines_of (line ++ 10 ∷ rest)) (with_front byte (lines_of (line ++ 10 ∷ rest)))) e ∙ ap (with_front byte) (text_line line rest b.1)

  lines_are : (before entries : List Entry) → Retells before entries → lines_of (history_text begin.track entries) ≡ map (entry_line begin.track) entries
  unfolding Retells
  lines_are before [] are = refl
  lines_are before (entry ∷ entries) are =
      let line = entry_line begin.track entry in
      let rest = history_text begin.track entries in
      let said = sayable begin before entry line (leads begin before entry line are.0) in
      ap lines_of (append_assoc line (10 ∷ []) rest)
      ∙ text_line line rest (said_is_text (entry_request begin.track entry) said)
      ∙ ap (λ lines. line ∷ lines) (lines_are (before ++ entry ∷ []) entries are.1)

  each_adds : (before entries : List Entry) → Retells before entries → map (λ turn. turn.added) (turns_of begin before (map (entry_line begin.track) entries)) ≡ map Some entries
  unfolding Retells turns_of
  each_adds before [] are = refl
  each_adds before (entry ∷ entries) are =
      ap₂ (λ (added : Option Entry) later. added ∷ later) are.0
      (ap (λ added. map (λ turn. turn.added) (turns_of begin (before ++ entries_of added) (map (entry_line begin.track) entries))) are.0 ∙ each_adds (before ++ entry ∷ []) entries are.1)

added_of : (turns : List Turn) (entries : List Entry) → map (λ turn. turn.added) turns ≡ map Some entries → entries_added turns ≡ entries
added_of turns entries h = as_map turns ∙ ap (flat_map entries_of) h ∙ of_some entries
  where
    as_map : (turns : List Turn) → entries_added turns ≡ flat_map entries_of (map (λ turn. turn.added) turns)
    as_map [] = refl
    as_map (turn ∷ turns) = ap (λ rest. entries_of turn.added ++ rest) (as_map turns)

    of_some : (entries : List Entry) → flat_map entries_of (map Some entries) ≡ entries
    of_some [] = refl
    of_some (entry ∷ entries) = ap (λ rest. entry ∷ rest) (of_some entries)

its_session : (begin : Beginning) (entries : List Entry) → Retells begin [] entries → IsItsSession begin entries
its_session begin entries are =
    let each : map (λ turn. turn.added) (turns_of begin [] (lines_of (history_text begin.track entries))) ≡ map Some entries =
    ap (λ lines. map (λ turn. turn.added) (turns_of begin [] lines)) (lines_are begin [] entries are) ∙ each_adds begin [] entries are in
    record { each = each; all = added_of (turns_of begin [] (lines_of (history_text begin.track entries))) entries each }

pub retold_histories_are_sessions : RetoldHistoriesAreSessions
retold_histories_are_sessions begin entries retold = its_session begin entries (from_each begin [] entries retold)

pub sessions_are_retold : SessionsAreRetold
sessions_are_retold begin before after input old new result form session retold =
    let a = sessions_are_answered begin before after input old new result form session in
    let turns = heard begin.track session.turns in
    let added : Retells begin before (entries_added turns) =
    subst (λ ts. Retells begin before (entries_added ts)) (sym a.turns_are) (turns_retell begin before (lines_treated turns)) in
    subst (IsRetold begin) (sym a.entries) (to_each begin [] (before ++ entries_added turns) (behind_retold begin [] before (entries_added turns) (from_each begin [] before retold) added))

pub histories_are_sessions : HistoriesAreSessions
histories_are_sessions begin input = its_session begin (entries_added (turns_of begin [] (lines_of input))) (turns_retell begin [] (lines_of input))
