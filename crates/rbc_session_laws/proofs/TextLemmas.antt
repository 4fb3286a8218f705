-- The lines of what a session writes are the lines of its replies, so each reply that says that memory was refused is seen in what was written.
use Rattle.std.proofs.Common.{◌≡◌, ◌≢◌, ℕ, ◌+◌, Bool, true, false, cond, List, [], ◌∷◌, ◌++◌, length, Option, Result, Ok, Err, ◌⊎◌, inl, inr, refl, ap, sym, ◌∙◌, subst, append_assoc, append-nil}
use Rattle.std.specs.Prelude.{MatchBool, MatchResult, ◌==◌, codes, decimal}
use Rattle.std.specs.Fmt.{signed_decimal}
use Rattle.std.specs.List.{AllByRecursion, join_with_byte}
use Rattle.rbc_model.specs.declared.refusals.Refusal.{Refusal}
use Rattle.rbc_model.specs.declared.refusals.Refusal.TheVariants.{UnknownTrain as NoSuchTrain}
use Rattle.rbc_model.specs.declared.refusals.ViewFault.{ViewFault}
use Rattle.rbc_model.specs.declared.refusals.ViewFault.TheVariants.{UnknownTrain, Blocked}
use Rattle.rbc_model.specs.declared.reports.Told.{Told}
use Rattle.rbc_model.specs.declared.sessions.Inquiry.{Inquiry}
use Rattle.rbc_model.specs.declared.sessions.Inquiry.TheVariants.{State as AskedState, Scene as AskedScene}
use Rattle.rbc_model.specs.declared.reports.Event.TheVariants.{Tell}
use Rattle.rbc_model.specs.Tracks.{Track}
use Rattle.rbc_model.specs.Scenes.{Scene}
use Rattle.rbc_model.specs.Events.{step}
use Rattle.rbc_model.specs.Views.{View, view}
use Rattle.rbc_model.specs.Histories.{Beginning, Entry, Grants, is_full, replay}
use Rattle.rbc_model.specs.Sessions.{lines_of, with_front}
use Rattle.rbc_model.specs.Words.{line_of, hex_of}
use Rattle.rbc_model.specs.Rows.{Row, rows_text}
use Rattle.rbc_model.specs.Inquiries.{locked_count}
use Rattle.rbc_model.specs.SceneLines.{scene_body}
use Rattle.rbc_model.specs.Kinds.{speed_kind, grade_kind}
use Rattle.rbc_model.specs.Messages.{message_bytes}
use Rattle.rbc_model.specs.StepsReply.{certificate}
use Rattle.rbc_model.specs.SessionReply.{SessionRefusal, BadEvent, Full, Memory, refusal_words, grant_reply, obstacle_words, refused_reply}
use Rattle.rbc_session_laws.specs.declared.command.Command.{Command}
use Rattle.rbc_session_laws.specs.declared.command.Command.TheVariants.{Nothing, Event, Authority, Show}
use Rattle.rbc_session_laws.specs.Commands.{command_in}
use Rattle.rbc_session_laws.specs.Turns.{IsRefused, IsToldInVain, IsAccepted, IsGranted, IsShown, AnswersAsker, AnswersCommand, AnswersInquiry, AnswersLine}

-- ---- the lines of two texts

-- the text is whole lines: it ends with a line feed, if it has a byte
pub record EndsLine (text : List ℕ) : Type 0 where
  pub front : List ℕ
  pub is : text ≡ front ++ 10 ∷ []

abbrev pub IsWhole : List ℕ → Type 0
IsWhole text = (text ≡ []) ⊎ EndsLine text

pub ends_behind : (before text : List ℕ) → EndsLine text → EndsLine (before ++ text)
ends_behind before text e = record { front = before ++ e.front; is = ap (λ t. before ++ t) e.is ∙ sym (append_assoc before e.front (10 ∷ [])) }

record HasLine (lines : List (List ℕ)) : Type 0 where
  line : List ℕ
  later : List (List ℕ)
  is : lines ≡ line ∷ later

first_line : (front : List ℕ) → HasLine (lines_of (front ++ 10 ∷ []))
first_line [] = record { line = []; later = []; is = refl }
first_line (byte ∷ front) = let rest = first_line front in by_test (byte == 10) (lines_of (front ++ 10 ∷ [])) rest
  where
    by_test : (b : Bool) (lines : List (List ℕ)) → HasLine lines → HasLine (cond b ([] ∷ lines) (with_front byte lines))
    by_test true lines l = record { line = []; later = lines; is = refl }
    by_test false lines l = record { line = byte ∷ l.line; later = l.later; is = ap (with_front byte) l.is }

front_of_first : (byte : ℕ) (lines more : List (List ℕ)) → HasLine lines → with_front byte (lines ++ more) ≡ with_front byte lines ++ more
front_of_first byte lines more l = rw l.is refl

-- whole lines, and then more
lines_then : (front more : List ℕ) → lines_of ((front ++ 10 ∷ []) ++ more) ≡ lines_of (front ++ 10 ∷ []) ++ lines_of more
lines_then [] more = refl
lines_then (byte ∷ front) more = by_test (byte == 10) (lines_of ((front ++ 10 ∷ []) ++ more)) (lines_of (front ++ 10 ∷ [])) (lines_then front more) (first_line front)
  where
    by_test : (b : Bool) (all lines : List (List ℕ)) → all ≡ lines ++ lines_of more → HasLine lines
        → cond b ([] ∷ all) (with_front byte all) ≡ cond b ([] ∷ lines) (with_front byte lines) ++ lines_of more
    by_test true all lines e l = ap (λ x. [] ∷ x) e
    by_test false all lines e l = ap (with_front byte) e ∙ front_of_first byte lines (lines_of more) l

pub lines_of-whole : (text more : List ℕ) → IsWhole text → lines_of (text ++ more) ≡ lines_of text ++ lines_of more
lines_of-whole text more (inl e) = rw e refl
lines_of-whole text more (inr e) = rw e.is (lines_then e.front more)

-- the line does not say that memory was refused
abbrev pub IsNotMemory : List ℕ → Type 0
IsNotMemory line = line ≢ codes "refused Memory"

-- where no line of two texts says so, none of either does
pub all_of_both : (xs ys : List (List ℕ)) → AllByRecursion IsNotMemory (xs ++ ys) → AllByRecursion IsNotMemory xs × AllByRecursion IsNotMemory ys
all_of_both [] ys h = (tt, h)
all_of_both (x ∷ xs) ys h = let rest = all_of_both xs ys h.1 in ((h.0, rest.0), rest.1)

-- ---- each reply is whole lines

pub line_ends : (words : List (List ℕ)) → EndsLine (line_of words)
line_ends words = record { front = join_with_byte 32 words; is = refl }

-- rows of text are whole lines
pub rows_whole : (rows : List Row) → IsWhole (rows_text rows)
rows_whole [] = inl refl
rows_whole (row ∷ rows) = inr (behind (rows_text rows) (rows_whole rows))
  where
    behind : (rest : List ℕ) → IsWhole rest → EndsLine (line_of row ++ rest)
    behind rest (inl e) = subst (λ text. EndsLine (line_of row ++ text)) (sym e) (subst EndsLine (sym (append-nil (line_of row))) (line_ends row))
    behind rest (inr e) = ends_behind (line_of row) rest e

module _ (begin : Beginning) (before : List Entry) (reply : List ℕ) (added : Option Entry) where
  ends : (text : List ℕ) → EndsLine text → reply ≡ text → IsWhole reply
  ends text e same = inr (subst EndsLine (sym same) e)

  refused_whole : (refusal : SessionRefusal) → IsRefused begin before reply added refusal → IsWhole reply
  refused_whole refusal h = ends (refused_reply begin.track refusal) (line_ends (codes "refused" ∷ refusal_words begin.track refusal)) h.0

  granted_ends : (version : ℕ) (shown : View) (grant : Grants) (speed_rows grade_rows : List (List ℕ)) → EndsLine (grant_reply begin.track version shown grant speed_rows grade_rows)
  granted_ends version shown grant speed_rows grade_rows =
      four
      (line_of (codes "granted" ∷ decimal grant.train ∷ decimal version ∷ signed_decimal grant.from ∷ decimal grant.authority.end ∷ obstacle_words begin.track grant.obstacle))
      (line_of (codes "message" ∷ hex_of (message_bytes grant.authority) ∷ []))
      (certificate speed_kind (record { limit = shown.speed_steps; runs = shown.speeds; end = grant.authority.end }) grant.authority.speeds speed_rows)
      (certificate grade_kind (record { limit = shown.grade_steps; runs = shown.grades; end = grant.authority.end }) grant.authority.grades grade_rows)
    where
      four : (a b c d : List ℕ) → EndsLine (a ++ b ++ c ++ d ++ line_of (codes "done" ∷ []))
      four a b c d = ends_behind (a ++ b ++ c ++ d) (line_of (codes "done" ∷ [])) (line_ends (codes "done" ∷ []))

  told_whole : (told : Told) (full : Bool) (after : Result Scene Refusal)
      → MatchBool full (IsRefused begin before reply added Full)
      (MatchResult after (λ _. IsAccepted begin before reply added told) (λ refusal. IsRefused begin before reply added (BadEvent refusal)) ⊎ IsToldInVain begin before reply added told)
      → IsWhole reply
  told_whole told true after h = refused_whole Full h
  told_whole told false (Ok after) (inl h) = ends (line_of (codes "ok" ∷ decimal (length before + 1) ∷ [])) (line_ends (codes "ok" ∷ decimal (length before + 1) ∷ [])) h.0
  told_whole told false (Err refusal) (inl h) = refused_whole (BadEvent refusal) h
  told_whole told false after (inr (h, needed)) = refused_whole Memory h

  asked_whole : (train : ℕ) (shown : View) (full : Bool) → MatchBool full (IsRefused begin before reply added Full) (IsGranted begin before reply added train shown) → IsWhole reply
  asked_whole train shown true h = refused_whole Full h
  asked_whole train shown false (grant, speed_rows, grade_rows, g, said, entry) =
      ends (grant_reply begin.track (length before + 1) shown grant speed_rows grade_rows) (granted_ends (length before + 1) shown grant speed_rows grade_rows) said

  asker_whole : (train : ℕ) (seen : Result View ViewFault) → AnswersAsker begin before reply added train seen → IsWhole reply
  asker_whole train (Ok shown) (inl h) = asked_whole train shown (is_full begin before) h
  asker_whole train (Ok shown) (inr h) = refused_whole Memory h
  asker_whole train (Err (Blocked obstacle at)) (inl h) =
      let words = codes "blocked" ∷ decimal train ∷ decimal (length before) ∷ signed_decimal at ∷ obstacle_words begin.track obstacle in
      ends (line_of words) (line_ends words) h.0
  asker_whole train (Err (Blocked obstacle at)) (inr h) = refused_whole Memory h
  asker_whole train (Err UnknownTrain) h = refused_whole (BadEvent (NoSuchTrain train)) h

  shown_whole : (inquiry : Inquiry) → IsShown begin before reply added inquiry → IsWhole reply
  shown_whole AskedState h =
      let scene = replay begin before in
      let words = codes "state" ∷ decimal (length before) ∷ decimal (length scene.trains) ∷ decimal (locked_count scene.locks) ∷ [] in
      ends (line_of words) (line_ends words) h.0
  shown_whole AskedScene h =
      let scene = replay begin before in
      subst IsWhole (sym h.0) (rows_whole ((codes "scene" ∷ decimal (length before) ∷ []) ∷ (scene_body begin.track scene ++ (codes "done" ∷ []) ∷ [])))

  inquiry_whole : (inquiry : Inquiry) → AnswersInquiry begin before reply added inquiry → IsWhole reply
  inquiry_whole AskedState h = shown_whole AskedState h
  inquiry_whole AskedScene (inl h) = shown_whole AskedScene h
  inquiry_whole AskedScene (inr h) = refused_whole Memory h

  command_whole : (command : Result Command SessionRefusal) → AnswersCommand begin before reply added command → IsWhole reply
  command_whole (Ok Nothing) h = inl h.0
  command_whole (Ok (Event told)) h = told_whole told (is_full begin before) (step begin.track (replay begin before) (Tell told)) h
  command_whole (Ok (Authority train)) h = asker_whole train (view begin.track (replay begin before) train) h
  command_whole (Ok (Show inquiry)) h = inquiry_whole inquiry h
  command_whole (Err refusal) h = refused_whole refusal h

pub reply_whole : (begin : Beginning) (before : List Entry) (line reply : List ℕ) (added : Option Entry) → AnswersLine begin before line reply added → IsWhole reply
reply_whole begin before line reply added h = command_whole begin before reply added (command_in begin.track line) h

-- ---- the reply that says that memory was refused

memory_line : (track : Track) → lines_of (refused_reply track Memory) ≡ codes "refused Memory" ∷ []
memory_line track = refl

pub no_memory_line : (lines : List (List ℕ)) → lines ≡ codes "refused Memory" ∷ [] → AllByRecursion IsNotMemory lines → ⊥
no_memory_line [] e h = cc
no_memory_line (line ∷ lines) e h = h.0 (let same : line ≡ codes "refused Memory" = cc in same)

pub not_memory : (track : Track) (reply : List ℕ) → AllByRecursion IsNotMemory (lines_of reply) → reply ≢ refused_reply track Memory
not_memory track reply h e = no_memory_line (lines_of reply) (ap lines_of e ∙ memory_line track) h
