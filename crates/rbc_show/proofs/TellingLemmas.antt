-- Lines that are told, each with its reply and with the scene that it leads to.
use Rattle.std.proofs.Common.{◌≡◌, ◌≢◌, ℕ, suc, ◌+◌, ◌≤◌, ◌<◌, Bool, true, false, cond, inl, inr, List, [], ◌∷◌, ◌++◌, length, Option, Some, None, Result, Ok, Err, refl, sym, ap, ap₂, ◌∙◌, subst, append_assoc, append-nil, arith}
use Rattle.std.specs.Prelude.{codes, decimal}
use Rattle.std.specs.Io.KnownBytes.{Appends, Consumes, IsAtEnd, Keeps}
use Rattle.std.specs.List.{AllByRecursion}
use Rattle.std.proofs.KnownBytes.{Appends-kept, Appends-trans}
use Rattle.std.proofs.Math.Nat.{min-eq_left}
use Rattle.std.proofs.lemmas.List.Elements.{recursion_from_All}
use Rattle.std.proofs.lemmas.Bool.{both_ways}
use Rattle.rbc_sessions.specs.Records.{begin_of}
use Rattle.rbc_model.specs.declared.limits.TheConstants.{LONGEST_LINE}
use Rattle.rbc_model.specs.Histories.{Beginning, Entry, replay}
use Rattle.rbc_model.specs.SessionReply.{SessionRefusal, Memory, refused_reply}
use Rattle.rbc_model.specs.Sessions.{lines_of}
use Rattle.rbc_model.specs.SoundTracks.{IsInForm}
use Rattle.rbc_model.specs.Talks.{Answered, IsTalk}
use Rattle.rbc_model.specs.TrackLines.{track_lines}
use Rattle.rbc_model.specs.Tracks.{Track}
use Rattle.rbc_model.specs.Rows.{Row, rows_text}
use Rattle.rbc_model.specs.Scenes.{Scene}
use Rattle.rbc_model.specs.SceneLines.{scene_lines, scene_body}
use Rattle.rbc_model.specs.Words.{line_of, without_return}
use Rattle.rbc_session_laws.specs.declared.command.Command.{Command}
use Rattle.rbc_session_laws.specs.declared.command.Command.TheVariants.{Nothing, Event, Authority, Show}
use Rattle.rbc_session_laws.specs.Answers.{line_answer}
use Rattle.rbc_session_laws.specs.Commands.{command_in}
use Rattle.rbc_session_laws.specs.Laws.{SaysNoMemory}
use Rattle.rbc_session_laws.specs.SessionRuns.{entries_of}
use Rattle.rbc_session_laws.specs.Turns.{AnswersCommand, AnswersLine}
use Rattle.rbc_session_laws.proofs.LineLemmas.{lines_are_answered}
use Rattle.rbc_session_laws.proofs.TextLemmas.{EndsLine, IsWhole, IsNotMemory, all_of_both, ends_behind, line_ends, lines_of-whole, not_memory, reply_whole}
use Rattle.rbc_show.specs.declared.each.Telling.{Telling}
use Rattle.rbc_show.specs.Showing.{scene_text, change_text, request_text, has_reply, told_text, lines_text, each_text, ShowsEach, IsTold, TellsLine, next_number}
use Rattle.rbc_show.proofs.EndLemmas.{of_input}

-- a line that is too long is not told
pub too_long : (before after : Telling) (line text : List ℕ) → before.lost ≡ false → after.lost ≡ false → LONGEST_LINE < length line → TellsLine before line text after
too_long before after line text whole kept long = (whole, inr (kept, λ short. absurd (omega (arith, long, short))))

-- a line that was told, unless memory was refused for its scene
pub line_told : (before after : Telling) (line text reply : List ℕ) (added : Option Entry) → before.lost ≡ false → after.lost ≡ before.lost
    → AnswersLine (begin_of before.history) before.history.entries line reply added → begin_of after.history ≡ begin_of before.history
    → after.history.entries ≡ before.history.entries ++ entries_of added → after.number ≡ next_number before.number
    → text ≡ told_text before.number (begin_of before.history) before.history.entries line reply added → TellsLine before line text after
line_told before after line text reply added whole kept answers begin entries number told =
    (whole, inr (kept ∙ whole, λ short. record { reply = reply; added = added; answers = answers; begin = begin; entries = entries; number = number; told = told }))

-- ---- whole lines

rows_behind : (rows more : List Row) → EndsLine (rows_text more) → EndsLine (rows_text (rows ++ more))
rows_behind [] more ends = ends
rows_behind (row ∷ rows) more ends = ends_behind (line_of row) (rows_text (rows ++ more)) (rows_behind rows more ends)

done_ends : EndsLine (rows_text ((codes "done" ∷ []) ∷ []))
done_ends = record { front = codes "done"; is = refl }

scene_ends : (track : Track) (version : ℕ) (scene : Scene) → EndsLine (scene_lines track version scene)
scene_ends track version scene = rows_behind ((codes "scene" ∷ decimal version ∷ []) ∷ scene_body track scene) ((codes "done" ∷ []) ∷ []) done_ends

whole_behind : (before text : List ℕ) → EndsLine before → IsWhole text → IsWhole (before ++ text)
whole_behind before text e (inl none) = inr (subst EndsLine (sym (append-nil before) ∙ ap (λ t. before ++ t) (sym none)) e)
whole_behind before text e (inr ends) = inr (ends_behind before text ends)

both_whole : (before text : List ℕ) → IsWhole before → IsWhole text → IsWhole (before ++ text)
both_whole before text (inl none) whole = subst (λ b. IsWhole (b ++ text)) (sym none) whole
both_whole before text (inr ends) whole = whole_behind before text ends whole

change_whole : (begin : Beginning) (before : List Entry) (added : Option Entry) → IsWhole (change_text begin before added)
change_whole begin before None = inl refl
change_whole begin before (Some entry) = inr (scene_ends begin.track (length (before ++ entry ∷ [])) (replay begin (before ++ entry ∷ [])))

request_ends : (number : ℕ) (line : List ℕ) → EndsLine (request_text number line)
request_ends number line = line_ends (codes "request" ∷ decimal number ∷ without_return line ∷ [])

split : (text more : List ℕ) → IsWhole text → AllByRecursion IsNotMemory (lines_of (text ++ more)) → AllByRecursion IsNotMemory (lines_of text) × AllByRecursion IsNotMemory (lines_of more)
split text more whole none = all_of_both (lines_of text) (lines_of more) (subst (AllByRecursion IsNotMemory) (lines_of-whole text more whole) none)

-- ---- one line

module _ (begin : Beginning) (before : List Entry) (request reply change : List ℕ) (added : Option Entry) (asks : EndsLine request) (whole : IsWhole reply) where
  within : AllByRecursion IsNotMemory (lines_of (request ++ (reply ++ change))) → reply ≢ refused_reply begin.track Memory
  within none = not_memory begin.track reply (split reply change whole (split request (reply ++ change) (inr asks) none).1).0

  -- where no line that is written says that memory was refused, the reply does not
  kept : (command : Result Command SessionRefusal) → AnswersCommand begin before reply added command
      → AllByRecursion IsNotMemory (lines_of (cond (has_reply command) (request ++ (reply ++ change)) [])) → reply ≢ refused_reply begin.track Memory
  kept (Ok Nothing) answers none = subst (λ r. r ≢ refused_reply begin.track Memory) (sym answers.0) (not_memory begin.track [] tt)
  kept (Ok (Event told)) answers none = within none
  kept (Ok (Authority train)) answers none = within none
  kept (Ok (Show inquiry)) answers none = within none
  kept (Err refusal) answers none = within none

told_whole : (number : ℕ) (begin : Beginning) (before : List Entry) (line reply : List ℕ) (added : Option Entry) → IsWhole reply → IsWhole (told_text number begin before line reply added)
told_whole number begin before line reply added whole = by_reply (has_reply (command_in begin.track line))
  where
    by_reply : (has : Bool) → IsWhole (cond has (request_text number line ++ (reply ++ change_text begin before added)) [])
    by_reply true = whole_behind (request_text number line) (reply ++ change_text begin before added) (request_ends number line)
        (both_whole reply (change_text begin before added) whole (change_whole begin before added))
    by_reply false = inl refl

-- what a line was answered is the answer to it
answer_is : (number : ℕ) (begin : Beginning) (before : List Entry) (line reply : List ℕ) (added : Option Entry) → IsInForm begin.track → AnswersLine begin before line reply added
    → AllByRecursion IsNotMemory (lines_of (told_text number begin before line reply added)) → (reply ≡ (line_answer begin before line).reply) × (added ≡ (line_answer begin before line).added)
answer_is number begin before line reply added form answers none =
    lines_are_answered begin before line reply added form answers
    (kept begin before (request_text number line) reply (change_text begin before added) added (request_ends number line) (reply_whole begin before line reply added answers) (command_in begin.track line) answers none)

-- ---- lines

never_lost : (first last : Telling) (lines : List (List ℕ)) (text : List ℕ) → Answered TellsLine first lines text last → last.lost ≡ false → first.lost ≡ false
never_lost first last [] text (none, same) whole = ap (λ (s : Telling). s.lost) (sym same) ∙ whole
never_lost first last (line ∷ lines) text (reply, rest, next, answers, cut, later) whole = answers.0

-- one line more
module _ (first next : Telling) (line : List ℕ) (lines : List (List ℕ)) (told rest text : List ℕ) (is : IsTold first line told next) (cut : text ≡ told ++ rest)
    (form : IsInForm first.history.track) (few : first.number + suc (length lines) ≤ 0xffff_ffff) (none : AllByRecursion IsNotMemory (lines_of text)) where
  abbrev begin : Beginning
  begin = begin_of first.history

  abbrev before : List Entry
  before = first.history.entries

  both : AllByRecursion IsNotMemory (lines_of told) × AllByRecursion IsNotMemory (lines_of rest)
  both = split told rest (subst IsWhole (sym is.told) (told_whole first.number begin before line is.reply is.added (reply_whole begin before line is.reply is.added is.answers)))
      (subst (λ t. AllByRecursion IsNotMemory (lines_of t)) cut none)

  answered : (is.reply ≡ (line_answer begin before line).reply) × (is.added ≡ (line_answer begin before line).added)
  answered = answer_is first.number begin before line is.reply is.added form is.answers (subst (λ t. AllByRecursion IsNotMemory (lines_of t)) is.told both.0)

  number : next.number ≡ first.number + 1
  number = is.number ∙ min-eq_left (let bound : first.number + 1 ≤ 0xffff_ffff = omega (arith, few) in bound)

  entries : next.history.entries ≡ before ++ entries_of (line_answer begin before line).added
  entries = is.entries ∙ ap (λ added. before ++ entries_of added) answered.1

  more : rest ≡ lines_text next.number (begin_of next.history) next.history.entries lines → text ≡ lines_text first.number begin before (line ∷ lines)
  more later =
      cut
      ∙ ap₂ (λ (a b : List ℕ). a ++ b)
      (is.told ∙ ap₂ (λ reply added. told_text first.number begin before line reply added) answered.0 answered.1)
      (later ∙ (let same : lines_text next.number (begin_of next.history) next.history.entries lines
      ≡ lines_text (first.number + 1) begin (before ++ entries_of (line_answer begin before line).added) lines = λ j. lines_text (number j) (is.begin j) (entries j) lines in same))

lines_told : (first last : Telling) (lines : List (List ℕ)) (text : List ℕ) → AllByRecursion (λ line. length line ≤ LONGEST_LINE) lines → Answered TellsLine first lines text last → last.lost ≡ false
    → IsInForm first.history.track → first.number + length lines ≤ 0xffff_ffff → AllByRecursion IsNotMemory (lines_of text)
    → text ≡ lines_text first.number (begin_of first.history) first.history.entries lines
lines_told first last [] text short (nothing, same) whole form few none = nothing
lines_told first last (line ∷ lines) text short (told, rest, next, (going, inl gone), cut, later) whole form few none =
    absurd (both_ways next.lost (never_lost next last lines rest later whole) gone)
lines_told first last (line ∷ lines) text short (told, rest, next, (going, inr here), cut, later) whole form few none =
    let is = here.1 short.0 in
    more first next line lines told rest text is cut form few none
    (lines_told next last lines rest short.1 later whole
    (subst (λ (b : Beginning). IsInForm b.track) (sym is.begin) form)
    (let bound : next.number + length lines ≤ 0xffff_ffff = subst (λ n. n + length lines ≤ 0xffff_ffff) (sym (number first next line lines told rest text is cut form few none)) (omega (arith, few)) in bound)
    (both first next line lines told rest text is cut form few none).1)

-- ---- the track, the scene and the lines
module _ (left_before left_after old headed between new : Option (List ℕ)) (first last : Telling) (whole : last.lost ≡ false) (form : IsInForm first.history.track) (one : first.number ≡ 1)
    (read : List ℕ) (end : IsAtEnd left_after) (taken : Consumes left_before left_after read)
    (opens : Appends old headed (track_lines first.history.track ++ scene_text (begin_of first.history) first.history.entries))
    (talk : IsTalk LONGEST_LINE TellsLine first last read headed between (Ok tt)) (handed : Keeps between new) where
  abbrev head : List ℕ
  head = track_lines first.history.track ++ scene_text (begin_of first.history) first.history.entries

  head_ends : EndsLine head
  head_ends = ends_behind (track_lines first.history.track) (scene_text (begin_of first.history) first.history.entries)
      (scene_ends first.history.track (length first.history.entries) (replay (begin_of first.history) first.history.entries))

  abbrev all : List ℕ
  all = head ++ talk.text

  wrote : Appends old new all
  wrote = Appends-kept old between new all (Appends-trans old headed between head talk.text opens talk.ends.0) handed

  of_read : SaysNoMemory all → all ≡ each_text (begin_of first.history) first.history.entries read
  of_read says =
      let track = first.history.track in
      let begin = begin_of first.history in
      let before = first.history.entries in
      let none = split head talk.text (inr head_ends) (recursion_from_All IsNotMemory (lines_of all) says) in
      let lines : talk.treated ≡ lines_of read = sym (talk.lines ∙ ap (λ r. talk.treated ++ r) talk.ends.2 ∙ append-nil talk.treated) in
      let few : first.number + length talk.treated ≤ 0xffff_ffff = subst (λ n. n + length talk.treated ≤ 0xffff_ffff) (sym one) (omega (arith, talk.few)) in
      let told = lines_told first last talk.treated talk.text (recursion_from_All (λ line. length line ≤ LONGEST_LINE) talk.treated talk.ends.1) talk.answered whole form few none.1 in
      ap (λ t. head ++ t) (told ∙ ap₂ (λ n ls. lines_text n begin before ls) one lines)
      ∙ append_assoc (track_lines track) (scene_text begin before) (lines_text 1 begin before (lines_of read))

  pub is_shown : ShowsEach (each_text (begin_of first.history) first.history.entries) left_before old new
  is_shown = λ input left.
      of_input (λ i. (text : List ℕ) × Appends old new text × (SaysNoMemory text → text ≡ each_text (begin_of first.history) first.history.entries i))
      left_before left_after read input taken end (all, wrote, of_read) left
