-- A record that follows lines, and the scene that they lead to.
use Rattle.std.proofs.Common.{◌≡◌, ℕ, ◌≤◌, ◌<◌, Bool, true, false, inl, inr, List, [], ◌∷◌, ◌++◌, length, Option, Ok, refl, sym, ap, ap₂, ◌∙◌, subst, append_assoc, append-nil, arith}
use Rattle.std.specs.Io.KnownBytes.{Appends, Consumes, IsAtEnd}
use Rattle.std.specs.List.{AllByRecursion}
use Rattle.std.proofs.KnownBytes.{Appends-trans}
use Rattle.std.proofs.lemmas.List.Elements.{recursion_from_All}
use Rattle.std.proofs.lemmas.Bool.{both_ways}
use Rattle.rbc_model.specs.declared.limits.TheConstants.{LONGEST_LINE}
use Rattle.rbc_model.specs.Histories.{Beginning, Entry}
use Rattle.rbc_model.specs.Sessions.{lines_of}
use Rattle.rbc_model.specs.Talks.{Answered, IsTalk}
use Rattle.rbc_model.specs.TrackLines.{track_lines}
use Rattle.rbc_session_laws.specs.Answers.{line_answer, turns_of, entries_after}
use Rattle.rbc_session_laws.specs.SessionRuns.{entries_of, entries_added}
use Rattle.rbc_journaled.specs.Adds.{Follows}
use Rattle.rbc_sessions.specs.Records.{begin_of, HistoryOnTrack}
use Rattle.rbc_show.specs.declared.last.Following.{Following}
use Rattle.rbc_show.specs.Showing.{scene_text, shown_text, Shows, IsFollowed, FollowsLine}
use Rattle.rbc_show.proofs.EndLemmas.{of_input}

-- the record has the entry that the line adds, if it adds one
followed_to : (before after : HistoryOnTrack) (line : List ℕ) (is_added : Bool) → Follows is_added before line after
    → (begin_of after ≡ begin_of before) × (after.entries ≡ before.entries ++ entries_of (line_answer (begin_of before) before.entries line).added)
followed_to before after line true (entry, adds, is) = (
  ap begin_of is,
  ap (λ (h : HistoryOnTrack). h.entries) is ∙ ap (λ added. before.entries ++ entries_of added) (sym adds),
)
followed_to before after line false (none, is) = (
  ap begin_of is,
  ap (λ (h : HistoryOnTrack). h.entries) is ∙ sym (append-nil before.entries) ∙ ap (λ added. before.entries ++ entries_of added) (sym none),
)

-- a line was followed
pub line_followed : (before after : Following) (line : List ℕ) (is_added : Bool) → before.lost ≡ false → Follows is_added before.history line after.history → after.lost ≡ before.lost
    → FollowsLine before line [] after
line_followed before after line is_added whole follows kept = (whole, inr (kept ∙ whole, λ short. record { followed = (is_added, follows); silent = refl }))

-- a line that is too long is not
pub too_long : (now : Following) (line : List ℕ) → now.lost ≡ false → LONGEST_LINE < length line → FollowsLine now line [] now
too_long now line whole long = (whole, inr (whole, λ short. absurd (omega (arith, long, short))))

-- ---- lines

-- behind a line the entries are those before it, with what it adds
added_on : (begin : Beginning) (before : List Entry) (line : List ℕ) (lines : List (List ℕ))
    → (before ++ entries_of (line_answer begin before line).added) ++ entries_added (turns_of begin (before ++ entries_of (line_answer begin before line).added) lines)
    ≡ before ++ entries_added (turns_of begin before (line ∷ lines))
unfolding turns_of
added_on begin before line lines =
    append_assoc before (entries_of (line_answer begin before line).added) (entries_added (turns_of begin (before ++ entries_of (line_answer begin before line).added) lines))

none_on : (begin : Beginning) (before : List Entry) → before ≡ before ++ entries_added (turns_of begin before [])
unfolding turns_of
none_on begin before = sym (append-nil before)

-- nothing was written, and the record has the entries that the lines add
record AreFollowed (first last : Following) (lines : List (List ℕ)) (text : List ℕ) : Type 0 where
  silent : text ≡ []
  begin : begin_of last.history ≡ begin_of first.history
  entries : last.history.entries ≡ first.history.entries ++ entries_added (turns_of (begin_of first.history) first.history.entries lines)

never_lost : (first last : Following) (lines : List (List ℕ)) (text : List ℕ) → Answered FollowsLine first lines text last → last.lost ≡ false → first.lost ≡ false
never_lost first last [] text (none, same) whole = ap (λ (s : Following). s.lost) (sym same) ∙ whole
never_lost first last (line ∷ lines) text (reply, rest, next, answers, cut, later) whole = answers.0

-- one line more
followed_behind : (first next last : Following) (line : List ℕ) (lines : List (List ℕ)) (reply rest text : List ℕ) → IsFollowed first line reply next → text ≡ reply ++ rest → AreFollowed next last lines rest
    → AreFollowed first last (line ∷ lines) text
followed_behind first next last line lines reply rest text followed cut later =
    let to = followed_to first.history next.history line followed.followed.0 followed.followed.1 in
    let begin = begin_of first.history in
    let before = first.history.entries in
    let same_entries : next.history.entries ++ entries_added (turns_of (begin_of next.history) next.history.entries lines)
    ≡ (before ++ entries_of (line_answer begin before line).added) ++ entries_added (turns_of begin (before ++ entries_of (line_answer begin before line).added) lines) =
    λ j. to.1 j ++ entries_added (turns_of (to.0 j) (to.1 j) lines) in
    record {
      silent = cut ∙ ap₂ (λ (a b : List ℕ). a ++ b) followed.silent later.silent;
      begin = later.begin ∙ to.0;
      entries = later.entries ∙ same_entries ∙ added_on begin before line lines;
    }

lines_followed : (first last : Following) (lines : List (List ℕ)) (text : List ℕ) → AllByRecursion (λ line. length line ≤ LONGEST_LINE) lines → Answered FollowsLine first lines text last
    → last.lost ≡ false → AreFollowed first last lines text
lines_followed first last [] text short (none, same) whole = record {
  silent = none;
  begin = ap (λ (s : Following). begin_of s.history) same;
  entries = ap (λ (s : Following). s.history.entries) same ∙ none_on (begin_of first.history) first.history.entries;
}
lines_followed first last (line ∷ lines) text short (reply, rest, next, (going, inl gone), cut, later) whole =
    absurd (both_ways next.lost (never_lost next last lines rest later whole) gone)
lines_followed first last (line ∷ lines) text short (reply, rest, next, (going, inr kept), cut, later) whole =
    followed_behind first next last line lines reply rest text (kept.1 short.0) cut (lines_followed next last lines rest short.1 later whole)

-- ---- the track, the lines and the scene
module _ (left_before left_after old headed between new : Option (List ℕ)) (first last : Following) (whole : last.lost ≡ false)
    (read : List ℕ) (end : IsAtEnd left_after) (taken : Consumes left_before left_after read) (opens : Appends old headed (track_lines first.history.track))
    (talk : IsTalk LONGEST_LINE FollowsLine first last read headed between (Ok tt))
    (closes : Appends between new (scene_text (begin_of last.history) last.history.entries)) where
  of_read : Appends old new (shown_text (begin_of first.history) first.history.entries read)
  of_read =
      let track = first.history.track in
      let begin = begin_of first.history in
      let before = first.history.entries in
      let closing : List ℕ = scene_text (begin_of last.history) last.history.entries in
      let all : List ℕ = (track_lines track ++ talk.text) ++ closing in
      let wrote : Appends old new all = Appends-trans old between new (track_lines track ++ talk.text) closing (Appends-trans old headed between (track_lines track) talk.text opens talk.ends.0) closes in
      let lines : talk.treated ≡ lines_of read = sym (talk.lines ∙ ap (λ r. talk.treated ++ r) talk.ends.2 ∙ append-nil talk.treated) in
      let followed = lines_followed first last talk.treated talk.text (recursion_from_All (λ line. length line ≤ LONGEST_LINE) talk.treated talk.ends.1) talk.answered whole in
      let after : last.history.entries ≡ entries_after begin before read = followed.entries ∙ ap (λ ls. before ++ entries_added (turns_of begin before ls)) lines in
      let ending : closing ≡ scene_text begin (entries_after begin before read) = λ j. scene_text (followed.begin j) (after j) in
      subst (Appends old new) (ap₂ (λ (a b : List ℕ). a ++ b) (ap (λ t. track_lines track ++ t) followed.silent ∙ append-nil (track_lines track)) ending) wrote

  pub is_shown : Shows (shown_text (begin_of first.history) first.history.entries) left_before old new
  is_shown = λ input left.
      of_input (λ i. Appends old new (shown_text (begin_of first.history) first.history.entries i)) left_before left_after read input taken end of_read left
