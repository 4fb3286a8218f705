-- The lines of a history, told one after the other.
use Rattle.std.proofs.Common.{◌≡◌, ℕ, zero, suc, ◌+◌, ◌<◌, ◌≤◌, List, [], ◌∷◌, ◌++◌, length, take, drop, drop-cons, Option, Some, None, add-one, refl, sym, ap, ◌∙◌, arith}
use Rattle.std.proofs.lemmas.List.{append-nil, append_assoc, at_drop_all}
use Rattle.std.proofs.lemmas.Option.{get_or_from_slice_get, none-some, slice_get_within}
use Rattle.std.specs.Prelude.{option_map, slice_get}
use Rattle.rbc_model.specs.declared.reports.Event.{Event}
use Rattle.rbc_model.specs.Histories.{Entry, Granted, Heard, event_of}
use Rattle.rbc_model.specs.HistoryText.{entry_request, history_text}
use Rattle.rbc_model.specs.Tracks.{Track}
use Rattle.rbc_desk.specs.Records.{HistoryOnTrack}
use Rattle.rbc_page.specs.Histories.{IsLineOf, event_request, lines_between, request_line}

-- what leads to an entry leads to its event
request_of_entry : (track : Track) (entry : Entry) → entry_request track entry ≡ event_request track (event_of entry)
request_of_entry track (Heard told) = refl
request_of_entry track (Granted grant) = refl

some_same : (a b : Event) → Some a ≡ Some b → a ≡ b
some_same a b is = cc

-- the text from a place on begins with the line of the event there
text_at : (track : Track) (entries : List Entry) (place : ℕ) (event : Event) → option_map event_of (slice_get entries place) ≡ Some event
    → history_text track (drop place entries) ≡ request_line (event_request track event) ++ history_text track (drop (place + 1) entries)
text_at track entries place event there = by_entry (slice_get entries place) refl
  where
    rest : List ℕ
    rest = history_text track (drop (place + 1) entries)

    by_entry : (o : Option Entry) → slice_get entries place ≡ o → history_text track (drop place entries) ≡ request_line (event_request track event) ++ rest
    by_entry None gone = absurd (none-some event (sym (ap (option_map event_of) gone) ∙ there))
    by_entry (Some entry) here =
        let same : event_of entry ≡ event = some_same (event_of entry) event (sym (ap (option_map event_of) here) ∙ there) in
        ap (history_text track) (drop-cons entries place entry (slice_get_within entries place entry here))
        ∙ ap (λ e. request_line (entry_request track e) ++ history_text track (drop (suc place) entries)) (get_or_from_slice_get entries place entry entry here)
        ∙ ap (λ i. request_line (entry_request track entry) ++ history_text track (drop i entries)) (sym (add-one place))
        ∙ ap (λ r. request_line r ++ rest) (request_of_entry track entry ∙ ap (event_request track) same)

-- what stands at a place stands there in the first entries, if these are more
in_first : {X : Type 0} (end : ℕ) (xs : List X) (place : ℕ) → place < end → slice_get (take end xs) place ≡ slice_get xs place
in_first zero xs place below = absurd (omega (arith, below))
in_first (suc end) [] place below = refl
in_first (suc end) (x ∷ xs) zero below = refl
in_first (suc end) (x ∷ xs) (suc place) below = in_first end xs place (omega (arith, below))

first_few : {X : Type 0} (end : ℕ) (xs : List X) → length (take end xs) ≤ end
first_few zero xs = omega arith
first_few (suc end) [] = omega arith
first_few (suc end) (x ∷ xs) = let fewer = first_few end xs in omega (arith, fewer)

-- one line more
pub line_told : (track : Track) (history : HistoryOnTrack) (place end : ℕ) (old new : List ℕ) → track ≡ history.track → place < end → IsLineOf track history place old new
    → new ++ lines_between history (place + 1) end ≡ old ++ lines_between history place end
unfolding lines_between
line_told track history place end old new on below is =
    let first = take end history.entries in
    let line = request_line (event_request track is.0) in
    let rest = history_text history.track (drop (place + 1) first) in
    ap (λ text. text ++ rest) is.2
    ∙ append_assoc old line rest
    ∙ ap (λ t. old ++ (request_line (event_request t is.0) ++ rest)) on
    ∙ ap (λ text. old ++ text) (sym (text_at history.track first place is.0 (ap (option_map event_of) (in_first end history.entries place below) ∙ is.1)))

-- all of them
pub lines_told : (history : HistoryOnTrack) (place end : ℕ) (text whole : List ℕ) → end ≤ place → text ++ lines_between history place end ≡ whole → text ≡ whole
unfolding lines_between
lines_told history place end text whole over is =
    let short = first_few end history.entries in
    sym (append-nil text) ∙ ap (λ rest. text ++ rest) (sym (at_drop_all (history_text history.track) (take end history.entries) place (omega (arith, short, over)))) ∙ is
