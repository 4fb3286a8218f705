-- The lines of entries, printed one behind another.
use Rattle.std.proofs.Common.{◌≡◌, ℕ, Some, suc, ◌<◌, ◌≤◌, ◌+◌, List, [], ◌++◌, drop, drop-cons, get_or, length, map, add-one, refl, sym, ap, ◌∙◌}
use Rattle.std.specs.Prelude.{option_map, slice_get}
use Rattle.std.proofs.lemmas.List.{at_drop_all}
use Rattle.std.proofs.lemmas.Option.{slice_get-map, slice_get_read}
use Rattle.rbc_model.specs.Tracks.{Track}
use Rattle.rbc_model.specs.Histories.{Entry}
use Rattle.rbc_model.specs.HistoryText.{entry_request, history_text}
use Rattle.rbc_model.specs.SessionText.{said_words}
use Rattle.rbc_model.specs.Words.{line_of}
use Rattle.rbc_session_laws.specs.Retelling.{IsEntryOfTrack}

module _ {Held : Type 0} (entry_of : Held → Entry) (track : Track) (entries : List Held) (index : ℕ) where
  -- no entry is left
  pub lines-end : length entries ≤ index → history_text track (map entry_of (drop index entries)) ≡ []
  lines-end past = at_drop_all (λ es. history_text track (map entry_of es)) entries index past

  module _ (entry : Held) (inside : index < length entries) (same : entry ≡ get_or entries index entry) where
    -- the first of the lines that are left, and those behind it
    pub lines-next : history_text track (map entry_of (drop index entries))
        ≡ line_of (said_words (entry_request track (entry_of entry))) ++ history_text track (map entry_of (drop (index + 1) entries))
    lines-next =
        ap (λ es. history_text track (map entry_of es)) (drop-cons entries index entry inside)
        ∙ ap (λ e. line_of (said_words (entry_request track (entry_of e))) ++ history_text track (map entry_of (drop (suc index) entries))) (sym same)
        ∙ ap (λ i. line_of (said_words (entry_request track (entry_of entry))) ++ history_text track (map entry_of (drop i entries))) (sym (add-one index))

    -- it is of the track
    pub entry-of_track : ((place : ℕ) (e : Entry) → slice_get (map entry_of entries) place ≡ Some e → IsEntryOfTrack track e) → IsEntryOfTrack track (entry_of entry)
    entry-of_track of_track =
        of_track index (entry_of entry)
        (slice_get-map entry_of entries index ∙ ap (option_map entry_of) (slice_get_read entries (length entries) index entry refl inside same))
