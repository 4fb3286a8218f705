-- Lines and the entries that they add to the history of a centre.
use Rattle.std.proofs.Common.{◌≡◌, ℕ, zero, suc, ◌<◌, List, [], ◌∷◌, ◌++◌, length, Option, Some, None, Ok, sym, ap, ◌∙◌, subst, arith, append-nil, append_assoc}
use Rattle.std.specs.Prelude.{slice_get, take}
use Rattle.std.specs.Result.{result_map_both}
use Rattle.std.proofs.lemmas.List.{length-append}
use Rattle.std.proofs.lemmas.Option.{none-some, same_Some}
use Rattle.rbc_journal.specs.Journal.{recovered}
use Rattle.rbc_model.specs.Results.{◌>>=◌}
use Rattle.rbc_model.specs.SoundTracks.{IsInForm}
use Rattle.rbc_model.specs.Histories.{Beginning, Entry}
use Rattle.rbc_model.specs.HistoryText.{entry_line}
use Rattle.rbc_model.specs.SessionText.{SessionLine, parse_session}
use Rattle.rbc_model.specs.SessionReply.{BadLine, Memory, refused_reply}
use Rattle.rbc_sessions.specs.Changes.{Comes, Goes}
use Rattle.rbc_sessions.specs.Records.{history_on, begin_of, HistoryOnTrack, with_entry}
use Rattle.rbc_session_laws.specs.Commands.{resolve}
use Rattle.rbc_session_laws.specs.Turns.{AnswersLine}
use Rattle.rbc_session_laws.specs.Answers.{Answer, command_answer, line_answer}
use Rattle.rbc_session_laws.proofs.LineLemmas.{lines_are_answered, given_up_adds_none}
use Rattle.rbc_session_laws.proofs.RetellingLemmas.{entries_are_told_again}
use Rattle.rbc_journaled.specs.Adds.{Adds}
use Rattle.rbc_journaled.specs.Laws.{AreRetold}
use Rattle.rbc_journaled.specs.Tells.{Tells}

-- ---- a line that adds an entry

-- the entry that an answer adds is the one that the line adds
pub adds_of : (begin : Beginning) (before : List Entry) (line reply : List ℕ) (entry : Entry) → IsInForm begin.track → AnswersLine begin before line reply (Some entry) → Adds begin before line entry
adds_of begin before line reply entry form answers =
    let heard = λ (lost : reply ≡ refused_reply begin.track Memory). none-some entry (sym (given_up_adds_none begin before line reply (Some entry) answers lost)) in
    let is = lines_are_answered begin before line reply (Some entry) form answers heard in
    sym is.1

-- what says the same adds the same
pub same_adds : (begin : Beginning) (before : List Entry) (line text : List ℕ) (entry : Entry) → parse_session text ≡ parse_session line → Adds begin before line entry → Adds begin before text entry
unfolding line_answer
same_adds begin before line text entry says adds =
    ap (λ read. (command_answer begin before (result_map_both (λ said. said) BadLine read >>= resolve begin.track)).added) says ∙ adds

-- a line adds what the request in it does
pub adds_said : (begin : Beginning) (before : List Entry) (line : List ℕ) (said : SessionLine) (entry : Entry) → parse_session line ≡ Ok said
    → (command_answer begin before (resolve begin.track said)).added ≡ Some entry → Adds begin before line entry
unfolding line_answer
adds_said begin before line said entry read adds =
    ap (λ r. (command_answer begin before (result_map_both (λ x. x) BadLine r >>= resolve begin.track)).added) read ∙ adds

longer : (entries : List Entry) → length entries < length (entries ++ []) → ⊥
longer entries more = let same = length-append entries (let none : List Entry = [] in none) in absurd (omega (arith, more, same))

-- where there are more entries, the line has added one
pub grown : (before after : HistoryOnTrack) (line reply : List ℕ) → Goes before line reply after → length before.entries < length after.entries
    → (entry : Entry) × AnswersLine (begin_of before) before.entries line reply (Some entry) × (after ≡ with_entry before entry)
grown before after line reply (None, answers, is) more =
    absurd (longer before.entries (subst (λ (h : HistoryOnTrack). length before.entries < length h.entries) is more))
grown before after line reply (Some entry, answers, is) more = (entry, answers, is)

shorter : (entries : List Entry) (entry : Entry) → (length entries < length (entries ++ entry ∷ []) → ⊥) → ⊥
shorter entries entry no_more = let count = length-append entries (entry ∷ []) in no_more (omega (arith, count))

-- else it has added none
pub unchanged : (Answers : Beginning → List Entry → List ℕ → Option Entry → Type 0) (before after : HistoryOnTrack) (reply : List ℕ) → Comes Answers before reply after
    → (length before.entries < length after.entries → ⊥) → after ≡ before
unchanged Answers before after reply (None, answers, is) no_more = is ∙ ap (history_on (begin_of before)) (append-nil before.entries)
unchanged Answers before after reply (Some entry, answers, is) no_more =
    absurd (shorter before.entries entry (λ more. no_more (subst (λ (h : HistoryOnTrack). length before.entries < length h.entries) (sym is) more)))

pub not_grown : (before after : HistoryOnTrack) (line reply : List ℕ) → Goes before line reply after → (length before.entries < length after.entries → ⊥) → after ≡ before
not_grown before after line reply goes no_more = unchanged (λ begin entries said added. AnswersLine begin entries line said added) before after reply goes no_more

-- ---- what a file stands for is retold

module _ (begin : Beginning) where
  retold_behind : (before : List Entry) (lines : List (List ℕ)) (entries : List Entry) → Tells (Adds begin) before lines entries
      → (place : ℕ) (entry : Entry) → slice_get entries place ≡ Some entry → (line_answer begin (before ++ take place entries) (entry_line begin.track entry)).added ≡ Some entry
  retold_behind before [] entries told place entry here =
      absurd (none-some entry (subst (λ (l : List Entry). slice_get l place ≡ Some entry) told here))
  retold_behind before (line ∷ lines) entries (e, rest, is, adds, later) zero entry here =
      let found : slice_get (e ∷ rest) 0 ≡ Some entry = subst (λ (l : List Entry). slice_get l 0 ≡ Some entry) is here in
      let again : (line_answer begin before (entry_line begin.track e)).added ≡ Some e = ap (λ (a : Answer). a.added) (entries_are_told_again begin before line e adds) ∙ adds in
      subst (λ (l : List Entry). (line_answer begin (before ++ take 0 l) (entry_line begin.track entry)).added ≡ Some entry) (sym is)
      (subst (λ (x : Entry). (line_answer begin (before ++ []) (entry_line begin.track x)).added ≡ Some x) (same_Some e entry found)
      (subst (λ (b : List Entry). (line_answer begin b (entry_line begin.track e)).added ≡ Some e) (sym (append-nil before)) again))
  retold_behind before (line ∷ lines) entries (e, rest, is, adds, later) (suc place) entry here =
      let found : slice_get rest place ≡ Some entry = subst (λ (l : List Entry). slice_get l (suc place) ≡ Some entry) is here in
      subst (λ (l : List Entry). (line_answer begin (before ++ take (suc place) l) (entry_line begin.track entry)).added ≡ Some entry) (sym is)
      (subst (λ (b : List Entry). (line_answer begin b (entry_line begin.track entry)).added ≡ Some entry) (append_assoc before (e ∷ []) (take place rest))
      (retold_behind (before ++ e ∷ []) lines rest later place entry found))

pub are_retold : AreRetold
are_retold begin file entries told = retold_behind begin [] (recovered file) entries told
