-- What a request adds, and what is printed once what led to an entry is kept.
use Rattle.std.proofs.Common.{◌≡◌, ℕ, ◌<◌, ◌+◌, Bool, true, false, cond, List, [], ◌∷◌, ◌++◌, get_or, length, take, Option, Some, Result, Ok, Err, refl, sym, ap, ◌∙◌, subst}
use Rattle.std.proofs.Math.Seq.{take-append_seam}
use Rattle.std.proofs.KnownBytes.{Appends-nil}
use Rattle.std.proofs.lemmas.List.Elements.{All-more, All-weaker}
use Rattle.std.proofs.lemmas.Option.{none-some}
use Rattle.std.specs.Prelude.{All, ◌||◌, is_err, slice_get}
use Rattle.std.specs.Io.KnownBytes.{Appends}
use Rattle.std.specs.Result.{result_map_both}
use Rattle.rbc_model.proofs.SaidLineLemmas.{said_line_read}
use Rattle.rbc_model.specs.declared.refusals.LineFault.{LineFault}
use Rattle.rbc_model.specs.Results.{◌>>=◌}
use Rattle.rbc_model.specs.Tracks.{Track}
use Rattle.rbc_model.specs.SoundTracks.{IsInForm}
use Rattle.rbc_model.specs.Histories.{Beginning, Entry, Receipt}
use Rattle.rbc_model.specs.Sessions.{Prints}
use Rattle.rbc_model.specs.SessionReply.{SessionRefusal, BadLine, Memory, refused_reply}
use Rattle.rbc_model.specs.SessionText.{SessionLine, IsSayable, parse_session, said_line}
use Rattle.rbc_sweep.specs.Records.{begin_of, HistoryOnTrack}
use Rattle.rbc_session_laws.specs.declared.command.Command.{Command}
use Rattle.rbc_session_laws.specs.Answers.{command_answer, line_answer}
use Rattle.rbc_session_laws.specs.Commands.{command_in, resolve}
use Rattle.rbc_session_laws.specs.Turns.{AnswersCommand}
use Rattle.rbc_session_laws.proofs.LineLemmas.{lines_are_answered, given_up_adds_none}
use Rattle.rbc_sessions.specs.Changes.{with_added}
use Rattle.rbc_sessions.specs.Keeping.{AddsEntry}
use Rattle.rbc_sessions.specs.SeatTurns.{IsAnsweredSince}

-- ---- what a request adds

-- what a line asks for is what it says, resolved
pub line_asks : (track : Track) (line : List ℕ) (said : SessionLine) → parse_session line ≡ Ok said → command_in track line ≡ resolve track said
line_asks track line said read = ap (λ r. result_map_both (λ x. x) BadLine r >>= resolve track) read

pub line_is_bad : (track : Track) (line : List ℕ) (fault : LineFault) → parse_session line ≡ Err fault → Err (BadLine fault) ≡ command_in track line
line_is_bad track line fault read = sym (ap (λ r. result_map_both (λ x. x) BadLine r >>= resolve track) read)

pub command_adds : (begin : Beginning) (before : List Entry) (said : SessionLine) (command : Result Command SessionRefusal) (reply : List ℕ) (entry : Entry) → IsInForm begin.track → IsSayable said
    → resolve begin.track said ≡ command → AnswersCommand begin before reply (Some entry) command → (command_answer begin before (resolve begin.track said)).added ≡ Some entry
unfolding line_answer
command_adds begin before said command reply entry form sayable is answers =
    let line = said_line said in
    let asks = line_asks begin.track line said (said_line_read said sayable) in
    let right = subst (λ d. AnswersCommand begin before reply (Some entry) d) (sym (asks ∙ is)) answers in
    let heard = λ (lost : reply ≡ refused_reply begin.track Memory). none-some entry (sym (given_up_adds_none begin before line reply (Some entry) right lost)) in
    let same = lines_are_answered begin before line reply (Some entry) form right heard in
    subst (λ d. (command_answer begin before d).added ≡ Some entry) asks (sym same.1)

pub last_stands : (entries : List Entry) (entry : Entry) → slice_get (entries ++ entry ∷ []) (length entries) ≡ Some entry
last_stands [] entry = refl
last_stands (e ∷ entries) entry = last_stands entries entry

-- what led to the entry that was answered for adds it
pub since_adds : (Answers : Beginning → List Entry → Option Entry → Type 0) (begun after : HistoryOnTrack) (receipt : Receipt) (said : SessionLine) (command : Result Command SessionRefusal) (reply : List ℕ)
    → (since : IsAnsweredSince Answers begun after (Some receipt)) → IsInForm begun.track → IsSayable said → resolve begun.track said ≡ command
    → ((begin : Beginning) (entries : List Entry) → Answers begin entries (Some receipt.entry) → AnswersCommand begin entries reply (Some receipt.entry) command)
    → AddsEntry after receipt.place said
since_adds Answers begun after receipt said command reply since form sayable is as_commanded =
    let before = since.before in
    let later = since.later in
    let entry = receipt.entry in
    let adds : (command_answer (begin_of before) before.entries (resolve before.track said)).added ≡ Some entry =
    command_adds (begin_of before) before.entries said command reply entry (subst IsInForm (sym later.track) form) sayable
    (ap (λ t. resolve t said) later.track ∙ is) (as_commanded (begin_of before) before.entries since.answered) in
    let here : AddsEntry (with_added before (Some entry)) (length before.entries) said = record {
      entry = entry;
      stands = last_stands before.entries entry;
      adds = subst (λ b. (command_answer (begin_of before) b (resolve before.track said)).added ≡ Some entry) (sym (take-append_seam before.entries (entry ∷ []))) adds;
    } in
    subst (λ n. AddsEntry after n said) (sym since.next) (subst (λ (h : HistoryOnTrack). AddsEntry h (length before.entries) said) (sym since.told) here)

-- ---- what is printed

module _ {E : Type 0} (old new : Option (List ℕ)) (writer_failed : Bool) (reply : List ℕ) (result : Result (Unit {0}) E) where
  pub prints_whole : (failed : Bool) → failed ≡ false → Prints old new writer_failed reply result → Prints old new (failed || writer_failed) reply result
  prints_whole true whole printed = absurd (let c : ⊥ = cc in c)
  prints_whole false whole printed = printed

prints_none : {E : Type 0} (old new : Option (List ℕ)) (result : Result (Unit {0}) E) → new ≡ old → is_err result ≡ true → Prints old new true [] result
prints_none old new (Ok done) same fails = absurd (let c : ⊥ = cc in c)
prints_none old new (Err fault) same fails =
    record { text = ([], [], refl, subst (λ w. Appends old w []) (sym same) (Appends-nil old)); failed = refl }

pub prints_said : {E : Type 0} (old new : Option (List ℕ)) (failed writer_failed : Bool) (reply : List ℕ) (result : Result (Unit {0}) E) → (failed ≡ false → Prints old new writer_failed reply result)
    → (failed ≡ true → (new ≡ old) × (is_err result ≡ true)) → Prints old new (failed || writer_failed) (cond failed [] reply) result
prints_said old new true writer_failed reply result said unsaid = let none = unsaid refl in prints_none old new result none.0 none.1
prints_said old new false writer_failed reply result said unsaid = said refl

-- ---- receipts, one by one

-- what led to the entry of one more is kept
pub places_next : (before after : ℕ → Type 0) (receipts : List Receipt) (index : ℕ) (one : Receipt) → index < length receipts → one ≡ get_or receipts index one → ((place : ℕ) → before place → after place)
    → All (λ (r : Receipt). before r.place) (take index receipts) → after one.place → All (λ (r : Receipt). after r.place) (take (index + 1) receipts)
places_next before after receipts index one inside is stays so_far here =
    All-more (λ (r : Receipt). after r.place) receipts index one inside
    (All-weaker (λ (r : Receipt). before r.place) (λ (r : Receipt). after r.place) (λ r k. stays r.place k) (take index receipts) so_far)
    (subst (λ (r : Receipt). after r.place) is here)
