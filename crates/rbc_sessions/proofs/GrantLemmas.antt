-- What a sweep granted is kept, entry by entry.
use Rattle.std.proofs.Common.{◌≡◌, ℕ, ◌+◌, ◌<◌, Bool, true, false, cond, List, [], ◌∷◌, ◌++◌, length, take, get_or, Some, Result, Ok, Err, ◌⊎◌, inl, inr, sym, ap, ◌∙◌, subst, arith}
use Rattle.std.proofs.Math.Seq.{take-append_seam}
use Rattle.std.specs.Prelude.{All, IsPermutation, OnOk, slice_get}
use Rattle.std.proofs.lemmas.List.{get_or_read, take-take}
use Rattle.std.proofs.lemmas.List.Elements.{All-nil, All-append, All-contains, All-head, All-more, All-tail, All-weaker, Contains-append_left, Contains-push}
use Rattle.std.proofs.lemmas.List.Sorted.{Contains-permutation}
use Rattle.std.proofs.lemmas.Option.{slice_get_within}
use Rattle.rbc_model.specs.Histories.{Beginning, Entry, Granted as GrantedEntry, Grants, Receipt, is_full, replay}
use Rattle.rbc_model.specs.SessionReply.{Full as NoRoom}
use Rattle.rbc_model.specs.SessionText.{SessionLine, Ask}
use Rattle.rbc_model.specs.SoundTracks.{IsInForm}
use Rattle.rbc_model.specs.Views.{View, view}
use Rattle.rbc_model.proofs.BasicLemmas.{slice_get-from_take}
use Rattle.rbc_grant_laws.proofs.CandidateLemmas.{IsBest-candidate, view-train}
use Rattle.rbc_session_laws.specs.declared.command.Command.TheVariants.{Authority}
use Rattle.rbc_session_laws.specs.Answers.{asker_answer, command_answer, grant_answer, grant_of, refused}
use Rattle.rbc_session_laws.specs.Commands.{resolve}
use Rattle.rbc_session_laws.proofs.GrantLemmas.{the_grant}
use Rattle.rbc_sweep.specs.Asking.{IsAnswered}
use Rattle.rbc_sweep.specs.Granted.{Granted as Grant}
use Rattle.rbc_sweep.specs.Outcomes.{Begins, granted, receipts_of}
use Rattle.rbc_sweep.specs.Records.{begin_on, begin_of, HistoryOnTrack, history_on, with_entry}
use Rattle.rbc_sweep.specs.declared.outcome.Answer.TheVariants.{Granted}
use Rattle.rbc_sweep.specs.declared.outcome.Outcome.{Outcome}
use Rattle.rbc_sweep.proofs.AskingLemmas.{viewed}
use Rattle.rbc_sessions.specs.Keeping.{AddsEntry, HasAnswer, HasGrant, HasOutcome}
use Rattle.rbc_sessions.specs.Sittings.{AreKeptOf, HasRank, IsKeptAt}
use Rattle.rbc_sessions.specs.declared.grants.Rank.{Rank}
use Rattle.rbc_sessions.proofs.KeepingLemmas.{last_stands}

-- ---- the entry that was granted

-- a history that begins so has the entry too
adds_still : (a b : HistoryOnTrack) (place : ℕ) (said : SessionLine) → Begins a b → AddsEntry a place said → AddsEntry b place said
adds_still a b place said begins is =
    let n = length a.entries in
    let below = slice_get_within a.entries place is.entry is.stands in
    let first : take place b.entries ≡ take place a.entries =
    sym (take-take place n b.entries (omega (arith, below))) ∙ ap (λ l. take place l) begins.opening in
    let same : begin_of b ≡ begin_of a = λ i. begin_on (begins.track i) (begins.begin i) (begins.most i) in
    record {
      entry = is.entry;
      stands = slice_get-from_take n b.entries place is.entry (subst (λ l. slice_get l place ≡ Some is.entry) (sym begins.opening) is.stands);
      adds = subst (λ (begin : Beginning). (command_answer begin (take place b.entries) (resolve begin.track said)).added ≡ Some is.entry) (sym same)
          (subst (λ l. (command_answer (begin_of a) l (resolve a.track said)).added ≡ Some is.entry) (sym first) is.adds);
    }

-- where there is room, the one grant for what a train is shown is added
added_by : (begin : Beginning) (entries : List Entry) (shown : View) (full : Bool) (grant : Grants) (entry : Entry) → full ≡ false → grant ≡ grant_of shown → entry ≡ GrantedEntry grant
    → (cond full (refused begin entries NoRoom) (grant_answer begin entries shown)).added ≡ Some entry
added_by begin entries shown true grant entry free is of_grant = absurd (let c : ⊥ = cc in c)
added_by begin entries shown false grant entry free is of_grant = ap (λ e. Some e) (sym (of_grant ∙ ap (λ g. GrantedEntry g) is))

-- what a train is granted at a desk is what the centre adds for it
grant_added : (begin : Beginning) (entries : List Entry) (train : ℕ) (grant : Grant) → IsInForm begin.track → IsAnswered (history_on begin entries) train (Ok grant)
    → (command_answer begin entries (Ok (Authority train))).added ≡ Some grant.receipt.entry
grant_added begin entries train grant form is =
    let candidate = grant.candidate in
    let scene = replay begin entries in
    let shown = viewed (view begin.track scene train) (length entries) candidate.view is.1 in
    let best = is.4 in
    let chosen = is.5 in
    let one =
    the_grant begin.track scene train candidate.view candidate.grant form shown (best.train ∙ view-train begin.track scene train candidate.view shown)
    (IsBest-candidate begin.track scene train candidate.view candidate.grant form shown best) chosen.speeds chosen.grades in
    subst (λ r. (asker_answer begin entries train r).added ≡ Some grant.receipt.entry) (sym shown)
    (added_by begin entries candidate.view (is_full begin entries) candidate.grant grant.receipt.entry is.0 one is.3)

pub grant_adds : (history : HistoryOnTrack) (train : ℕ) (grant : Grant) → HasGrant history train grant → IsInForm history.track → AddsEntry history grant.receipt.place (Ask train)
grant_adds history train grant has form =
    let before = has.before in
    let begins = has.begins in
    let entry = grant.receipt.entry in
    let answered = has.answered in
    let adds = grant_added (begin_of before) before.entries train grant (subst IsInForm begins.track form) answered in
    let here : AddsEntry (with_entry before entry) (length before.entries) (Ask train) = record {
      entry = entry;
      stands = last_stands before.entries entry;
      adds = subst (λ b. (command_answer (begin_of before) b (resolve before.track (Ask train))).added ≡ Some entry) (sym (take-append_seam before.entries (entry ∷ []))) adds;
    } in
    subst (λ n. AddsEntry history n (Ask train)) (sym answered.2) (adds_still (with_entry before entry) history (length before.entries) (Ask train) begins here)

-- ---- rank by rank

-- one rank more
pub ranks_next : (ranks more : List Rank) (rank : Rank) (count : ℕ) → more ≡ ranks ++ rank ∷ [] → rank.number ≡ count → ((k : ℕ) → k < count → HasRank ranks k) → (k : ℕ) → k < count + 1 → HasRank more k
ranks_next ranks more rank count is here below k less = subst (λ (l : List Rank). HasRank l k) (sym is) (by (lower k less))
  where
    lower : (n : ℕ) → n < count + 1 → (n < count) ⊎ (n ≡ count)
    lower n l = grind arith

    by : (k < count) ⊎ (k ≡ count) → HasRank (ranks ++ rank ∷ []) k
    by (inl low) = let w = below k low in (w.0, Contains-append_left ranks (rank ∷ []) w.0 w.1, w.2)
    by (inr same) = (rank, Contains-push ranks rank, here ∙ sym same)

pub ranks_sorted : (ranks sorted : List Rank) (count : ℕ) → IsPermutation ranks sorted → ((k : ℕ) → k < count → HasRank ranks k) → (k : ℕ) → k < count → HasRank sorted k
ranks_sorted ranks sorted count same has k less = let w = has k less in (w.0, Contains-permutation ranks sorted w.0 same w.1, w.2)

-- what led to the entry that the outcome of a rank tells of is kept
abbrev pub IsKeptRank : (ℕ → Type 0) → List Outcome → Rank → Type 0
IsKeptRank kept outcomes rank = IsKeptAt kept outcomes rank.number

still_kept : (before after : ℕ → Type 0) → ((n : ℕ) → before n → after n) → (outcome : Outcome) → AreKeptOf before outcome → AreKeptOf after outcome
still_kept before after stays outcome is =
    All-weaker (λ (r : Receipt). before r.place) (λ (r : Receipt). after r.place) (λ r k. stays r.place k) (receipts_of outcome.answer) is

pub kept_next : (before after : ℕ → Type 0) (outcomes : List Outcome) (ranks : List Rank) (index : ℕ) (d : Rank) → index < length ranks → ((n : ℕ) → before n → after n)
    → All (IsKeptRank before outcomes) (take index ranks) → IsKeptRank after outcomes (get_or ranks index d) → All (IsKeptRank after outcomes) (take (index + 1) ranks)
kept_next before after outcomes ranks index d inside stays so_far here =
    All-more (IsKeptRank after outcomes) ranks index d inside
    (All-weaker (IsKeptRank before outcomes) (IsKeptRank after outcomes) (λ r is d within. still_kept before after stays (get_or outcomes r.number d) (is d within)) (take index ranks) so_far)
    here

granted_kept : (kept : ℕ → Type 0) (outcomes : List Outcome) → All (AreKeptOf kept) outcomes → All (λ (r : Receipt). kept r.place) (granted outcomes)
granted_kept kept [] is = All-nil (λ (r : Receipt). kept r.place)
granted_kept kept (o ∷ outcomes) is =
    All-append (λ (r : Receipt). kept r.place) (receipts_of o.answer) (granted outcomes) (All-head (AreKeptOf kept) o outcomes is) (granted_kept kept outcomes (All-tail (AreKeptOf kept) o outcomes is))

-- all of them, where each outcome has a rank
pub all_kept : (kept : ℕ → Type 0) (outcomes : List Outcome) (ranks : List Rank) → ((k : ℕ) → k < length outcomes → HasRank ranks k) → All (IsKeptRank kept outcomes) ranks
    → All (λ (r : Receipt). kept r.place) (granted outcomes)
all_kept kept outcomes ranks has is =
    granted_kept kept outcomes (λ k d inside.
    let w = has k inside in
    let here : IsKeptRank kept outcomes w.0 = All-contains (IsKeptRank kept outcomes) ranks w.0 is w.1 in
    subst (λ n. n < length outcomes → AreKeptOf kept (get_or outcomes n d)) w.2 (here d) inside)

-- ---- one outcome

-- the outcome with this number
pub kept_at : (kept : ℕ → Type 0) (outcomes : List Outcome) (number : ℕ) (outcome : Outcome) → number < length outcomes → outcome ≡ get_or outcomes number outcome → AreKeptOf kept outcome
    → IsKeptAt kept outcomes number
kept_at kept outcomes number outcome inside is k = λ d within. subst (AreKeptOf kept) (get_or_read outcomes number outcome within is d) k

pub kept_if_ok : {T E : Type 0} (kept : ℕ → Type 0) (outcomes : List Outcome) (number : ℕ) (outcome : Outcome) (r : Result T E) → number < length outcomes → outcome ≡ get_or outcomes number outcome
    → OnOk r (AreKeptOf kept outcome) → OnOk r (IsKeptAt kept outcomes number)
kept_if_ok kept outcomes number outcome (Ok x) inside is k = kept_at kept outcomes number outcome inside is k
kept_if_ok kept outcomes number outcome (Err e) inside is k = tt

-- what was granted is told
pub grant_told : (history : HistoryOnTrack) (outcome : Outcome) (grant : Grant) → outcome.answer ≡ Granted grant → HasOutcome history outcome → HasGrant history outcome.train grant
grant_told history outcome grant is has = subst (λ a. HasAnswer history outcome.train a) is has
