-- Outcomes of a sweep that are told one behind another.
use Rattle.std.proofs.Common.{◌≡◌, ℕ, ◌<◌, ◌≤◌, ◌+◌, List, [], ◌∷◌, ◌++◌, Option, Result, Ok, Err, refl, sym, ap, ◌∙◌, subst, take, get_or, length, append_assoc, arith}
use Rattle.std.specs.Prelude.{All, OnOk}
use Rattle.std.specs.Io.KnownBytes.{Appends}
use Rattle.std.proofs.KnownBytes.{Appends-trans}
use Rattle.std.proofs.lemmas.List.{append-nil, take_all, take_more}
use Rattle.std.proofs.lemmas.List.Elements.{All-weaker}
use Rattle.std.proofs.lemmas.Option.{get_or_from_slice_get, slice_get_within}
use Rattle.rbc_model.specs.Sessions.{WritesPart}
use Rattle.rbc_model.specs.SoundTracks.{IsSound}
use Rattle.rbc_model.specs.Tracks.{Track}
use Rattle.rbc_model.specs.Histories.{Beginning, Entry, replay}
use Rattle.rbc_model.specs.Views.{view}
use Rattle.rbc_model.specs.declared.limits.TheConstants.{MOST_ENTRIES}
use Rattle.rbc_sessions.specs.Records.{IsRight, begin_on, history_on}
use Rattle.rbc_sessions.specs.Seats.{Seated}
use Rattle.rbc_sessions.specs.Asking.{IsAnswered}
use Rattle.rbc_sessions.specs.Granted.{Granted as Grant}
use Rattle.rbc_sessions.specs.Replies.{ObstacleIsOfTrack}
use Rattle.rbc_sessions.specs.Outcomes.{IsToldToOne, asked}
use Rattle.rbc_sessions.specs.Answer.{Answer}
use Rattle.rbc_sessions.specs.Answer.TheVariants.{Granted, Blocked, Gone, Full, Memory}
use Rattle.rbc_sessions.specs.Outcome.{Outcome}
use Rattle.rbc_sessions.proofs.DeskAskingLemmas.{viewed}
use Rattle.rbc_server.specs.Serving.{TellsAll, TellsOutcome, IsTellable, AnswerIsTellable}
use Rattle.rbc_sessions.proofs.AskingLemmas.{shown_named}
use Rattle.rbc_sessions.proofs.SeatLemmas.{below_most, asked_blocked_named}

-- one outcome more is told behind those so far
tells_more : (track : Track) (outcomes : List Outcome) (outcome : Outcome) (text said : List ℕ) → TellsAll track outcomes text → TellsOutcome track outcome said
    → TellsAll track (outcomes ++ outcome ∷ []) (text ++ said)
tells_more track [] outcome text said none told = (said, [], told, refl, ap (λ t. t ++ said) none ∙ sym (append-nil said))
tells_more track (first ∷ outcomes) outcome text said (one, rest, told_one, told_rest, is) told =
    (one, rest ++ said, told_one, tells_more track outcomes outcome rest said told_rest told, ap (λ t. t ++ said) is ∙ append_assoc one rest said)

pub tells_next : (track : Track) (outcomes : List Outcome) (index : ℕ) (outcome : Outcome) → index < length outcomes → outcome ≡ get_or outcomes index outcome
    → (text said : List ℕ) → TellsAll track (take index outcomes) text → TellsOutcome track outcome said → TellsAll track (take (index + 1) outcomes) (text ++ said)
tells_next track outcomes index outcome inside same text said so_far told =
    let more : take (index + 1) outcomes ≡ take index outcomes ++ outcome ∷ [] =
    take_more outcomes index outcome inside ∙ ap (λ o. take index outcomes ++ o ∷ []) (sym same) in
    subst (λ os. TellsAll track os (text ++ said)) (sym more) (tells_more track (take index outcomes) outcome text said so_far told)

-- where no outcome is left, all are told
pub tells_all : (track : Track) (outcomes : List Outcome) (index : ℕ) → length outcomes ≤ index → (text : List ℕ) → TellsAll track (take index outcomes) text → TellsAll track outcomes text
tells_all track outcomes index past text told = subst (λ os. TellsAll track os text) (take_all index outcomes past) told

-- a part is written behind what was written
pub part_behind : (a b c : Option (List ℕ)) (text said : List ℕ) → Appends a b text → WritesPart b c said → WritesPart a c (text ++ said)
part_behind a b c text said before (part, rest, is, after) =
    (text ++ part, rest, ap (λ t. text ++ t) is ∙ sym (append_assoc text part rest), Appends-trans a b c text part before after)

pub on_ok : {T E : Type 0} (r : Result T E) (P : Type 0) → P → OnOk r P
on_ok (Ok x) P p = p
on_ok (Err e) P p = tt

-- ---- what the desk answers can be told with the track's names

grant_is_tellable : (begin : Beginning) (entries : List Entry) (train : ℕ) (grant : Grant) → IsRight (history_on begin entries) → IsSound begin.track → IsAnswered (history_on begin entries) train (Ok grant)
    → ObstacleIsOfTrack begin.track grant.candidate.view.obstacle × (grant.receipt.place < MOST_ENTRIES)
grant_is_tellable begin entries train grant right sound is = (
  shown_named (history_on begin entries) train grant.candidate.view right sound (viewed (view begin.track (replay begin entries) train) (length entries) grant.candidate.view is.1),
  (let r = right in let below = below_most begin.most (length entries) r.bounded is.0 in omega (arith, is.2, below)),
)

answer_is_tellable : (begin : Beginning) (entries : List Entry) (train : ℕ) (answer : Answer) → IsRight (history_on begin entries) → IsSound begin.track → IsAnswered (history_on begin entries) train (asked answer)
    → AnswerIsTellable begin.track answer
answer_is_tellable begin entries train (Granted grant) right sound is = grant_is_tellable begin entries train grant right sound is
answer_is_tellable begin entries train (Blocked obstacle at version) right sound is = asked_blocked_named begin entries train obstacle at version right sound is
answer_is_tellable begin entries train Gone right sound is = tt
answer_is_tellable begin entries train Full right sound is = tt
answer_is_tellable begin entries train Memory right sound is = tt

-- what one of the seats was told, where each was told of the track
outcome_is_tellable : (track : Track) (had has : List Seated) (outcome : Outcome) → IsSound track → All (λ (seat : Seated). seat.told.track ≡ track) had → IsToldToOne had has outcome
    → IsTellable track outcome
outcome_is_tellable track had has outcome sound on t =
    let told = t.told in
    let history = told.history in
    let later = told.later in
    let at : get_or had t.place t.before ≡ t.before = get_or_from_slice_get had t.place t.before t.before t.had_it in
    let here : t.before.told.track ≡ track = subst (λ (s : Seated). s.told.track ≡ track) at (on t.place t.before (slice_get_within had t.place t.before t.had_it)) in
    answer_is_tellable (begin_on track history.begin history.most) history.entries outcome.train outcome.answer
    (subst (λ t. IsRight (history_on (begin_on t history.begin history.most) history.entries)) (later.track ∙ here) later.right) sound
    (subst (λ t. IsAnswered (history_on (begin_on t history.begin history.most) history.entries) outcome.train (asked outcome.answer)) (later.track ∙ here) told.answered)

pub all_tellable : (track : Track) (had has : List Seated) (outcomes : List Outcome) → IsSound track → All (λ (seat : Seated). seat.told.track ≡ track) had → All (IsToldToOne had has) outcomes
    → All (IsTellable track) outcomes
all_tellable track had has outcomes sound on answered =
    All-weaker (IsToldToOne had has) (IsTellable track) (λ outcome is. outcome_is_tellable track had has outcome sound on is) outcomes answered
