-- A seat that is told what others were told.
use Rattle.std.proofs.Common.{◌≡◌, ℕ, ◌+◌, ◌<◌, List, [], ◌∷◌, ◌++◌, length, take, get_or, refl, sym, ap, ◌∙◌, subst, All}
use Rattle.std.proofs.lemmas.List.{take_more}
use Rattle.std.proofs.lemmas.List.Elements.{All-nil, All-push, All-weaker}
use Rattle.std.proofs.lemmas.Option.{get_or_from_slice_get, slice_get_within}
use Rattle.rbc_sessions.specs.Asking.{IsAnswered, after_answer}
use Rattle.rbc_sessions.specs.Later.{IsLater}
use Rattle.rbc_sessions.specs.Outcomes.{Begins, IsToldToOne, asked}
use Rattle.rbc_sessions.specs.Records.{HistoryOnTrack}
use Rattle.rbc_sessions.specs.Seats.{Seated}
use Rattle.rbc_sessions.specs.Answer.{Answer}
use Rattle.rbc_sessions.specs.Answer.TheVariants.{Granted, Blocked, Gone, Full, Memory}
use Rattle.rbc_sessions.specs.Outcome.{Outcome}
use Rattle.rbc_sessions.proofs.WorkLemmas.{begins_itself, begins_later, begins_still}
use Rattle.rbc_sessions.specs.Keeping.{HasAnswer, HasOutcome}
use Rattle.rbc_server.specs.Serving.{IsBrought}

-- before the first of the others
pub none_brought : (seat : Seated) → IsBrought [] seat seat
none_brought seat = record { receipts = refl; told = begins_itself seat.told; all = All-nil (λ (other : Seated). Begins other.told seat.told) }

-- the seat has heard one more
pub one_brought : (others : List Seated) (index : ℕ) (other had was has : Seated) → index < length others → other ≡ get_or others index other → IsBrought (take index others) had was
    → has.receipts ≡ was.receipts → IsLater was.told has.told → IsLater other.told has.told → IsBrought (take (index + 1) others) had has
one_brought others index other had was has inside same so_far receipts later heard =
    let kept : Begins was.told has.told = begins_later was.told has.told later in
    let before = All-weaker (λ (o : Seated). Begins o.told was.told) (λ (o : Seated). Begins o.told has.told) (λ o b. begins_still o.told was.told has.told b kept) (take index others) so_far.all in
    let here : take (index + 1) others ≡ take index others ++ other ∷ [] = take_more others index other inside ∙ ap (λ o. take index others ++ o ∷ []) (sym same) in
    record {
      receipts = receipts ∙ so_far.receipts;
      told = begins_still had.told was.told has.told so_far.told kept;
      all = subst (All (λ (o : Seated). Begins o.told has.told)) (sym here)
          (All-push (λ (o : Seated). Begins o.told has.told) (take index others) other before (begins_later other.told has.told heard));
    }

-- ---- what a sweep answered was told to the seat that heard its seats

answer_told : (before told : HistoryOnTrack) (train : ℕ) (answer : Answer) → Begins (after_answer before (asked answer)) told → IsAnswered before train (asked answer) → HasAnswer told train answer
answer_told before told train (Granted grant) begins answered = record { before = before; begins = begins; answered = answered }
answer_told before told train (Blocked obstacle at version) begins answered = tt
answer_told before told train Gone begins answered = tt
answer_told before told train Full begins answered = tt
answer_told before told train Memory begins answered = tt

outcome_told : (had has : List Seated) (was heard : Seated) (outcome : Outcome) → IsBrought has was heard → IsToldToOne had has outcome → HasOutcome heard.told outcome
outcome_told had has was heard outcome brought one =
    let told = one.told in
    let at : get_or has one.place one.after ≡ one.after = get_or_from_slice_get has one.place one.after one.after one.has_it in
    let here : Begins one.after.told heard.told =
    subst (λ (s : Seated). Begins s.told heard.told) at (brought.all one.place one.after (slice_get_within has one.place one.after one.has_it)) in
    answer_told told.history heard.told outcome.train outcome.answer
    (begins_still (after_answer told.history (asked outcome.answer)) one.after.told heard.told told.told here) told.answered

pub all_told : (had has : List Seated) (was heard : Seated) (outcomes : List Outcome) → IsBrought has was heard → All (IsToldToOne had has) outcomes → All (HasOutcome heard.told) outcomes
all_told had has was heard outcomes brought told =
    All-weaker (IsToldToOne had has) (HasOutcome heard.told) (λ outcome one. outcome_told had has was heard outcome brought one) outcomes told
