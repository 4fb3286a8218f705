-- What a check wrote is what the function answers, where memory was not refused.
use Rattle.std.proofs.Common.{◌≡◌, ℕ, ◌≤◌, Bool, not, ◌||◌, List, [], ◌∷◌, ◌++◌, length, Option, Some, Result, Ok, Err, inl, inr, refl, ap, ap₂, sym, ◌∙◌, subst, append_assoc, append-nil, codes, decimal}
use Rattle.std.specs.List.{AllByRecursion}
use Rattle.std.proofs.KnownBytes.{Appends-trans}
use Rattle.std.proofs.lemmas.List.{append_cancel_left}
use Rattle.std.proofs.lemmas.List.Elements.{recursion_from_All}
use Rattle.std.proofs.Math.Bool.{not-not}
use Rattle.rbc_model.specs.declared.limits.TheConstants.{LONGEST_CHECK_LINE}
use Rattle.rbc_model.specs.declared.places.Format.{Format}
use Rattle.rbc_model.specs.declared.prices.Reason.{Reason}
use Rattle.rbc_model.specs.declared.prices.Reason.TheVariants.{Shape}
use Rattle.rbc_model.specs.declared.sessions.SessionFault.{SessionFault}
use Rattle.rbc_model.specs.Kinds.{Kind, speed_kind, grade_kind}
use Rattle.rbc_model.specs.Levels.{speed_levels, grade_levels}
use Rattle.rbc_model.specs.Sessions.{lines_of}
use Rattle.rbc_model.specs.Talks.{Answered, IsTalk}
use Rattle.rbc_model.specs.Words.{line_of}
use Rattle.rbc_model.specs.CheckText.{CheckLine, SpeedHead, GradeHead, ProfileLine, PriceLine, Bad, Other, check_line, opened, ended, speed_of, verdict_of, verdict_text, refusal_text, reason_words, block_text, memory_text, AnswersBlock, Checking, unchecked, LeavesOpen, AnswersCheck, EndsCheck, check_text}
use Rattle.rbc_model.proofs.BasicLemmas.{or_not-or_not}
use Rattle.rbc_session_laws.specs.CheckAnswers.{is_not_refused, are_certified, ChecksAreAnswered}
use Rattle.rbc_session_laws.proofs.TextLemmas.{IsWhole, line_ends, lines_of-whole, IsNotMemory, all_of_both, no_memory_line}

-- ---- what is said of a block

line_whole : (words : List (List ℕ)) → IsWhole (line_of words)
line_whole words = inr (line_ends words)

verdict_whole : {V : Type 0} (kind : Kind V) (told : ℕ) (verdict : Result (Unit {0}) Reason) → IsWhole (verdict_text kind told verdict)
verdict_whole kind told (Ok done) = line_whole (codes "certified" ∷ kind.command ∷ decimal told ∷ [])
verdict_whole kind told (Err reason) = line_whole (codes "refused" ∷ reason_words reason)

shape_whole : IsWhole (refusal_text Shape)
shape_whole = line_whole (codes "refused" ∷ reason_words Shape)

block_whole : (block : List CheckLine) → IsWhole (block_text block)
block_whole [] = inl refl
block_whole (SpeedHead request ∷ []) = shape_whole
block_whole (SpeedHead request ∷ ProfileLine steps told ∷ rows) = verdict_whole speed_kind told (verdict_of speed_levels speed_of request steps told rows)
block_whole (SpeedHead request ∷ SpeedHead other ∷ rows) = shape_whole
block_whole (SpeedHead request ∷ GradeHead other ∷ rows) = shape_whole
block_whole (SpeedHead request ∷ PriceLine j prices ∷ rows) = shape_whole
block_whole (SpeedHead request ∷ Bad part ∷ rows) = shape_whole
block_whole (SpeedHead request ∷ Other ∷ rows) = shape_whole
block_whole (GradeHead request ∷ []) = shape_whole
block_whole (GradeHead request ∷ ProfileLine steps told ∷ rows) = verdict_whole grade_kind told (verdict_of grade_levels (λ value. Some value) request steps told rows)
block_whole (GradeHead request ∷ SpeedHead other ∷ rows) = shape_whole
block_whole (GradeHead request ∷ GradeHead other ∷ rows) = shape_whole
block_whole (GradeHead request ∷ PriceLine j prices ∷ rows) = shape_whole
block_whole (GradeHead request ∷ Bad part ∷ rows) = shape_whole
block_whole (GradeHead request ∷ Other ∷ rows) = shape_whole
block_whole (ProfileLine steps told ∷ rows) = shape_whole
block_whole (PriceLine j prices ∷ rows) = shape_whole
block_whole (Bad part ∷ rows) = shape_whole
block_whole (Other ∷ rows) = shape_whole

memory_whole : IsWhole memory_text
memory_whole = line_whole (codes "refused" ∷ codes "Memory" ∷ [])

-- no line says that memory was refused
abbrev IsKept : List ℕ → Type 0
IsKept text = AllByRecursion IsNotMemory (lines_of text)

both_kept : (text more : List ℕ) → IsWhole text → IsKept (text ++ more) → IsKept text × IsKept more
both_kept text more whole kept = all_of_both (lines_of text) (lines_of more) (subst (AllByRecursion IsNotMemory) (lines_of-whole text more whole) kept)

memory_line : lines_of memory_text ≡ codes "refused Memory" ∷ []
memory_line = refl

no_memory : IsKept memory_text → ⊥
no_memory kept = no_memory_line (lines_of memory_text) memory_line kept

answer_whole : (block : List CheckLine) (reply : List ℕ) (refused : Bool) → AnswersBlock block reply refused → IsWhole reply
answer_whole [] reply refused h = inl h.0
answer_whole (line ∷ lines) reply refused (inl h) = subst IsWhole (sym h.0) (block_whole (line ∷ lines))
answer_whole (line ∷ lines) reply refused (inr h) = subst IsWhole (sym h.0) memory_whole

block_is : (block : List CheckLine) (reply : List ℕ) (refused : Bool) → AnswersBlock block reply refused → IsKept reply
    → (reply ≡ block_text block) × (refused ≡ not (is_not_refused block))
block_is [] reply refused h kept = h
block_is (line ∷ lines) reply refused (inl h) kept = h
block_is (line ∷ lines) reply refused (inr h) kept = absurd (no_memory (subst IsKept h.0 kept))

-- ---- a line

-- a block is open behind what is said, where memory was not refused for it
left_open : (block : List CheckLine) (refused : Bool) (said reply more : List ℕ) (after : Checking) → LeavesOpen block refused said reply after → IsWhole said → IsKept (reply ++ more)
    → (reply ≡ said) × (after ≡ record { block = block; refused = refused })
left_open block refused said reply more after (inl h) whole kept = h
left_open block refused said reply more after (inr (some, memory, same)) whole kept =
    let all : reply ++ more ≡ said ++ (memory_text ++ more) = ap (λ r. r ++ more) memory ∙ append_assoc said memory_text more in
    let behind = (both_kept said (memory_text ++ more) whole (subst IsKept all kept)).1 in
    absurd (no_memory (both_kept memory_text more memory_whole behind).0)

-- ---- a whole input

module _ (format : Format) (said : List ℕ) (bad : Bool) where
  answered : (first last : Checking) (lines : List (List ℕ)) (text : List ℕ) → AllByRecursion (λ line. length line ≤ LONGEST_CHECK_LINE) lines
      → Answered (AnswersCheck format) first lines text last → AnswersBlock last.block said bad → IsKept (text ++ said)
      → (text ++ said ≡ check_text format first.block lines) × ((last.refused || bad) ≡ (first.refused || not (are_certified format first.block lines)))
  answered first last [] text short (none, same) ends kept =
      let here = block_is first.block said bad (subst (λ (s : Checking). AnswersBlock s.block said bad) same ends) (subst (λ t. IsKept (t ++ said)) none kept) in
      (ap (λ t. t ++ said) none ∙ here.0, ap₂ (λ a b. a || b) (ap (λ (s : Checking). s.refused) same) here.1)
  answered first last (line ∷ lines) text short (reply, rest, next, answers, whole, later) ends kept =
      let read = check_line format line in
      let turn = answers.0 short.0 in
      let over = ended first.block read in
      let all : text ++ said ≡ reply ++ (rest ++ said) = ap (λ t. t ++ said) whole ∙ append_assoc reply rest said in
      let told = answer_whole over turn.0 turn.1 turn.2 in
      let left = left_open (opened first.block read) (first.refused || turn.1) turn.0 reply (rest ++ said) next turn.3 told (subst IsKept all kept) in
      let both = both_kept turn.0 (rest ++ said) told (subst IsKept (all ∙ ap (λ r. r ++ (rest ++ said)) left.0) kept) in
      let here = block_is over turn.0 turn.1 turn.2 both.0 in
      let more = answered next last lines rest short.1 later ends both.1 in (
        all ∙ ap₂ (λ a b. a ++ b) (left.0 ∙ here.0) (more.0 ∙ ap (λ (s : Checking). check_text format s.block lines) left.1),
        more.1
            ∙ ap (λ (s : Checking). s.refused || not (are_certified format s.block lines)) left.1
            ∙ ap (λ b. (first.refused || b) || not (are_certified format (opened first.block read) lines)) here.1
            ∙ or_not-or_not first.refused (is_not_refused over) (are_certified format (opened first.block read) lines),
      )

module _ (format : Format) (input old text : List ℕ) (all : Bool) (last : Checking) (between : Option (List ℕ)) (kept : IsKept text) where
  by_outcome : (outcome : Result (Unit {0}) SessionFault) → IsTalk LONGEST_CHECK_LINE (AnswersCheck format) unchecked last input (Some old) between outcome
      → EndsCheck last between (Some (old ++ text)) outcome (Ok all) → (text ≡ check_text format [] (lines_of input)) × (all ≡ are_certified format [] (lines_of input))
  by_outcome (Err fault) talk ends = cc
  by_outcome (Ok done) talk (said, bad, answers, (wrote, tells)) =
      let whole : text ≡ talk.text ++ said =
      append_cancel_left old text (talk.text ++ said) (Appends-trans (Some old) between (Some (old ++ text)) talk.text said talk.ends.0 wrote) in
      let lines : talk.treated ≡ lines_of input = sym (talk.lines ∙ ap (λ r. talk.treated ++ r) talk.ends.2 ∙ append-nil talk.treated) in
      let short = recursion_from_All (λ line. length line ≤ LONGEST_CHECK_LINE) talk.treated talk.ends.1 in
      let is = answered format said bad unchecked last talk.treated talk.text short talk.answered answers (subst IsKept whole kept) in (
        whole ∙ is.0 ∙ ap (check_text format []) lines,
        tells ∙ ap not is.1 ∙ not-not (are_certified format [] talk.treated) ∙ ap (are_certified format []) lines,
      )

pub checks_are_answered : ChecksAreAnswered
checks_are_answered format input old text all checked none =
    by_outcome format input old text all checked.last checked.between (recursion_from_All IsNotMemory (lines_of text) none) checked.outcome checked.talk checked.ends
