-- The gate in front of a line changes nothing of what the line says: so a journal at rest is a session.
use Rattle.std.proofs.Common.{◌≡◌, ℕ, suc, ◌-◌, ◌<◌, ◌==◌, Bool, true, false, not, cond, List, [], ◌∷◌, ◌++◌, length, map, take, Option, Some, None, Result, Ok, Err, filter, refl, sym, ap, ap₂, ◌∙◌, subst, arith, nat_lt}
use Rattle.std.specs.Prelude.{slice_index}
use Rattle.std.proofs.lemmas.Bool.Decides.{nat_tests}
use Rattle.std.proofs.lemmas.List.{append-nil}
use Rattle.std.specs.List.{AllByRecursion, onto_first, slice_split}
use Rattle.std.specs.Option.{option_map_or}
use Rattle.std.specs.Result.{result_map_both}
use Rattle.std.proofs.lemmas.List.Elements.{recursion_from_All}
use Rattle.rbc_journal.specs.Gates.{at_rest}
use Rattle.rbc_journal.specs.Journal.{told_of}
use Rattle.rbc_journal.specs.Seals.{is_comment}
use Rattle.rbc_journal.specs.Sessions.{lines_of as lines_in, with_front as with_first}
use Rattle.rbc_journal.proofs.SessionLemmas.{at_rest_lines}
use Rattle.rbc_model.specs.declared.limits.TheConstants.{LONGEST_LINE}
use Rattle.rbc_model.specs.declared.refusals.LineFault.{LineFault}
use Rattle.rbc_model.specs.declared.refusals.LineFault.TheVariants.{Overlong, NotText}
use Rattle.rbc_model.specs.RequestText.{request_words}
use Rattle.rbc_model.specs.Results.{◌>>=◌}
use Rattle.rbc_model.specs.Sessions.{lines_of, with_front}
use Rattle.rbc_model.specs.SessionText.{SessionLine, Blank, words_line}
use Rattle.rbc_model.specs.SessionReply.{BadLine}
use Rattle.rbc_model.specs.Histories.{Beginning, Entry}
use Rattle.rbc_model.specs.Words.{without_return, words_of, is_blank, is_text}
use Rattle.rbc_session_laws.specs.Answers.{Answer, command_answer, line_answer, turns_of}
use Rattle.rbc_session_laws.specs.Commands.{resolve}
use Rattle.rbc_session_laws.specs.SessionRuns.{entries_added}
use Rattle.rbc_journaled.specs.Adds.{Adds}
use Rattle.rbc_journaled.specs.Laws.{JournalsAreSessions}
use Rattle.rbc_journaled.specs.Tells.{Tells}

-- ---- what a line says

in_both : (b : Bool) (x y : List ℕ) → cond b (32 ∷ x) (32 ∷ y) ≡ 32 ∷ cond b x y
in_both true x y = refl
in_both false x y = refl

without_return-gate : (line : List ℕ) → without_return (32 ∷ line) ≡ 32 ∷ without_return line
without_return-gate [] = refl
without_return-gate (byte ∷ line) =
    let last : length (32 ∷ byte ∷ line) - 1 ≡ suc (length line) = omega arith in
    let same : length (byte ∷ line) - 1 ≡ length line = omega arith in
    rw (last, same) (in_both (slice_index (byte ∷ line) (length line) == 13) (take (length line) (byte ∷ line)) (byte ∷ line))

-- the words of a line that is too long or not, by what it is without its carriage return
abbrev words_read : Bool → List ℕ → Result (Option (List (List ℕ))) LineFault
words_read long stripped =
    cond long (Err Overlong) (cond (is_blank (words_of stripped)) (Ok None) (cond (not (is_text stripped)) (Err NotText) (Ok (Some (words_of stripped)))))

fits : (n : ℕ) → n < LONGEST_LINE → nat_lt LONGEST_LINE n ≡ false
fits n short = grind arith

request_words-gate : (line : List ℕ) → length line < LONGEST_LINE → request_words (32 ∷ line) ≡ request_words line
request_words-gate line short =
    let behind : nat_lt LONGEST_LINE (length (32 ∷ line)) ≡ false = grind arith in
    ap₂ words_read behind (without_return-gate line) ∙ ap (λ long. words_read long (without_return line)) (sym (fits (length line) short))

line_answer-gate : (begin : Beginning) (before : List Entry) (line : List ℕ) → length line < LONGEST_LINE → line_answer begin before (32 ∷ line) ≡ line_answer begin before line
unfolding line_answer
line_answer-gate begin before line short =
    ap (λ read. command_answer begin before (result_map_both (λ said. said) BadLine (read >>= (λ found. words_or_blank found)) >>= resolve begin.track)) (request_words-gate line short)
  where
    words_or_blank : Option (List (List ℕ)) → Result SessionLine LineFault
    words_or_blank found = option_map_or words_line found (Ok Blank)

-- ---- the lines of a file

same_front : (byte : ℕ) (lines : List (List ℕ)) → with_front byte lines ≡ with_first byte lines
same_front byte [] = refl
same_front byte (line ∷ lines) = refl

same_lines : (file : List ℕ) → lines_of file ≡ lines_in file
same_lines [] = refl
same_lines (byte ∷ file) =
    ap (λ (lines : List (List ℕ)). cond (byte == 10) ([] ∷ lines) (with_front byte lines)) (same_lines file)
    ∙ ap (λ (lines : List (List ℕ)). cond (byte == 10) ([] ∷ lines_in file) lines) (same_front byte (lines_in file))

-- ---- a comment

-- without a carriage return at its end it is one still
comment_kept : (rest : List ℕ) → (more : List ℕ) × (without_return (35 ∷ rest) ≡ 35 ∷ more)
comment_kept [] = ([], refl)
comment_kept (byte ∷ rest) =
    let last : length (35 ∷ byte ∷ rest) - 1 ≡ suc (length rest) = omega arith in
    let cut = by_test (slice_index (35 ∷ byte ∷ rest) (suc (length rest)) == 13) in
    (cut.0, rw last cut.1)
  where
    by_test : (b : Bool) → (more : List ℕ) × (cond b (take (suc (length rest)) (35 ∷ byte ∷ rest)) (35 ∷ byte ∷ rest) ≡ 35 ∷ more)
    by_test true = (take (length rest) (byte ∷ rest), refl)
    by_test false = (byte ∷ rest, refl)

blank_behind : (parts : List (List ℕ)) → is_blank (filter (λ word. not (length word == 0)) (onto_first 35 parts)) ≡ true
blank_behind [] = refl
blank_behind (part ∷ parts) =
    let some : (length (35 ∷ part) == 0) ≡ false = grind arith in
    rw some refl

comment_blank : (rest : List ℕ) → is_blank (words_of (35 ∷ rest)) ≡ true
comment_blank rest = blank_behind (slice_split (λ byte. byte == 32) rest)

comment_read : (rest : List ℕ) → length (35 ∷ rest) < LONGEST_LINE → request_words (35 ∷ rest) ≡ Ok None
comment_read rest short =
    let kept = comment_kept rest in
    ap₂ words_read (fits (length (35 ∷ rest)) short) kept.1
    ∙ ap (λ (blank : Bool). cond blank (Ok None) (cond (not (is_text (35 ∷ kept.0))) (Err NotText) (Ok (Some (words_of (35 ∷ kept.0)))))) (comment_blank kept.0)

-- ---- what they lead to

no_comment : is_comment [] ≡ true → ⊥
no_comment e = cc

module _ (begin : Beginning) where
  nothing_said : (before : List Entry) → (line_answer begin before (35 ∷ [])).added ≡ None
  unfolding line_answer
  nothing_said before = refl

  comment_added : (before : List Entry) (rest : List ℕ) → length (35 ∷ rest) < LONGEST_LINE → (line_answer begin before (32 ∷ 35 ∷ rest)).added ≡ None
  unfolding line_answer
  comment_added before rest short =
      ap (λ (a : Answer). a.added) (line_answer-gate begin before (35 ∷ rest) short)
      ∙ ap (λ read. (command_answer begin before (result_map_both (λ said. said) BadLine (read >>= (λ found. option_map_or words_line found (Ok Blank))) >>= resolve begin.track)).added) (comment_read rest short)

  commented : (before : List Entry) (line : List ℕ) → is_comment line ≡ true → length line < LONGEST_LINE → (line_answer begin before (32 ∷ line)).added ≡ None
  commented before [] is short = absurd (no_comment is)
  commented before (first ∷ rest) is short =
      let mark : first ≡ 35 = grind (arith, nat_tests) in
      subst (λ (byte : ℕ). (line_answer begin before (32 ∷ byte ∷ rest)).added ≡ None) (sym mark)
      (comment_added before rest (omega (arith, short)))

  abbrev Leads : List Entry → List (List ℕ) → List Entry → Type 0
  Leads before lines entries = entries_added (turns_of begin before (map (λ line. 32 ∷ line) lines ++ (35 ∷ []) ∷ [])) ≡ entries

  -- a line, and those behind it
  by_line : (b : Bool) (before : List Entry) (line : List ℕ) (lines : List (List ℕ)) (entries : List Entry) → is_comment line ≡ b → length line < LONGEST_LINE
      → ((front rest : List Entry) → Tells (Adds begin) front (told_of lines) rest → Leads front lines rest)
      → Tells (Adds begin) before (cond (not b) (line ∷ told_of lines) (told_of lines)) entries → Leads before (line ∷ lines) entries
  unfolding turns_of
  by_line true before line lines entries is short behind told = rw (commented before line is short, append-nil before) (behind before entries told)
  by_line false before line lines entries is short behind (entry, rest, same, adds, later) =
      let said : (line_answer begin before (32 ∷ line)).added ≡ Some entry = ap (λ (a : Answer). a.added) (line_answer-gate begin before line short) ∙ adds in
      rw said (ap (λ (l : List Entry). entry ∷ l) (behind (before ++ entry ∷ []) rest later) ∙ sym same)

  leads : (before : List Entry) (lines : List (List ℕ)) (entries : List Entry) → AllByRecursion (λ line. length line < LONGEST_LINE) lines
      → Tells (Adds begin) before (told_of lines) entries → Leads before lines entries
  unfolding turns_of
  leads before [] entries short told = rw (nothing_said before) (sym told)
  leads before (line ∷ lines) entries short told =
      by_line (is_comment line) before line lines entries refl short.0 (λ front rest lead. leads front lines rest short.1 lead) told

pub journals_are_sessions : JournalsAreSessions
journals_are_sessions begin lines entries are short told =
    ap (λ (all : List (List ℕ)). entries_added (turns_of begin [] all)) (same_lines (at_rest lines) ∙ at_rest_lines lines are)
    ∙ leads begin [] lines entries (recursion_from_All (λ line. length line < LONGEST_LINE) lines short) told
