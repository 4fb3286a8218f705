-- Notes have their form, and stay true where lines are added.
use Rattle.std.proofs.Common.{◌≡◌, ℕ, ◌^◌, ◌<◌, ◌≤◌, ◌==◌, Bool, true, false, cond, List, [], ◌∷◌, ◌++◌, length, take, drop, Option, Some, None, Result, Ok, Err, refl, sym, ap, ◌∙◌, subst, arith, length-append, lit<}
use Rattle.std.specs.Prelude.{◌≢◌, slice_get, decimal, is_ok, not, IfOk, MatchOption}
use Rattle.std.specs.Char.{digit_value}
use Rattle.std.specs.List.{AllByRecursion, list_all}
use Rattle.std.specs.Str.Parse.{AllDigits}
use Rattle.std.proofs.lemmas.Bool.{true≢false, and_parts}
use Rattle.std.proofs.lemmas.Fmt.{decimal_is_IsNumeral, length-decimal-le}
use Rattle.std.proofs.lemmas.List.{append-nil, append_assoc, take-append-le, take-append-drop}
use Rattle.std.proofs.Math.Seq.{take-append_seam, take-length}
use Rattle.std.proofs.lemmas.List.Elements.{All-append, All-cons, All-from_recursion, filter-append}
use Rattle.std.proofs.lemmas.Option.{slice_get_within}
use Rattle.std.proofs.lemmas.Slice.Eq.{bytes_eq-Decides}
use Rattle.std.proofs.lemmas.Str.Parse.{digit_from_value}
use Rattle.hex.specs.Hex.{decode_pairs}
use Rattle.hex.specs.declared.error.FromHexError.TheVariants.{OddLength, InvalidStringLength}
use Rattle.rbc_group_commit.proofs.FileLemmas.{by_place}
use Rattle.rbc_group_commit.specs.Pages.{with_note}
use Rattle.rbc_group_commit.specs.declared.line.TheConstants.{LONGEST_NOTE}
use Rattle.rbc_journal.specs.Gates.{IsLine}
use Rattle.rbc_journal.specs.Seals.{is_comment}
use Rattle.rbc_journal.specs.Journal.{IsNote, told_of}
use Rattle.rbc_model.specs.Histories.{Entry}
use Rattle.rbc_sessions.specs.Records.{HistoryOnTrack}
use Rattle.rbc_journaled.specs.declared.journaled_record.JournaledRecord.{JournaledRecord}
use Rattle.rbc_journaled.specs.Notes.{note_mark, is_note, grant_note, note_behind, AreTrue}

-- ---- the form of a note

no_feed : (digits : List ℕ) → AllDigits 10 digits → AllByRecursion (λ byte. byte ≢ 10) digits
no_feed [] are = tt
no_feed (digit ∷ digits) are = (above digit are.0, no_feed digits are.1)
  where
    above : (digit : ℕ) → digit_value digit < 10 → digit ≢ 10
    above digit fits same = let r = digit_from_value digit fits in absurd (omega (arith, r.0, same))

number_line : (n : ℕ) → n < 2 ^ 64 → IsLine (decimal n)
number_line n fits = All-from_recursion (λ byte. byte ≢ 10) (decimal n) (no_feed (decimal n) (decimal_is_IsNumeral n fits).0.1)

feedless : (bytes : List ℕ) → list_all (λ byte. not (byte == 10)) bytes ≡ true → AllByRecursion (λ byte. byte ≢ 10) bytes
feedless [] are = tt
feedless (byte ∷ bytes) are =
    let both = and_parts (not (byte == 10)) (list_all (λ byte. not (byte == 10)) bytes) are in
    ((λ same. true≢false (sym (subst (λ b. not (b == 10) ≡ true) same both.0))), feedless bytes both.1)

mark_line : IsLine note_mark
mark_line = All-from_recursion (λ byte. byte ≢ 10) note_mark (feedless note_mark refl)

no_seal_sized : (odd sized : Bool) (low : ℕ) (rest : List ℕ) → is_ok (cond odd (Err OddLength) (cond sized (decode_pairs 0 (103 ∷ low ∷ rest)) (Err InvalidStringLength))) ≡ false
unfolding decode_pairs
no_seal_sized true sized low rest = refl
no_seal_sized false true low rest = refl
no_seal_sized false false low rest = refl

module _ (train version end : ℕ) (number : train < 2 ^ 32) (counts : version < 2 ^ 64) (metres : end < 2 ^ 32) where
  abbrev behind_train : List ℕ
  behind_train = decimal version ++ 32 ∷ decimal end

  abbrev behind_mark : List ℕ
  behind_mark = decimal train ++ 32 ∷ behind_train

  space_line : (line : List ℕ) → IsLine line → IsLine (32 ∷ line)
  space_line line is = All-cons (λ byte. byte ≢ 10) 32 line (λ e. omega (arith, e)) is

  one_line : IsLine (grant_note train version end)
  one_line =
      let last = All-append (λ byte. byte ≢ 10) (decimal version) (32 ∷ decimal end) (number_line version counts) (space_line (decimal end) (number_line end (omega (arith, metres)))) in
      All-append (λ byte. byte ≢ 10) note_mark behind_mark mark_line
      (All-append (λ byte. byte ≢ 10) (decimal train) (32 ∷ behind_train) (number_line train (omega (arith, number))) (space_line behind_train last))

  pub note_form : IsNote (grant_note train version end)
  note_form = record { one = one_line; said = refl; no_seal = no_seal_sized _ _ 114 _; no_beginning = refl }

  pub note_short : length (grant_note train version end) ≤ LONGEST_NOTE
  note_short =
      omega (
        arith,
        length-append note_mark behind_mark,
        length-append (decimal train) (32 ∷ behind_train),
        length-append (decimal version) (32 ∷ decimal end),
        length-decimal-le 10 train (lit< tt) (omega (arith, number)) (omega (arith, number)),
        length-decimal-le 20 version (lit< tt) (omega (arith, counts)) counts,
        length-decimal-le 10 end (lit< tt) (omega (arith, metres)) (omega (arith, metres)),
      )

-- ---- notes that are true

-- a note is a comment
pub note_is_comment : (line : List ℕ) → is_note line ≡ true → is_comment line ≡ true
note_is_comment [] is = absurd (true≢false (sym is))
note_is_comment (byte ∷ line) is =
    let same = (bytes_eq-Decides (take (length note_mark) (byte ∷ line)) note_mark).0 is in
    ap is_comment same

told_within : (n : ℕ) (lines : List (List ℕ)) → length (told_of (take n lines)) ≤ length (told_of lines)
told_within n lines =
    let all = ap (λ (ls : List (List ℕ)). length (told_of ls)) (take-append-drop n lines) in
    let parts = ap (λ (ls : List (List ℕ)). length ls) (filter-append (λ line. not (is_comment line)) (take n lines) (drop n lines)) in
    omega (arith, all, parts, length-append (told_of (take n lines)) (told_of (drop n lines)))

module _ (front : List (List ℕ)) (entries : List Entry) (many : length (told_of front) ≡ length entries) (are : AreTrue front entries) (line : List ℕ) where
  abbrev Holds : List Entry → ℕ → List ℕ → Type 0
  Holds after at note = is_note note ≡ true → note_behind (take (length (told_of (take at (front ++ line ∷ [])))) after) ≡ Some note

  before : (more : List Entry) (at : ℕ) (note : List ℕ) → slice_get front at ≡ Some note → Holds (entries ++ more) at note
  before more at note here is =
      let within = slice_get_within front at note here in
      let lines : take at (front ++ line ∷ []) ≡ take at front = take-append-le at front (line ∷ []) (omega (arith, within)) in
      let few = told_within at front in
      let same : take (length (told_of (take at (front ++ line ∷ [])))) (entries ++ more) ≡ take (length (told_of (take at front))) entries =
      ap (λ (ls : List (List ℕ)). take (length (told_of ls)) (entries ++ more)) lines ∙ take-append-le (length (told_of (take at front))) entries more (omega (arith, few, many)) in
      ap note_behind same ∙ are at note here is

  all_at_end : take (length (told_of (take (length front) (front ++ line ∷ [])))) entries ≡ entries
  all_at_end =
      ap (λ (ls : List (List ℕ)). take (length (told_of ls)) entries) (take-append_seam front (line ∷ []))
      ∙ ap (λ n. take n entries) many ∙ take-length entries

  -- a comment more
  pub true_behind_comment : (is_note line ≡ true → note_behind entries ≡ Some line) → AreTrue (front ++ line ∷ []) entries
  true_behind_comment is_true =
      by_place (Holds entries) front line (λ at note here. subst (λ (es : List Entry). Holds es at note) (append-nil entries) (before [] at note here))
      (λ is. ap note_behind all_at_end ∙ is_true is)

  -- a line more that is told, and the entry that it adds
  pub true_behind_line : (entry : Entry) → is_comment line ≡ false → AreTrue (front ++ line ∷ []) (entries ++ entry ∷ [])
  true_behind_line entry told =
      by_place (Holds (entries ++ entry ∷ [])) front line (before (entry ∷ []))
      (λ is. absurd (true≢false (sym (note_is_comment line is) ∙ told)))

-- ---- staged lines

-- a line is staged, and then what is noted behind it
pub line_and_note : (noted : Option (List ℕ)) (old mid new : List (List ℕ)) (text : List ℕ) → mid ≡ old ++ text ∷ [] → MatchOption noted (new ≡ mid) (λ note. new ≡ mid ++ note ∷ [])
    → new ≡ old ++ with_note text noted
line_and_note None old mid new text is same = same ∙ is
line_and_note (Some note) old mid new text is more = more ∙ ap (λ (lines : List (List ℕ)). lines ++ note ∷ []) is ∙ append_assoc old (text ∷ []) (note ∷ [])

-- ---- a record that is opened

-- what is true of a record is so of one that is equal to it
pub true_of_opened : {D E : Type 0} (opened : Result (JournaledRecord D) E) (history : HistoryOnTrack) (lines : List (List ℕ)) → AreTrue lines history.entries → IfOk opened (λ kept. kept.history ≡ history)
    → IfOk opened (λ kept. AreTrue lines kept.history.entries)
true_of_opened (Ok kept) history lines are same = subst (λ (h : HistoryOnTrack). AreTrue lines h.entries) (sym same) are
true_of_opened (Err fault) history lines are same = tt
