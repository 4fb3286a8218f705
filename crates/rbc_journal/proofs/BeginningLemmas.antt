-- How a journal's beginning is written and read.
use Rattle.std.proofs.Common.{◌≡◌, ◌≢◌, inl, inr, ℕ, ◌+◌, ◌-◌, ◌<◌, Bool, true, false, List, [], ◌∷◌, ◌++◌, length, All, Option, Some, None, Ok, take, drop, map, refl, sym, ◌∙◌, ap, subst, arith, append_assoc, take-append-drop, slice_index, if◌then◌else◌}
use Rattle.std.specs.Prelude.{bytes_eq}
use Rattle.std.proofs.lemmas.Bool.{cases_eq}
use Rattle.std.proofs.lemmas.List.{append-nil, take_all, drop_at, drop_more, length-drop}
use Rattle.std.proofs.lemmas.List.Elements.{All-nil, All-head, All-tail, All-cons, All-append, All-drop}
use Rattle.rbc_journal.specs.Gates.{counted, text, IsLine}
use Rattle.rbc_journal.specs.Seals.{seal_line, seal_of, seal_of_bytes}
use Rattle.rbc_journal.specs.Headers.{header, behind_mark}
use Rattle.rbc_journal.specs.Sessions.{with_front, lines_of}
use Rattle.rbc_journal.specs.Journal.{told_of, recovered}
use Rattle.rbc_journal.specs.Reading.{reading}
use Rattle.rbc_journal.specs.ReadingLaws.{AreJournal}
use Rattle.rbc_journal.specs.Marks.{mark, marked, with_marked, marked_front}
use Rattle.rbc_journal.specs.Puts.{with_its_seal}
use Rattle.rbc_journal.specs.Beginnings.{beginning_put, header_seal, begun_lines, begun_seal, begun_file, beginning_of, joined}
use Rattle.rbc_journal.proofs.LineLemmas.{NotFeed, text-append, counted-at_rest, are_lines}
use Rattle.rbc_journal.proofs.SealLemmas.{line_by_test}
use Rattle.rbc_journal.proofs.PutLemmas.{Inner}
use Rattle.rbc_journal.proofs.ChainLemmas.{stands_for_first}
use Rattle.rbc_journal.proofs.SessionLemmas.{no_feed, first_line}
use Rattle.rbc_journal.proofs.ReadingLemmas.{header_chain, header_digest, new_begins}
use Rattle.rbc_journal.proofs.ReadingLawLemmas.{one_more, read_dropped}

-- ---- the lines of a text

front_lines : (byte : ℕ) (lines : List (List ℕ)) → byte ≢ 10 → All IsLine lines → All IsLine (with_front byte lines)
front_lines byte [] differs are = All-cons IsLine (byte ∷ []) [] (All-cons NotFeed byte [] differs (All-nil NotFeed)) (All-nil IsLine)
front_lines byte (line ∷ lines) differs are =
    All-cons IsLine (byte ∷ line) lines (All-cons NotFeed byte line differs (All-head IsLine line lines are)) (All-tail IsLine line lines are)

pub lines_are : (bytes : List ℕ) → All IsLine (lines_of bytes)
lines_are [] = All-nil IsLine
lines_are (byte ∷ bytes) = elim (cases_eq byte 10) [
  | inl ends ↦ subst (λ (b : ℕ). All IsLine (lines_of (b ∷ bytes))) (sym ends) (All-cons IsLine [] (lines_of bytes) (All-nil NotFeed) (lines_are bytes))
  | inr differs ↦ subst (All IsLine) (sym (no_feed byte bytes differs)) (front_lines byte (lines_of bytes) differs (lines_are bytes))
]

-- the text ends the last one
pub last_line : (byte : ℕ) (line : List ℕ) → IsLine (byte ∷ line) → lines_of (byte ∷ line) ≡ (byte ∷ line) ∷ []
last_line byte [] is = no_feed byte [] (All-head NotFeed byte [] is)
last_line byte (next ∷ line) is =
    no_feed byte (next ∷ line) (All-head NotFeed byte (next ∷ line) is)
    ∙ ap (with_front byte) (last_line next line (All-tail NotFeed byte (next ∷ line) is))

pub whole_line : (bytes : List ℕ) → 0 < length bytes → IsLine bytes → lines_of bytes ≡ bytes ∷ []
whole_line [] some is = absurd (omega arith)
whole_line (byte ∷ bytes) some is = last_line byte bytes is

-- a line feed ends the first one
pub split_line : (bytes : List ℕ) (at : ℕ) → at < length bytes → IsLine (take at bytes) → slice_index bytes at ≡ 10 → lines_of bytes ≡ take at bytes ∷ lines_of (drop (at + 1) bytes)
split_line bytes at within line feed =
    ap lines_of
    (sym (take-append-drop at bytes)
    ∙ ap (λ (l : List ℕ). take at bytes ++ l) (drop_more bytes at 0 within ∙ ap (λ (b : ℕ). b ∷ drop (at + 1) bytes) feed))
    ∙ first_line (take at bytes) (drop (at + 1) bytes) line

pub all_behind : (bytes : List ℕ) (n : ℕ) → take (length bytes - n) (drop n bytes) ≡ drop n bytes
all_behind bytes n = take_all (length bytes - n) (drop n bytes) (omega (arith, length-drop n bytes))

pub joined_lines : (lines : List (List ℕ)) → All IsLine lines → lines_of (joined lines) ≡ lines
joined_lines [] are = refl
joined_lines (line ∷ lines) are =
    ap lines_of (append_assoc line (10 ∷ []) (joined lines))
    ∙ first_line line (joined lines) (All-head IsLine line lines are)
    ∙ ap (λ (ls : List (List ℕ)). line ∷ ls) (joined_lines lines (All-tail IsLine line lines are))

-- ---- marked lines

marked_line : (line : List ℕ) → IsLine line → IsLine (marked line)
marked_line line is = All-append NotFeed mark line (line_by_test mark refl) is

marked_lines : (lines : List (List ℕ)) → All IsLine lines → All IsLine (map marked lines)
marked_lines [] are = All-nil IsLine
marked_lines (line ∷ lines) are = All-cons IsLine (marked line) (map marked lines) (marked_line line (All-head IsLine line lines are)) (marked_lines lines (All-tail IsLine line lines are))

marked_inner : (lines : List (List ℕ)) → All Inner (map marked lines)
marked_inner [] = All-nil Inner
marked_inner (line ∷ lines) = All-cons Inner (marked line) (map marked lines) refl (marked_inner lines)

marked_untold : (lines more : List (List ℕ)) → told_of (map marked lines ++ more) ≡ told_of more
marked_untold [] more = refl
marked_untold (line ∷ lines) more = marked_untold lines more

front_of : (lines more : List (List ℕ)) → marked_front (map marked lines ++ more) ≡ lines ++ marked_front more
front_of [] more = refl
front_of (line ∷ lines) more = ap (λ (ls : List (List ℕ)). line ∷ ls) (front_of lines more)

-- ---- the put of a text's lines

front_some : (byte : ℕ) (lines : List (List ℕ)) → 0 < length (with_front byte lines)
front_some byte [] = omega arith
front_some byte (line ∷ lines) = omega arith

some_lines : (bytes : List ℕ) → 0 < length bytes → 0 < length (lines_of bytes)
some_lines [] some = absurd (omega arith)
some_lines (byte ∷ bytes) some = elim (cases_eq byte 10) [
  | inl ends ↦ subst (λ (b : ℕ). 0 < length (lines_of (b ∷ bytes))) (sym ends) (omega arith)
  | inr differs ↦ subst (λ (ls : List (List ℕ)). 0 < length ls) (sym (no_feed byte bytes differs)) (front_some byte (lines_of bytes))
]

put_of_some : (seal : List ℕ) (lines : List (List ℕ)) → 0 < length lines → beginning_put seal lines ≡ with_its_seal seal (map marked lines)
put_of_some seal [] some = absurd (omega arith)
put_of_some seal (line ∷ lines) some = refl

-- it is written line by line
pub put_written : (beginning before old mid all seal line new : List ℕ) (end : ℕ) → 0 < length beginning → mid ≡ old ++ text (map marked (lines_of beginning)) → all ≡ mid → end ≡ length old
    → seal ≡ seal_of_bytes before (take (length all - end) (drop end all)) → line ≡ seal_line seal → new ≡ mid ++ (32 ∷ line ++ 10 ∷ [])
    → new ≡ old ++ text (beginning_put before (lines_of beginning))
put_written beginning before old mid all seal line new end some e1 e2 e3 e4 e5 e6 =
    let put = map marked (lines_of beginning) in
    let slice : take (length all - end) (drop end all) ≡ text (map marked (lines_of beginning)) =
    ap (λ (n : ℕ). take (length all - n) (drop n all)) e3 ∙ all_behind all (length old) ∙ ap (drop (length old)) (e2 ∙ e1) ∙ drop_at old (text put) (length old) refl in
    let last : line ≡ seal_line (seal_of before (map marked (lines_of beginning))) = e5 ∙ ap seal_line (e4 ∙ ap (seal_of_bytes before) slice) in
    e6 ∙ ap (λ (l : List ℕ). l ++ (32 ∷ line ++ 10 ∷ [])) e1 ∙ append_assoc old (text put) (32 ∷ line ++ 10 ∷ [])
    ∙ ap (λ (l : List ℕ). old ++ (text put ++ (32 ∷ l ++ 10 ∷ []))) last
    ∙ ap (λ (l : List ℕ). old ++ l) (sym (text-append put (seal_line (seal_of before put) ∷ [])))
    ∙ ap (λ (p : List (List ℕ)). old ++ text p) (sym (put_of_some before (lines_of beginning) (some_lines beginning some)))

-- ---- a journal that begins with these lines

pub begins_with : (digest : List ℕ) (lines more : List (List ℕ)) → marked_front more ≡ [] → beginning_of (begun_lines digest lines ++ more) ≡ lines
begins_with digest [] more none = none
begins_with digest (line ∷ lines) more none =
    ap marked_front (append_assoc (map marked (line ∷ lines)) (seal_line (begun_seal digest (line ∷ lines)) ∷ []) more)
    ∙ front_of (line ∷ lines) (seal_line (begun_seal digest (line ∷ lines)) ∷ more)
    ∙ append-nil (line ∷ lines)

pub begun_untold : (digest : List ℕ) (lines : List (List ℕ)) → told_of (begun_lines digest lines) ≡ []
begun_untold digest [] = refl
begun_untold digest (line ∷ lines) = marked_untold (line ∷ lines) (seal_line (begun_seal digest (line ∷ lines)) ∷ [])

module _ (digest : List ℕ) (size : length digest ≡ 64) (is : IsLine digest) where
  header_journal : AreJournal digest (header digest) (header_seal digest)
  header_journal = record {
    one_each = (new_begins digest size is).lines;
    sealed = header_chain digest size;
    format = refl;
    of_track = header_digest digest [] size;
  }

  pub begun_journal : (lines : List (List ℕ)) → All IsLine lines → AreJournal digest (begun_lines digest lines) (begun_seal digest lines)
  begun_journal [] are = header_journal
  begun_journal (line ∷ lines) are = one_more digest (header digest) (header_seal digest) (map marked (line ∷ lines)) header_journal (marked_lines (line ∷ lines) are) (marked_inner (line ∷ lines))

  module _ (lines : List (List ℕ)) (are : All IsLine lines) where
    pub begun_read : reading (begun_file digest lines) digest ≡ Ok (record { text = text (begun_lines digest lines); seal = begun_seal digest lines; dropped = [] })
    begun_read = read_dropped digest (begun_lines digest lines) (begun_seal digest lines) (begun_journal lines are) (35 ∷ []) [] refl refl

    begun_counted : counted (begun_file digest lines) ≡ begun_lines digest lines
    begun_counted = counted-at_rest (begun_lines digest lines) (begun_journal lines are).one_each

    pub begun_begins : beginning_of (counted (begun_file digest lines)) ≡ lines
    begun_begins = ap beginning_of (begun_counted ∙ sym (append-nil (begun_lines digest lines))) ∙ begins_with digest lines [] refl

    pub begun_tells : recovered (begun_file digest lines) ≡ []
    begun_tells =
        stands_for_first (begun_file digest lines) (begun_lines digest lines) (begun_seal digest lines) (begun_journal lines are).sealed begun_counted
        ∙ begun_untold digest lines

-- ---- how it is read

behind_line : (line : List ℕ) (rest : List (List ℕ)) (test : Bool) → bytes_eq (take 2 line) mark ≡ test → IsLine line → All IsLine rest → All IsLine (with_marked (behind_mark mark line) rest)
behind_line line rest true marks is are =
    subst (λ (o : Option (List ℕ)). All IsLine (with_marked o rest)) (sym (ap (λ (b : Bool). if b then Some (drop 2 line) else None) marks))
    (All-cons IsLine (drop 2 line) rest (All-drop NotFeed 2 line is) are)
behind_line line rest false marks is are =
    subst (λ (o : Option (List ℕ)). All IsLine (with_marked o rest)) (sym (ap (λ (b : Bool). if b then Some (drop 2 line) else None) marks)) (All-nil IsLine)

front_are : (lines : List (List ℕ)) → All IsLine lines → All IsLine (marked_front lines)
front_are [] are = All-nil IsLine
front_are (line ∷ lines) are =
    behind_line line (marked_front lines) (bytes_eq (take 2 line) mark) refl (All-head IsLine line lines are) (front_are lines (All-tail IsLine line lines are))

pub beginning_are : (file : List ℕ) → All IsLine (beginning_of (counted file))
beginning_are file = front_are (drop 3 (counted file)) (All-drop IsLine 3 (counted file) (are_lines file))

pub drop_three : (lines : List (List ℕ)) → drop 1 (drop 1 (drop 1 lines)) ≡ drop 3 lines
drop_three [] = refl
drop_three (one ∷ []) = refl
drop_three (one ∷ two ∷ []) = refl
drop_three (one ∷ two ∷ three ∷ lines) = refl
