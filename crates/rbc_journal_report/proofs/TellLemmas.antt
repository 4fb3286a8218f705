-- What is told of a file, by how it is read.
use Rattle.std.proofs.Common.{◌≡◌, ℕ, Bool, true, false, List, [], ◌∷◌, length, Option, Some, None, Result, Ok, Err, refl, sym, ◌∙◌, ap, ap₂, cond}
use Rattle.std.specs.Prelude.{not, nat_lt, bytes_eq, ◌&&◌, ◌||◌, ◌==◌}
use Rattle.std.specs.List.{list_any}
use Rattle.std.specs.Option.{unwrap_or}
use Rattle.rbc_journal.specs.Gates.{counted}
use Rattle.rbc_journal.specs.Seals.{is_comment, chain_of}
use Rattle.rbc_journal.specs.Headers.{format_in, digest_in}
use Rattle.rbc_journal.specs.Journal.{told_of}
use Rattle.rbc_journal.specs.Reading.{Parts, is_first_format, is_whole, dropped_of, tail_of, by_end, by_header, by_format, reading}
use Rattle.rbc_journal.specs.declared.reading.ReadFault.{ReadFault}
use Rattle.rbc_journal.specs.declared.reading.ReadFault.TheVariants.{NotAJournal, FirstFormat, OtherFormat, Damaged, OtherTrack}
use Rattle.rbc_journal_report.specs.Telling.{own_digest, Telling, state_of, telling_by, telling_beside}
use Rattle.rbc_journal_report.specs.declared.telling.FileState.{FileState}

module _ (given : Option (List ℕ)) (bytes digest : List ℕ) (is : digest ≡ unwrap_or given (own_digest bytes)) where
  pub tell_whole : (parts : Parts) (text : List ℕ) (state : FileState) → reading bytes digest ≡ Ok parts → counted text ≡ counted bytes
      → state ≡ state_of (length parts.dropped) → telling_beside given bytes ≡ Ok (record { lines = counted text; state = state })
  tell_whole parts text state read same ends =
      ap (telling_by (counted bytes)) (ap (reading bytes) (sym is) ∙ read)
      ∙ ap₂ (λ (lines : List (List ℕ)) (s : FileState). Ok (record { lines = lines; state = s })) (sym same) (sym ends)

  pub tell_fault : (fault : ReadFault) (told : Result Telling ReadFault) → reading bytes digest ≡ Err fault
      → telling_by (counted bytes) (Err fault) ≡ told → telling_beside given bytes ≡ told
  tell_fault fault told read tells = ap (telling_by (counted bytes)) (ap (reading bytes) (sym is) ∙ read) ∙ tells

-- ---- journals of the format before

not_of_track : (is : Bool) (digest : List ℕ) (parts : Parts) → cond is (Ok parts) (Err (OtherTrack digest)) ≡ Err FirstFormat → ⊥
not_of_track true digest parts e = absurd (cc e)
not_of_track false digest parts e = absurd (cc e)

not_by_end : (track : List ℕ) (lines : List (List ℕ)) (digest seal : List ℕ) (dropped : Option (List ℕ)) → by_end track lines digest seal dropped ≡ Err FirstFormat → ⊥
not_by_end track lines digest seal None e = absurd (cc e)
not_by_end track lines digest seal (Some dropped) e = not_of_track (bytes_eq digest track) digest _ e

not_whole : (is : Bool) (rest : Result Parts ReadFault) (line : ℕ) → (rest ≡ Err FirstFormat → ⊥) → cond is rest (Err (Damaged line)) ≡ Err FirstFormat → ⊥
not_whole true rest line never e = never e
not_whole false rest line never e = absurd (cc e)

not_by_header : (track : List ℕ) (lines : List (List ℕ)) (tail : List ℕ) (digest : Option (List ℕ)) → by_header track lines tail digest ≡ Err FirstFormat → ⊥
not_by_header track lines tail None e = absurd (cc e)
not_by_header track lines tail (Some digest) e =
    not_whole (is_whole (chain_of lines) lines) _ _ (not_by_end track lines digest (chain_of lines).seal (dropped_of (chain_of lines).seal tail)) e

is_first : (is : Bool) (read : Result Parts ReadFault) → read ≡ Err FirstFormat → cond is (Err FirstFormat) (Err NotAJournal) ≡ read → is ≡ true
is_first true read first e = refl
is_first false read first e = cc (e ∙ first)

not_other : (is : Bool) (rest : Result Parts ReadFault) (number : ℕ) → (rest ≡ Err FirstFormat → ⊥) → cond is rest (Err (OtherFormat number)) ≡ Err FirstFormat → ⊥
not_other true rest number never e = never e
not_other false rest number never e = absurd (cc e)

first_by_format : (track : List ℕ) (lines : List (List ℕ)) (tail : List ℕ) (format : Option ℕ) → by_format track lines tail format ≡ Err FirstFormat
    → is_first_format lines tail ≡ true
first_by_format track lines tail None e = is_first (is_first_format lines tail) (Err FirstFormat) refl e
first_by_format track lines tail (Some number) e = absurd (not_other (number == 2) (by_header track lines tail (digest_in lines)) number (not_by_header track lines tail (digest_in lines)) e)

second_not : (a b c : Bool) → (a && not b && c) ≡ true → b ≡ false
second_not true false true e = refl
second_not true false false e = refl
second_not true true c e = cc e
second_not false b c e = cc e

or_left : (a b : Bool) → (a || b) ≡ false → a ≡ false
or_left false b e = refl
or_left true b e = cc e

or_right : (a b : Bool) → (a || b) ≡ false → b ≡ false
or_right false b e = e
or_right true b e = cc e

plain : (lines : List (List ℕ)) → list_any is_comment lines ≡ false → told_of lines ≡ lines
plain [] none = refl
plain (line ∷ lines) none =
    ap (λ (b : Bool). cond (not b) (line ∷ told_of lines) (told_of lines)) (or_left (is_comment line) (list_any is_comment lines) none)
    ∙ ap (λ (ls : List (List ℕ)). line ∷ ls) (plain lines (or_right (is_comment line) (list_any is_comment lines) none))

-- a journal of the format before tells all of its lines
pub first_tells : (file track : List ℕ) → reading file track ≡ Err FirstFormat → told_of (counted file) ≡ counted file
first_tells file track e =
    plain (counted file)
    (second_not (nat_lt 0 (length (counted file))) (list_any is_comment (counted file)) (bytes_eq (tail_of file) (35 ∷ []))
    (first_by_format track (counted file) (tail_of file) (format_in (counted file)) e))
