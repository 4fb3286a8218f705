-- What a file with a right header is read as.
use Rattle.std.proofs.Common.{◌≡◌, inl, inr, ℕ, ◌+◌, ◌-◌, Bool, false, List, [], ◌∷◌, ◌++◌, length, All, Some, None, Ok, Err, take, drop, refl, sym, ◌∙◌, ap, subst, arith, append_assoc, length-append, codes, if◌then◌else◌, ◌==◌}
use Rattle.std.specs.Prelude.{fold, bytes_eq}
use Rattle.std.proofs.lemmas.Bool.{cases_eq, eq-eqb, ne_eqb, and_from}
use Rattle.std.proofs.lemmas.List.{append-nil, take_at, drop_at}
use Rattle.std.proofs.lemmas.List.Sums.{fold-append}
use Rattle.std.proofs.lemmas.List.Elements.{All-nil, All-cons, All-append}
use Rattle.std.proofs.lemmas.Slice.Eq.{bytes_eq-Decides}
use Rattle.rbc_journal.specs.Gates.{counted, text, IsLine}
use Rattle.rbc_journal.specs.Seals.{Chain, start, with_line, chain_of, seal_line, seal_of, seal_of_bytes, AreSealed, IsWholeText}
use Rattle.rbc_journal.specs.Headers.{title, track_mark, named_in_header, header, new_file, format_in, behind_mark, sized, digest_in}
use Rattle.rbc_journal.specs.Journal.{told_of, recovered}
use Rattle.rbc_journal.specs.Puts.{ArePuts, BeginsWithHeader, at_put}
use Rattle.rbc_journal.specs.ReadingLaws.{AreJournal}
use Rattle.rbc_journal.specs.Reading.{first_put, dropped_of, tail_of, by_end, by_chain, by_header, by_format, reading}
use Rattle.rbc_journal.specs.declared.reading.ReadFault.TheVariants.{Damaged, OtherTrack}
use Rattle.rbc_journal.proofs.LineLemmas.{NotFeed, text-append, counted-text, counted-at_rest, closed, are_lines}
use Rattle.rbc_journal.proofs.PutLemmas.{Inner, put_chain, none_more, no_puts}
use Rattle.rbc_journal.proofs.SealLemmas.{seal_form, other_form, seal_line_is, line_by_test}

-- ---- the header

abbrev pub seal_in : List ℕ → List ℕ
seal_in digest = seal_of [] (named_in_header digest)

named_inner : (digest : List ℕ) → length digest ≡ 64 → All Inner (named_in_header digest)
named_inner digest size =
    All-cons Inner (title ++ codes "2") ((track_mark ++ digest) ∷ []) (other_form (codes "rbc journal 2") (omega arith))
    (All-cons Inner (track_mark ++ digest) [] (other_form (codes "track " ++ digest) (omega (arith, size, length-append (codes "track ") digest))) (All-nil Inner))

pub header_chain : (digest : List ℕ) → length digest ≡ 64 → chain_of (header digest) ≡ at_put (header digest) (seal_in digest)
header_chain digest size = put_chain [] [] (named_in_header digest) (seal_in digest) (named_inner digest size) (seal_form [] (text (named_in_header digest))) refl

marked : (digest : List ℕ) → length digest ≡ 64 → sized 64 (behind_mark track_mark (track_mark ++ digest)) ≡ Some digest
marked digest size = ap (λ (b : Bool). if b then Some digest else None) (eq-eqb (length digest) 64 size)

pub header_digest : (digest : List ℕ) (more : List (List ℕ)) → length digest ≡ 64 → digest_in (header digest ++ more) ≡ Some digest
header_digest digest more size =
    ap (λ (b : Bool). if b then sized 64 (behind_mark track_mark (track_mark ++ digest)) else None)
    (and_from (bytes_eq (title ++ codes "2") (title ++ codes "2")) (bytes_eq (seal_line (seal_in digest)) (seal_line (seal_in digest)))
    ((bytes_eq-Decides (title ++ codes "2") (title ++ codes "2")).1 refl) ((bytes_eq-Decides (seal_line (seal_in digest)) (seal_line (seal_in digest))).1 refl))
    ∙ marked digest size

-- ---- the end

-- lines that count behind an open gate are not dropped
pub open_none : (seal bytes : List ℕ) (line : List ℕ) (more : List (List ℕ)) → counted bytes ≡ line ∷ more → dropped_of seal bytes ≡ None
open_none seal [] line more is = refl
open_none seal (gate ∷ rest) line more is = elim (cases_eq gate 32) [
  | inl is_open ↦ subst (λ (g : ℕ). dropped_of seal (g ∷ rest) ≡ None) (sym is_open) refl
  | inr shut ↦ cc (sym (closed gate rest shut) ∙ is)
]

-- where bytes are dropped, no line counts
pub dropped_shut : (seal bytes dropped : List ℕ) → dropped_of seal bytes ≡ Some dropped → counted bytes ≡ []
dropped_shut seal [] dropped is = refl
dropped_shut seal (gate ∷ rest) dropped is = elim (cases_eq gate 32) [
  | inl is_open ↦
      let none : dropped_of seal (gate ∷ rest) ≡ None = subst (λ (g : ℕ). dropped_of seal (g ∷ rest) ≡ None) (sym is_open) refl in
      cc (sym none ∙ is)
  | inr shut ↦ closed gate rest shut
]

-- ---- all lines

module _ (bytes digest behind : List ℕ) (puts : List (List ℕ)) (seal rest : List ℕ) (begins : BeginsWithHeader bytes digest behind) (are : ArePuts (seal_in digest) behind puts seal rest)
    (none : first_put seal [] (counted rest) ≡ None) where
  all_split : bytes ≡ text (header digest ++ puts) ++ rest
  all_split =
      begins.split ∙ ap (λ (l : List ℕ). text (header digest) ++ l) are.split ∙ sym (append_assoc (text (header digest)) (text puts) rest)
      ∙ ap (λ (l : List ℕ). l ++ rest) (sym (text-append (header digest) puts))

  all_lines : All IsLine (header digest ++ puts)
  all_lines = All-append IsLine (header digest) puts begins.lines are.lines

  all_counted : counted bytes ≡ (header digest ++ puts) ++ counted rest
  all_counted = ap counted all_split ∙ counted-text (header digest ++ puts) rest all_lines

  all_chain : chain_of (header digest ++ puts) ≡ at_put (header digest ++ puts) seal
  all_chain =
      fold-append with_line start (header digest) puts
      ∙ ap (λ (c : Chain). fold with_line c puts) (header_chain digest begins.size)
      ∙ are.chain (header digest)

  all_digest : digest_in (counted bytes) ≡ Some digest
  all_digest = ap digest_in (all_counted ∙ append_assoc (header digest) puts (counted rest)) ∙ header_digest digest (puts ++ counted rest) begins.size

  whole_chain : (chain_of ((header digest ++ puts) ++ counted rest)).whole ≡ header digest ++ puts
  whole_chain =
      ap (λ (c : Chain). c.whole) (fold-append with_line start (header digest ++ puts) (counted rest) ∙ ap (λ (c : Chain). fold with_line c (counted rest)) all_chain)
      ∙ none_more (header digest ++ puts) seal [] (counted rest) none

  -- the lines behind these, by whether there are any
  by_more : (track : List ℕ) (more : List (List ℕ)) → counted rest ≡ more
      → by_header track (counted bytes) (tail_of bytes) (digest_in (counted bytes)) ≡ by_end track (header digest ++ puts) digest seal (dropped_of seal rest)
  by_more track [] is =
      let count : counted bytes ≡ header digest ++ puts = all_counted ∙ ap (λ (l : List (List ℕ)). (header digest ++ puts) ++ l) is ∙ append-nil (header digest ++ puts) in
      let tail : tail_of bytes ≡ rest =
      ap (λ (l : List (List ℕ)). drop (length (text l)) bytes) count
      ∙ ap (λ (l : List ℕ). drop (length (text (header digest ++ puts))) l) all_split
      ∙ drop_at (text (header digest ++ puts)) rest (length (text (header digest ++ puts))) refl in
      ap (by_header track (counted bytes) (tail_of bytes)) all_digest
      ∙ ap (λ (l : List (List ℕ)). by_chain track l (tail_of bytes) (chain_of l) digest) count
      ∙ ap (λ (c : Chain). by_chain track (header digest ++ puts) (tail_of bytes) c digest) all_chain
      ∙ ap (λ (b : Bool). if b then by_end track (header digest ++ puts) digest seal (dropped_of seal (tail_of bytes)) else Err (Damaged (length (header digest ++ puts) + 1)))
      (eq-eqb (length (header digest ++ puts)) (length (header digest ++ puts)) refl)
      ∙ ap (λ (l : List ℕ). by_end track (header digest ++ puts) digest seal (dropped_of seal l)) tail
  by_more track (line ∷ more) is =
      let count : counted bytes ≡ (header digest ++ puts) ++ line ∷ more = all_counted ∙ ap (λ (l : List (List ℕ)). (header digest ++ puts) ++ l) is in
      let whole : (chain_of (counted bytes)).whole ≡ header digest ++ puts = ap (λ (l : List (List ℕ)). (chain_of l).whole) all_counted ∙ whole_chain in
      let short : (length (chain_of (counted bytes)).whole == length (counted bytes)) ≡ false =
      ne_eqb (length (chain_of (counted bytes)).whole) (length (counted bytes))
      (λ same. absurd (omega (arith, sym (ap length whole) ∙ same ∙ ap length count, length-append (header digest ++ puts) (line ∷ more)))) in
      ap (by_header track (counted bytes) (tail_of bytes)) all_digest
      ∙ ap (λ (b : Bool). if b then by_end track (counted bytes) digest (chain_of (counted bytes)).seal (dropped_of (chain_of (counted bytes)).seal (tail_of bytes)) else Err (Damaged (length (chain_of (counted bytes)).whole + 1))) short
      ∙ ap (λ (l : List (List ℕ)). Err (Damaged (length l + 1))) whole
      ∙ sym (ap (by_end track (header digest ++ puts) digest seal) (open_none seal rest line more is))

  pub is_read : (track : List ℕ)
      → by_header track (counted bytes) (tail_of bytes) (digest_in (counted bytes)) ≡ by_end track (header digest ++ puts) digest seal (dropped_of seal rest)
  is_read track = by_more track (counted rest) refl

  pub is_format : format_in (counted bytes) ≡ Some 2
  is_format = ap format_in all_counted

  pub reading_is : (track : List ℕ) → reading bytes track ≡ by_end track (header digest ++ puts) digest seal (dropped_of seal rest)
  reading_is track = ap (by_format track (counted bytes) (tail_of bytes)) is_format ∙ is_read track

  pub read_damaged : (track : List ℕ) (count : ℕ) → count ≡ length puts → dropped_of seal rest ≡ None
      → by_header track (counted bytes) (tail_of bytes) (digest_in (counted bytes)) ≡ Err (Damaged (count + 4))
  read_damaged track count is fails =
      is_read track ∙ ap (by_end track (header digest ++ puts) digest seal) fails
      ∙ ap (λ (n : ℕ). Err (Damaged n)) (omega (arith, is, length-append (header digest) puts))

  pub text_of : take (length bytes - length rest) bytes ≡ text (header digest ++ puts)
  text_of =
      ap (λ (l : List ℕ). take (length bytes - length rest) l) all_split
      ∙ take_at (text (header digest ++ puts)) rest (length bytes - length rest) (omega (arith, ap length all_split, length-append (text (header digest ++ puts)) rest))

  module _ (shown : List ℕ) (is_text : shown ≡ take (length bytes - length rest) bytes) where
    shown_is : shown ≡ text (header digest ++ puts)
    shown_is = is_text ∙ text_of

    shown_counted : counted shown ≡ header digest ++ puts
    shown_counted =
        ap counted (shown_is ∙ sym (append-nil (text (header digest ++ puts)))) ∙ counted-text (header digest ++ puts) [] all_lines ∙ append-nil (header digest ++ puts)

    pub shown_whole : IsWholeText shown seal
    shown_whole = record {
      is_text = shown_is ∙ ap text (sym shown_counted);
      are_sealed = subst (λ (l : List (List ℕ)). AreSealed l seal) (sym shown_counted) all_chain;
    }

    pub shown_journal : (track : List ℕ) → digest ≡ track → AreJournal track (counted shown) seal
    shown_journal track same = record {
      one_each = are_lines shown;
      sealed = shown_whole.are_sealed;
      format = ap format_in shown_counted;
      of_track = ap digest_in shown_counted ∙ header_digest digest puts begins.size ∙ ap Some same;
    }

    module _ (dropped : List ℕ) (drops : dropped_of seal rest ≡ Some dropped) where
      pub shown_same : counted shown ≡ counted bytes
      shown_same = shown_counted ∙ sym (all_counted ∙ ap (λ (l : List (List ℕ)). (header digest ++ puts) ++ l) (dropped_shut seal rest dropped drops) ∙ append-nil (header digest ++ puts))

      read_of : (track : List ℕ) → by_header track (counted bytes) (tail_of bytes) (digest_in (counted bytes)) ≡ by_end track (header digest ++ puts) digest seal (Some dropped)
      read_of track = is_read track ∙ ap (by_end track (header digest ++ puts) digest seal) drops

      pub read_other : (track : List ℕ) → bytes_eq digest track ≡ false → by_header track (counted bytes) (tail_of bytes) (digest_in (counted bytes)) ≡ Err (OtherTrack digest)
      read_other track differs =
          read_of track
          ∙ ap (λ (b : Bool). if b then Ok (record { text = text (header digest ++ puts); seal = seal; dropped = dropped }) else Err (OtherTrack digest)) differs

      pub read_right : (track : List ℕ) → digest ≡ track
          → by_header track (counted bytes) (tail_of bytes) (digest_in (counted bytes)) ≡ Ok (record { text = shown; seal = seal; dropped = dropped })
      read_right track same =
          read_of track
          ∙ ap (λ (b : Bool). if b then Ok (record { text = text (header digest ++ puts); seal = seal; dropped = dropped }) else Err (OtherTrack digest))
          ((bytes_eq-Decides digest track).1 same)
          ∙ ap (λ (t : List ℕ). Ok (record { text = t; seal = seal; dropped = dropped })) (sym shown_is)

pub whole_tells : (shown seal : List ℕ) → IsWholeText shown seal → recovered shown ≡ told_of (counted shown)
whole_tells shown seal is = ap (λ (c : Chain). told_of c.whole) is.are_sealed

-- ---- a new journal

pub new_begins : (digest : List ℕ) → length digest ≡ 64 → IsLine digest → BeginsWithHeader (new_file digest) digest (35 ∷ [])
new_begins digest size is = record {
  split = refl;
  lines =
      All-cons IsLine (title ++ codes "2") ((track_mark ++ digest) ∷ seal_line (seal_in digest) ∷ []) (line_by_test (title ++ codes "2") refl)
      (All-cons IsLine (track_mark ++ digest) (seal_line (seal_in digest) ∷ []) (All-append NotFeed track_mark digest (line_by_test track_mark refl) is)
      (All-cons IsLine (seal_line (seal_in digest)) [] (seal_line_is [] (text (named_in_header digest))) (All-nil IsLine)));
  size = size;
}

pub new_read : (digest : List ℕ) → length digest ≡ 64 → IsLine digest
    → reading (new_file digest) digest ≡ Ok (record { text = text (header digest); seal = seal_in digest; dropped = [] })
new_read digest size is =
    reading_is (new_file digest) digest (35 ∷ []) [] (seal_in digest) (35 ∷ []) (new_begins digest size is) (no_puts (seal_in digest) (35 ∷ [])) refl digest
    ∙ ap (λ (b : Bool). if b then Ok (record { text = text (header digest); seal = seal_in digest; dropped = [] }) else Err (OtherTrack digest)) ((bytes_eq-Decides digest digest).1 refl)

pub new_tells : (digest : List ℕ) → length digest ≡ 64 → IsLine digest → recovered (new_file digest) ≡ []
new_tells digest size is =
    let begins = new_begins digest size is in
    ap (λ (l : List (List ℕ)). told_of (chain_of l).whole) (counted-at_rest (header digest) begins.lines)
    ∙ ap (λ (c : Chain). told_of c.whole) (header_chain digest size)

-- its header is written line by line
pub laid_out : (digest nothing one second two seal third three : List ℕ) → nothing ≡ [] → one ≡ nothing ++ (32 ∷ (title ++ codes "2") ++ 10 ∷ []) → second ≡ track_mark ++ digest
    → two ≡ one ++ (32 ∷ second ++ 10 ∷ []) → seal ≡ seal_of_bytes [] two → third ≡ seal_line seal → three ≡ two ++ (32 ∷ third ++ 10 ∷ []) → three ≡ text (header digest)
laid_out digest nothing one second two seal third three e0 e1 es e2 eseal et e3 =
    let first : one ≡ (32 ∷ (title ++ codes "2") ++ 10 ∷ []) = e1 ∙ ap (λ (l : List ℕ). l ++ (32 ∷ (title ++ codes "2") ++ 10 ∷ [])) e0 in
    let both : two ≡ text (named_in_header digest) =
    e2 ∙ ap (λ (l : List ℕ). l ++ (32 ∷ second ++ 10 ∷ [])) first ∙ ap (λ (l : List ℕ). (32 ∷ (title ++ codes "2") ++ 10 ∷ []) ++ (32 ∷ l ++ 10 ∷ [])) es in
    let last : third ≡ seal_line (seal_in digest) = et ∙ ap seal_line (eseal ∙ ap (seal_of_bytes []) both) in
    e3 ∙ ap (λ (l : List ℕ). l ++ (32 ∷ third ++ 10 ∷ [])) both ∙ ap (λ (l : List ℕ). text (named_in_header digest) ++ (32 ∷ l ++ 10 ∷ [])) last
    ∙ sym (text-append (named_in_header digest) (seal_line (seal_in digest) ∷ []))
