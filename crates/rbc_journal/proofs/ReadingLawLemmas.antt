-- How files that a crash leaves, or that were cut, are read.
use Rattle.std.proofs.Common.{◌≡◌, ◌≢◌, ◌⊎◌, inl, inr, ⊎_elim, ℕ, zero, suc, ◌+◌, ◌-◌, ◌<◌, ◌≤◌, Bool, true, false, List, [], ◌∷◌, ◌++◌, length, All, Option, Some, None, Result, Ok, Err, get_or, take, drop, refl, sym, ◌∙◌, ap, subst, arith, append_assoc, length-append, take-append-drop, if◌then◌else◌, ◌==◌}
use Rattle.std.specs.Prelude.{fold, not, ◌&&◌, ◌||◌}
use Rattle.std.proofs.lemmas.Bool.{cases_eq, cases_lt, cases_Bool, eq-eqb, ne_eqb}
use Rattle.std.proofs.lemmas.List.{take_at, drop_at, take_all, drop_more, take-append-le, length-drop}
use Rattle.std.proofs.Math.Seq.{take-append-add}
use Rattle.std.proofs.lemmas.List.Sums.{fold-append}
use Rattle.std.proofs.lemmas.List.Elements.{All-nil, All-head, All-tail, All-cons, All-append}
use Rattle.std.proofs.lemmas.Slice.Eq.{bytes_eq-Decides}
use Rattle.rbc_journal.specs.Device.{Torn}
use Rattle.rbc_journal.specs.Gates.{counted, text, at_rest, behind, IsLine}
use Rattle.rbc_journal.specs.Seals.{Chain, start, with_line, chain_of, seal_line, seal_of}
use Rattle.rbc_journal.specs.Headers.{format_in, digest_in}
use Rattle.rbc_journal.specs.Marks.{marked_front, begins_marked}
use Rattle.rbc_journal.specs.Puts.{IsPut, at_put, ArePut, with_its_seal}
use Rattle.rbc_journal.specs.Reading.{Parts, is_whole, first_put, opens_more, is_kept, was_open, ends_well, dropped_of, tail_of, by_end, by_chain, by_header, by_format, reading}
use Rattle.rbc_journal.specs.ReadingLaws.{AreJournal, IsReadAs, MayLeave, IsForged, IsRefused}
use Rattle.rbc_journal.specs.declared.reading.ReadFault.{ReadFault}
use Rattle.rbc_journal.specs.declared.reading.ReadFault.TheVariants.{NotAJournal, Damaged, OtherTrack}
use Rattle.rbc_journal.proofs.LineLemmas.{NotFeed, text-append, counted-at_rest, unfinished, closed, stands_for}
use Rattle.rbc_journal.proofs.PutLemmas.{Inner, put_chain, put_was_open, put_ends, put_unmarked, All-snoc}
use Rattle.rbc_journal.proofs.SealLemmas.{seal_form, seal_line_is}

-- ---- a file with a journal's lines

module _ (track : List ℕ) (lines : List (List ℕ)) (seal : List ℕ) (is : AreJournal track lines seal) where
  -- by what stands behind them, at which no line counts
  pub read_lines : (tail : List ℕ) → by_format track lines tail (format_in lines) ≡ by_end track lines track seal (dropped_of seal tail)
  read_lines tail =
      ap (by_format track lines tail) is.format
      ∙ ap (by_header track lines tail) is.of_track
      ∙ ap (λ (c : Chain). by_chain track lines tail c track) is.sealed
      ∙ ap (λ (b : Bool). if b then by_end track lines track seal (dropped_of seal tail) else Err (Damaged (length lines + 1))) (eq-eqb (length lines) (length lines) refl)

  pub read_behind : (tail : List ℕ) → counted tail ≡ [] → reading (text lines ++ tail) track ≡ by_end track lines track seal (dropped_of seal tail)
  read_behind tail none =
      let count : counted (text lines ++ tail) ≡ lines = stands_for lines tail is.one_each none in
      let behind : tail_of (text lines ++ tail) ≡ tail = ap (λ (l : List (List ℕ)). drop (length (text l)) (text lines ++ tail)) count ∙ drop_at (text lines) tail (length (text lines)) refl in
      ap (λ (l : List (List ℕ)). by_format track l (tail_of (text lines ++ tail)) (format_in l)) count
      ∙ ap (λ (t : List ℕ). by_format track lines t (format_in lines)) behind
      ∙ read_lines tail

  pub read_dropped : (tail dropped : List ℕ) → counted tail ≡ [] → dropped_of seal tail ≡ Some dropped → IsReadAs track (text lines ++ tail) lines seal dropped
  read_dropped tail dropped none drops =
      read_behind tail none ∙ ap (by_end track lines track seal) drops
      ∙ ap (λ (b : Bool). if b then Ok (record { text = text lines; seal = seal; dropped = dropped }) else Err (OtherTrack track)) ((bytes_eq-Decides track track).1 refl)

-- ---- a journal with one more put

-- of lines without the form of a seal
module _ (seal : List ℕ) (put : List (List ℕ)) (one_each : All IsLine put) (no_seals : All Inner put) where
  more_lines : All IsLine (with_its_seal seal put)
  more_lines = All-snoc IsLine put (seal_line (seal_of seal put)) one_each (seal_line_is seal (text put))

  more_put : IsPut seal (at_rest (with_its_seal seal put)) put (seal_of seal put) (35 ∷ [])
  more_put = record { split = refl; lines = more_lines; inner = no_seals; form = seal_form seal (text put); right = refl }

  more_chain : (whole : List (List ℕ)) → fold with_line (at_put whole seal) (with_its_seal seal put) ≡ at_put (whole ++ with_its_seal seal put) (seal_of seal put)
  more_chain whole = put_chain whole seal put (seal_of seal put) no_seals (seal_form seal (text put)) refl

  -- behind a beginning
  module _ (unmarked : marked_front put ≡ []) where
    -- its gate was not open before
    pub stops : was_open seal (at_rest (with_its_seal seal put)) ≡ false
    stops =
        put_was_open seal (at_rest (with_its_seal seal put)) put (seal_of seal put) (35 ∷ []) more_put
        ∙ ap (λ (b : Bool). b || false) (put_unmarked put (seal_of seal put) unmarked)

    pub ends : ends_well seal (at_rest (with_its_seal seal put)) ≡ true
    ends =
        put_ends seal (at_rest (with_its_seal seal put)) put (seal_of seal put) (35 ∷ []) more_put
        ∙ ap (λ (b : Bool). not b && true) (put_unmarked put (seal_of seal put) unmarked)

format_more : (lines more : List (List ℕ)) → format_in lines ≡ Some 2 → format_in (lines ++ more) ≡ Some 2
format_more [] more is = cc is
format_more (line ∷ lines) more is = is

digest_more : (lines more : List (List ℕ)) (digest : List ℕ) → digest_in lines ≡ Some digest → digest_in (lines ++ more) ≡ Some digest
digest_more [] more digest is = cc is
digest_more (first ∷ []) more digest is = cc is
digest_more (first ∷ second ∷ []) more digest is = cc is
digest_more (first ∷ second ∷ third ∷ lines) more digest is = is

pub one_more : (track : List ℕ) (lines : List (List ℕ)) (seal : List ℕ) (put : List (List ℕ)) → AreJournal track lines seal → All IsLine put → All Inner put
    → AreJournal track (lines ++ with_its_seal seal put) (seal_of seal put)
one_more track lines seal put is one_each no_seals = record {
  one_each = All-append IsLine lines (with_its_seal seal put) is.one_each (more_lines seal put one_each no_seals);
  sealed =
      fold-append with_line start lines (with_its_seal seal put)
      ∙ ap (λ (c : Chain). fold with_line c (with_its_seal seal put)) is.sealed
      ∙ more_chain seal put one_each no_seals lines;
  format = format_more lines (with_its_seal seal put) is.format;
  of_track = digest_more lines (with_its_seal seal put) track is.of_track;
}

-- ---- a crash

gate_behind : (put : List (List ℕ)) (line : List ℕ) → 32 ∷ behind (put ++ line ∷ []) ≡ at_rest (put ++ line ∷ [])
gate_behind [] line = ap (λ (l : List ℕ). 32 ∷ l) (sym (append_assoc line (10 ∷ []) (35 ∷ [])))
gate_behind (first ∷ put) line = ap (λ (l : List ℕ). 32 ∷ l) (sym (append_assoc first (10 ∷ text (put ++ line ∷ [])) (35 ∷ [])))

opens_two : (bytes : List ℕ) → opens_more bytes ≡ true → 2 ≤ length bytes
opens_two [] opens = cc opens
opens_two (gate ∷ []) opens = cc opens
opens_two (gate ∷ next ∷ rest) opens = omega arith

-- a put that was kept: it begins with a marked line, or an open gate stands behind it, and more
abbrev IsKept : Option (List (List ℕ)) → List ℕ → Type 0
IsKept found bytes = (others : List (List ℕ)) × (found ≡ Some others) × ((length (text others) + 2 ≤ length bytes) ⊎ (begins_marked others ≡ true))

kept_by : (others : List (List ℕ)) (bytes : List ℕ) (test : Bool) → begins_marked others ≡ test → (test || opens_more (drop (length (text others)) bytes)) ≡ true
    → (length (text others) + 2 ≤ length bytes) ⊎ (begins_marked others ≡ true)
kept_by others bytes true marks kept = inr marks
kept_by others bytes false marks kept = inl (omega (arith, opens_two (drop (length (text others)) bytes) kept, length-drop (length (text others)) bytes))

kept_put : (found : Option (List (List ℕ))) (bytes : List ℕ) → is_kept bytes found ≡ true → IsKept found bytes
kept_put None bytes kept = cc kept
kept_put (Some others) bytes kept = (others, refl, kept_by others bytes (begins_marked others) refl kept)

-- what stands behind the old end is no longer than the range
dropped_short : (at n : ℕ) (file old : List ℕ) → Torn at n old file → at ≡ length old → length (drop at file) ≤ n
dropped_short at n file old torn end = omega (arith, torn.no_longer, end, length-drop at file)

module _ (track : List ℕ) (lines : List (List ℕ)) (seal : List ℕ) (put : List (List ℕ)) (is : AreJournal track lines seal) (more : ArePut put) where
  abbrev Outcome : List ℕ → Type 0
  Outcome file =
      ((dropped : List ℕ) × IsReadAs track file lines seal dropped) ⊎ IsReadAs track file (lines ++ with_its_seal seal put) (seal_of seal put) [] ⊎ IsForged lines seal (with_its_seal seal put) file

  length-at_rest : length (at_rest lines) ≡ length (text lines) + 1
  length-at_rest = length-append (text lines) (35 ∷ [])

  length-behind : length (behind (with_its_seal seal put)) ≡ length (text (with_its_seal seal put))
  length-behind = omega (arith, ap length (gate_behind put (seal_line (seal_of seal put))), length-append (text (with_its_seal seal put)) (35 ∷ []))

  -- torn bytes behind the closed gate
  closed_gate : (torn file : List ℕ) → torn ≡ drop (length (at_rest lines)) file → length torn ≤ length (behind (with_its_seal seal put)) → file ≡ text lines ++ 35 ∷ torn → Outcome file
  closed_gate torn file from short whole = elim (cases_Bool (was_open seal (32 ∷ torn))) [
    | inl forged ↦
        let found = kept_put (first_put seal [] (counted (32 ∷ torn))) (32 ∷ torn) forged in
        inr (inr (record {
          others = found.0;
          sealed = subst (λ (t : List ℕ). first_put seal [] (counted (32 ∷ t)) ≡ Some found.0) from found.1;
          differ = ⊎_elim (λ long. inl (omega (arith, long, short, length-behind))) (λ marks. inr marks) found.2;
        }))
    | inr stopped ↦
        let drops : dropped_of seal (35 ∷ torn) ≡ Some torn = ap (λ (b : Bool). if not b then Some torn else None) stopped in
        inl (torn, subst (λ (f : List ℕ). IsReadAs track f lines seal torn) (sym whole) (read_dropped track lines seal is (35 ∷ torn) torn (closed 35 torn (omega arith)) drops))
  ]

  torn_behind : (file : List ℕ) → Torn (length (at_rest lines)) (length (behind (with_its_seal seal put))) (at_rest lines) file → Outcome file
  torn_behind file torn =
      let at = length (at_rest lines) in
      let front : take (length (at_rest lines)) file ≡ at_rest lines = torn.before ∙ take_all (length (at_rest lines)) (at_rest lines) (omega arith) in
      closed_gate (drop (length (at_rest lines)) file) file refl (dropped_short (length (at_rest lines)) (length (behind (with_its_seal seal put))) file (at_rest lines) torn refl)
      (sym (take-append-drop (length (at_rest lines)) file) ∙ ap (λ (l : List ℕ). l ++ drop (length (at_rest lines)) file) front
      ∙ append_assoc (text lines) (35 ∷ []) (drop (length (at_rest lines)) file))

  -- the put behind the gate, which holds this byte
  other_gate : (gate : ℕ) → gate ≢ 32 → gate ≢ 35 → dropped_of seal (gate ∷ behind (with_its_seal seal put)) ≡ Some (behind (with_its_seal seal put))
  other_gate gate shut torn =
      ap (λ (b : Bool). if (if b then false else if gate == 35 then not (was_open seal (32 ∷ behind (with_its_seal seal put))) else ends_well seal (32 ∷ behind (with_its_seal seal put))) then Some (behind (with_its_seal seal put)) else None)
      (ne_eqb gate 32 shut)
      ∙ ap (λ (b : Bool). if (if b then not (was_open seal (32 ∷ behind (with_its_seal seal put))) else ends_well seal (32 ∷ behind (with_its_seal seal put))) then Some (behind (with_its_seal seal put)) else None)
      (ne_eqb gate 35 torn)
      ∙ ap (λ (b : Bool). if b then Some (behind (with_its_seal seal put)) else None) (ap (ends_well seal) (gate_behind put (seal_line (seal_of seal put))) ∙ ends seal put more.one_each more.no_seals more.unmarked)

  closed_put : dropped_of seal (35 ∷ behind (with_its_seal seal put)) ≡ Some (behind (with_its_seal seal put))
  closed_put =
      ap (λ (b : Bool). if not b then Some (behind (with_its_seal seal put)) else None) (ap (was_open seal) (gate_behind put (seal_line (seal_of seal put))) ∙ stops seal put more.one_each more.no_seals more.unmarked)

  open_put : text lines ++ 32 ∷ behind (with_its_seal seal put) ≡ text (lines ++ with_its_seal seal put) ++ 35 ∷ []
  open_put =
      ap (λ (l : List ℕ). text lines ++ l) (gate_behind put (seal_line (seal_of seal put)))
      ∙ sym (append_assoc (text lines) (text (with_its_seal seal put)) (35 ∷ []))
      ∙ ap (λ (l : List ℕ). l ++ 35 ∷ []) (sym (text-append lines (with_its_seal seal put)))

  by_gate : (gate : ℕ) (file : List ℕ) → file ≡ text lines ++ gate ∷ behind (with_its_seal seal put) → Outcome file
  by_gate gate file whole = elim (cases_eq gate 32) [
    | inl is_open ↦
        let there : file ≡ text (lines ++ with_its_seal seal put) ++ 35 ∷ [] = whole ∙ ap (λ (g : ℕ). text lines ++ g ∷ behind (with_its_seal seal put)) is_open ∙ open_put in
        inr (inl (subst (λ (f : List ℕ). IsReadAs track f (lines ++ with_its_seal seal put) (seal_of seal put) []) (sym there)
        (read_dropped track (lines ++ with_its_seal seal put) (seal_of seal put) (one_more track lines seal put is more.one_each more.no_seals) (35 ∷ []) [] refl refl)))
    | inr shut ↦
        let drops : dropped_of seal (gate ∷ behind (with_its_seal seal put)) ≡ Some (behind (with_its_seal seal put)) = elim (cases_eq gate 35) [
          | inl is_closed ↦ ap (λ (g : ℕ). dropped_of seal (g ∷ behind (with_its_seal seal put))) is_closed ∙ closed_put
          | inr torn ↦ other_gate gate shut torn
        ] in
        inl (
          behind (with_its_seal seal put),
          subst (λ (f : List ℕ). IsReadAs track f lines seal (behind (with_its_seal seal put))) (sym whole)
              (read_dropped track lines seal is (gate ∷ behind (with_its_seal seal put)) (behind (with_its_seal seal put)) (closed gate (behind (with_its_seal seal put)) shut) drops),
        )
  ]

  torn_gate : (file : List ℕ) → Torn (length (text lines)) 1 (text lines ++ 35 ∷ behind (with_its_seal seal put)) file → Outcome file
  torn_gate file torn =
      let bytes = behind (with_its_seal seal put) in
      let at = length (text lines) in
      let long : length (text lines ++ 35 ∷ behind (with_its_seal seal put)) ≡ length (text lines) + 1 + length (behind (with_its_seal seal put)) =
      omega (arith, length-append (text lines) (35 ∷ behind (with_its_seal seal put))) in
      let front : take (length (text lines)) file ≡ text lines = torn.before ∙ take_at (text lines) (35 ∷ behind (with_its_seal seal put)) (length (text lines)) refl in
      let last : drop (length (text lines) + 1) file ≡ behind (with_its_seal seal put) =
      torn.after
      ∙ ap (λ (l : List ℕ). drop (length (text lines) + 1) l) (sym (append_assoc (text lines) (35 ∷ []) (behind (with_its_seal seal put))))
      ∙ drop_at (at_rest lines) (behind (with_its_seal seal put)) (length (text lines) + 1) length-at_rest in
      let back : drop (length (text lines)) file ≡ get_or file (length (text lines)) 0 ∷ behind (with_its_seal seal put) =
      drop_more file (length (text lines)) 0 (omega (arith, torn.no_shorter, long)) ∙ ap (λ (l : List ℕ). get_or file (length (text lines)) 0 ∷ l) last in
      by_gate (get_or file (length (text lines)) 0) file
      (sym (take-append-drop (length (text lines)) file) ∙ ap (λ (l : List ℕ). l ++ drop (length (text lines)) file) front ∙ ap (λ (l : List ℕ). text lines ++ l) back)

  pub crash_is_read : (file : List ℕ) → MayLeave lines (with_its_seal seal put) file → Outcome file
  crash_is_read file (inl torn) = torn_behind file torn
  crash_is_read file (inr torn) = torn_gate file torn

-- ---- a cut

-- a part of a line is one
front_line : (n : ℕ) (line : List ℕ) → IsLine line → IsLine (take n line)
front_line zero line is = All-nil NotFeed
front_line (suc n) [] is = All-nil NotFeed
front_line (suc n) (byte ∷ line) is = All-cons NotFeed byte (take n line) (All-head NotFeed byte line is) (front_line n line (All-tail NotFeed byte line is))

-- a file is the first of some lines, and an end at which none counts, and that no crash leaves
record IsCut (lines : List (List ℕ)) (file : List ℕ) : Type 0 where
  pub front : List (List ℕ)
  pub back : List (List ℕ)
  pub end : List ℕ
  pub both : lines ≡ front ++ back
  pub split : file ≡ text front ++ end
  pub none : counted end ≡ []
  pub told : (seal : List ℕ) → dropped_of seal end ≡ None

cut_here : (lines : List (List ℕ)) → IsCut lines []
cut_here lines = record { front = []; back = lines; end = []; both = refl; split = refl; none = refl; told = λ seal. refl }

cut_inside : (n : ℕ) (line : List ℕ) (more : List (List ℕ)) → IsLine line → n ≤ length line → IsCut (line ∷ more) (take (suc n) (at_rest (line ∷ more)))
cut_inside n line more is within = record {
  front = [];
  back = line ∷ more;
  end = 32 ∷ take n line;
  both = refl;
  split =
      ap (λ (l : List ℕ). 32 ∷ take n l) (append_assoc line (10 ∷ text more) (35 ∷ []))
      ∙ ap (λ (l : List ℕ). 32 ∷ l) (take-append-le n line (10 ∷ at_rest more) within);
  none = unfinished [] (take n line) (front_line n line is);
  told = λ seal. refl;
}

cut_behind : (n : ℕ) (line : List ℕ) (more : List (List ℕ)) → IsCut more (take n (at_rest more)) → IsCut (line ∷ more) (take (suc (length line + suc n)) (at_rest (line ∷ more)))
cut_behind n line more is = record {
  front = line ∷ is.front;
  back = is.back;
  end = is.end;
  both = ap (λ (l : List (List ℕ)). line ∷ l) is.both;
  split =
      ap (λ (l : List ℕ). 32 ∷ take (length line + suc n) l) (append_assoc line (10 ∷ text more) (35 ∷ []))
      ∙ ap (λ (l : List ℕ). 32 ∷ l) (take-append-add line (10 ∷ at_rest more) (suc n))
      ∙ ap (λ (l : List ℕ). 32 ∷ line ++ 10 ∷ l) is.split
      ∙ ap (λ (l : List ℕ). 32 ∷ l) (sym (append_assoc line (10 ∷ text is.front) is.end));
  none = is.none;
  told = is.told;
}

is_cut : (lines : List (List ℕ)) (n : ℕ) → All IsLine lines → n < length (at_rest lines) → IsCut lines (take n (at_rest lines))
is_cut lines zero are within = cut_here lines
is_cut [] (suc n) are within = absurd (omega arith)
is_cut (line ∷ more) (suc n) are within = elim (cases_lt (length line) n) [
  | inl past ↦
      let rest : n - (length line + 1) < length (at_rest more) =
      omega (arith, length-append (text (line ∷ more)) (35 ∷ []), length-append line (10 ∷ text more), length-append (text more) (35 ∷ [])) in
      subst (λ (k : ℕ). IsCut (line ∷ more) (take (suc k) (at_rest (line ∷ more)))) (omega arith)
      (cut_behind (n - (length line + 1)) line more (is_cut more (n - (length line + 1)) (All-tail IsLine line more are) rest))
  | inr within_line ↦ cut_inside n line more (All-head IsLine line more are) within_line
]

All-front : (front back : List (List ℕ)) → All IsLine (front ++ back) → All IsLine front
All-front [] back are = All-nil IsLine
All-front (line ∷ front) back are = All-cons IsLine line front (All-head IsLine line (front ++ back) are) (All-front front back (All-tail IsLine line (front ++ back) are))

module _ (track : List ℕ) where
  abbrev Refused : Result Parts ReadFault → Type 0
  Refused result = (result ≡ Err NotAJournal) ⊎ (line : ℕ) × (result ≡ Err (Damaged line))

  refused_chain : (front : List (List ℕ)) (end digest : List ℕ) (chain : Chain) → ((seal : List ℕ) → dropped_of seal end ≡ None) → Refused (by_chain track front end chain digest)
  refused_chain front end digest chain told = elim (cases_Bool (is_whole chain front)) [
    | inl whole ↦
        inr (
          length front + 1,
          ap (λ (b : Bool). if b then by_end track front digest chain.seal (dropped_of chain.seal end) else Err (Damaged (length chain.whole + 1))) whole
              ∙ ap (by_end track front digest chain.seal) (told chain.seal),
        )
    | inr short ↦
        inr (length chain.whole + 1, ap (λ (b : Bool). if b then by_end track front digest chain.seal (dropped_of chain.seal end) else Err (Damaged (length chain.whole + 1))) short)
  ]

  refused_header : (front : List (List ℕ)) (end : List ℕ) (digest : Option (List ℕ)) → ((seal : List ℕ) → dropped_of seal end ≡ None) → Refused (by_header track front end digest)
  refused_header front end None told = inr (1, refl)
  refused_header front end (Some digest) told = refused_chain front end digest (chain_of front) told

  refused_lines : (front back : List (List ℕ)) (end : List ℕ) → format_in (front ++ back) ≡ Some 2 → ((seal : List ℕ) → dropped_of seal end ≡ None) → Refused (by_format track front end (format_in front))
  refused_lines [] back end format told = inl refl
  refused_lines (line ∷ front) back end format told =
      subst (λ (f : Option ℕ). Refused (by_format track (line ∷ front) end f)) (sym format) (refused_header (line ∷ front) end (digest_in (line ∷ front)) told)

  pub cut_is_told : (lines : List (List ℕ)) (seal : List ℕ) (n : ℕ) → AreJournal track lines seal → n < length (at_rest lines) → IsRefused track (take n (at_rest lines))
  cut_is_told lines seal n is within =
      let cut = is_cut lines n is.one_each within in
      let front_is : All IsLine cut.front = All-front cut.front cut.back (subst (All IsLine) cut.both is.one_each) in
      let file = text cut.front ++ cut.end in
      let count : counted (text cut.front ++ cut.end) ≡ cut.front = stands_for cut.front cut.end front_is cut.none in
      let tail : tail_of (text cut.front ++ cut.end) ≡ cut.end = ap (λ (l : List (List ℕ)). drop (length (text l)) (text cut.front ++ cut.end)) count ∙ drop_at (text cut.front) cut.end (length (text cut.front)) refl in
      let same : reading (take n (at_rest lines)) track ≡ by_format track cut.front cut.end (format_in cut.front) =
      ap (λ (f : List ℕ). reading f track) cut.split
      ∙ ap (λ (l : List (List ℕ)). by_format track l (tail_of (text cut.front ++ cut.end)) (format_in l)) count
      ∙ ap (λ (t : List ℕ). by_format track cut.front t (format_in cut.front)) tail in
      subst Refused (sym same) (refused_lines cut.front cut.back cut.end (ap format_in (sym cut.both) ∙ is.format) cut.told)

-- ---- one list

pub lines_are_one : (lines others : List (List ℕ)) → All IsLine lines → All IsLine others → at_rest lines ≡ at_rest others → lines ≡ others
lines_are_one lines others are were same = sym (counted-at_rest lines are) ∙ ap counted same ∙ counted-at_rest others were
