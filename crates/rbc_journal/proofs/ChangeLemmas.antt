-- What a last seal vouches for, and how a changed byte is told.
use Rattle.std.proofs.Common.{◌≡◌, ◌⊎◌, inl, inr, ℕ, zero, suc, ◌+◌, ◌<◌, ◌≤◌, Bool, true, false, List, [], ◌∷◌, ◌++◌, length, All, Option, Some, None, Result, Ok, Err, take, drop, refl, sym, ◌∙◌, ap, subst, arith, append_assoc, length-append, if◌then◌else◌, ◌==◌}
use Rattle.std.specs.Prelude.{fold, not, bytes_eq}
use Rattle.std.proofs.lemmas.Bool.{cases_eq, cases_lt, cases_Bool, eqb-true, ne_eqb, both_ways}
use Rattle.std.proofs.lemmas.List.{append-nil, take_at, drop_at, take-append-le}
use Rattle.std.proofs.lemmas.List.Sums.{fold-append}
use Rattle.std.proofs.lemmas.List.Elements.{All-nil, All-head, All-tail, All-cons}
use Rattle.std.proofs.lemmas.Slice.Eq.{bytes_eq-Decides}
use Rattle.rbc_journal.specs.Gates.{lines_from, counted, text, at_rest, IsLine}
use Rattle.rbc_journal.specs.Seals.{Chain, start, sealed, with_line, with_seal, chain_of, has_seal_form, seal_line, seal_of, seal_of_bytes, AreSealed}
use Rattle.rbc_journal.specs.Headers.{format_in, digest_in}
use Rattle.rbc_journal.specs.Puts.{at_put}
use Rattle.rbc_journal.specs.Reading.{Parts, is_whole, is_crash, was_open, ends_well, dropped_of, tail_of, is_first_format, of_track, by_end, by_chain, by_header, by_format}
use Rattle.rbc_journal.specs.ReadingLaws.{AreJournal, IsReadAs, IsSealedBy, HaveCollision, DifferInOne}
use Rattle.rbc_journal.specs.declared.reading.ReadFault.{ReadFault}
use Rattle.rbc_journal.specs.declared.reading.ReadFault.TheVariants.{NotAJournal, FirstFormat, OtherFormat, Damaged, OtherTrack}
use Rattle.rbc_journal.proofs.LineLemmas.{counted-text, closed, no_feed, are_lines}
use Rattle.rbc_journal.proofs.PutLemmas.{text-snoc, with_inner}
use Rattle.rbc_journal.proofs.SealLemmas.{seal_size, seal_first}

-- ---- puts, the last one first

abbrev seal_in : List (List (List ℕ)) → List ℕ
seal_in [] = []
seal_in (put ∷ puts) = seal_of (seal_in puts) put

abbrev lines_in : List (List (List ℕ)) → List (List ℕ)
lines_in [] = []
lines_in (put ∷ puts) = lines_in puts ++ (put ++ seal_line (seal_of (seal_in puts) put) ∷ [])

record Right (done : List (List ℕ)) (c : Chain) : Type 0 where
  pub puts : List (List (List ℕ))
  pub whole : c.whole ≡ lines_in puts
  pub seal : c.seal ≡ seal_in puts
  pub all : done ≡ c.whole ++ c.put

record Reached (done : List (List ℕ)) (c : Chain) : Type 0 where
  pub right : c.is_right ≡ true → Right done c
  pub wrong : c.is_right ≡ false → length c.whole < length done

reached_start : Reached [] start
reached_start = record { right = λ e. record { puts = []; whole = refl; seal = refl; all = refl }; wrong = λ e. cc e }

-- a line of the form of a seal is read
seal_read : (c : Chain) (line : List ℕ) → c.is_right ≡ true → has_seal_form line ≡ true → with_line c line ≡ with_seal c line (seal_of c.seal c.put)
seal_read c line e form =
    ap (λ (b : Bool). if not b then c else if has_seal_form line then with_seal c line (seal_of c.seal c.put) else record c { put = c.put ++ line ∷ [] }) e
    ∙ ap (λ (b : Bool). if b then with_seal c line (seal_of c.seal c.put) else record c { put = c.put ++ line ∷ [] }) form

module _ (done : List (List ℕ)) (c : Chain) (line : List ℕ) (reached : Reached done c) where
  longer : length (done ++ line ∷ []) ≡ length done + 1
  longer = length-append done (line ∷ [])

  step_wrong : c.is_right ≡ false → Reached (done ++ line ∷ []) (with_line c line)
  step_wrong e =
      let same : with_line c line ≡ c =
      ap (λ (b : Bool). if not b then c else if has_seal_form line then with_seal c line (seal_of c.seal c.put) else record c { put = c.put ++ line ∷ [] }) e in
      subst (Reached (done ++ line ∷ [])) (sym same) (record {
        right = λ r. absurd (both_ways c.is_right e r);
        wrong = λ w. omega (arith, reached.wrong e, longer);
      })

  step_inner : c.is_right ≡ true → has_seal_form line ≡ false → Reached (done ++ line ∷ []) (with_line c line)
  step_inner e inner =
      let was = reached.right e in
      subst (Reached (done ++ line ∷ [])) (sym (with_inner c line e inner)) (record {
        right = λ r. record {
          puts = was.puts;
          whole = was.whole;
          seal = was.seal;
          all = ap (λ (l : List (List ℕ)). l ++ line ∷ []) was.all ∙ append_assoc c.whole c.put (line ∷ []);
        };
        wrong = λ w. absurd (both_ways c.is_right w e);
      })

  step_sealed : c.is_right ≡ true → has_seal_form line ≡ true → bytes_eq line (seal_line (seal_of c.seal c.put)) ≡ true → Reached (done ++ line ∷ []) (with_line c line)
  step_sealed e form test =
      let was = reached.right e in
      let is : line ≡ seal_line (seal_of c.seal c.put) = (bytes_eq-Decides line (seal_line (seal_of c.seal c.put))).0 test in
      let to : with_line c line ≡ sealed c (seal_of c.seal c.put) =
      seal_read c line e form ∙ ap (λ (b : Bool). if b then sealed c (seal_of c.seal c.put) else record c { is_right = false }) test in
      subst (Reached (done ++ line ∷ [])) (sym to) (record {
        right = λ r. record {
          puts = c.put ∷ was.puts;
          whole =
              append_assoc c.whole c.put (seal_line (seal_of c.seal c.put) ∷ [])
              ∙ ap (λ (l : List (List ℕ)). l ++ (c.put ++ seal_line (seal_of c.seal c.put) ∷ [])) was.whole
              ∙ ap (λ (s : List ℕ). lines_in was.puts ++ (c.put ++ seal_line (seal_of s c.put) ∷ [])) was.seal;
          seal = ap (λ (s : List ℕ). seal_of s c.put) was.seal;
          all =
              ap (λ (l : List (List ℕ)). l ++ line ∷ []) was.all
              ∙ ap (λ (l : List ℕ). (c.whole ++ c.put) ++ l ∷ []) is
              ∙ sym (append-nil ((c.whole ++ c.put) ++ seal_line (seal_of c.seal c.put) ∷ []));
        };
        wrong = λ w. cc w;
      })

  step_other : c.is_right ≡ true → has_seal_form line ≡ true → bytes_eq line (seal_line (seal_of c.seal c.put)) ≡ false → Reached (done ++ line ∷ []) (with_line c line)
  step_other e form test =
      let was = reached.right e in
      let to : with_line c line ≡ record c { is_right = false } =
      seal_read c line e form ∙ ap (λ (b : Bool). if b then sealed c (seal_of c.seal c.put) else record c { is_right = false }) test in
      subst (Reached (done ++ line ∷ [])) (sym to) (record {
        right = λ r. cc r;
        wrong = λ w. omega (arith, longer, ap length was.all, length-append c.whole c.put);
      })

  step : Reached (done ++ line ∷ []) (with_line c line)
  step = elim (cases_Bool c.is_right) [
    | inl e ↦ elim (cases_Bool (has_seal_form line)) [
      | inl form ↦ elim (cases_Bool (bytes_eq line (seal_line (seal_of c.seal c.put)))) [
        | inl test ↦ step_sealed e form test
        | inr test ↦ step_other e form test
      ]
      | inr inner ↦ step_inner e inner
    ]
    | inr e ↦ step_wrong e
  ]

reach : (done : List (List ℕ)) (c : Chain) (lines : List (List ℕ)) → Reached done c → Reached (done ++ lines) (fold with_line c lines)
reach done c [] reached = subst (λ (d : List (List ℕ)). Reached d c) (sym (append-nil done)) reached
reach done c (line ∷ lines) reached =
    subst (λ (d : List (List ℕ)). Reached d (fold with_line (with_line c line) lines)) (append_assoc done (line ∷ []) lines)
    (reach (done ++ line ∷ []) (with_line c line) lines (step done c line reached))

reached_all : (lines : List (List ℕ)) → Reached lines (chain_of lines)
reached_all lines = reach [] start lines reached_start

record FromPuts (lines : List (List ℕ)) (seal : List ℕ) : Type 0 where
  pub puts : List (List (List ℕ))
  pub lines_are : lines ≡ lines_in puts
  pub seal_is : seal ≡ seal_in puts

from_puts : (lines : List (List ℕ)) (seal : List ℕ) → AreSealed lines seal → FromPuts lines seal
from_puts lines seal is =
    let r = (reached_all lines).right (ap (λ (c : Chain). c.is_right) is) in
    record {
      puts = r.puts;
      lines_are = sym (ap (λ (c : Chain). c.whole) is) ∙ r.whole;
      seal_is = sym (ap (λ (c : Chain). c.seal) is) ∙ r.seal;
    }

-- ---- one last seal

All-front : (front back : List (List ℕ)) → All IsLine (front ++ back) → All IsLine front
All-front [] back are = All-nil IsLine
All-front (line ∷ front) back are = All-cons IsLine line front (All-head IsLine line (front ++ back) are) (All-front front back (All-tail IsLine line (front ++ back) are))

All-back : (front back : List (List ℕ)) → All IsLine (front ++ back) → All IsLine back
All-back [] back are = are
All-back (line ∷ front) back are = All-back front back (All-tail IsLine line (front ++ back) are)

counted_of : (lines : List (List ℕ)) → All IsLine lines → counted (text lines) ≡ lines
counted_of lines are = ap counted (sym (append-nil (text lines))) ∙ counted-text lines [] are ∙ append-nil lines

same_text : (a b : List (List ℕ)) → All IsLine a → All IsLine b → text a ≡ text b → a ≡ b
same_text a b are were e = sym (counted_of a are) ∙ ap counted e ∙ counted_of b were

-- a text is not a seal and a text
not_behind : (put : List (List ℕ)) (before bytes rest : List ℕ) → text put ≡ seal_of_bytes before bytes ++ rest → ⊥
not_behind [] before bytes rest e = absurd (omega (arith, ap length e, length-append (seal_of_bytes before bytes) rest, seal_size before bytes))
not_behind (line ∷ put) before bytes rest e = seal_first before bytes rest (line ++ 10 ∷ text put) e

record SameParts (a b x y : List ℕ) : Type 0 where
  pub seals : a ≡ b
  pub texts : x ≡ y

parts_of : (ps os : List (List (List ℕ))) (p o : List (List ℕ)) → seal_in ps ++ text p ≡ seal_in os ++ text o → SameParts (seal_in ps) (seal_in os) (text p) (text o)
parts_of [] [] p o e = record { seals = refl; texts = e }
parts_of [] (b ∷ os) p o e = absurd (not_behind p (seal_in os) (text b) (text o) e)
parts_of (a ∷ ps) [] p o e = absurd (not_behind o (seal_in ps) (text a) (text p) (sym e))
parts_of (a ∷ ps) (b ∷ os) p o e =
    let s = seal_of (seal_in ps) a in
    let t = seal_of (seal_in os) b in
    record {
      seals =
          sym (take_at (seal_of (seal_in ps) a) (text p) 16 (seal_size (seal_in ps) (text a)))
          ∙ ap (λ (l : List ℕ). take 16 l) e
          ∙ take_at (seal_of (seal_in os) b) (text o) 16 (seal_size (seal_in os) (text b));
      texts =
          sym (drop_at (seal_of (seal_in ps) a) (text p) 16 (seal_size (seal_in ps) (text a)))
          ∙ ap (λ (l : List ℕ). drop 16 l) e
          ∙ drop_at (seal_of (seal_in os) b) (text o) 16 (seal_size (seal_in os) (text b));
    }

lift_sealed : (lines more : List (List ℕ)) (made_of seal : List ℕ) → IsSealedBy lines made_of seal → IsSealedBy (lines ++ more) made_of seal
lift_sealed lines more made_of seal is = record {
  front = is.front;
  before = is.before;
  put = is.put;
  back = is.back ++ more;
  split =
      ap (λ (l : List (List ℕ)). l ++ more) is.split
      ∙ append_assoc is.front (is.put ++ seal_line seal ∷ is.back) more
      ∙ ap (λ (l : List (List ℕ)). is.front ++ l) (append_assoc is.put (seal_line seal ∷ is.back) more);
  is_made_of = is.is_made_of;
  right = is.right;
}

lift : (lines others a b : List (List ℕ)) → HaveCollision lines others → HaveCollision (lines ++ a) (others ++ b)
lift lines others a b is = record {
  one = is.one;
  other = is.other;
  seal = is.seal;
  in_lines = lift_sealed lines a is.one is.seal is.in_lines;
  in_others = lift_sealed others b is.other is.seal is.in_others;
  differ = is.differ;
}

sealed_here : (put : List (List ℕ)) (puts : List (List (List ℕ))) → IsSealedBy (lines_in (put ∷ puts)) (seal_in puts ++ text put) (seal_of (seal_in puts) put)
sealed_here put puts = record { front = lines_in puts; before = seal_in puts; put = put; back = []; split = refl; is_made_of = refl; right = refl }

abbrev last_of : List (List (List ℕ)) → List (List ℕ) → List (List ℕ)
last_of puts put = put ++ seal_line (seal_of (seal_in puts) put) ∷ []

one_more : (ps os : List (List (List ℕ))) (p o : List (List ℕ)) → All IsLine p → All IsLine o → seal_in ps ++ text p ≡ seal_in os ++ text o
    → ((lines_in ps ≡ lines_in os) ⊎ HaveCollision (lines_in ps) (lines_in os))
    → (lines_in (p ∷ ps) ≡ lines_in (o ∷ os)) ⊎ HaveCollision (lines_in (p ∷ ps)) (lines_in (o ∷ os))
one_more ps os p o are were e (inl same) =
    let parts = parts_of ps os p o e in
    let put : p ≡ o = same_text p o are were parts.texts in
    inl (ap (λ (l : List (List ℕ)). l ++ (p ++ seal_line (seal_of (seal_in ps) p) ∷ [])) same
    ∙ ap (λ (s : List ℕ). lines_in os ++ (p ++ seal_line (seal_of s p) ∷ [])) parts.seals
    ∙ ap (λ (q : List (List ℕ)). lines_in os ++ (q ++ seal_line (seal_of (seal_in os) q) ∷ [])) put)
one_more ps os p o are were e (inr collision) = inr (lift (lines_in ps) (lines_in os) (last_of ps p) (last_of os o) collision)

one_seal : (ps os : List (List (List ℕ))) → All IsLine (lines_in ps) → All IsLine (lines_in os) → seal_in ps ≡ seal_in os
    → (lines_in ps ≡ lines_in os) ⊎ HaveCollision (lines_in ps) (lines_in os)
one_seal [] [] are were e = inl refl
one_seal [] (o ∷ os) are were e = absurd (omega (arith, ap length e, seal_size (seal_in os) (text o)))
one_seal (p ∷ ps) [] are were e = absurd (omega (arith, ap length e, seal_size (seal_in ps) (text p)))
one_seal (p ∷ ps) (o ∷ os) are were e = elim (cases_Bool (bytes_eq (seal_in ps ++ text p) (seal_in os ++ text o))) [
  | inl same ↦
      one_more ps os p o
      (All-front p (seal_line (seal_of (seal_in ps) p) ∷ []) (All-back (lines_in ps) (last_of ps p) are))
      (All-front o (seal_line (seal_of (seal_in os) o) ∷ []) (All-back (lines_in os) (last_of os o) were))
      ((bytes_eq-Decides (seal_in ps ++ text p) (seal_in os ++ text o)).0 same)
      (one_seal ps os (All-front (lines_in ps) (last_of ps p) are) (All-front (lines_in os) (last_of os o) were)
      (parts_of ps os p o ((bytes_eq-Decides (seal_in ps ++ text p) (seal_in os ++ text o)).0 same)).seals)
  | inr differs ↦
      inr (record {
        one = seal_in ps ++ text p;
        other = seal_in os ++ text o;
        seal = seal_of (seal_in ps) p;
        in_lines = sealed_here p ps;
        in_others = subst (λ (s : List ℕ). IsSealedBy (lines_in (o ∷ os)) (seal_in os ++ text o) s) (sym e) (sealed_here o os);
        differ = λ same. both_ways (bytes_eq (seal_in ps ++ text p) (seal_in os ++ text o)) differs ((bytes_eq-Decides (seal_in ps ++ text p) (seal_in os ++ text o)).1 same);
      })
]

pub last_seal_vouches : (lines others : List (List ℕ)) (seal : List ℕ) → All IsLine lines → All IsLine others → AreSealed lines seal → AreSealed others seal
    → (lines ≡ others) ⊎ HaveCollision lines others
last_seal_vouches lines others seal are were is was =
    let a = from_puts lines seal is in
    let b = from_puts others seal was in
    subst (λ (l : List (List ℕ)). (l ≡ others) ⊎ HaveCollision l others) (sym a.lines_are)
    (subst (λ (l : List (List ℕ)). (lines_in a.puts ≡ l) ⊎ HaveCollision (lines_in a.puts) l) (sym b.lines_are)
    (one_seal a.puts b.puts (subst (All IsLine) a.lines_are are) (subst (All IsLine) b.lines_are were) (sym a.seal_is ∙ b.seal_is)))

-- ---- small words

abbrev begun : Option (List ℕ) → List ℕ
begun None = []
begun (Some front) = 32 ∷ front

the_parts : (a b : Parts) → ◌≡◌ {A = Result Parts ReadFault} (Ok a) (Ok b) → a ≡ b
the_parts a b e = cc

not_ok : (fault : ReadFault) (parts : Parts) → ◌≡◌ {A = Result Parts ReadFault} (Err fault) (Ok parts) → ⊥
not_ok fault parts e = cc

some_is : (a b : List ℕ) → Some a ≡ Some b → a ≡ b
some_is a b e = cc

nil_of : (lines : List (List ℕ)) → length lines ≡ 0 → lines ≡ []
nil_of [] none = refl
nil_of (line ∷ lines) none = absurd (omega arith)

gate_closed : (seal : List ℕ) (gate : ℕ) → is_crash seal gate [] ≡ true → gate ≡ 35
gate_closed seal gate crash = elim (cases_eq gate 32) [
  | inl is_open ↦ cc (subst (λ (g : ℕ). is_crash seal g [] ≡ true) is_open crash)
  | inr shut ↦ elim (cases_eq gate 35) [
    | inl is_closed ↦ is_closed
    | inr torn ↦
        let none : is_crash seal gate [] ≡ false =
        ap (λ (b : Bool). if b then false else if gate == 35 then not (was_open seal (32 ∷ [])) else ends_well seal (32 ∷ [])) (ne_eqb gate 32 shut)
        ∙ ap (λ (b : Bool). if b then not (was_open seal (32 ∷ [])) else ends_well seal (32 ∷ [])) (ne_eqb gate 35 torn) in
        absurd (both_ways (is_crash seal gate []) none crash)
  ]
]

-- ---- a file that is read

-- its lines, and what stands behind them
text_from : (so_far : Option (List ℕ)) (file : List ℕ) → (rest : List ℕ) × (begun so_far ++ file ≡ text (lines_from so_far file) ++ rest)
text_from None [] = ([], refl)
text_from None (gate ∷ file) = elim (cases_eq gate 32) [
  | inl is_open ↦
      let more = text_from (Some []) file in
      (more.0, subst (λ (g : ℕ). g ∷ file ≡ text (counted (g ∷ file)) ++ more.0) (sym is_open) more.1)
  | inr shut ↦ (gate ∷ file, sym (ap (λ (l : List (List ℕ)). text l ++ gate ∷ file) (closed gate file shut)))
]
text_from (Some front) [] = (32 ∷ front ++ [], refl)
text_from (Some front) (byte ∷ file) = elim (cases_eq byte 10) [
  | inl ends ↦
      let more = text_from None file in (
        more.0,
        subst (λ (b : ℕ). (32 ∷ front) ++ b ∷ file ≡ text (lines_from (Some front) (b ∷ file)) ++ more.0) (sym ends)
            (ap (λ (l : List ℕ). (32 ∷ front) ++ 10 ∷ l) more.1 ∙ sym (append_assoc (32 ∷ front) (10 ∷ text (counted file)) more.0)),
      )
  | inr differs ↦
      let more = text_from (Some (front ++ byte ∷ [])) file in
      (more.0, sym (append_assoc (32 ∷ front) (byte ∷ []) file) ∙ more.1 ∙ sym (ap (λ (l : List (List ℕ)). text l ++ more.0) (no_feed front file byte differs)))
]

file_split : (file : List ℕ) → file ≡ text (counted file) ++ tail_of file
file_split file =
    let all = text_from None file in
    let tail : tail_of file ≡ all.0 = ap (λ (l : List ℕ). drop (length (text (counted file))) l) all.1 ∙ drop_at (text (counted file)) all.0 (length (text (counted file))) refl in
    all.1 ∙ ap (λ (l : List ℕ). text (counted file) ++ l) (sym tail)

-- what the lines and the end of a file that is read have
record IsGood (lines : List (List ℕ)) (tail : List ℕ) (parts : Parts) : Type 0 where
  pub whole : is_whole (chain_of lines) lines ≡ true
  pub drops : dropped_of (chain_of lines).seal tail ≡ Some parts.dropped
  pub shown : parts.text ≡ text lines

module _ (track : List ℕ) (lines : List (List ℕ)) (tail : List ℕ) (parts : Parts) where
  good_track : (digest dropped : List ℕ) → is_whole (chain_of lines) lines ≡ true → dropped_of (chain_of lines).seal tail ≡ Some dropped
      → of_track track digest (record { text = text lines; seal = (chain_of lines).seal; dropped = dropped }) ≡ Ok parts → IsGood lines tail parts
  good_track digest dropped whole drops is = elim (cases_Bool (bytes_eq digest track)) [
    | inl same ↦
        let got : Ok (record { text = text lines; seal = (chain_of lines).seal; dropped = dropped }) ≡ Ok parts =
        sym (ap (λ (b : Bool). if b then Ok (record { text = text lines; seal = (chain_of lines).seal; dropped = dropped }) else Err (OtherTrack digest)) same) ∙ is in
        let parts_are : record { text = text lines; seal = (chain_of lines).seal; dropped = dropped } ≡ parts = the_parts _ parts got in
        record {
          whole = whole;
          drops = drops ∙ ap (λ (p : Parts). Some p.dropped) parts_are;
          shown = sym (ap (λ (p : Parts). p.text) parts_are);
        }
    | inr differs ↦ absurd (not_ok (OtherTrack digest) parts
        (sym (ap (λ (b : Bool). if b then Ok (record { text = text lines; seal = (chain_of lines).seal; dropped = dropped }) else Err (OtherTrack digest)) differs) ∙ is))
  ]

  good_end : (digest : List ℕ) (dropped : Option (List ℕ)) → is_whole (chain_of lines) lines ≡ true → dropped_of (chain_of lines).seal tail ≡ dropped
      → by_end track lines digest (chain_of lines).seal dropped ≡ Ok parts → IsGood lines tail parts
  good_end digest None whole drops is = absurd (not_ok (Damaged (length lines + 1)) parts is)
  good_end digest (Some dropped) whole drops is = good_track digest dropped whole drops is

  good_chain : (digest : List ℕ) → by_chain track lines tail (chain_of lines) digest ≡ Ok parts → IsGood lines tail parts
  good_chain digest is = elim (cases_Bool (is_whole (chain_of lines) lines)) [
    | inl whole ↦
        good_end digest (dropped_of (chain_of lines).seal tail) whole refl
        (sym (ap (λ (b : Bool). if b then by_end track lines digest (chain_of lines).seal (dropped_of (chain_of lines).seal tail) else Err (Damaged (length (chain_of lines).whole + 1))) whole) ∙ is)
    | inr short ↦ absurd (not_ok (Damaged (length (chain_of lines).whole + 1)) parts
        (sym (ap (λ (b : Bool). if b then by_end track lines digest (chain_of lines).seal (dropped_of (chain_of lines).seal tail) else Err (Damaged (length (chain_of lines).whole + 1))) short) ∙ is))
  ]

  good_header : (digest : Option (List ℕ)) → by_header track lines tail digest ≡ Ok parts → IsGood lines tail parts
  good_header None is = absurd (not_ok (Damaged 1) parts is)
  good_header (Some digest) is = good_chain digest is

  good_format : (format : Option ℕ) → by_format track lines tail format ≡ Ok parts → IsGood lines tail parts
  good_format None is = elim (cases_Bool (is_first_format lines tail)) [
    | inl first ↦ absurd (not_ok FirstFormat parts (sym (ap (λ (b : Bool). if b then Err FirstFormat else Err NotAJournal) first) ∙ is))
    | inr none ↦ absurd (not_ok NotAJournal parts (sym (ap (λ (b : Bool). if b then Err FirstFormat else Err NotAJournal) none) ∙ is))
  ]
  good_format (Some number) is = elim (cases_Bool (number == 2)) [
    | inl two ↦
        good_header (digest_in lines) (sym (ap (λ (b : Bool). if b then by_header track lines tail (digest_in lines) else Err (OtherFormat number)) two) ∙ is)
    | inr other ↦
        absurd (not_ok (OtherFormat number) parts (sym (ap (λ (b : Bool). if b then by_header track lines tail (digest_in lines) else Err (OtherFormat number)) other) ∙ is))
  ]

-- a file that is read has lines
some_lines : (track tail : List ℕ) (lines : List (List ℕ)) (parts : Parts) → by_format track lines tail (format_in lines) ≡ Ok parts → 0 < length lines
some_lines track tail [] parts is = absurd (not_ok NotAJournal parts is)
some_lines track tail (line ∷ lines) parts is = omega arith

-- lines that are all vouched for
all_sealed : (lines : List (List ℕ)) → is_whole (chain_of lines) lines ≡ true → AreSealed lines (chain_of lines).seal
all_sealed lines whole =
    let c = chain_of lines in
    let reached = reached_all lines in
    let size : length (chain_of lines).whole ≡ length lines = eqb-true (length (chain_of lines).whole) (length lines) whole in
    elim (cases_Bool (chain_of lines).is_right) [
      | inr wrong ↦ absurd (omega (arith, size, reached.wrong wrong))
      | inl right ↦
          let r = reached.right right in
          let none : (chain_of lines).put ≡ [] = nil_of (chain_of lines).put (omega (arith, size, ap length r.all, length-append (chain_of lines).whole (chain_of lines).put)) in
          let all : (chain_of lines).whole ≡ lines =
          sym (append-nil (chain_of lines).whole) ∙ ap (λ (l : List (List ℕ)). (chain_of lines).whole ++ l) (sym none) ∙ sym r.all in
          ap (λ (w : List (List ℕ)). record { whole = w; seal = (chain_of lines).seal; put = (chain_of lines).put; is_right = (chain_of lines).is_right }) all
          ∙ ap (λ (p : List (List ℕ)). record { whole = lines; seal = (chain_of lines).seal; put = p; is_right = (chain_of lines).is_right }) none
          ∙ ap (λ (b : Bool). record { whole = lines; seal = (chain_of lines).seal; put = []; is_right = b }) right
    ]

-- where nothing is dropped, a closed gate stands at the end
closed_end : (seal tail : List ℕ) → dropped_of seal tail ≡ Some [] → tail ≡ 35 ∷ []
closed_end seal [] is = cc is
closed_end seal (gate ∷ rest) is = elim (cases_Bool (is_crash seal gate rest)) [
  | inr other ↦ cc (sym (ap (λ (b : Bool). if b then Some rest else None) other) ∙ is)
  | inl crash ↦
      let none : rest ≡ [] = some_is rest [] (sym (ap (λ (b : Bool). if b then Some rest else None) crash) ∙ is) in
      let here : is_crash seal gate [] ≡ true = subst (λ (l : List ℕ). is_crash seal gate l ≡ true) none crash in
      ap (λ (l : List ℕ). gate ∷ l) none ∙ ap (λ (g : ℕ). g ∷ []) (gate_closed seal gate here)
]

-- ---- one byte

record Snoc (lines : List (List ℕ)) : Type 0 where
  pub front : List (List ℕ)
  pub last : List ℕ
  pub is : lines ≡ front ++ last ∷ []

snoc : (lines : List (List ℕ)) → 0 < length lines → Snoc lines
snoc [] some = absurd (omega arith)
snoc (line ∷ []) some = record { front = []; last = line; is = refl }
snoc (line ∷ next ∷ lines) some =
    let more = snoc (next ∷ lines) (omega arith) in
    record { front = line ∷ more.front; last = more.last; is = ap (λ (l : List (List ℕ)). line ∷ l) more.is }

record EndsRight (c : Chain) (line seal : List ℕ) : Type 0 where
  pub line_is : line ≡ seal_line (seal_of c.seal c.put)
  pub seal_is : seal ≡ seal_of c.seal c.put

-- the line that ends a put is its right seal
ends_right : (c : Chain) (line : List ℕ) (whole : List (List ℕ)) (seal : List ℕ) → with_line c line ≡ at_put whole seal → EndsRight c line seal
ends_right c line whole seal is = elim (cases_Bool c.is_right) [
  | inr wrong ↦
      let same : with_line c line ≡ c =
      ap (λ (b : Bool). if not b then c else if has_seal_form line then with_seal c line (seal_of c.seal c.put) else record c { put = c.put ++ line ∷ [] }) wrong in
      absurd (both_ways c.is_right wrong (ap (λ (d : Chain). d.is_right) (sym same ∙ is)))
  | inl right ↦ elim (cases_Bool (has_seal_form line)) [
    | inr inner ↦
        absurd (omega (arith, ap (λ (d : Chain). length d.put) (sym (with_inner c line right inner) ∙ is), length-append c.put (line ∷ [])))
    | inl form ↦ elim (cases_Bool (bytes_eq line (seal_line (seal_of c.seal c.put)))) [
      | inl test ↦
          let to : with_line c line ≡ sealed c (seal_of c.seal c.put) =
          seal_read c line right form ∙ ap (λ (b : Bool). if b then sealed c (seal_of c.seal c.put) else record c { is_right = false }) test in
          record {
            line_is = (bytes_eq-Decides line (seal_line (seal_of c.seal c.put))).0 test;
            seal_is = sym (ap (λ (d : Chain). d.seal) (sym to ∙ is));
          }
      | inr test ↦
          let to : with_line c line ≡ record c { is_right = false } =
          seal_read c line right form ∙ ap (λ (b : Bool). if b then sealed c (seal_of c.seal c.put) else record c { is_right = false }) test in
          cc (ap (λ (d : Chain). d.is_right) (sym to ∙ is))
    ]
  ]
]

last_line : (lines : List (List ℕ)) (seal : List ℕ) (s : Snoc lines) → AreSealed lines seal → EndsRight (chain_of s.front) s.last seal
last_line lines seal s is =
    ends_right (chain_of s.front) s.last lines seal
    (sym (fold-append with_line start s.front (s.last ∷ [])) ∙ ap chain_of (sym s.is) ∙ is)

-- a file at rest, its last line apart
rest_is : (lines : List (List ℕ)) (s : Snoc lines) → at_rest lines ≡ text s.front ++ (32 ∷ s.last ++ 10 ∷ 35 ∷ [])
rest_is lines s = ap at_rest s.is ∙ text-snoc s.front s.last (35 ∷ [])

same_back : (front : List ℕ) (x y : ℕ) (back : List ℕ) (n : ℕ) → length front < n → drop n (front ++ x ∷ back) ≡ drop n (front ++ y ∷ back)
same_back front x y back zero past = absurd (omega arith)
same_back [] x y back (suc n) past = refl
same_back (byte ∷ front) x y back (suc n) past = same_back front x y back n (omega arith)

same_front : (front : List ℕ) (x y : ℕ) (back : List ℕ) (n : ℕ) → n ≤ length front → take n (front ++ x ∷ back) ≡ take n (front ++ y ∷ back)
same_front front x y back n within = take-append-le n front (x ∷ back) within ∙ sym (take-append-le n front (y ∷ back) within)

line_in : (line : List ℕ) → length line ≡ 18 → take 18 (drop 1 (32 ∷ line ++ 10 ∷ 35 ∷ [])) ≡ line
line_in line size = take_at line (10 ∷ 35 ∷ []) 18 size

digits_in : (a b : List ℕ) → seal_line a ≡ seal_line b → a ≡ b
digits_in a b e = ap (λ (l : List ℕ). drop 2 l) e

module _ (lines others : List (List ℕ)) (seal last : List ℕ) (are : All IsLine lines) (were : All IsLine others) (is : AreSealed lines seal) (was : AreSealed others last)
    (some : 0 < length lines) (more : 0 < length others) (change : DifferInOne (at_rest lines) (at_rest others)) where
  change_told : (lines ≡ others) ⊎ HaveCollision lines others
  change_told =
      let a = snoc lines some in
      let b = snoc others more in
      let ea = last_line lines seal a is in
      let eb = last_line others last b was in
      let ca = chain_of a.front in
      let cb = chain_of b.front in
      let sa : length a.last ≡ 18 = omega (arith, ap length ea.line_is, seal_size (chain_of a.front).seal (text (chain_of a.front).put)) in
      let sb : length b.last ≡ 18 = omega (arith, ap length eb.line_is, seal_size (chain_of b.front).seal (text (chain_of b.front).put)) in
      let fa = rest_is lines a in
      let fb = rest_is others b in
      let same_size : length (at_rest lines) ≡ length (at_rest others) =
      omega (arith, ap length change.was, ap length change.is, length-append change.front (change.byte ∷ change.back), length-append change.front (change.another ∷ change.back)) in
      let size : length (text b.front) ≡ length (text a.front) =
      omega (arith, same_size, ap length fa, ap length fb, length-append (text a.front) (32 ∷ a.last ++ 10 ∷ 35 ∷ []), length-append (text b.front) (32 ∷ b.last ++ 10 ∷ 35 ∷ []), length-append a.last (10 ∷ 35 ∷ []), length-append b.last (10 ∷ 35 ∷ []), sa, sb) in
      elim (cases_lt (length change.front) (length (text a.front))) [
        | inl past ↦
            let ends : (32 ∷ a.last ++ 10 ∷ 35 ∷ []) ≡ (32 ∷ b.last ++ 10 ∷ 35 ∷ []) =
            sym (drop_at (text a.front) (32 ∷ a.last ++ 10 ∷ 35 ∷ []) (length (text a.front)) refl)
            ∙ ap (λ (l : List ℕ). drop (length (text a.front)) l) (sym fa ∙ change.was)
            ∙ same_back change.front change.byte change.another change.back (length (text a.front)) past
            ∙ ap (λ (l : List ℕ). drop (length (text a.front)) l) (sym change.is ∙ fb)
            ∙ drop_at (text b.front) (32 ∷ b.last ++ 10 ∷ 35 ∷ []) (length (text a.front)) size in
            let same : a.last ≡ b.last = sym (line_in a.last sa) ∙ ap (λ (l : List ℕ). take 18 (drop 1 l)) ends ∙ line_in b.last sb in
            let seals : last ≡ seal =
            eb.seal_is ∙ digits_in (seal_of (chain_of b.front).seal (chain_of b.front).put) (seal_of (chain_of a.front).seal (chain_of a.front).put) (sym eb.line_is ∙ sym same ∙ ea.line_is) ∙ sym ea.seal_is in
            last_seal_vouches lines others seal are were is (subst (AreSealed others) seals was)
        | inr within ↦
            let texts : text a.front ≡ text b.front =
            sym (take_at (text a.front) (32 ∷ a.last ++ 10 ∷ 35 ∷ []) (length (text a.front)) refl)
            ∙ ap (λ (l : List ℕ). take (length (text a.front)) l) (sym fa ∙ change.was)
            ∙ same_front change.front change.byte change.another change.back (length (text a.front)) within
            ∙ ap (λ (l : List ℕ). take (length (text a.front)) l) (sym change.is ∙ fb)
            ∙ take_at (text b.front) (32 ∷ b.last ++ 10 ∷ 35 ∷ []) (length (text a.front)) size in
            let fronts : a.front ≡ b.front =
            same_text a.front b.front (All-front a.front (a.last ∷ []) (subst (All IsLine) a.is are)) (All-front b.front (b.last ∷ []) (subst (All IsLine) b.is were)) texts in
            let lasts : a.last ≡ b.last = ea.line_is ∙ ap (λ (l : List (List ℕ)). seal_line (seal_of (chain_of l).seal (chain_of l).put)) fronts ∙ sym eb.line_is in
            inl (a.is ∙ ap (λ (l : List (List ℕ)). l ++ a.last ∷ []) fronts ∙ ap (λ (l : List ℕ). b.front ++ l ∷ []) lasts ∙ sym b.is)
      ]

has_lines : (lines : List (List ℕ)) → format_in lines ≡ Some 2 → 0 < length lines
has_lines [] is = cc is
has_lines (line ∷ lines) is = omega arith

pub change_is_told : (track : List ℕ) (lines : List (List ℕ)) (seal file : List ℕ) (others : List (List ℕ)) (last : List ℕ) → AreJournal track lines seal → DifferInOne (at_rest lines) file
    → All IsLine others → IsReadAs track file others last [] → (lines ≡ others) ⊎ HaveCollision lines others
change_is_told track lines seal file others last is change were read =
    let parts : Parts = record { text = text others; seal = last; dropped = [] } in
    let good : IsGood (counted file) (tail_of file) (record { text = text others; seal = last; dropped = [] }) =
    good_format track (counted file) (tail_of file) (record { text = text others; seal = last; dropped = [] }) (format_in (counted file)) read in
    let there : others ≡ counted file = same_text others (counted file) were (are_lines file) good.shown in
    let end : tail_of file ≡ 35 ∷ [] = closed_end (chain_of (counted file)).seal (tail_of file) good.drops in
    let at : file ≡ at_rest others = file_split file ∙ ap (λ (l : List ℕ). text (counted file) ++ l) end ∙ ap at_rest (sym there) in
    let sealed_by : AreSealed others (chain_of (counted file)).seal =
    subst (λ (l : List (List ℕ)). AreSealed l (chain_of (counted file)).seal) (sym there) (all_sealed (counted file) good.whole) in
    let more : 0 < length others =
    subst (λ (l : List (List ℕ)). 0 < length l) (sym there) (some_lines track (tail_of file) (counted file) (record { text = text others; seal = last; dropped = [] }) read) in
    let some : 0 < length lines = has_lines lines is.format in
    change_told lines others seal (chain_of (counted file)).seal is.one_each were is.sealed sealed_by some more (subst (DifferInOne (at_rest lines)) at change)
