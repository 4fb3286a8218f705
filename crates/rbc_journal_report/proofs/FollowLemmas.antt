-- What a look at a journal that is followed adds.
use Rattle.std.proofs.Common.{◌≡◌, inl, inr, ℕ, Bool, true, false, List, [], ◌∷◌, ◌++◌, length, take, drop, Option, Some, Result, Ok, Err, refl, sym, subst, ◌∙◌, ap, append_assoc, take-append-drop}
use Rattle.std.specs.Prelude.{bytes_eq, not, if◌then◌else◌, IfErr}
use Rattle.std.specs.Io.KnownBytes.{Appends}
use Rattle.std.proofs.KnownBytes.{Appends-nil, Appends-trans}
use Rattle.std.proofs.Math.Seq.{drop-nil, take-nil}
use Rattle.std.proofs.lemmas.Bool.{cases_Bool}
use Rattle.std.proofs.lemmas.List.{append-nil, drop_at}
use Rattle.std.proofs.lemmas.List.Elements.{filter-append}
use Rattle.std.proofs.lemmas.Slice.Eq.{bytes_eq-Decides}
use Rattle.rbc_model.specs.Sessions.{WritesPart}
use Rattle.rbc_journal.specs.Gates.{counted, text}
use Rattle.rbc_journal.specs.Seals.{is_comment}
use Rattle.rbc_journal.specs.Journal.{told_of}
use Rattle.rbc_journal.specs.declared.reading.ReadFault.{ReadFault}
use Rattle.rbc_journal_report.specs.Telling.{Telling, IsText, text_of}
use Rattle.rbc_journal_report.specs.Following.{standing, go_on, shown_after, text_behind, doubt_of, EndsIn}
use Rattle.rbc_journal_report.specs.declared.following.Doubt.{Doubt}
use Rattle.rbc_journal_report.proofs.TextLemmas.{counted-front, are_lines}

-- ---- lines behind others

text_of-append : (a b : List (List ℕ)) → text_of (a ++ b) ≡ text_of a ++ text_of b
text_of-append [] b = refl
text_of-append (line ∷ a) b =
    ap (λ (l : List ℕ). (line ++ 10 ∷ []) ++ l) (text_of-append a b) ∙ sym (append_assoc (line ++ 10 ∷ []) (text_of a) (text_of b))

-- ---- a text that goes on from another, or does not

module _ (shown told : List ℕ) (is_shown : IsText shown) (is_told : IsText told) where
  pub goes_on : go_on (counted shown) (counted told) ≡ bytes_eq (take (length shown) told) shown
  goes_on =
      ap (λ (l : List ℕ). bytes_eq (take (length l) (text (counted told))) l) (sym is_shown)
      ∙ ap (λ (l : List ℕ). bytes_eq (take (length shown) l) shown) (sym is_told)

  module _ (fails : bytes_eq (take (length shown) told) shown ≡ false) where
    pub same_lines : counted shown ≡ shown_after (counted shown) (counted told)
    same_lines = sym (ap (λ (b : Bool). if b then counted told else counted shown) (goes_on ∙ fails))

    pub no_text : text_behind (counted shown) (counted told) ≡ []
    no_text = ap (λ (b : Bool). if b then text_of (told_of (drop (length (counted shown)) (counted told))) else []) (goes_on ∙ fails)

    pub none_more : text_of (told_of (shown_after (counted shown) (counted told))) ≡ text_of (told_of (counted shown)) ++ text_behind (counted shown) (counted told)
    none_more =
        ap (λ (l : List (List ℕ)). text_of (told_of l)) (sym same_lines) ∙ sym (append-nil (text_of (told_of (counted shown))))
        ∙ ap (λ (l : List ℕ). text_of (told_of (counted shown)) ++ l) (sym no_text)

  module _ (rest : List ℕ) (is : bytes_eq (take (length shown) told) shown ≡ true) (is_rest : rest ≡ drop (length shown) told) where
    pub joined : told ≡ shown ++ rest
    joined =
        sym (take-append-drop (length shown) told)
        ∙ ap (λ (l : List ℕ). l ++ drop (length shown) told) ((bytes_eq-Decides (take (length shown) told) shown).0 is)
        ∙ ap (λ (l : List ℕ). shown ++ l) (sym is_rest)

    both : counted told ≡ counted shown ++ counted rest
    both =
        ap counted (joined ∙ ap (λ (l : List ℕ). l ++ rest) is_shown)
        ∙ counted-front (counted shown) rest (are_lines shown)

    pub all_lines : (new : List ℕ) → new ≡ shown ++ rest → counted new ≡ shown_after (counted shown) (counted told)
    all_lines new grown =
        ap counted (grown ∙ sym joined)
        ∙ sym (ap (λ (b : Bool). if b then counted told else counted shown) (goes_on ∙ is))

    pub still_text : (new : List ℕ) → new ≡ shown ++ rest → IsText new
    still_text new grown = subst IsText (joined ∙ sym grown) is_told

    pub rest_text : text_behind (counted shown) (counted told) ≡ text_of (told_of (counted rest))
    rest_text =
        ap (λ (b : Bool). if b then text_of (told_of (drop (length (counted shown)) (counted told))) else []) (goes_on ∙ is)
        ∙ ap (λ (l : List (List ℕ)). text_of (told_of l)) (ap (λ (l : List (List ℕ)). drop (length (counted shown)) l) both ∙ drop_at (counted shown) (counted rest) (length (counted shown)) refl)

    pub some_more : text_of (told_of (shown_after (counted shown) (counted told))) ≡ text_of (told_of (counted shown)) ++ text_behind (counted shown) (counted told)
    some_more =
        ap (λ (l : List (List ℕ)). text_of (told_of l)) (ap (λ (b : Bool). if b then counted told else counted shown) (goes_on ∙ is) ∙ both)
        ∙ ap text_of (filter-append (λ line. not (is_comment line)) (counted shown) (counted rest))
        ∙ text_of-append (told_of (counted shown)) (told_of (counted rest))
        ∙ ap (λ (l : List ℕ). text_of (told_of (counted shown)) ++ l) (sym rest_text)

  pub all_more : text_of (told_of (shown_after (counted shown) (counted told))) ≡ text_of (told_of (counted shown)) ++ text_behind (counted shown) (counted told)
  all_more = elim (cases_Bool (bytes_eq (take (length shown) told) shown)) [
    | inl is ↦ some_more (drop (length shown) told) is refl
    | inr fails ↦ none_more fails
  ]

-- ---- where nothing is told

cond_same : {X : Type 0} (b : Bool) (x : X) → (if b then x else x) ≡ x
cond_same true x = refl
cond_same false x = refl

empty_eq : (xs : List ℕ) → bytes_eq [] xs ≡ true → xs ≡ []
empty_eq xs is = sym ((bytes_eq-Decides [] xs).0 is)

no_lines : (before : List (List ℕ)) → text before ≡ [] → before ≡ []
no_lines [] is = refl
no_lines (line ∷ before) is = cc is

pub still_shown : (before : List (List ℕ)) → before ≡ shown_after before []
still_shown before = elim (cases_Bool (go_on before [])) [
  | inl is ↦
      let none : before ≡ [] = no_lines before (empty_eq (text before) (sym (ap (λ (l : List ℕ). bytes_eq l (text before)) (take-nil (length (text before)))) ∙ is)) in
      none ∙ sym (ap (λ (b : Bool). if b then [] else before) is)
  | inr fails ↦ sym (ap (λ (b : Bool). if b then [] else before) fails)
]

pub no_behind : (before : List (List ℕ)) → text_behind before [] ≡ []
no_behind before =
    ap (λ (l : List (List ℕ)). if go_on before [] then text_of (told_of l) else []) (drop-nil (length before))
    ∙ cond_same (go_on before []) []

pub none_told : (before : List (List ℕ)) → text_of (told_of (shown_after before [])) ≡ text_of (told_of before) ++ text_behind before []
none_told before =
    ap (λ (l : List (List ℕ)). text_of (told_of l)) (sym (still_shown before)) ∙ sym (append-nil (text_of (told_of before)))
    ∙ ap (λ (l : List ℕ). text_of (told_of before) ++ l) (sym (no_behind before))

-- ---- parts

pub all_written : (a b : Option (List ℕ)) (text : List ℕ) → Appends a b text → WritesPart a b text
all_written a b text written = (text, [], sym (append-nil text), written)

-- a text is written, and then a part of another
pub part_then : (a b c : Option (List ℕ)) (x y text : List ℕ) → Appends a b x → text ≡ x ++ y → WritesPart b c y → WritesPart a c text
part_then a b c x y text first whole (part, rest, parts, second) =
    (x ++ part, rest, whole ∙ ap (λ l. x ++ l) parts ∙ sym (append_assoc x part rest), Appends-trans a b c x part first second)

-- what holds in any case
pub at_err : {T E P : Type 0} (r : Result T E) → P → IfErr r (λ _. P)
at_err (Ok x) p = tt
at_err (Err e) p = p

-- what was written before, and at one look more
module _ (a b c : Option (List ℕ)) (before : List (List ℕ)) (last : Result Telling ReadFault) (so_far : Appends a b (text_of (told_of before)))
    (all : text_of (told_of (shown_after before (standing last))) ≡ text_of (told_of before) ++ text_behind before (standing last)) where
  pub all_shown : Appends b c (text_behind before (standing last)) → Appends a c (text_of (told_of (shown_after before (standing last))))
  all_shown more = subst (Appends a c) (sym all) (Appends-trans a b c (text_of (told_of before)) (text_behind before (standing last)) so_far more)

  pub now_shown : (now : List (List ℕ)) → now ≡ shown_after before (standing last) → Appends b c (text_behind before (standing last)) → Appends a c (text_of (told_of now))
  now_shown now is more = subst (λ (lines : List (List ℕ)). Appends a c (text_of (told_of lines))) (sym is) (all_shown more)

  pub part_shown : WritesPart b c (text_behind before (standing last)) → (lines : List (List ℕ)) × WritesPart a c (text_of (told_of lines))
  part_shown more = (
    shown_after before (standing last),
    part_then a b c (text_of (told_of before)) (text_behind before (standing last)) (text_of (told_of (shown_after before (standing last)))) so_far all more,
  )

-- the reason for which it is followed no further
pub ends_in : (old new : Option (List ℕ)) (before : List (List ℕ)) (last : Result Telling ReadFault) (found : Option Doubt) (why : Doubt)
    → Appends old new (text_of (told_of (shown_after before (standing last)))) → found ≡ doubt_of before last → found ≡ Some why → EndsIn old new last why
ends_in old new before last found why written is some = record { before = before; written = written; is_why = sym is ∙ some }

-- ---- a file of which nothing is told

module _ (before : List (List ℕ)) (told : Result Telling ReadFault) (fault : ReadFault) (is : told ≡ Err fault) where
  nothing : standing told ≡ []
  nothing = ap standing is

  pub shown_as_before : (now : List (List ℕ)) → now ≡ before → now ≡ shown_after before (standing told)
  shown_as_before now same = same ∙ still_shown before ∙ ap (shown_after before) (sym nothing)

  pub nothing_behind : text_behind before (standing told) ≡ []
  nothing_behind = ap (text_behind before) nothing ∙ no_behind before

  pub nothing_more : text_of (told_of (shown_after before (standing told))) ≡ text_of (told_of before) ++ text_behind before (standing told)
  nothing_more =
      ap (λ (l : List (List ℕ)). text_of (told_of (shown_after before l))) nothing ∙ none_told before
      ∙ ap (λ (l : List (List ℕ)). text_of (told_of before) ++ text_behind before l) (sym nothing)

  pub nothing_written : (a : Option (List ℕ)) → Appends a a (text_behind before (standing told))
  nothing_written a = subst (Appends a a) (sym nothing_behind) (Appends-nil a)
