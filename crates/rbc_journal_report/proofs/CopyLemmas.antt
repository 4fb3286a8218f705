-- Lines that are taken over one by one.
use Rattle.std.proofs.Common.{◌≡◌, ℕ, suc, Bool, true, false, List, [], ◌∷◌, ◌++◌, length, All, take, drop, Option, Some, None, Result, Ok, Err, sym, ◌∙◌, ap, ap₂, subst, append_assoc, if◌then◌else◌}
use Rattle.std.specs.Prelude.{IfOk, IfErr, IfSome, bytes_eq, ◌==◌}
use Rattle.std.proofs.lemmas.List.Elements.{All-head, All-tail, All-drop}
use Rattle.std.proofs.lemmas.List.{append-nil}
use Rattle.rbc_journal.specs.Gates.{IsLine, counted}
use Rattle.rbc_journal.specs.Headers.{track_mark, behind_mark, sized}
use Rattle.rbc_journal.specs.declared.fault.JournalFault.{JournalFault}
use Rattle.rbc_journal_report.specs.declared.copying.CopyFault.{CopyFault}
use Rattle.rbc_journal_report.specs.declared.copying.CopyFault.TheVariants.{Few, New}
use Rattle.rbc_journal_report.specs.Telling.{named_in}
use Rattle.rbc_journal_report.proofs.TextLemmas.{NotFeed, are_lines}

abbrev Lines : Type 0
Lines = List (List ℕ)

-- one more is taken over
pub copy_next : (old new : Lines) (line : List ℕ) (rest after whole : Lines) (n k : ℕ) → n ≡ suc k → rest ≡ line ∷ after → new ≡ old ++ line ∷ []
    → old ++ take n rest ≡ whole → new ++ take k after ≡ whole
copy_next old new line rest after whole n k is tells adds all =
    ap (λ (ls : Lines). ls ++ take k after) adds ∙ append_assoc old (line ∷ []) (take k after)
    ∙ ap (λ (ls : Lines). old ++ ls) (sym (ap₂ (λ (m : ℕ) (ls : Lines). take m ls) is tells)) ∙ all

-- enough are taken over
pub copy_enough : (old rest whole : Lines) (n : ℕ) → n ≡ 0 → old ++ take n rest ≡ whole → old ≡ whole
copy_enough old rest whole n is all = sym (ap (λ (m : ℕ). old ++ take m rest) is ∙ append-nil old) ∙ all

-- what holds in any case
pub at_ok : {T E : Type 0} (r : Result T E) (P : Type 0) → P → IfOk r (λ _. P)
at_ok (Ok x) P p = p
at_ok (Err e) P p = tt

-- a fault of the new journal is not that there are too few lines
pub never_few : {T D : Type 0} (r : Result T (CopyFault × D)) (P : ℕ → Type 0) → IfErr r (λ e. (fault : JournalFault) × (e.0 ≡ New fault))
    → IfErr r (λ e. (count : ℕ) → e.0 ≡ Few count → P count)
never_few (Ok x) P new = tt
never_few (Err e) P new = λ count few. absurd (cc (sym new.1 ∙ few))

-- the digest that is given is the one that is told
pub same_digest : (given : Option (List ℕ)) (track : List ℕ) (told : Option (List ℕ)) → told ≡ Some track → IfSome given (λ digest. digest ≡ track)
    → IfSome given (λ digest. told ≡ Some digest)
same_digest None track told is same = tt
same_digest (Some digest) track told is same = is ∙ ap Some (sym same)

-- ---- the digest that a file names is a line

some_if : {X : Type 0} (test : Bool) (x y : X) → (if test then Some x else None) ≡ Some y → x ≡ y
some_if true x y e = cc e
some_if false x y e = absurd (cc e)

sized_some : (bytes : Option (List ℕ)) (digest : List ℕ) → sized 64 bytes ≡ Some digest → bytes ≡ Some digest
sized_some None digest e = absurd (cc e)
sized_some (Some bytes) digest e = ap Some (some_if (length bytes == 64) bytes digest e)

named_is : (lines : List (List ℕ)) (digest : List ℕ) → All IsLine lines → named_in lines ≡ Some digest → IsLine digest
named_is [] digest are e = absurd (cc e)
named_is (first ∷ []) digest are e = absurd (cc e)
named_is (first ∷ second ∷ lines) digest are e =
    let is : drop (length track_mark) second ≡ digest =
    some_if (bytes_eq (take (length track_mark) second) track_mark) (drop (length track_mark) second) digest (sized_some (behind_mark track_mark second) digest e) in
    subst IsLine is (All-drop NotFeed (length track_mark) second (All-head IsLine second lines (All-tail IsLine first (second ∷ lines) are)))

pub named_line : (file digest : List ℕ) → named_in (counted file) ≡ Some digest → IsLine digest
named_line file digest e = named_is (counted file) digest (are_lines file) e
