-- Laws of texts that are written one behind another.
use Rattle.std.proofs.Common.{◌≡◌, ℕ, Bool, true, false, List, [], ◌++◌, Option, sym, subst, refl, ap, ◌∙◌, append_assoc}
use Rattle.std.specs.Io.KnownBytes.{Appends}
use Rattle.std.proofs.KnownBytes.{Appends-trans, Appends-nil}
use Rattle.rbc_streams.specs.Emitting.{Emits, EmitsText}

both_texts : (a : Option (List ℕ)) (fa : Bool) (b : Option (List ℕ)) (fb : Bool) (c : Option (List ℕ)) (fc : Bool) (x y : List ℕ)
    → EmitsText a fa b fb x → EmitsText b fb c fc y → EmitsText a fa c fc (x ++ y)
both_texts a true b true c fc x y (kept, failed) (still, fails) = (still ∙ kept, fails)
both_texts a true b false c fc x y (kept, failed) second = absurd cc
both_texts a false b true c true x y (part, rest, parts, first) (kept, fails) =
    (part, rest ++ y, ap (λ l. l ++ y) parts ∙ append_assoc part rest y, subst (λ w. Appends a w part) (sym kept) first)
both_texts a false b true c false x y first (kept, fails) = absurd cc
both_texts a false b false c false x y first second = Appends-trans a b c x y first second
both_texts a false b false c true x y first (part, rest, parts, second) =
    (x ++ part, rest, ap (λ l. x ++ l) parts ∙ sym (append_assoc x part rest), Appends-trans a b c x part first second)

no_text : (a : Option (List ℕ)) (failed : Bool) → EmitsText a failed a failed []
no_text a true = (refl, refl)
no_text a false = Appends-nil a

module _ {S : Type 0} {written : S → Option (List ℕ)} {failed : S → Bool} where
  -- a text is written, and then a second one
  pub emits_then : {a b c : S} {x y : List ℕ} → Emits written failed a b x → Emits written failed b c y → Emits written failed a c (x ++ y)
  emits_then {a} {b} {c} {x} {y} first second =
      record { text = both_texts (written a) (failed a) (written b) (failed b) (written c) (failed c) x y first.text second.text }

  -- what is written is also a text that equals it
  pub emits_as : {a b : S} {x y : List ℕ} → x ≡ y → Emits written failed a b x → Emits written failed a b y
  emits_as {a} {b} same first = subst (Emits written failed a b) same first

  -- nothing is written
  pub emits_nothing : (a : S) → Emits written failed a a []
  emits_nothing a = record { text = no_text (written a) (failed a) }
