-- Laws of texts that are written one behind another.
use Rattle.std.proofs.Common.{◌≡◌, ℕ, List, ◌++◌, Option, Result, Ok, Err, sym, ap, ◌∙◌, append_assoc, subst}
use Rattle.std.specs.Io.KnownBytes.{Appends}
use Rattle.std.specs.Result.{IsErr}
use Rattle.std.proofs.KnownBytes.{Appends-trans}
use Rattle.rbc_model.specs.Sessions.{WritesText, WritesPart}

-- the first part of a text is written, and then its second
pub writes_then : {E : Type 0} (a b c : Option (List ℕ)) (x y text : List ℕ) (r : Result (Unit {0}) E)
    → Appends a b x → text ≡ x ++ y → WritesText b c y r → WritesText a c text r
writes_then a b c x y text (Ok done) first whole second = subst (Appends a c) (sym whole) (Appends-trans a b c x y first second)
writes_then a b c x y text (Err fault) first whole (part, rest, parts, second) =
    (x ++ part, rest, whole ∙ ap (λ l. x ++ l) parts ∙ sym (append_assoc x part rest), Appends-trans a b c x part first second)

-- the writing stopped within the first part of a text
pub writes_stopped : {E : Type 0} (a b : Option (List ℕ)) (x y text : List ℕ) (r : Result (Unit {0}) E)
    → WritesPart a b x → text ≡ x ++ y → IsErr r → WritesText a b text r
writes_stopped a b x y text (Ok done) first whole failed = cc
writes_stopped a b x y text (Err fault) (part, rest, parts, written) whole failed =
    (part, rest ++ y, whole ∙ ap (λ l. l ++ y) parts ∙ append_assoc part rest y, written)
