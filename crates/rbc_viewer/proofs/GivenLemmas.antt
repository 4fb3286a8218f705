-- What was given to a writer inside a page stands in it, escaped.
use Rattle.std.proofs.Common.{◌≡◌, ℕ, List, [], ◌∷◌, ◌++◌, length, take, drop, Option, Some, None, refl, sym, ap, subst, ◌∙◌, append-nil}
use Rattle.std.specs.Io.KnownBytes.{Appends}
use Rattle.std.proofs.Math.Seq.{drop-append_seam, take-append_seam}
use Rattle.rbc_viewer.specs.Given.{inside}

-- what is known to stand behind what was written was written
pub appends_by : (old new : Option (List ℕ)) (more : List ℕ) → ((before : List ℕ) → old ≡ Some before → new ≡ Some (before ++ more)) → Appends old new more
appends_by None new more stands = tt
appends_by (Some before) new more stands = subst (λ n. Appends (Some before) n more) (sym (stands before refl)) refl

known : (new : Option (List ℕ)) (old more : List ℕ) → Appends (Some old) new more → new ≡ Some (old ++ more)
known None old more wrote = absurd wrote
known (Some all) old more wrote = ap Some wrote

-- ---- what counts as written

abbrev head_of : List ℕ → ℕ
head_of [] = 0
head_of (byte ∷ bytes) = byte

abbrev tail_of : List ℕ → List ℕ
tail_of [] = []
tail_of (byte ∷ bytes) = bytes

-- two fronts of one length in front of the same
same_front : (a b c d : List ℕ) → length a ≡ length b → a ++ c ≡ b ++ d → (a ≡ b) × (c ≡ d)
same_front a b c d long same = (
  sym (take-append_seam a c) ∙ ap (take (length a)) same ∙ ap (λ n. take n (b ++ d)) long ∙ take-append_seam b d,
  sym (drop-append_seam a c) ∙ ap (drop (length a)) same ∙ ap (λ n. drop n (b ++ d)) long ∙ drop-append_seam b d,
)

-- what was given behind known bytes, by what counts as written
pub inside_is : (before : List ℕ) (start : Option (List ℕ)) (none given text : List ℕ) → none ≡ [] → Appends (inside (Some before) none) (inside start given) text
    → (start ≡ Some before) × (given ≡ text)
inside_is before None none given text nothing wrote = absurd wrote
inside_is before (Some stood) none given text nothing wrote =
    let rest : stood ++ given ≡ before ++ text =
    ap tail_of wrote ∙ ap (λ l. (before ++ l) ++ text) nothing ∙ ap (λ l. l ++ text) (append-nil before) in
    let same = same_front stood before given text (ap head_of wrote) rest in
    (ap Some same.0, same.1)
