-- Lemmas on the last of some stamps.
use Rattle.std.proofs.Common.{◌≡◌, ℕ, ◌<◌, List, [], ◌∷◌, ◌++◌, length, refl, ap, ◌∙◌, subst, arith, Some}
use Rattle.std.specs.Prelude.{slice_get}
use mathlib.Core.List.{IsPrefix}
use Rattle.rbc_group_commit.specs.Marks.{last_of, latest, no_stamp, HasLine}
use Rattle.rbc_group_commit.specs.declared.stamp.Stamp.{Stamp}

last_added : (d : Stamp) (xs : List Stamp) (s : Stamp) → last_of d (xs ++ s ∷ []) ≡ s
last_added d [] s = refl
last_added d (x ∷ xs) s = last_added x xs s

pub latest_added : (stamps more : List Stamp) (s : Stamp) → more ≡ stamps ++ s ∷ [] → latest more ≡ s
latest_added stamps more s is = ap latest is ∙ last_added no_stamp stamps s

last_stands : (x : Stamp) (xs rest : List Stamp) → slice_get ((x ∷ xs) ++ rest) (length xs) ≡ Some (last_of x xs)
last_stands x [] rest = refl
last_stands x (y ∷ ys) rest = last_stands y ys rest

-- by the last of some stamps the line is on the disk, so it is by those that begin with them
pub has_line : (mark stamps : List Stamp) (place : ℕ) → IsPrefix mark stamps → 0 < length mark → place < (latest mark).lines → HasLine stamps place
has_line [] stamps place p some less = absurd (omega (arith, some))
has_line (x ∷ xs) stamps place p some less = record {
  at = length xs;
  stamp = last_of x xs;
  given = subst (λ (l : List Stamp). slice_get l (length xs) ≡ Some (last_of x xs)) p.1 (last_stands x xs p.0);
  more = less;
}
